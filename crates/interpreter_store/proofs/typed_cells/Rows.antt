-- Parts that are made one after another.
use Rattle.std.proofs.Common.{◌≡◌, ℕ, zero, suc, ◌<◌, length, arith, List, [], ◌∷◌, ◌++◌, map, Option, refl, sym, ap, ◌∙◌}
use Rattle.std.specs.Prelude.{Result, Ok, Err, OnOk}
use Rattle.interpreter_store.specs.declared.cell_store.cells.Tree.{Tree}
use Rattle.interpreter_store.specs.cell_store.Views.{view_tree, view_parts}
use Rattle.tp_meaning.specs.Trees.{Value, Tree as PureTree, Leaf, Tip, Fork, chain, many}
use Rattle.tp_meaning.specs.Shapes.{Part, FieldPart, ClassPart}
use Rattle.tp_meaning.specs.Store.{fields_over}
use Rattle.interpreter_store.specs.typed_cells.Copies.{onto, kept}

abbrev head_of : PureTree → PureTree
head_of (Fork head tail) = head
head_of tree = tree

abbrev tail_of : PureTree → PureTree
tail_of (Fork head tail) = tail
tail_of tree = tree

-- one more equal part behind the others
pub copies_more : (n : ℕ) (parts : List Tree) (copy : Tree) (part : PureTree) → view_parts parts ≡ many n part → view_tree copy ≡ part
    → view_parts (parts ++ copy ∷ []) ≡ many (suc n) part
copies_more zero [] copy part e f = ap (λ head. Fork head Tip) f
copies_more (suc n) [] copy part e f = absurd cc
copies_more zero (x ∷ parts) copy part e f = absurd cc
copies_more (suc n) (x ∷ parts) copy part e f =
    ap (λ head. Fork head (view_parts (parts ++ copy ∷ []))) (ap head_of e) ∙ ap (λ tail. Fork part tail) (copies_more n parts copy part (ap tail_of e) f)

-- parts behind others
onto_more : (parts : List Tree) (copy : Tree) (tree : PureTree) → onto (map view_tree (parts ++ copy ∷ [])) tree ≡ onto (map view_tree parts) (Fork (view_tree copy) tree)
onto_more [] copy tree = refl
onto_more (x ∷ parts) copy tree = ap (λ rest. Fork (view_tree x) rest) (onto_more parts copy tree)

onto_chain : (parts more : List PureTree) → chain (parts ++ more) ≡ onto parts (chain more)
onto_chain [] more = refl
onto_chain (x ∷ parts) more = ap (λ rest. Fork x rest) (onto_chain parts more)

-- what is appended is behind what was there
pub onto_appended : (all parts : List Tree) (more : List Tree) → map view_tree all ≡ map view_tree parts ++ map view_tree more
    → view_parts all ≡ onto (map view_tree parts) (view_parts more)
onto_appended all parts more e = ap chain e ∙ onto_chain (map view_tree parts) (map view_tree more)

-- ---- copies of objects

over_first : (part : Part) (parts : List Part) (old olds new news : PureTree)
    → fields_over (part ∷ parts) (Fork old olds) (Fork new news) ≡ Fork (kept part old new) (fields_over parts olds news)
over_first (FieldPart ty) parts old olds new news = refl
over_first ClassPart parts old olds new news = refl

-- a part more is copied
pub over_turn : (part : Part) (parts : List Part) (old olds new news : PureTree) (to all : List Tree) (copy : Tree) → all ≡ to ++ copy ∷ [] → view_tree copy ≡ kept part old new
    → onto (map view_tree all) (fields_over parts olds news) ≡ onto (map view_tree to) (fields_over (part ∷ parts) (Fork old olds) (Fork new news))
over_turn part parts old olds new news to all copy e f =
    ap (λ (l : List Tree). onto (map view_tree l) (fields_over parts olds news)) e
    ∙ onto_more to copy (fields_over parts olds news)
    ∙ ap (λ head. onto (map view_tree to) (Fork head (fields_over parts olds news))) f
    ∙ ap (onto (map view_tree to)) (sym (over_first part parts old olds new news))

pub over_none : (part : Part) (parts : List Part) (old : PureTree) → fields_over (part ∷ parts) old Tip ≡ old
over_none (FieldPart ty) parts (Leaf cell) = refl
over_none (FieldPart ty) parts Tip = refl
over_none (FieldPart ty) parts (Fork head tail) = refl
over_none ClassPart parts (Leaf cell) = refl
over_none ClassPart parts Tip = refl
over_none ClassPart parts (Fork head tail) = refl

pub over_nothing : (part : Part) (parts : List Part) (new : PureTree) → fields_over (part ∷ parts) Tip new ≡ Tip
over_nothing (FieldPart ty) parts new = refl
over_nothing ClassPart parts new = refl

pub over_leaf : (parts : List Part) (cell : Option Value) (new : PureTree) → fields_over parts (Leaf cell) new ≡ Leaf cell
over_leaf [] cell new = refl
over_leaf (FieldPart ty ∷ parts) cell new = refl
over_leaf (ClassPart ∷ parts) cell new = refl

pub over_cell : (parts : List Part) (old : PureTree) (cell : Option Value) → fields_over parts old (Leaf cell) ≡ old
over_cell [] old cell = refl
over_cell (FieldPart ty ∷ parts) (Leaf c) cell = refl
over_cell (FieldPart ty ∷ parts) Tip cell = refl
over_cell (FieldPart ty ∷ parts) (Fork head tail) cell = refl
over_cell (ClassPart ∷ parts) (Leaf c) cell = refl
over_cell (ClassPart ∷ parts) Tip cell = refl
over_cell (ClassPart ∷ parts) (Fork head tail) cell = refl

-- ---- pieces of lists

pub no_items : {X : Type 0} (xs : List X) → length xs < 1 → xs ≡ []
no_items [] h = refl
no_items (x ∷ xs) h = absurd (omega (arith, h))

-- what follows where it was done
pub on_done : {A B E : Type 0} (done : Result (Unit {0}) E) → (A → B) → OnOk done A → OnOk done B
on_done (Ok tt) f a = f a
on_done (Err e) f a = tt
