-- Parts of trees have the forms of the parts, and so has a tree to which such a part comes.
use Rattle.std.proofs.Common.{◌≡◌, ℕ, zero, suc, ◌+◌, ◌<◌, List, [], ◌∷◌, ◌++◌, Some, None, refl, sym, subst, arith}
use Rattle.std.specs.Prelude.{slice_get, Ok, Err}
use Rattle.std.proofs.lemmas.Option.{same_Some}
use Rattle.tp_meaning.specs.Trees.{Tree, Leaf, Tip, Fork, part_at, with_part}
use Rattle.tp_meaning.specs.Found.{Act, Error, IllTyped, Found, ◌>>=◌}
use Rattle.tp_meaning.specs.Store.{value_in}
use Rattle.store_typing.specs.types.Forms.{Held, Form, Cell, End, Pair, repeated, line}
use Rattle.store_typing.specs.stores.Worlds.{World, IsHeld, HasForm}
use Rattle.store_typing.specs.stores.Places.{form_part}
use Rattle.store_typing.specs.stores.Stores.{Finds}

-- ---- what is found

pub finds_bind : {A B : Type 0} (P : A → Type 0) (Q : B → Type 0) (x : Found A) (f : A → Found B) → Finds P x → ((a : A) → P a → Finds Q (f a)) → Finds Q (x >>= f)
finds_bind P Q (Ok a) f h g = g a h
finds_bind P Q (Err (Act number)) f h g = tt
finds_bind P Q (Err (Error code)) f h g = tt
finds_bind P Q (Err IllTyped) f h g = h

pub finds_more : {A : Type 0} (P Q : A → Type 0) (x : Found A) → ((a : A) → P a → Q a) → Finds P x → Finds Q x
finds_more P Q (Ok a) f h = f a h
finds_more P Q (Err (Act number)) f h = tt
finds_more P Q (Err (Error code)) f h = tt
finds_more P Q (Err IllTyped) f h = h

-- ---- paths

-- what a path leads to is there, and has its form
pub record PartOf (w : World) (form : Form) (tree : Tree) (path : List ℕ) (to : Form) : Type 0 where
  pub part : Tree
  pub found : part_at tree path ≡ Some part
  pub has : HasForm w to part
  pub kept : (new : Tree) → HasForm w to new → HasForm w form (with_part tree path new)

pub part_of : (w : World) (form : Form) (tree : Tree) (path : List ℕ) (to : Form) → form_part form path ≡ Some to → HasForm w form tree → PartOf w form tree path to
part_of w form tree [] to e has =
    let same : form ≡ to = same_Some form to e in
    record { part = tree; found = refl; has = subst (λ (f : Form). HasForm w f tree) same has; kept = λ new is. subst (λ (f : Form). HasForm w f new) (sym same) is }
part_of w (Pair first rest) (Fork head tail) (zero ∷ path) to e has =
    let one = part_of w first head path to e has.0 in
    record { part = one.part; found = one.found; has = one.has; kept = λ new is. (one.kept new is, has.1) }
part_of w (Pair first rest) (Fork head tail) (suc n ∷ path) to e has =
    let one = part_of w rest tail (n ∷ path) to e has.1 in
    record { part = one.part; found = one.found; has = one.has; kept = λ new is. (has.0, one.kept new is) }
part_of w (Pair first rest) (Leaf cell) (n ∷ path) to e has = absurd has
part_of w (Pair first rest) Tip (n ∷ path) to e has = absurd has
part_of w (Cell held) tree (n ∷ path) to e has = absurd cc
part_of w End tree (n ∷ path) to e has = absurd cc

-- a path that goes one part further
pub further : (form mid : Form) (path : List ℕ) (n : ℕ) (to : Form) → form_part form path ≡ Some mid → form_part mid (n ∷ []) ≡ Some to → form_part form (path ++ n ∷ []) ≡ Some to
further form mid [] n to e e' = subst (λ (f : Form). form_part f (n ∷ []) ≡ Some to) (sym (same_Some form mid e)) e'
further (Pair first rest) mid (zero ∷ path) n to e e' = further first mid path n to e e'
further (Pair first rest) mid (suc m ∷ path) n to e e' = further rest mid (m ∷ path) n to e e'
further (Cell held) mid (m ∷ path) n to e e' = absurd cc
further End mid (m ∷ path) n to e e' = absurd cc

-- parts of equal parts and of lines
pub repeated_part : (count n : ℕ) (part : Form) → n < count → form_part (repeated count part) (n ∷ []) ≡ Some part
repeated_part zero n part h = absurd (omega (arith, h))
repeated_part (suc count) zero part h = refl
repeated_part (suc count) (suc n) part h = repeated_part count n part (omega (arith, h))

pub line_part : (forms : List Form) (n : ℕ) (part : Form) → slice_get forms n ≡ Some part → form_part (line forms) (n ∷ []) ≡ Some part
line_part [] n part e = absurd cc
line_part (form ∷ forms) zero part e = e
line_part (form ∷ forms) (suc n) part e = line_part forms n part e

-- a cell holds a value of its type, or it is unset
pub cell_read : (w : World) (held : Held) (tree : Tree) → HasForm w (Cell held) tree → Finds (IsHeld w held) (value_in tree)
cell_read w held (Leaf None) has = tt
cell_read w held (Leaf (Some v)) has = has
cell_read w held Tip has = has
cell_read w held (Fork head tail) has = has
