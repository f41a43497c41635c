-- Lists of parts inside a tree, as the vectors that hold them.
use Rattle.std.proofs.Common.{◌≡◌, ℕ, zero, suc, ◌+◌, ◌<◌, ◌≤◌, List, [], ◌∷◌, length, map, get_or, Option, Some, None, refl, ap, ◌∙◌, Vec, Global, Err, arith}
use Rattle.interpreter_store.specs.declared.cell_store.cells.Tree.{Tree, Row_of-Tree, end_of-Tree, more_of-Tree, items-the_row-Tree, items_hidden-the_row-Tree-0}
use Rattle.interpreter_store.specs.declared.cell_store.cells.Tree.TheVariants as tree
use Rattle.tp_meaning.specs.Trees.{Tree as PureTree, chain, part_at, part_count}
use Rattle.tp_meaning.specs.Found.{IllTyped}
use Rattle.tp_meaning.specs.Store.{value_in}
use Rattle.interpreter_store.specs.cell_store.Views.{view_tree, view_row, view_parts}

row_is : (n : _) (row : Row_of-Tree n) → view_row row ≡ map view_tree (items-the_row-Tree n row)
row_is n end_of-Tree = refl
row_is n (more_of-Tree part rest) = ap (λ (parts : List PureTree). view_tree part ∷ parts) (row_is _ rest)

abbrev parts_of : Tree → (n : _) × Row_of-Tree n
parts_of (tree.Parts' _ row) = (_, row)
parts_of _ = (_, end_of-Tree)

-- a tree of parts is these parts
pub view_of_parts : (parts : Vec Tree Global) → view_tree (tree.Parts parts) ≡ view_parts parts.items
view_of_parts parts =
    let row = parts_of (tree.Parts parts) in
    ap chain (row_is row.0 row.1 ∙ ap (map view_tree) (items_hidden-the_row-Tree-0 parts))

-- a path leads into the part that it names first
pub part_within : (parts : List Tree) (n : ℕ) (path : List ℕ) (d : Tree) → n < length parts → part_at (view_parts parts) (n ∷ path) ≡ part_at (view_tree (get_or parts n d)) path
part_within [] n path d h = absurd (omega (arith, h))
part_within (t ∷ parts) zero path d h = refl
part_within (t ∷ parts) (suc n) path d h = part_within parts n path d (omega (arith, h))

pub part_past : (parts : List Tree) (n : ℕ) (path : List ℕ) → length parts ≤ n → part_at (view_parts parts) (n ∷ path) ≡ None
part_past [] n path h = refl
part_past (t ∷ parts) zero path h = absurd (omega (arith, h))
part_past (t ∷ parts) (suc n) path h = part_past parts n path (omega (arith, h))

pub count_of_parts : (parts : List Tree) → part_count (view_parts parts) ≡ length parts
count_of_parts [] = refl
count_of_parts (t ∷ parts) = omega (arith, count_of_parts parts)

-- parts are no value
pub value_of_parts : (parts : List PureTree) → value_in (chain parts) ≡ Err IllTyped
value_of_parts [] = refl
value_of_parts (part ∷ parts) = refl
