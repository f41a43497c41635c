-- Trees one behind another, and the cell of a pointer.
use Rattle.std.specs.Prelude.{List, [], ◌∷◌, Ok}
use Rattle.tp_meaning.specs.Trees.{Value, Tree, Fork, holding}
use Rattle.tp_meaning.specs.Found.{Found, ◌>>=◌}
use Rattle.tp_meaning.specs.Store.{pointer_of}
use Rattle.tp_meaning.specs.Shapes.{Part, FieldPart, ClassPart}

-- these parts, and then those of a tree
abbrev pub onto : List Tree → Tree → Tree
onto [] tree = tree
onto (part ∷ parts) tree = Fork part (onto parts tree)

-- a cell that holds a pointer
abbrev pub pointer_cell : Value → Found Tree
pointer_cell v = pointer_of v >>= λ p. Ok (holding p)

-- what an object holds at a part once another one is copied to it
abbrev pub kept : Part → Tree → Tree → Tree
kept (FieldPart ty) old new = new
kept ClassPart old new = old
