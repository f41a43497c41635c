-- Pieces of routines on text as flat code.
use Rattle.std.specs.Prelude.{ℕ, ℤ, [], ◌∷◌, Some, None}
use Rattle.flat_code.specs.declared.tree.Address.{Address}
use Rattle.flat_code.specs.declared.tree.Address.TheVariants.{Global, Local}
use Rattle.flat_code.specs.Tree.{Expr, Number, AddressOf, SegmentOf, StoreWord, Runtime, Code, Do}

-- so far into the item buffer
abbrev pub item_at : ℕ → Address
item_at plus = Global 0 0 plus

abbrev pub ahead_at : Address
ahead_at = Global 0 1 0

abbrev pub item_offset : ℕ → Expr
item_offset plus = AddressOf (item_at plus)

abbrev pub item_segment : Expr
item_segment = SegmentOf (item_at 0)

-- a word becomes the segment of the data
abbrev pub set_segment : ℤ → Code → Code
set_segment at next = Do (StoreWord (Local at) item_segment) next

-- so many bytes from a place on go to the output
abbrev pub print : Expr → Expr → Expr → Code → Code
print segment offset count next = Do (Runtime 0 (Number 1 ∷ segment ∷ offset ∷ count ∷ []) None) next

-- a word becomes the next byte of the input, or FFFFh at its end
abbrev pub fetch : ℤ → Code → Code
fetch at next = Do (Runtime 1 [] (Some (record { at = Local at; bytes = 2 }))) next
