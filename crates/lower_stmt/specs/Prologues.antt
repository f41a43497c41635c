-- What a routine does before its body.
use Rattle.std.specs.Prelude.{ℕ, ◌-◌, nat_lt, if◌then◌else◌, pos, [], ◌∷◌, Option, Some, None}
use Rattle.flat_code.specs.declared.tree.Address.{Address}
use Rattle.flat_code.specs.Tree.{Number, AddressOf, SegmentOf, StoreByte, StoreWord, Copy, Code, ◌then◌}
use Rattle.runtime_units.specs.declared.numbers.numbers.RuntimeRoutine.TheVariants as routine
use Rattle.lower_places.specs.Reaches.{further}
use Rattle.lower_values.specs.Nodes.{single, pair, number, runtime}
use Rattle.lower_stmt.specs.Copies.{copied}

-- a string is copied, and cut to the size of the copy
abbrev pub text_copied : ℕ → Address → Address → Code
text_copied max to from = single (runtime routine.Assign (SegmentOf to ∷ AddressOf to ∷ Number max ∷ SegmentOf from ∷ AddressOf from ∷ []))

-- a structured value is copied; the copy of an instance has no class
abbrev pub whole_copied : ℕ → Option ℕ → Address → Address → Code
whole_copied size None to from = copied to from size None
whole_copied size (Some class) to from = copied to from size None then single (StoreWord (further to class) (number (pos 0)))

-- bytes become zeros: the first one, and then each from the one before
abbrev pub zeros : Address → ℕ → Code
zeros to bytes =
    if nat_lt bytes 2 then single (StoreByte to (number (pos 0)))
    else pair (StoreByte to (number (pos 0))) (Copy (further to 1) to (bytes - 1))
