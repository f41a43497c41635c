-- Bytes that were stored from the last one to the first.
use Rattle.std.specs.Prelude.{ℕ, ◌+◌, List, [], ◌∷◌}
use Rattle.flat_code.specs.declared.memory.Place.{Place}
use Rattle.flat_code.specs.declared.memory.Cell.TheVariants.{Known}
use Rattle.flat_code.specs.Memory.{Cells, address_of, put}

-- they stand from the i-th on
abbrev pub laid_back : Cells → Place → ℕ → List ℕ → Cells
laid_back m p i [] = m
laid_back m p i (byte ∷ bytes) = put (laid_back m p (i + 1) bytes) (address_of p i) (Known byte)
