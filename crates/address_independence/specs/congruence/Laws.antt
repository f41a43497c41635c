-- What a program means does not depend on where its statements lie in memory.
use Rattle.std.specs.Prelude.{◌≡◌, ℕ, List, map}
use Rattle.tp_check_decl.specs.typed_tree.declared.units.Program.{Program}
use Rattle.tp_meaning.specs.Meaning.{mean}
use Rattle.tp_check_decl.specs.Units.{view_unit}

-- the same program, without where its statements lie in memory
pub record IsSame (one other : Program) : Type 0 where
  pub units : map view_unit one.units ≡ map view_unit other.units
  pub start : one.start ≡ other.start

-- Both mean the same, on every input and within any number of turns.
abbrev pub MeansAlike : Type 0
MeansAlike = (one other : Program) → IsSame one other → (input : List ℕ) (turns : ℕ) → mean one input turns ≡ mean other input turns
