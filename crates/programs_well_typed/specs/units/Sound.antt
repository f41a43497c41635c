-- What a well-typed program asks of each unit, and no rule sees to.
use Rattle.std.specs.Prelude.{ℕ, ◌<◌, ◌^◌, All, List, Option, Some, None, length}
use Rattle.shared_types_agree.specs.typed_tree.declared.units.Global.{Global}
use Rattle.shared_types_agree.specs.typed_tree.declared.units.Routine.{Routine}
use Rattle.shared_types_agree.specs.typed_tree.declared.units.Unit.{Unit as TypedUnit}
use Rattle.shared_types_agree.specs.typed_tree.type_fits.Routines.{variables_of}

abbrev pub AreBytes : Option (List ℕ) → Type 0
AreBytes None = Unit {0}
AreBytes (Some bytes) = All (λ byte. byte < 256) bytes

-- what a global begins with is bytes
abbrev pub BeginsWithBytes : Global → Type 0
BeginsWithBytes global = AreBytes global.first

-- fewer variables than are told apart from what `with`s hold
abbrev pub HasFewVariables : Routine → Type 0
HasFewVariables routine = length (variables_of routine) < 2 ^ 31

pub record IsHeld (unit : TypedUnit) : Type 0 where
  pub bytes : All BeginsWithBytes unit.globals
  pub few : All HasFewVariables unit.routines
