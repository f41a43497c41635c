-- Uses of the runtime whose result goes to any place.
use Rattle.std.specs.Prelude.{ℕ, List, Some}
use Rattle.flat_code.specs.declared.tree.Address.{Address}
use Rattle.flat_code.specs.Tree.{Expr, Step, Runtime}
use Rattle.runtime_units.specs.declared.numbers.numbers.RuntimeRoutine.{RuntimeRoutine}
use Rattle.runtime_units.specs.numbers.Named.{number_of}

-- a routine of the runtime gives so many bytes to a place
abbrev pub computed : RuntimeRoutine → List Expr → Address → ℕ → Step
computed routine args at bytes = Runtime (number_of routine) args (Some (record { at = at; bytes = bytes }))
