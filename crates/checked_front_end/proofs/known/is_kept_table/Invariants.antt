use Rattle.std.proofs.Common.{◌≡◌, ℕ, ◌<◌, Some}
use Rattle.std.specs.Prelude.{slice_get}
use Rattle.type_layout.specs.declared.definitions.TypeDef.{TypeDef}
use Rattle.programs_well_typed.specs.store_typing.types.Agreement.{IsShort}
use Rattle.checked_front_end.proofs.known.is_kept_table.Given as goal

abbrev pub invariant-loop-number : goal.invariant-loop-number
invariant-loop-number l = (k : ℕ) (one : TypeDef) → k < l.number → slice_get l.types.types k ≡ Some one → IsShort one
