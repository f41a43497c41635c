-- The arguments so far are handed.
use Rattle.std.proofs.Common.{◌≡◌, map}
use Rattle.tp_meaning.specs.Standard.{handed}
use Rattle.interpreter_store.specs.cell_store.Views.{view_value}
use Rattle.interpreter_effects.specs.standard_effects.Operands.{view_operand}
use Rattle.interpreter_steps.proofs.operands.all_handed.Given as goal

abbrev pub invariant-operands : goal.invariant-operands
invariant-operands l = map view_value l.values.items ≡ map handed (map view_operand l.yielded)
