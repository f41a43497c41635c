use Rattle.tables_closed.proofs.constants.Headers.{type_bounded, procedure_bounded, function_bounded, routine_bounded, method_bounded}
use Rattle.tables_closed.proofs.constants.Constants.{constant_below}
use Rattle.tables_closed.proofs.constants.laws.bound_laws.Goals as goal

pub returns : goal.returns
returns c = record {
  named = type_bounded;
  procedure = procedure_bounded;
  function = function_bounded;
  routine = routine_bounded;
  method = method_bounded;
  constant = constant_below;
}
