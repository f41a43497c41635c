use Rattle.rules_well_formed.proofs.calls.Casts.{cast_typed}
use Rattle.rules_well_formed.proofs.calls.Given.{given_taken}
use Rattle.rules_well_formed.proofs.calls.Calls.{called_typed, performed_typed}
use Rattle.rules_well_formed.proofs.calls.laws.call_laws.Goals as goal

pub returns : goal.returns
returns c = λ s sound. record {
  cast = cast_typed s sound;
  given = given_taken s sound;
  called = λ place checked routine header es e declared there operands h. called_typed s sound place checked routine header es e declared there operands h;
  performed = λ place checked routine header es e declared there operands h. performed_typed s sound place checked routine header es e declared there operands h;
}
