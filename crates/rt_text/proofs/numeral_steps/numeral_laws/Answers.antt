use Rattle.rt_text.proofs.numeral_steps.Widening.{widens}
use Rattle.rt_text.proofs.numeral_steps.Stepping.{steps-on}
use Rattle.rt_text.proofs.numeral_steps.Signing.{signs}
use Rattle.rt_text.proofs.numeral_steps.numeral_laws.Goals as goal

pub returns-clause-widens : goal.returns-clause-widens
returns-clause-widens c = widens

pub returns-clause-steps : goal.returns-clause-steps
returns-clause-steps c = steps-on

pub returns-clause-signs : goal.returns-clause-signs
returns-clause-signs c = signs
