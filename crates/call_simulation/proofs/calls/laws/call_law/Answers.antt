use Rattle.call_simulation.proofs.calls.Instructions.{near_reached, own_reached, far_reached}
use Rattle.call_simulation.proofs.calls.laws.call_law.Goals as goal

pub returns-clause-near : goal.returns-clause-near
returns-clause-near c = λ w site live fits s r a n k vs b. near_reached w site live fits s r a n k vs b

pub returns-clause-own : goal.returns-clause-own
returns-clause-own c = λ w site live fits s r a n k vs b. own_reached w site live fits s r a n k vs b

pub returns-clause-far : goal.returns-clause-far
returns-clause-far c = λ w site live fits s r a n k vs b. far_reached w site live fits s r a n k vs b
