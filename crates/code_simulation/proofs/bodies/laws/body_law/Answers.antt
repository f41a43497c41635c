use Rattle.code_simulation.specs.bodies.Layouts.{IsIn}
use Rattle.code_simulation.proofs.bodies.Induction.{bodies}
use Rattle.code_simulation.proofs.bodies.laws.body_law.Goals as goal

pub returns : goal.returns
returns c = λ w reached x p bound. bodies w (IsIn reached) x p bound
