use Rattle.code_simulation.specs.bodies.Layouts.{IsIn}
use Rattle.code_simulation.proofs.start.Whole.{shows_run}
use Rattle.code_simulation.proofs.start.laws.start_law.Goals as goal

pub returns : goal.returns
returns c = λ w reached x p h input r i turns. shows_run w (IsIn reached) x p h input r i turns
