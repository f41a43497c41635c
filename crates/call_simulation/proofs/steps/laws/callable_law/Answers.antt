use Rattle.call_simulation.proofs.steps.Callables.{own_callable, far_callable}
use Rattle.call_simulation.proofs.steps.laws.callable_law.Goals as goal

pub returns-clause-own : goal.returns-clause-own
returns-clause-own c = λ w site live fits key callee unit r pointer bound most has_unit has_routine made ends even stack short body. own_callable w site live fits key callee unit r pointer bound most has_unit has_routine made ends even stack short body

pub returns-clause-far : goal.returns-clause-far
returns-clause-far c = λ w site live fits key callee unit r pointer bound most has_unit has_routine made ends even stack short body. far_callable w site live fits key callee unit r pointer bound most has_unit has_routine made ends even stack short body
