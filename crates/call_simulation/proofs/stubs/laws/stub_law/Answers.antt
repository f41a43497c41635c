use Rattle.call_simulation.proofs.stubs.Stubs.{stub_callable}
use Rattle.call_simulation.proofs.stubs.laws.stub_law.Goals as goal

pub returns : goal.returns
returns c = λ w site live fits key callee unit r pointer bound most has_unit has_routine made ends even stack short body. stub_callable w site live fits key callee unit r pointer bound most has_unit has_routine made ends even stack short body
