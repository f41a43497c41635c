use Rattle.overlay_simulation.proofs.EnterLaws.{enters}
use Rattle.overlay_simulation.proofs.ReturnLaws.{out_return}
use Rattle.overlay_simulation.proofs.stub_law.Goals as goal

pub returns-clause-call : goal.returns-clause-call
returns-clause-call c = enters

pub returns-clause-back : goal.returns-clause-back
returns-clause-back c = out_return
