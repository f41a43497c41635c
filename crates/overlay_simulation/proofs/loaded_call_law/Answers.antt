use Rattle.overlay_simulation.proofs.EnterLaws.{loaded_call}
use Rattle.overlay_simulation.proofs.loaded_call_law.Goals as goal

pub returns : goal.returns
returns c = loaded_call
