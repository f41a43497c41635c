use Rattle.overlay_simulation.proofs.ReturnLaws.{loaded_return}
use Rattle.overlay_simulation.proofs.loaded_return_law.Goals as goal

pub returns : goal.returns
returns c = loaded_return
