use Rattle.overlay_simulation.proofs.RefusedLaws.{refused_call}
use Rattle.overlay_simulation.proofs.refused_call_law.Goals as goal

pub returns : goal.returns
returns c = refused_call
