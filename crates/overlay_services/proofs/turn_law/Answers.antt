use Rattle.overlay_services.proofs.TurnLaws.{step_turns}
use Rattle.overlay_services.proofs.turn_law.Goals as goal

pub returns : goal.returns
returns c = λ p kept bytes r t q here whole m fit service goes framed. step_turns p kept bytes r t q here whole m fit service goes framed
