use Rattle.overlay_simulation.proofs.AloneLaws.{managed_alone}
use Rattle.overlay_simulation.proofs.PlainLaws.{plain_event}
use Rattle.overlay_simulation.proofs.plain_event_law.Goals as goal

pub returns-clause-event : goal.returns-clause-event
returns-clause-event c = plain_event

pub returns-clause-managed : goal.returns-clause-managed
returns-clause-managed c = managed_alone
