use Rattle.overlay_manager.proofs.overlay_run.PlainLaws.{plain-runs, managed-runs}
use Rattle.overlay_manager.proofs.overlay_run.laws.plain_law.Goals as goal

pub returns-clause-only : goal.returns-clause-only
returns-clause-only c = plain-runs

pub returns-clause-all : goal.returns-clause-all
returns-clause-all c = managed-runs
