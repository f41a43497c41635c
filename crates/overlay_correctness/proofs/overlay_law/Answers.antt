use Rattle.overlay_correctness.proofs.OverlayLaws.{opened_matches, opened_beside}
use Rattle.overlay_correctness.proofs.overlay_law.Goals as goal

pub returns-clause-begins : goal.returns-clause-begins
returns-clause-begins c = λ p kept exe name ovr buffer state manager opened held input. (opened_matches p kept exe name ovr buffer state manager opened held).1 input

pub returns-clause-runs : goal.returns-clause-runs
returns-clause-runs c = λ p kept exe name ovr buffer state manager opened held input n r runs tables. opened_beside p kept exe name ovr buffer state manager opened held input n r runs tables
