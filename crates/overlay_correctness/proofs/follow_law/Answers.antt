use Rattle.overlay_correctness.proofs.FollowLaws.{runs_beside, runs_by_some, shows_same}
use Rattle.overlay_correctness.proofs.follow_law.Goals as goal

pub returns-clause-follows : goal.returns-clause-follows
returns-clause-follows c = runs_beside

pub returns-clause-some : goal.returns-clause-some
returns-clause-some c = runs_by_some

pub returns-clause-shows : goal.returns-clause-shows
returns-clause-shows c = shows_same
