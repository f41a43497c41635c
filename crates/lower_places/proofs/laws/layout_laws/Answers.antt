use Rattle.lower_places.proofs.Frames.{frame-laws, from-top}
use Rattle.lower_places.proofs.HomeLaws.{home-laws}
use Rattle.lower_places.proofs.SortLaws.{variables-have-sorts}
use Rattle.lower_places.proofs.laws.layout_laws.Goals as goal

pub returns-clause-frames : goal.returns-clause-frames
returns-clause-frames c = frame-laws

pub returns-clause-homes : goal.returns-clause-homes
returns-clause-homes c = home-laws

pub returns-clause-places : goal.returns-clause-places
returns-clause-places c = from-top

pub returns-clause-sorts : goal.returns-clause-sorts
returns-clause-sorts c = variables-have-sorts
