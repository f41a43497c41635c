use Rattle.rt_strings.proofs.sets.Combining.{unites, takes-away, intersects}
use Rattle.rt_strings.proofs.sets.set_laws.Goals as goal

pub returns-clause-union : goal.returns-clause-union
returns-clause-union c = unites

pub returns-clause-difference : goal.returns-clause-difference
returns-clause-difference c = takes-away

pub returns-clause-intersection : goal.returns-clause-intersection
returns-clause-intersection c = intersects
