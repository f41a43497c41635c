use Rattle.rt_strings.proofs.set_relations.Relating.{tells-same, tells-subset}
use Rattle.rt_strings.proofs.set_relations.Members.{tells-member}
use Rattle.rt_strings.proofs.set_relations.relation_laws.Goals as goal

pub returns-clause-same : goal.returns-clause-same
returns-clause-same c = tells-same

pub returns-clause-subset : goal.returns-clause-subset
returns-clause-subset c = tells-subset

pub returns-clause-member : goal.returns-clause-member
returns-clause-member c = tells-member
