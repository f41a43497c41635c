use Rattle.bodies_well_formed.proofs.other_units.Agreeing.{agrees_within}
use Rattle.bodies_well_formed.proofs.other_units.Entering.{named_known, routine_known, closed_known}
use Rattle.bodies_well_formed.proofs.other_units.Growing.{further_known, wider}
use Rattle.bodies_well_formed.proofs.other_units.laws.known_name_laws.Goals as goal

pub returns : goal.returns
returns c = λ g s known. record {
  agrees = agrees_within g s known;
  name = λ name one k. named_known g s name one known k;
  routine = λ number owner one is outer few. routine_known g s number owner one known is outer few;
  closed = closed_known g s known;
  further = further_known g s known;
  wider = wider g s known;
}
