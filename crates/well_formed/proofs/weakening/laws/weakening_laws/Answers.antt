use Rattle.well_formed.proofs.weakening.Nodes.{typed, place}
use Rattle.well_formed.proofs.weakening.Statements.{statement}
use Rattle.well_formed.proofs.weakening.laws.weakening_laws.Goals as goal

pub returns-clause-expressions : goal.returns-clause-expressions
returns-clause-expressions c = λ s t w e h. typed c.typed_laws.ensures.types s t w e h

pub returns-clause-places : goal.returns-clause-places
returns-clause-places c = λ s t w at ty h. place c.typed_laws.ensures.types s t w at ty h

pub returns-clause-statements : goal.returns-clause-statements
returns-clause-statements c = λ s t w one h. statement c.typed_laws.ensures.types one s t w h
