use Rattle.source_graph.proofs.WalkLaws.{gathers_or_refused}
use Rattle.source_graph.proofs.determinism.Uses.{uses_alike}
use Rattle.source_graph.proofs.determinism.Refusals.{one_refusal}
use Rattle.source_graph.proofs.determinism.Readings.{one_reading}
use Rattle.source_graph.proofs.determinism.laws.reading_laws.Goals as goal

pub returns-clause-one : goal.returns-clause-one
returns-clause-one c = one_reading

pub returns-clause-not_both : goal.returns-clause-not_both
returns-clause-not_both c = λ held name texts sources gathers error refused. gathers_or_refused held name error texts sources gathers refused

pub returns-clause-refusal : goal.returns-clause-refusal
returns-clause-refusal c = one_refusal

pub returns-clause-uses : goal.returns-clause-uses
returns-clause-uses c = uses_alike
