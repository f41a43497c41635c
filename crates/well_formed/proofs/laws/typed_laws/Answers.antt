use Rattle.well_formed.proofs.TypedLaws.{have_types, have_slots, places_have_types}
use Rattle.well_formed.proofs.ExampleLaws.{is_example}
use Rattle.well_formed.proofs.laws.typed_laws.Goals as goal

pub returns-clause-types : goal.returns-clause-types
returns-clause-types c = have_types

pub returns-clause-slots : goal.returns-clause-slots
returns-clause-slots c = have_slots

pub returns-clause-places : goal.returns-clause-places
returns-clause-places c = places_have_types

pub returns-clause-example : goal.returns-clause-example
returns-clause-example c = is_example
