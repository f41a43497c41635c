use Rattle.overlay_simulation.proofs.NamedLaws.{named_stands, stands_named, matches_stands, stands_matches}
use Rattle.overlay_simulation.proofs.standing_law.Goals as goal

pub returns-clause-named : goal.returns-clause-named
returns-clause-named c = named_stands

pub returns-clause-same : goal.returns-clause-same
returns-clause-same c = stands_named

pub returns-clause-stands : goal.returns-clause-stands
returns-clause-stands c = λ p r q none stubs outside. matches_stands p r q none stubs outside

pub returns-clause-matches : goal.returns-clause-matches
returns-clause-matches c = λ p r q none stubs outside. stands_matches p r q none stubs outside
