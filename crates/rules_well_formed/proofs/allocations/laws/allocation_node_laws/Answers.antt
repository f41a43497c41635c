use Rattle.rules_well_formed.proofs.allocations.Values.{value_typed}
use Rattle.rules_well_formed.proofs.allocations.Makers.{constructor_found, blank_typed, made_typed, newly_typed}
use Rattle.rules_well_formed.proofs.allocations.Unmakers.{destructor_found, unmade_well}
use Rattle.rules_well_formed.proofs.allocations.laws.allocation_node_laws.Goals as goal

pub returns-clause-find : goal.returns-clause-find
returns-clause-find c = λ g s has sound. record {
  value = value_typed g s has;
  constructor = constructor_found g s has sound;
  destructor = destructor_found g s has sound;
}

pub returns-clause-give : goal.returns-clause-give
returns-clause-give c = λ s sound. record {
  blank = blank_typed s sound;
  made = made_typed s sound;
  newly_made = newly_typed s sound;
  unmade = unmade_well s sound;
}
