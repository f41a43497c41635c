use Rattle.rules_well_formed.proofs.standard.Rows.{standard_typed}
use Rattle.rules_well_formed.proofs.standard.Sizes.{sized_typed, variable_typed}
use Rattle.rules_well_formed.proofs.standard.laws.standard_node_laws.Goals as goal

pub returns : goal.returns
returns c = λ s sound. record {
  standard = standard_typed s sound;
  sized = sized_typed s sound;
  variable_sized = variable_typed s sound;
}
