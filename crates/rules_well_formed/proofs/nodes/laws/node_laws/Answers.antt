use Rattle.rules_well_formed.proofs.nodes.Combined.{number_value, constant_value, combined_typed, signed_typed, negated_typed}
use Rattle.rules_well_formed.proofs.nodes.Followed.{followed_typed}
use Rattle.rules_well_formed.proofs.nodes.Indexed.{indexed_typed}
use Rattle.rules_well_formed.proofs.nodes.Joined.{assigned_joined}
use Rattle.rules_well_formed.proofs.nodes.Selected.{selected_typed}
use Rattle.rules_well_formed.proofs.nodes.laws.node_laws.Goals as goal

pub returns : goal.returns
returns c = λ s sound. record {
  numbers = number_value s sound;
  constants = constant_value s sound;
  combined = combined_typed s sound;
  signed = signed_typed s sound;
  negated = negated_typed s sound;
  assigned = λ place ty checked a e there operand h. assigned_joined s sound ty there place checked a e operand h;
  selected = λ place name a e oa h. selected_typed s sound place name a e oa h;
  indexed = λ place checked a i e oa oi h. indexed_typed s sound place checked i oi a e oa h;
  followed = followed_typed s sound;
}
