use Rattle.type_soundness.proofs.expressions.Expressions.{value_ends, place_ends, taken_ends}
use Rattle.type_soundness.proofs.expressions.sound_expression_laws.Goals as goal

pub returns : goal.returns
returns c = λ program again well sound made f number withs others s active typed. record {
  values = λ e h r. value_ends program well again sound f number withs others made e h r s active typed;
  places = λ at ty h r. place_ends program well again sound f number withs others made at ty h r s active typed;
  arguments = λ params args h r. taken_ends program well again sound f number withs others made params args h r s active typed;
}
