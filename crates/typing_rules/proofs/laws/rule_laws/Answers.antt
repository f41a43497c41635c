use Rattle.typing_rules.proofs.OperatorLaws.{lawful_combined, lawful_signed, lawful_negated}
use Rattle.typing_rules.proofs.SelectorLaws.{lawful_selected, lawful_indexed, lawful_followed}
use Rattle.typing_rules.proofs.AssignmentLaws.{lawful_assigned}
use Rattle.typing_rules.proofs.laws.rule_laws.Goals as goal

pub returns : goal.returns
returns c = record {
  combined = lawful_combined;
  signed = lawful_signed;
  negated = lawful_negated;
  selected = lawful_selected;
  indexed = lawful_indexed;
  followed = lawful_followed;
  assigned = lawful_assigned;
}
