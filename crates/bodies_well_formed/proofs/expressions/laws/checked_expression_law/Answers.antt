use Rattle.bodies_well_formed.proofs.expressions.Checked.{judged_typed}
use Rattle.bodies_well_formed.proofs.expressions.laws.checked_expression_law.Goals as goal

pub returns : goal.returns
returns c = λ g s agrees for tree e literals h. judged_typed g s agrees for tree e literals h
