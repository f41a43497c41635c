use Rattle.code_templates.proofs.code_lines.Example.{successor_is, repeated_is, copy_is, outer_is, quotient_is}
use Rattle.code_templates.proofs.code_lines.laws.example_law.Goals as goal

pub returns-clause-function : goal.returns-clause-function
returns-clause-function c = successor_is

pub returns-clause-repeat : goal.returns-clause-repeat
returns-clause-repeat c = repeated_is

pub returns-clause-copy : goal.returns-clause-copy
returns-clause-copy c = copy_is

pub returns-clause-outer : goal.returns-clause-outer
returns-clause-outer c = outer_is

pub returns-clause-quotient : goal.returns-clause-quotient
returns-clause-quotient c = quotient_is
