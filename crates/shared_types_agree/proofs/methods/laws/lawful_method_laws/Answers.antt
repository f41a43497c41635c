use Rattle.shared_types_agree.proofs.methods.Answers.{all_answer}
use Rattle.shared_types_agree.proofs.methods.Whole.{all_own_methods, all_lawful, all_have_methods}
use Rattle.shared_types_agree.proofs.methods.laws.lawful_method_laws.Goals as goal

pub returns-clause-answers : goal.returns-clause-answers
returns-clause-answers c = all_answer

pub returns-clause-own : goal.returns-clause-own
returns-clause-own c = all_own_methods

pub returns-clause-lawful : goal.returns-clause-lawful
returns-clause-lawful c = all_lawful c.consistent_program_laws.ensures.agreed c.consistent_program_laws.ensures.declarers

pub returns-clause-methods : goal.returns-clause-methods
returns-clause-methods c = all_have_methods c.consistent_program_laws.ensures.agreed c.consistent_program_laws.ensures.declarers c.declared_method_laws.ensures
