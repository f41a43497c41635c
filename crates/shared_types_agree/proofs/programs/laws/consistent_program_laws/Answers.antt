use Rattle.shared_types_agree.proofs.programs.Agreeing.{program_agrees}
use Rattle.shared_types_agree.proofs.programs.Declarers.{all_declared, all_classes}
use Rattle.shared_types_agree.proofs.programs.Listed.{all_listed}
use Rattle.shared_types_agree.proofs.programs.Whole.{all_agree}
use Rattle.shared_types_agree.proofs.programs.laws.consistent_program_laws.Goals as goal

pub returns-clause-told : goal.returns-clause-told
returns-clause-told c = program_agrees

pub returns-clause-agreed : goal.returns-clause-agreed
returns-clause-agreed c = all_agree c.program_laws.ensures.shown

pub returns-clause-listed : goal.returns-clause-listed
returns-clause-listed c = all_listed

pub returns-clause-declarers : goal.returns-clause-declarers
returns-clause-declarers c = all_declared c.program_laws.ensures.shown

pub returns-clause-classes : goal.returns-clause-classes
returns-clause-classes c = all_classes c.declared_class_laws.ensures c.program_laws.ensures.shown
