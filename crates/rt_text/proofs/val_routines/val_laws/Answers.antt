use Rattle.rt_text.proofs.val_routines.Giving.{gives-value, gives-place}
use Rattle.rt_text.proofs.val_routines.val_laws.Goals as goal

pub returns-clause-value : goal.returns-clause-value
returns-clause-value c = gives-value

pub returns-clause-place : goal.returns-clause-place
returns-clause-place c = gives-place
