use Rattle.rt_text.proofs.str_routines.TextMaking.{makes-text}
use Rattle.rt_text.proofs.str_routines.str_laws.Goals as goal

pub returns : goal.returns
returns c = record { integer = makes-text }
