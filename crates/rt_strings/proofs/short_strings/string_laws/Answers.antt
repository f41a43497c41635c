use Rattle.rt_strings.proofs.short_strings.Assigning.{assigns}
use Rattle.rt_strings.proofs.short_strings.string_laws.Goals as goal

pub returns : goal.returns
returns c = record { assign = assigns }
