use Rattle.program_typing.proofs.programs.Counting.{can_be_met}
use Rattle.program_typing.proofs.programs.typed_program_laws.Goals as goal

pub returns : goal.returns
returns c = can_be_met
