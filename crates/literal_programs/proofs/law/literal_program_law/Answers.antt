use Rattle.literal_programs.proofs.Meant.{means}
use Rattle.literal_programs.proofs.law.literal_program_law.Goals as goal

pub returns : goal.returns
returns c = record { means = means }
