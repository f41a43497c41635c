use Rattle.type_soundness.proofs.programs.Runs.{never_stop, counting_never_stops}
use Rattle.type_soundness.proofs.programs.sound_program_laws.Goals as goal

pub returns : goal.returns
returns c = record { all = never_stop; one = counting_never_stops }
