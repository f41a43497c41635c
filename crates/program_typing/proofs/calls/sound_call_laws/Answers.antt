use Rattle.program_typing.proofs.calls.Opened.{opens}
use Rattle.program_typing.proofs.calls.Numbered.{called_level, level_laws}
use Rattle.program_typing.proofs.calls.sound_call_laws.Goals as goal

pub returns : goal.returns
returns c = record {
  calls = λ w store agreed typed. record { opens = opens w agreed store typed; level = called_level w store typed };
  levels = level_laws;
}
