use Rattle.program_typing.proofs.lvalues.Variables.{variable_place}
use Rattle.program_typing.proofs.lvalues.Parts.{part_laws}
use Rattle.program_typing.proofs.lvalues.sound_place_laws.Goals as goal

pub returns : goal.returns
returns c = record {
  variables = λ w store agreed typed. record { variable = variable_place w agreed store typed };
  parts = part_laws;
}
