use Rattle.programs_well_typed.proofs.units.Units.{unit_sound}
use Rattle.programs_well_typed.proofs.units.Programs.{program_sound}
use Rattle.programs_well_typed.proofs.units.laws.sound_unit_laws.Goals as goal

pub returns-clause-unit : goal.returns-clause-unit
returns-clause-unit c = unit_sound

pub returns-clause-program : goal.returns-clause-program
returns-clause-program c = program_sound
