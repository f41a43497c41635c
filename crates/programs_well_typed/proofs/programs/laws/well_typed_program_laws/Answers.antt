use Rattle.programs_well_typed.proofs.programs.Whole.{all_typed}
use Rattle.programs_well_typed.proofs.programs.laws.well_typed_program_laws.Goals as goal

pub returns : goal.returns
returns c =
    all_typed c.consistent_program_laws.ensures.agreed c.consistent_program_laws.ensures.listed c.consistent_program_laws.ensures.classes c.lawful_method_laws.ensures.methods c.numbered_method_laws.ensures c.sound_unit_laws.ensures.program
    c.satisfied_supposition_laws.ensures c.unit_reference_laws.ensures.programs
