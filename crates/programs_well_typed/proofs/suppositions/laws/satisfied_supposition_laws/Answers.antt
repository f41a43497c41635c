use Rattle.programs_well_typed.proofs.suppositions.Whole.{all_supported}
use Rattle.programs_well_typed.proofs.suppositions.laws.satisfied_supposition_laws.Goals as goal

pub returns : goal.returns
returns c =
    all_supported c.program_laws.ensures.shown c.consistent_program_laws.ensures.agreed c.consistent_program_laws.ensures.listed c.consistent_program_laws.ensures.declarers c.formed_program_laws.ensures.whole
