use Rattle.unit_references.proofs.programs.Single.{alone_never_stops}
use Rattle.unit_references.proofs.programs.Alone.{can_be_alone}
use Rattle.unit_references.proofs.programs.single_program_laws.Goals as goal

pub returns : goal.returns
returns c = record { all = alone_never_stops; example = can_be_alone }
