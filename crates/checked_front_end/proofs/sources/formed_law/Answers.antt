use Rattle.checked_front_end.proofs.Founds.{formed}
use Rattle.checked_front_end.proofs.sources.formed_law.Goals as goal

pub returns : goal.returns
returns c = formed c.written_source_laws.ensures.sources c.numbered_method_laws.ensures c.formed_program_laws.ensures.whole c.well_typed_program_laws.ensures
