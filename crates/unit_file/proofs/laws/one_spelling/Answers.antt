use Rattle.unit_file.proofs.UnitLaws.{one_spelling-law}
use Rattle.unit_file.proofs.laws.one_spelling.Goals as goal

pub returns : goal.returns
returns c = one_spelling-law
