use Rattle.object_file.proofs.ObjectLaws.{one_spelling-law}
use Rattle.object_file.proofs.laws.one_spelling.Goals as goal

pub returns : goal.returns
returns c = one_spelling-law
