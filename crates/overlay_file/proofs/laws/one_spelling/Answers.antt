use Rattle.overlay_file.proofs.FileLaws.{one_spelling-law}
use Rattle.overlay_file.proofs.laws.one_spelling.Goals as goal

pub returns : goal.returns
returns c = one_spelling-law
