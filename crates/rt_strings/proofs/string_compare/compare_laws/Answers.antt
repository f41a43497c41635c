use Rattle.rt_strings.proofs.string_compare.Comparing.{compares}
use Rattle.rt_strings.proofs.string_compare.compare_laws.Goals as goal

pub returns : goal.returns
returns c = compares
