use Rattle.shared_types_agree.proofs.method_numbers.Programs.{methods_declared}
use Rattle.shared_types_agree.proofs.method_numbers.laws.numbered_method_laws.Goals as goal

pub returns : goal.returns
returns c = methods_declared
