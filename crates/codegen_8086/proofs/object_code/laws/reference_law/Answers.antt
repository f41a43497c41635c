use Rattle.codegen_8086.proofs.object_code.Named as named
use Rattle.codegen_8086.proofs.object_code.laws.reference_law.Goals as goal

pub returns : goal.returns
returns c = named.reference_law
