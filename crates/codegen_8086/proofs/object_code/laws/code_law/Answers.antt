use Rattle.codegen_8086.proofs.object_code.Codes.{code_stands}
use Rattle.codegen_8086.proofs.object_code.laws.code_law.Goals as goal

pub returns : goal.returns
returns c = code_stands
