use Rattle.compiler_correctness.proofs.Expressible.{plain-is, runtime-is}
use Rattle.compiler_correctness.proofs.laws.runtime_code_law.Goals as goal

pub returns-clause-plain : goal.returns-clause-plain
returns-clause-plain c = plain-is

pub returns-clause-runtime : goal.returns-clause-runtime
returns-clause-runtime c = λ program held. runtime-is program (c.runtime_laws.ensures.plain program held)
