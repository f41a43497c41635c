use Rattle.compiler_correctness.proofs.Compilers.{plain_theorem, overlaid_theorem, run_theorem}
use Rattle.compiler_correctness.proofs.laws.compiler_law.Goals as goal

pub returns-clause-plain : goal.returns-clause-plain
returns-clause-plain c = λ d laws. plain_theorem d laws c.plain_program_law.ensures

pub returns-clause-overlaid : goal.returns-clause-overlaid
returns-clause-overlaid c = λ d laws. overlaid_theorem d laws c.overlaid_program_law.ensures

pub returns-clause-run : goal.returns-clause-run
returns-clause-run c = λ d laws. run_theorem d (overlaid_theorem d laws c.overlaid_program_law.ensures)
