use Rattle.resident_machine.proofs.machine_lines.Jumps.{jumps, branches, passes, skips, falls}
use Rattle.resident_machine.proofs.machine_lines.laws.jump_law.Goals as goal

pub returns-clause-label : goal.returns-clause-label
returns-clause-label c = jumps

pub returns-clause-branch : goal.returns-clause-branch
returns-clause-branch c = branches

pub returns-clause-pass : goal.returns-clause-pass
returns-clause-pass c = passes

pub returns-clause-over : goal.returns-clause-over
returns-clause-over c = λ p framed cs code at. skips p framed cs code at (λ l. l)

pub returns-clause-on : goal.returns-clause-on
returns-clause-on c = λ p framed cs code at. falls p framed cs code at (λ l. l)
