use Rattle.std.proofs.Common.{◌≡◌, ◌++◌, drop}
use Rattle.kernel_code.specs.Errors.{ones}
use Rattle.kernel_code.proofs.errors.push_ones.Given as goal

-- the lines so far and those that are left are all
abbrev pub invariant-loop-instr : goal.invariant-loop-instr
invariant-loop-instr l = l.lines ++ ones (drop l.instr-index l.code) ≡ l.initial.lines ++ ones l.code
