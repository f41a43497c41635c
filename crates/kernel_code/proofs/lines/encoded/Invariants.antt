use Rattle.std.proofs.Common.{◌≡◌, ◌++◌, drop}
use Rattle.kernel_code.specs.Parts.{encoded}
use Rattle.kernel_code.proofs.lines.encoded.Given as goal

-- the bytes so far and those that are left are all
abbrev pub invariant-loop-instr : goal.invariant-loop-instr
invariant-loop-instr l = l.bytes ++ encoded (drop l.instr-index l.code) ≡ encoded l.code
