use Rattle.std.proofs.Common.{◌≡◌, ◌++◌, take}
use Rattle.literal_programs.specs.literal_code.Code.{spelled}
use Rattle.literal_programs.proofs.literal_code.code.push_all.Given as goal

abbrev pub invariant-loop-instr : goal.invariant-loop-instr
invariant-loop-instr l = l.bytes ≡ l.initial.bytes ++ spelled (take l.instr-index l.code)
