use Rattle.std.proofs.Common.{◌≡◌, ◌++◌, replicate}
use Rattle.literal_programs.proofs.literal_code.image.push_zeros.Given as goal

abbrev pub invariant-loop : goal.invariant-loop
invariant-loop l = l.bytes ≡ l.initial.bytes ++ replicate l.counter 0
