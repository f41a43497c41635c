use Rattle.std.proofs.Common.{◌≡◌, ◌++◌, replicate}
use Rattle.constant_checker.proofs.stored_values.bytes.push_zeros.Given as goal

abbrev pub invariant-loop : goal.invariant-loop
invariant-loop l = l.bytes ≡ l.initial.bytes ++ replicate l.counter 0
