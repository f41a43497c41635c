use Rattle.std.proofs.Common.{◌≡◌, ◌+◌, ◌≤◌, drop}
use Rattle.x86_table.specs.Relaxation.{near_jumps}
use Rattle.x86_table.proofs.relaxation.near_jumps.Given as goal

abbrev pub invariant-loop-line : goal.invariant-loop-line
invariant-loop-line l = record {
  rest : l.count + near_jumps (drop l.line-index l.lines) ≡ near_jumps l.lines;
  bound : l.count ≤ l.line-index;
}
