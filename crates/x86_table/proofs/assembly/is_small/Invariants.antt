use Rattle.std.proofs.Common.{◌≡◌, ◌+◌, ◌≤◌, ◌<◌, ℕ, List, length, drop}
use Rattle.x86_table.specs.Lines.{code_size}
use Rattle.x86_table.proofs.assembly.is_small.Given as goal

abbrev pub invariant-loop-line : goal.invariant-loop-line
invariant-loop-line l = record {
  rest : l.size + code_size (drop l.line-index l.lines) ≡ code_size l.lines;
  bound : l.size ≤ 65520;
}
