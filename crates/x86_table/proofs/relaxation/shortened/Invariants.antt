use Rattle.std.proofs.Common.{◌≡◌, ◌*◌, ◌++◌, ◌≤◌, drop}
use Rattle.x86_table.specs.Lines.{label_place}
use Rattle.x86_table.specs.Relaxation.{shortened_from, shortened}
use Rattle.x86_table.proofs.relaxation.shortened.Given as goal

abbrev pub invariant-loop-line : goal.invariant-loop-line
invariant-loop-line l = record {
  rest : l.list ++ shortened_from (label_place l.lines) l.place (drop l.line-index l.lines) ≡ shortened l.lines;
  bound : l.place ≤ 8 * l.line-index;
}
