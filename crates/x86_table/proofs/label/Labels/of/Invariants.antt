use Rattle.std.proofs.Common.{◌≡◌, ◌+◌, ◌*◌, ◌≤◌, ◌<◌, ℕ, List, length, drop, MatchOption}
use Rattle.std.specs.Ordering.{nat_cmp}
use Rattle.std.specs.BTreeMap.{get}
use Rattle.x86_table.specs.Lines.{line_size, label_from}
use Rattle.x86_table.proofs.label.Labels.of.Given as goal

abbrev pub invariant-loop-line : goal.invariant-loop-line
invariant-loop-line l = record {
  known : (q : ℕ) → MatchOption (get nat_cmp l.places q) (label_from 0 l.lines q ≡ label_from l.end (drop l.line-index l.lines) q) (λ place. label_from 0 l.lines q ≡ place);
  bound : l.end ≤ 8 * l.line-index;
}
