use Rattle.std.proofs.Common.{◌≡◌, ◌≤◌, ℕ, List, length, drop, nat_eq}
use Rattle.std.specs.HashMap.{get}
use Rattle.std.specs.List.{position_from}
use Rattle.std.specs.Cmp.Lexicographic.{pointwise}
use Rattle.tp_lexer.proofs.numbers.numbers_of.Given as goal

abbrev pub invariant-loop-number : goal.invariant-loop-number
invariant-loop-number l = record {
  within : l.number ≤ length l.texts;
  numbers : (name : List ℕ) → get (pointwise nat_eq) l.numbers name ≡ position_from (λ text. pointwise nat_eq text.name name) l.number (drop l.number l.texts);
}

abbrev pub decreases-loop-number : goal.decreases-loop-number
decreases-loop-number l = l.number
