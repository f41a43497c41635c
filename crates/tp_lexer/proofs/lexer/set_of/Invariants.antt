use Rattle.std.proofs.Common.{◌≡◌, ℕ, List, take, nat_eq}
use Rattle.std.specs.List.{list_any}
use Rattle.std.specs.Cmp.Lexicographic.{pointwise}
use Rattle.tp_lexer.specs.Acting.{has_name}
use Rattle.tp_lexer.proofs.lexer.set_of.Given as goal

abbrev pub invariant-loop-name : goal.invariant-loop-name
invariant-loop-name l = (name : List ℕ) → has_name l.set name ≡ list_any (λ other. pointwise nat_eq other name) (take l.name-index l.names)
