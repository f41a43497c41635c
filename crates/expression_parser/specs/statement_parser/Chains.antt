-- Items one behind the other, as long as one more follows.
use Rattle.std.specs.Prelude.{ℕ, zero, suc, Bool, if◌then◌else◌, List, length, Result, Ok}
use Rattle.pascal_grammar.specs.declared.lexeme.Lexeme.{Lexeme}
use Rattle.pascal_grammar.specs.Productions.{Production}
use Rattle.ll1_grammar.specs.Readers.{Fault, ◌>>=◌}
use Rattle.syntax_tree.specs.Expressions.{Parsed}
use Rattle.expression_parser.specs.Gives.{Reads}

abbrev pub ReadsTo : Type 0 → Type 0
ReadsTo A = List Lexeme → Result (A × List Lexeme) (Fault Production)

-- Whether one more item follows, how it is read, what it makes with those behind it, and how what ends them is read.
pub record Chain (A : Type 0) : Type 0 where
  pub follows : List Lexeme → Bool
  pub item : ReadsTo A
  pub join : A → Parsed → Parsed
  pub last : Reads

-- Items and what ends them, where the number is no less than that of the lexemes.
unfoldable pub chain_from : {A : Type 0} → Chain A → ℕ → Reads
chain_from c zero ts = c.last ts
chain_from c (suc i) ts = if c.follows ts then (c.item ts >>= λ x. chain_from c i x.1 >>= λ y. Ok (c.join x.0 y.0, y.1)) else c.last ts

abbrev pub chain_at : {A : Type 0} → Chain A → Reads
chain_at c ts = chain_from c (length ts) ts
