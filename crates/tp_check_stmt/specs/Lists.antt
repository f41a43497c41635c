-- Judgements of each argument of a call.
use Rattle.std.specs.Prelude.{List, [], ◌∷◌}
use Rattle.syntax_tree.specs.expression_tree.Trees.{Operand, Operands, no_operands, and_operand}
use Rattle.typing_rules.specs.Judgements.{Judgement, makes, parts}

-- one by one, each by itself
abbrev pub each : {C : Type 0} → (Operand → Judgement C) → Operands → Judgement (List C)
each of no_operands = makes []
each of (and_operand one rest) = parts (of one) (each of rest) (λ x xs. makes (x ∷ xs))
