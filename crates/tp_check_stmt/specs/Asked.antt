-- Expressions of which a statement asks something.
use Rattle.std.specs.Prelude.{Bool, true, false}
use Rattle.syntax_tree.specs.expression_tree.Trees.{Tree}
use Rattle.syntax_tree.specs.statement_tree.Places.{place_of}
use Rattle.scopes.specs.Environment.{Environment}
use Rattle.typed_tree.specs.Expressions.{Expression}
use Rattle.typing_rules.specs.declared.faults.Rule.{Rule}
use Rattle.typing_rules.specs.declared.faults.Rule.TheVariants as rules
use Rattle.typing_rules.specs.declared.sorts.Sort.{Sort}
use Rattle.typing_rules.specs.declared.sorts.Sort.TheVariants as sort
use Rattle.typing_rules.specs.Faults.{broken}
use Rattle.typing_rules.specs.Judgements.{Judgement, rule, part}
use Rattle.typing_rules.specs.Sorts.{sort_of}
use Rattle.typing_rules.specs.Plans.{IsBoolean, is_boolean, IsInteger, is_integer}
use Rattle.call_rules.specs.Casts.{IsOrdinal, is_ordinal}
use Rattle.tp_check_expr.specs.Typed.{judged}

-- an expression whose sort passes, else this rule is broken where the expression stands
abbrev pub such : Environment → Tree → Rule → (Sort → Bool) → (Sort → Type 0) → Judgement Expression
such g tree one test Asked = part (judged g tree) (λ e. rule (broken (place_of tree) one) (test (sort_of g.types.types e)) (Asked (sort_of g.types.types e)) e)

-- a condition is Boolean
abbrev pub condition : Environment → Tree → Judgement Expression
condition g tree = such g tree rules.Conditional is_boolean IsBoolean

-- a `case` selects by an ordinal
abbrev pub selector : Environment → Tree → Judgement Expression
selector g tree = such g tree rules.Labelled is_ordinal IsOrdinal

-- integers, Booleans, Chars and strings are written
abbrev pub IsWritable : Sort → Type 0
IsWritable (sort.Integer r) = Unit {0}
IsWritable sort.Boolean = Unit {0}
IsWritable sort.Char = Unit {0}
IsWritable sort.Text = Unit {0}
IsWritable _ = ⊥

abbrev pub is_writable : Sort → Bool
is_writable (sort.Integer r) = true
is_writable sort.Boolean = true
is_writable sort.Char = true
is_writable sort.Text = true
is_writable _ = false

abbrev pub written_value : Environment → Tree → Judgement Expression
written_value g tree = such g tree rules.Written is_writable IsWritable

-- a width is an integer
abbrev pub width : Environment → Tree → Judgement Expression
width g tree = such g tree rules.Written is_integer IsInteger

-- integers, Chars and strings are read
abbrev pub IsReadable : Sort → Type 0
IsReadable (sort.Integer r) = Unit {0}
IsReadable sort.Char = Unit {0}
IsReadable sort.Text = Unit {0}
IsReadable _ = ⊥

abbrev pub is_readable : Sort → Bool
is_readable (sort.Integer r) = true
is_readable sort.Char = true
is_readable sort.Text = true
is_readable _ = false
