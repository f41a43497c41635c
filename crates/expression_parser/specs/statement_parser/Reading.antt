-- Reading statements from left to right.
use Rattle.std.specs.Prelude.{ℕ, zero, suc, Bool, true, false, not, ◌&&◌, List, [], ◌∷◌, Some, None, Result, Ok}
use Rattle.pascal_grammar.specs.declared.kind.Kind.TheVariants as k
use Rattle.pascal_grammar.specs.declared.lexeme.Lexeme.{Lexeme}
use Rattle.pascal_grammar.specs.Asked as q
use Rattle.pascal_grammar.specs.Lexemes.{front_kind}
use Rattle.pascal_grammar.specs.Parts.{Part}
use Rattle.pascal_grammar.specs.Parts as n
use Rattle.pascal_grammar.specs.Productions.{Production}
use Rattle.pascal_grammar.specs.Productions as p
use Rattle.ll1_grammar.specs.Readers.{Fault, ◌>>=◌, made, opened}
use Rattle.syntax_tree.specs.Expressions.{Parsed, of, word}
use Rattle.syntax_tree.specs.declared.expression.Designator.{Designator}
use Rattle.syntax_tree.specs.Statements.{named_of, arms_end}
use Rattle.expression_parser.specs.Gives.{Reads, Inside, ask, name_at}
use Rattle.expression_parser.specs.Reading.{begins, tail_of, wrong, leaves, inside, expression_at, simple_at, named_at, arguments_at}
use Rattle.expression_parser.specs.declared.statement_parser.lookahead.StatementStart.{StatementStart}
use Rattle.expression_parser.specs.declared.statement_parser.lookahead.StatementStart.TheVariants as start
use Rattle.expression_parser.specs.declared.statement_parser.lookahead.BehindDesignator.{BehindDesignator}
use Rattle.expression_parser.specs.declared.statement_parser.lookahead.BehindDesignator.TheVariants as behind
use Rattle.expression_parser.specs.declared.statement_parser.lookahead.BehindArguments.{BehindArguments}
use Rattle.expression_parser.specs.declared.statement_parser.lookahead.BehindArguments.TheVariants as past
use Rattle.expression_parser.specs.declared.statement_parser.lookahead.BehindWith.{BehindWith}
use Rattle.expression_parser.specs.declared.statement_parser.lookahead.BehindWith.TheVariants as further
use Rattle.expression_parser.specs.statement_parser.Starting.{statement_start, behind_designator, behind_arguments, behind_with, ends_arms}
use Rattle.expression_parser.specs.statement_parser.Chains.{Chain, chain_at}

-- ---- labels

unfoldable pub label_end_by : Bool → ℕ → Reads
label_end_by true d ts = made p.label_range (ask (q.word k.Dots) ∷ simple_at (inside d) ∷ []) ts
label_end_by false d ts = Ok (of p.single_label [], ts)

abbrev pub label_end_at : ℕ → Reads
label_end_at d ts = label_end_by (begins k.Dots ts) d ts

unfoldable pub label_at : ℕ → Reads
label_at d ts = made p.label (simple_at (inside d) ∷ label_end_at d ∷ []) ts

abbrev pub labels : ℕ → Chain Parsed
labels d = record { follows = begins k.Comma; item = λ ts. label_at d (tail_of ts); join = λ x y. of p.next_label (word ∷ x ∷ y ∷ []); last = λ ts. Ok (of p.no_labels [], ts) }

-- ---- what begins with a designator

unfoldable pub statement_end_by : BehindArguments → Reads
statement_end_by past.Becomes ts = leaves p.assigned_cast ts
statement_end_by past.Caret ts = leaves p.dereferenced_cast ts
statement_end_by past.Dot ts = leaves p.selected_cast ts
statement_end_by past.Bracket ts = leaves p.indexed_cast ts
statement_end_by past.Nothing ts = Ok (of p.no_cast [], ts)

abbrev pub statement_end_at : Reads
statement_end_at ts = statement_end_by (behind_arguments (front_kind ts)) ts

unfoldable pub called_at : ℕ → Reads
called_at d ts = made p.called (arguments_at (inside d) ∷ statement_end_at ∷ []) ts

unfoldable pub after_by : BehindDesignator → ℕ → Reads
after_by behind.Becomes d ts = made p.assignment (ask (q.word k.Becomes) ∷ expression_at (inside d) ∷ []) ts
after_by behind.Arguments d ts = called_at d ts
after_by behind.Nothing d ts = Ok (of p.no_arguments [], ts)

abbrev pub after_at : ℕ → Reads
after_at d ts = after_by (behind_designator (front_kind ts)) d ts

-- a statement that begins with the designator, and goes on as was read
abbrev pub named_with : Designator → Result (Parsed × List Lexeme) (Fault Production) → Result (Parsed × List Lexeme) (Fault Production)
named_with d read = read >>= λ y. Ok (named_of d y.0, y.1)

unfoldable pub named_statement_at : ℕ → Reads
named_statement_at d ts = do
  x ← named_at (inside d) ts
  y ← after_at d x.1
  Ok (of p.named_statement (x.0.0 ∷ x.0.1 ∷ y.0 ∷ []), y.1)

unfoldable pub designator_at : ℕ → Reads
designator_at d ts = do
  x ← named_at (inside d) ts
  Ok (of p.designator (x.0.0 ∷ x.0.1 ∷ []), x.1)

-- ---- constructs. What is open may hold the readers of one construct less.

unfoldable pub compound_at : Inside → Reads
compound_at b ts = opened p.compound (λ e l. ask (q.mark k.Begin) ∷ l n.statements ∷ ask (q.word k.End) ∷ []) b ts

unfoldable pub if_at : Inside → Reads
if_at b ts = opened p.if_statement (λ e l. ask (q.mark k.If) ∷ l n.expression ∷ ask (q.word k.Then) ∷ l n.statement ∷ l n.else_part ∷ []) b ts

unfoldable pub case_at : Inside → Reads
case_at b ts = opened p.case_statement (λ e l. ask (q.mark k.Case) ∷ l n.expression ∷ ask (q.word k.Of) ∷ l n.arm ∷ l n.more_arms ∷ l n.case_else ∷ ask (q.word k.End) ∷ []) b ts

unfoldable pub while_at : Inside → Reads
while_at b ts = opened p.while_statement (λ e l. ask (q.mark k.While) ∷ l n.expression ∷ ask (q.word k.Do) ∷ l n.statement ∷ []) b ts

unfoldable pub repeat_at : Inside → Reads
repeat_at b ts = opened p.repeat_statement (λ e l. ask (q.mark k.Repeat) ∷ l n.statements ∷ ask (q.word k.Until) ∷ l n.expression ∷ []) b ts

unfoldable pub for_at : Inside → Reads
for_at b ts = opened p.for_statement (λ e l. ask (q.mark k.For) ∷ name_at ∷ ask (q.word k.Becomes) ∷ l n.expression ∷ ask q.direction ∷ l n.expression ∷ ask (q.word k.Do) ∷ l n.statement ∷ []) b ts

unfoldable pub with_at : Inside → Reads
with_at b ts = opened p.with_statement (λ e l. ask (q.mark k.With) ∷ l n.designator ∷ l n.with_rest ∷ []) b ts

unfoldable pub statement_by : StatementStart → ℕ → Inside → Reads
statement_by start.Compound d b ts = made p.compound_statement (compound_at b ∷ []) ts
statement_by start.If d b ts = if_at b ts
statement_by start.Case d b ts = case_at b ts
statement_by start.While d b ts = while_at b ts
statement_by start.Repeat d b ts = repeat_at b ts
statement_by start.For d b ts = for_at b ts
statement_by start.With d b ts = with_at b ts
statement_by start.Goto d b ts = leaves p.goto_statement ts
statement_by start.Inline d b ts = leaves p.inline_statement ts
statement_by start.Named d b ts = named_statement_at d ts
statement_by start.Nothing d b ts = Ok (of p.empty_statement [], ts)

abbrev pub statement_at : ℕ → Inside → Reads
statement_at d b ts = statement_by (statement_start (front_kind ts)) d b ts

-- ---- what stands in them

abbrev pub more_statements : ℕ → Inside → Chain Parsed
more_statements d b = record { follows = begins k.Semicolon; item = λ ts. statement_at d b (tail_of ts); join = λ x y. of p.next_statement (word ∷ x ∷ y ∷ []); last = λ ts. Ok (of p.no_statements [], ts) }

unfoldable pub statements_at : ℕ → Inside → Reads
statements_at d b ts = made p.statements (statement_at d b ∷ chain_at (more_statements d b) ∷ []) ts

unfoldable pub else_by : Bool → ℕ → Inside → Reads
else_by true d b ts = made p.with_else (ask (q.word k.Else) ∷ statement_at d b ∷ []) ts
else_by false d b ts = Ok (of p.without_else [], ts)

abbrev pub else_at : ℕ → Inside → Reads
else_at d b ts = else_by (begins k.Else ts) d b ts

unfoldable pub case_else_by : Bool → ℕ → Inside → Reads
case_else_by true d b ts = made p.case_else (ask (q.word k.Else) ∷ statements_at d b ∷ []) ts
case_else_by false d b ts = Ok (of p.no_case_else [], ts)

abbrev pub case_else_at : ℕ → Inside → Reads
case_else_at d b ts = case_else_by (begins k.Else ts) d b ts

unfoldable pub arm_at : ℕ → Inside → Reads
arm_at d b ts = made p.arm (label_at d ∷ chain_at (labels d) ∷ ask (q.word k.Colon) ∷ statement_at d b ∷ []) ts

-- whether one more arm stands behind a semicolon
abbrev pub arm_follows : List Lexeme → Bool
arm_follows ts = begins k.Semicolon ts && not (ends_arms (front_kind (tail_of ts)))

unfoldable pub arms_end_by : Bool → Reads
arms_end_by true ts = Ok (arms_end true, tail_of ts)
arms_end_by false ts = Ok (arms_end false, ts)

abbrev pub arms_end_at : Reads
arms_end_at ts = arms_end_by (begins k.Semicolon ts) ts

abbrev pub more_arms : ℕ → Inside → Chain Parsed
more_arms d b = record { follows = arm_follows; item = λ ts. arm_at d b (tail_of ts); join = λ x y. of p.semicolon_arms (word ∷ of p.next_arm (x ∷ y ∷ []) ∷ []); last = arms_end_at }

unfoldable pub with_rest_by : BehindWith → ℕ → Inside → Reads
with_rest_by further.Comma d b ts = opened p.next_designator (λ e l. ask (q.word k.Comma) ∷ l n.designator ∷ l n.with_rest ∷ []) b ts
with_rest_by further.Do d b ts = made p.with_body (ask (q.word k.Do) ∷ statement_at d b ∷ []) ts
with_rest_by further.Cast d b ts = leaves p.with_cast ts

abbrev pub with_rest_at : ℕ → Inside → Reads
with_rest_at d b ts = with_rest_by (behind_with (front_kind ts)) d b ts

-- what may stand in a construct of statements
abbrev pub statement_parts : ℕ → Inside → Part → Reads
statement_parts d b n.expression = expression_at (inside d)
statement_parts d b n.designator = designator_at d
statement_parts d b n.statement = statement_at d b
statement_parts d b n.statements = statements_at d b
statement_parts d b n.else_part = else_at d b
statement_parts d b n.arm = arm_at d b
statement_parts d b n.more_arms = chain_at (more_arms d b)
statement_parts d b n.case_else = case_else_at d b
statement_parts d b n.with_rest = with_rest_at d b
statement_parts d b m = wrong

-- the readers of what may hold fewer constructs
unfoldable pub within : ℕ → Inside
within zero = None
within (suc d) = Some (d, statement_parts d (within d))

-- a compound statement, where none may have been begun
unfoldable pub compound_by : Bool → Inside → Reads
compound_by true b ts = compound_at b ts
compound_by false b ts = wrong ts

abbrev pub whole_compound_at : ℕ → Reads
whole_compound_at d ts = compound_by (begins k.Begin ts) (within d) ts
