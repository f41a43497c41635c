-- Reading expressions from left to right.
use Rattle.std.specs.Prelude.{◌≡◌, ℕ, zero, suc, Bool, true, false, if◌then◌else◌, List, [], ◌∷◌, length, Option, Some, None, Result, Ok, Err}
use Rattle.pascal_grammar.specs.declared.kind.Kind.{Kind}
use Rattle.pascal_grammar.specs.declared.kind.Kind.TheVariants as k
use Rattle.pascal_grammar.specs.declared.lexeme.Position.{Position}
use Rattle.pascal_grammar.specs.declared.lexeme.Lexeme.{Lexeme}
use Rattle.pascal_grammar.specs.declared.operator.Relator.{Relator}
use Rattle.pascal_grammar.specs.declared.operator.Adder.{Adder}
use Rattle.pascal_grammar.specs.declared.operator.Multiplier.{Multiplier}
use Rattle.pascal_grammar.specs.declared.operator.Sign.{Sign}
use Rattle.pascal_grammar.specs.Operators.{relator_of, adder_of, multiplier_of, sign_of}
use Rattle.pascal_grammar.specs.Asked.{same, is_name}
use Rattle.pascal_grammar.specs.Asked as q
use Rattle.pascal_grammar.specs.Lexemes.{kind_of, front_kind}
use Rattle.pascal_grammar.specs.Lexemes as v
use Rattle.pascal_grammar.specs.Parts.{Part}
use Rattle.pascal_grammar.specs.Parts as n
use Rattle.pascal_grammar.specs.Productions.{Production}
use Rattle.pascal_grammar.specs.Productions as p
use Rattle.ll1_grammar.specs.Grammar.{leaf}
use Rattle.ll1_grammar.specs.Readers.{Fault, Syntax, LeftOut, TooDeep, ◌>>=◌, made, opened, enter}
use Rattle.syntax_tree.specs.declared.expression.PlacedSign.{PlacedSign}
use Rattle.syntax_tree.specs.Expressions.{Parsed, of, word, signs}
use Rattle.expression_parser.specs.declared.lookahead.SelectorStart.{SelectorStart}
use Rattle.expression_parser.specs.declared.lookahead.SelectorStart.TheVariants as start
use Rattle.expression_parser.specs.declared.lookahead.FactorStart.{FactorStart}
use Rattle.expression_parser.specs.declared.lookahead.FactorStart.TheVariants as factor
use Rattle.expression_parser.specs.declared.lookahead.ClosedStart.{ClosedStart}
use Rattle.expression_parser.specs.declared.lookahead.ClosedStart.TheVariants as closed
use Rattle.expression_parser.specs.declared.lookahead.PlainStart.{PlainStart}
use Rattle.expression_parser.specs.declared.lookahead.PlainStart.TheVariants as plain
use Rattle.expression_parser.specs.Gives.{Reads, Inside, ask, name_at}
use Rattle.expression_parser.specs.Starting.{selector_start, factor_start, closed_start, plain_start}

-- ---- what stands in front

abbrev pub tail_of : List Lexeme → List Lexeme
tail_of [] = []
tail_of (x ∷ xs) = xs

abbrev pub begins : Kind → List Lexeme → Bool
begins want [] = false
begins want (x ∷ xs) = same (kind_of x) want

abbrev pub placed : {A : Type 0} → Option A → Position → Option (A × Position)
placed (Some a) here = Some (a, here)
placed None here = None

abbrev pub relator_at : List Lexeme → Option (Relator × Position)
relator_at [] = None
relator_at (x ∷ xs) = placed (relator_of (kind_of x)) x.position

abbrev pub adder_at : List Lexeme → Option (Adder × Position)
adder_at [] = None
adder_at (x ∷ xs) = placed (adder_of (kind_of x)) x.position

abbrev pub multiplier_at : List Lexeme → Option (Multiplier × Position)
multiplier_at [] = None
multiplier_at (x ∷ xs) = placed (multiplier_of (kind_of x)) x.position

abbrev pub placed_sign : Option Sign → Position → Option PlacedSign
placed_sign (Some s) here = Some (record { sign = s; position = here })
placed_sign None here = None

abbrev pub sign_found : List Lexeme → Option PlacedSign
sign_found [] = None
sign_found (x ∷ xs) = placed_sign (sign_of (kind_of x)) x.position

-- what stands behind a sign that was found
abbrev pub behind_sign : Option PlacedSign → List Lexeme → List Lexeme
behind_sign (Some s) ts = tail_of ts
behind_sign None ts = ts

abbrev pub wrong : Reads
wrong ts = Err (Syntax (length ts))

abbrev pub leaves : Production → Reads
leaves q ts = Err (LeftOut q (length ts))

-- ---- lists behind a separator

-- as many items as stand behind a separator, where the number is no less than that of the lexemes
unfoldable pub list_from : Kind → Production → Production → Reads → ℕ → Reads
list_from sep none after item zero ts = Ok (of none [], ts)
list_from sep none after item (suc i) ts = if begins sep ts then (item (tail_of ts) >>= λ x. list_from sep none after item i x.1 >>= λ y. Ok (of after (word ∷ x.0 ∷ y.0 ∷ []), y.1)) else Ok (of none [], ts)

-- ---- the grammar. What is open may hold the readers of one construct less.

unfoldable pub optional_sign_at : Option PlacedSign → Reads
optional_sign_at None ts = Ok (signs None, ts)
optional_sign_at (Some s) ts = Ok (signs (Some s), tail_of ts)

abbrev pub sign_at : Reads
sign_at ts = optional_sign_at (sign_found ts) ts

unfoldable pub field_at : Inside → Reads
field_at b ts = made p.more_selectors (opened p.field (λ e l. ask (q.mark k.Dot) ∷ name_at ∷ l n.selectors ∷ []) b ∷ []) ts

unfoldable pub index_at : Inside → Reads
index_at b ts = made p.more_selectors (opened p.index (λ e l. ask (q.mark k.OpenBracket) ∷ l n.expression ∷ l n.more_indexes ∷ []) b ∷ []) ts

unfoldable pub dereference_at : Inside → Reads
dereference_at b ts = made p.more_selectors (opened p.dereference (λ e l. ask (q.mark k.Caret) ∷ l n.selectors ∷ []) b ∷ []) ts

abbrev pub selector_by : SelectorStart → Inside → Reads
selector_by start.Field b ts = field_at b ts
selector_by start.Index b ts = index_at b ts
selector_by start.Dereference b ts = dereference_at b ts

unfoldable pub selectors_by : Option SelectorStart → Inside → Reads
selectors_by (Some s) b ts = selector_by s b ts
selectors_by None b ts = Ok (of p.no_selectors [], ts)

abbrev pub selectors_at : Inside → Reads
selectors_at b ts = selectors_by (selector_start (front_kind ts)) b ts

unfoldable pub more_indexes_by : Bool → Inside → Reads
more_indexes_by true b ts = opened p.next_index (λ e l. ask (q.mark k.Comma) ∷ l n.expression ∷ l n.more_indexes ∷ []) b ts
more_indexes_by false b ts = made p.last_index (ask (q.word k.CloseBracket) ∷ selectors_at b ∷ []) ts

abbrev pub more_indexes_at : Inside → Reads
more_indexes_at b ts = more_indexes_by (begins k.Comma ts) b ts

-- a name and its selectors
unfoldable pub named_at : Inside → List Lexeme → Result ((Parsed × Parsed) × List Lexeme) (Fault Production)
named_at b ts = do
  i ← name_at ts
  s ← selectors_at b i.1
  Ok ((i.0, s.0), s.1)

unfoldable pub group_at : Inside → Reads
group_at b ts = opened p.group_factor (λ e l. ask (q.mark k.Open) ∷ l n.expression ∷ ask (q.word k.Close) ∷ []) b ts

unfoldable pub negation_at : Inside → Reads
negation_at b ts = opened p.negation (λ e l. ask (q.mark k.Not) ∷ l n.factor ∷ []) b ts

unfoldable pub set_at : Inside → Reads
set_at b ts = opened p.set_constructor (λ e l. ask (q.mark k.OpenBracket) ∷ l n.elements ∷ ask (q.word k.CloseBracket) ∷ []) b ts

unfoldable pub arguments_at : Inside → Reads
arguments_at b ts = opened p.arguments (λ e l. ask (q.word k.Open) ∷ l n.argument ∷ l n.more_arguments ∷ ask (q.word k.Close) ∷ []) b ts

unfoldable pub argument_end_by : Option SelectorStart → Reads
argument_end_by (Some start.Dereference) ts = leaves p.caret_cast ts
argument_end_by (Some start.Field) ts = leaves p.dot_cast ts
argument_end_by (Some start.Index) ts = leaves p.bracket_cast ts
argument_end_by None ts = Ok (of p.argument_end [], ts)

abbrev pub argument_end_at : Reads
argument_end_at ts = argument_end_by (selector_start (front_kind ts)) ts

unfoldable pub call_by : Bool → Inside → Reads
call_by true b ts = made p.call (arguments_at b ∷ argument_end_at ∷ []) ts
call_by false b ts = Ok (of p.no_call [], ts)

abbrev pub call_at : Inside → Reads
call_at b ts = call_by (begins k.Open ts) b ts

unfoldable pub named_factor_at : Inside → Reads
named_factor_at b ts = do
  d ← named_at b ts
  c ← call_at b d.1
  Ok (of p.named_factor (d.0.0 ∷ d.0.1 ∷ c.0 ∷ []), c.1)

unfoldable pub control_at : Reads
control_at ts = made p.control (ask (q.mark k.Caret) ∷ ask q.letter ∷ []) ts

unfoldable pub plain_by : PlainStart → Reads
plain_by plain.Number ts = made p.number (ask q.number ∷ []) ts
plain_by plain.Text ts = made p.text (ask q.text ∷ []) ts
plain_by plain.Nil ts = made p.nil (ask (q.mark k.Nil) ∷ []) ts
plain_by plain.Real ts = leaves p.real ts
plain_by plain.Address ts = leaves p.address ts
plain_by plain.Nothing ts = wrong ts

abbrev pub plain_at : Reads
plain_at ts = plain_by (plain_start (front_kind ts)) ts

unfoldable pub closed_by : ClosedStart → PlainStart → Inside → Reads
closed_by closed.Negation s b ts = negation_at b ts
closed_by closed.Set s b ts = set_at b ts
closed_by closed.Plain s b ts = plain_by s ts

abbrev pub closed_factor_at : Inside → Reads
closed_factor_at b ts = closed_by (closed_start (front_kind ts)) (plain_start (front_kind ts)) b ts

-- a factor of its own kind
abbrev pub wrapped : Reads → Reads
wrapped r ts = made p.bare_factor (made p.closed_factor (r ∷ []) ∷ []) ts

unfoldable pub factor_by : FactorStart → Inside → Reads
factor_by factor.Group b ts = group_at b ts
factor_by factor.Control b ts = made p.bare_factor (control_at ∷ []) ts
factor_by factor.Named b ts = made p.bare_factor (named_factor_at b ∷ []) ts
factor_by factor.Closed b ts = wrapped (closed_factor_at b) ts

abbrev pub factor_at : Inside → Reads
factor_at b ts = factor_by (factor_start (front_kind ts)) b ts

unfoldable pub factors_by : Option (Multiplier × Position) → Bool → Inside → Reads
factors_by (Some x) slash b ts = do
  l ← enter b ts
  s ← sign_at (tail_of ts)
  f ← l.1 n.factor s.1
  fs ← l.1 n.factors f.1
  Ok (of p.more_factors (of p.multiplied (leaf (v.multiplier x.0 x.1) ∷ s.0 ∷ f.0 ∷ fs.0 ∷ []) ∷ []), fs.1)
factors_by None true b ts = leaves p.divided ts
factors_by None false b ts = Ok (of p.no_factors [], ts)

abbrev pub factors_at : Inside → Reads
factors_at b ts = factors_by (multiplier_at ts) (begins k.Slash ts) b ts

unfoldable pub term_at : Inside → Reads
term_at b ts = made p.term (factor_at b ∷ factors_at b ∷ []) ts

unfoldable pub terms_by : Option (Adder × Position) → Inside → Reads
terms_by (Some x) b ts = do
  l ← enter b ts
  s ← sign_at (tail_of ts)
  t ← l.1 n.term s.1
  us ← l.1 n.terms t.1
  Ok (of p.more_terms (of p.added (leaf (v.adder x.0 x.1) ∷ s.0 ∷ t.0 ∷ us.0 ∷ []) ∷ []), us.1)
terms_by None b ts = Ok (of p.no_terms [], ts)

abbrev pub terms_at : Inside → Reads
terms_at b ts = terms_by (adder_at ts) b ts

unfoldable pub simple_by : Option PlacedSign → Inside → Reads
simple_by (Some s) b ts = do
  t ← term_at b (tail_of ts)
  us ← terms_at b t.1
  Ok (of p.signed (leaf (v.sign s.sign s.position) ∷ t.0 ∷ us.0 ∷ []), us.1)
simple_by None b ts = made p.unsigned (term_at b ∷ terms_at b ∷ []) ts

abbrev pub simple_at : Inside → Reads
simple_at b ts = simple_by (sign_found ts) b ts

unfoldable pub relation_by : Option (Relator × Position) → Inside → Reads
relation_by (Some x) b ts = do
  u ← simple_at b (tail_of ts)
  Ok (of p.relation (leaf (v.relator x.0 x.1) ∷ u.0 ∷ []), u.1)
relation_by None b ts = Ok (of p.no_relation [], ts)

abbrev pub relation_at : Inside → Reads
relation_at b ts = relation_by (relator_at ts) b ts

unfoldable pub expression_at : Inside → Reads
expression_at b ts = made p.expression (simple_at b ∷ relation_at b ∷ []) ts

unfoldable pub element_end_by : Bool → Inside → Reads
element_end_by true b ts = made p.element_range (ask (q.word k.Dots) ∷ expression_at b ∷ []) ts
element_end_by false b ts = Ok (of p.single_element [], ts)

unfoldable pub element_at : Inside → Reads
element_at b ts = made p.element (expression_at b ∷ (λ us. element_end_by (begins k.Dots us) b us) ∷ []) ts

abbrev pub more_elements_at : Inside → Reads
more_elements_at b ts = list_from k.Comma p.no_more_elements p.next_element (element_at b) (length ts) ts

unfoldable pub elements_by : Bool → Inside → Reads
elements_by true b ts = Ok (of p.no_elements [], ts)
elements_by false b ts = made p.elements (element_at b ∷ more_elements_at b ∷ []) ts

abbrev pub elements_at : Inside → Reads
elements_at b ts = elements_by (begins k.CloseBracket ts) b ts

unfoldable pub argument_width_by : Bool → Inside → Reads
argument_width_by true b ts = made p.width (ask (q.word k.Colon) ∷ expression_at b ∷ []) ts
argument_width_by false b ts = Ok (of p.no_width [], ts)

unfoldable pub argument_at : Inside → Reads
argument_at b ts = made p.argument (expression_at b ∷ (λ us. argument_width_by (begins k.Colon us) b us) ∷ []) ts

abbrev pub more_arguments_at : Inside → Reads
more_arguments_at b ts = list_from k.Comma p.no_more_arguments p.next_argument (argument_at b) (length ts) ts

-- the first argument, and those behind it
unfoldable pub argument_list_at : Inside → List Lexeme → Result ((Parsed × Parsed) × List Lexeme) (Fault Production)
argument_list_at b ts = do
  x ← argument_at b ts
  xs ← more_arguments_at b x.1
  Ok ((x.0, xs.0), xs.1)

-- what may stand in a construct of expressions
abbrev pub expression_parts : Inside → Part → Reads
expression_parts b n.expression = expression_at b
expression_parts b n.term = term_at b
expression_parts b n.terms = terms_at b
expression_parts b n.factor = factor_at b
expression_parts b n.factors = factors_at b
expression_parts b n.selectors = selectors_at b
expression_parts b n.more_indexes = more_indexes_at b
expression_parts b n.elements = elements_at b
expression_parts b n.argument = argument_at b
expression_parts b n.more_arguments = more_arguments_at b
expression_parts b m = wrong

-- the readers of what may hold fewer constructs
unfoldable pub inside : ℕ → Inside
inside zero = None
inside (suc d) = Some (d, expression_parts (inside d))
