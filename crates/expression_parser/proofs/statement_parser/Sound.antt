-- The readers of statements meet the grammar.
use Rattle.std.proofs.Common.{◌≡◌, ℕ, zero, suc, ◌≤◌, Bool, true, false, not, ◌&&◌, if◌then◌else◌, List, [], ◌∷◌, length, Option, Some, None, Ok, refl, sym, ap, subst, ◌∙◌, arith}
use Rattle.pascal_grammar.specs.declared.kind.Kind.{Kind}
use Rattle.pascal_grammar.specs.declared.kind.Kind.TheVariants as k
use Rattle.pascal_grammar.specs.declared.lexeme.Lexeme.{Lexeme}
use Rattle.pascal_grammar.specs.Asked.{same, is_name}
use Rattle.pascal_grammar.specs.Asked as q
use Rattle.pascal_grammar.specs.Lexemes.{kind_of, front_kind}
use Rattle.pascal_grammar.specs.Parts.{Part}
use Rattle.pascal_grammar.specs.Parts as n
use Rattle.pascal_grammar.specs.Productions.{Production, allows}
use Rattle.pascal_grammar.specs.Productions as p
use Rattle.pascal_grammar.specs.Choices.{choose, choose_at_end, choose_by}
use Rattle.pascal_grammar.proofs.Somes.{joins}
use Rattle.pascal_grammar.proofs.Reading.{Reads, AreRead, asked, plain, begun, empty, left, opens, list_step}
use Rattle.ll1_grammar.specs.Grammar.{token, part}
use Rattle.ll1_grammar.specs.Readers.{made, through, ◌>>=◌}
use Rattle.syntax_tree.specs.Expressions.{of, word}
use Rattle.expression_parser.specs.Gives.{Inside, ask, name_at}
use Rattle.expression_parser.specs.Gives as g
use Rattle.expression_parser.specs.Reading.{begins, selectors_at, named_at, arguments_at, simple_at, expression_at, inside}
use Rattle.expression_parser.proofs.Shapes.{begins_is, same_kind, word_asked, second_read, pair_read}
use Rattle.expression_parser.proofs.Sound.{inside_reads, expression_reads, simple_reads, selectors_reads, arguments_reads}
use Rattle.expression_parser.specs.declared.statement_parser.lookahead.StatementStart.TheVariants as start
use Rattle.expression_parser.specs.statement_parser.Starting.{statement_start, behind_designator, behind_arguments, behind_with, ends_arms}
use Rattle.expression_parser.specs.statement_parser.Chains.{chain_from, chain_at}
use Rattle.expression_parser.specs.statement_parser.Reading.{label_end_by, label_end_at, label_at, labels, statement_end_by, statement_end_at, called_at, after_by, after_at, named_statement_at, designator_at, compound_at, if_at, case_at, while_at, repeat_at, for_at, with_at, statement_by, statement_at, more_statements, statements_at, else_by, case_else_by, arm_at, arms_end_by, more_arms, with_rest_by, with_rest_at, statement_parts, within, compound_by, whole_compound_at}
use Rattle.expression_parser.proofs.statement_parser.Steps.{Outcome, behind, made_of, two_read, arm_shape, item_step, word_step, word_known}
use Rattle.expression_parser.proofs.statement_parser.Beginning.{not_begun}

-- what the readers of fewer constructs read
abbrev pub Held : Part → Type 0
Held n.expression = Unit {0}
Held n.designator = Unit {0}
Held n.statement = Unit {0}
Held n.statements = Unit {0}
Held n.else_part = Unit {0}
Held n.arm = Unit {0}
Held n.more_arms = Unit {0}
Held n.case_else = Unit {0}
Held n.with_rest = Unit {0}
Held m = ⊥

-- the choice at a lexeme of which the kind is known
at_kind : (m : Part) (x : Lexeme) (y : Kind) (o : Option Production) → kind_of x ≡ y → choose_by m y ≡ o → choose m (Some (kind_of x)) ≡ o
at_kind m x y o e c = ap (choose_by m) e ∙ c

-- the choice of a part of one production
always_chosen : (m : Part) (o : Option Production) → choose_at_end m ≡ o → ((x : Kind) → choose_by m x ≡ o) → (h : Option Kind) → choose m h ≡ o
always_chosen m o e f None = e
always_chosen m o e f (Some x) = f x

accepted_word : (x : Lexeme) (y want : Kind) → kind_of x ≡ y → same y want ≡ true → same (kind_of x) want ≡ true
accepted_word x y want e s = ap (λ (z : Kind). same z want) e ∙ s

-- a word that is not in front chooses what may be absent
absent : (m : Part) (want : Kind) (x : Production) → choose m None ≡ Some x → ((y : Kind) → same y want ≡ false → choose_by m y ≡ Some x) → (ts : List Lexeme) → begins want ts ≡ false → choose m (front_kind ts) ≡ Some x
absent m want x none other [] e = none
absent m want x none other (t ∷ ts) e = other (kind_of t) e

present : (m : Part) (want : Kind) (x : Production) → choose_by m want ≡ Some x → (ts : List Lexeme) → begins want ts ≡ true → choose m (front_kind ts) ≡ Some x
present m want x c ts e = let i = begins_is want ts e in subst (λ (us : List Lexeme). choose m (front_kind us) ≡ Some x) (sym i.2) (at_kind m i.0 want _ i.3 c)

-- ---- labels

no_dots : (y : Kind) → same y k.Dots ≡ false → choose_by n.label_end y ≡ Some p.single_label
no_dots k.Dots e = absurd cc
no_dots y e = refl

no_label_comma : (y : Kind) → same y k.Comma ≡ false → choose_by n.more_labels y ≡ Some p.no_labels
no_label_comma k.Comma e = absurd cc
no_label_comma y e = refl

no_semicolon : (y : Kind) → same y k.Semicolon ≡ false → choose_by n.more_statements y ≡ Some p.no_statements
no_semicolon k.Semicolon e = absurd cc
no_semicolon y e = refl

no_arms_semicolon : (y : Kind) → same y k.Semicolon ≡ false → choose_by n.more_arms y ≡ Some p.no_semicolon
no_arms_semicolon k.Semicolon e = absurd cc
no_arms_semicolon y e = refl

no_else : (y : Kind) → same y k.Else ≡ false → choose_by n.else_part y ≡ Some p.without_else
no_else k.Else e = absurd cc
no_else y e = refl

no_case_else : (y : Kind) → same y k.Else ≡ false → choose_by n.case_else y ≡ Some p.no_case_else
no_case_else k.Else e = absurd cc
no_case_else y e = refl

allows_none : (ts : List Lexeme) → begins k.Else ts ≡ false → allows p.without_else (front_kind ts) ≡ true
allows_none [] e = refl
allows_none (x ∷ ts) e = by (kind_of x) e
  where
    by : (y : Kind) → same y k.Else ≡ false → allows p.without_else (Some y) ≡ true
    by k.Else e = absurd cc
    by y e = refl

-- no arm at all
abbrev no_arms_at : g.Reads
no_arms_at ts = Ok (of p.no_arms [], ts)

arm_begins : (ts : List Lexeme) (c : Bool) → ends_arms (front_kind ts) ≡ c → choose n.next_arms (front_kind ts) ≡ (if c then Some p.no_arms else Some p.next_arm)
arm_begins [] true e = absurd cc
arm_begins [] false e = refl
arm_begins (x ∷ ts) c e = by (kind_of x) c e
  where
    by : (y : Kind) (c : Bool) → ends_arms (Some y) ≡ c → choose_by n.next_arms y ≡ (if c then Some p.no_arms else Some p.next_arm)
    by k.Else true e = refl
    by k.Else false e = absurd cc
    by k.End true e = refl
    by k.End false e = absurd cc
    by y true e = absurd cc
    by y false e = refl

module _ (d : ℕ) where
  expression : (ts : List Lexeme) → Reads n.expression d ts (expression_at (inside d) ts)
  expression ts = expression_reads d (inside d) (inside_reads d) ts

  simple : (ts : List Lexeme) → Reads n.simple d ts (simple_at (inside d) ts)
  simple ts = simple_reads d (inside d) (inside_reads d) ts

  selectors : (ts : List Lexeme) → Reads n.selectors d ts (selectors_at (inside d) ts)
  selectors ts = selectors_reads d (inside d) (inside_reads d) ts

  label_end_with : (ts : List Lexeme) (c : Bool) → begins k.Dots ts ≡ c → Reads n.label_end d ts (label_end_by c d ts)
  unfolding label_end_by
  label_end_with ts true e = plain p.label_range d ts (present n.label_end k.Dots p.label_range refl ts e) refl refl refl (ask (q.word k.Dots) ∷ simple_at (inside d) ∷ []) (asked (q.word k.Dots) refl d, (simple, tt))
  label_end_with ts false e = empty p.single_label d ts (absent n.label_end k.Dots p.single_label refl no_dots ts e) refl refl refl refl

  pub label_reads : (ts : List Lexeme) → Reads n.label d ts (label_at d ts)
  unfolding label_at
  label_reads ts = plain p.label d ts (always_chosen n.label (Some p.label) refl (λ x. refl) (front_kind ts)) refl refl refl (simple_at (inside d) ∷ label_end_at d ∷ []) (simple, ((λ us. label_end_with us (begins k.Dots us) refl), tt))

  labels_end : (ts : List Lexeme) → begins k.Comma ts ≡ false → Reads n.more_labels d ts (Ok (of p.no_labels [], ts))
  labels_end ts e = empty p.no_labels d ts (absent n.more_labels k.Comma p.no_labels refl no_label_comma ts e) refl refl refl refl

  labels_from : (i : ℕ) (ts : List Lexeme) → length ts ≤ i → Reads n.more_labels d ts (chain_from (labels d) i ts)
  unfolding chain_from
  labels_from zero [] l = labels_end [] refl
  labels_from zero (x ∷ ts) l = absurd (omega arith)
  labels_from (suc i) [] l = labels_end [] refl
  labels_from (suc i) (x ∷ ts) l = by (begins k.Comma (x ∷ ts)) refl (λ us m. labels_from i us m)
    where
      by : (c : Bool) → begins k.Comma (x ∷ ts) ≡ c → ((us : List Lexeme) → length us ≤ i → Reads n.more_labels d us (chain_from (labels d) i us))
          → Reads n.more_labels d (x ∷ ts) (if c then (label_at d ts >>= λ y. chain_from (labels d) i y.1 >>= λ z. Ok (of p.next_label (word ∷ y.0 ∷ z.0 ∷ []), z.1)) else Ok (of p.no_labels [], x ∷ ts))
      by false e more = labels_end (x ∷ ts) e
      by true e more =
          let is : kind_of x ≡ k.Comma = same_kind x k.Comma e in
          subst (λ (r : _). Reads n.more_labels d (x ∷ ts) r) (sym (second_read p.next_label (ask (q.word k.Comma)) (label_at d) (chain_from (labels d) i) word (x ∷ ts) ts (word_asked k.Comma x ts e)))
          (list_step p.next_label k.Comma n.label n.more_labels refl (joins p.next_label) refl refl refl d x ts (at_kind n.more_labels x k.Comma _ is refl) e (label_at d) (chain_from (labels d) i) label_reads (λ us m. more us (let k : length (x ∷ ts) ≤ suc i = l in omega arith)))

  labels_read : (ts : List Lexeme) → Reads n.more_labels d ts (chain_at (labels d) ts)
  labels_read ts = labels_from (length ts) ts (omega arith)

  -- ---- what begins with a designator

  statement_end_by_kind : (x : Lexeme) (ts : List Lexeme) (y : Kind) → kind_of x ≡ y → Reads n.statement_argument_end d (x ∷ ts) (statement_end_by (behind_arguments (Some y)) (x ∷ ts))
  unfolding statement_end_by
  statement_end_by_kind x ts k.Becomes e = left p.assigned_cast d x ts (at_kind n.statement_argument_end x k.Becomes _ e refl) refl refl (q.word k.Becomes) refl (accepted_word x k.Becomes k.Becomes e refl)
  statement_end_by_kind x ts k.Caret e = left p.dereferenced_cast d x ts (at_kind n.statement_argument_end x k.Caret _ e refl) refl refl (q.word k.Caret) refl (accepted_word x k.Caret k.Caret e refl)
  statement_end_by_kind x ts k.Dot e = left p.selected_cast d x ts (at_kind n.statement_argument_end x k.Dot _ e refl) refl refl (q.word k.Dot) refl (accepted_word x k.Dot k.Dot e refl)
  statement_end_by_kind x ts k.OpenBracket e = left p.indexed_cast d x ts (at_kind n.statement_argument_end x k.OpenBracket _ e refl) refl refl (q.word k.OpenBracket) refl (accepted_word x k.OpenBracket k.OpenBracket e refl)
  statement_end_by_kind x ts y e = empty p.no_cast d (x ∷ ts) (at_kind n.statement_argument_end x y _ e refl) refl refl refl refl

  statement_end_reads : (ts : List Lexeme) → Reads n.statement_argument_end d ts (statement_end_at ts)
  unfolding statement_end_by
  statement_end_reads [] = empty p.no_cast d [] refl refl refl refl refl
  statement_end_reads (x ∷ ts) = statement_end_by_kind x ts (kind_of x) refl

  called_reads : (x : Lexeme) (ts : List Lexeme) → kind_of x ≡ k.Open → Reads n.after_designator d (x ∷ ts) (called_at d (x ∷ ts))
  unfolding called_at
  called_reads x ts e = begun p.called d (x ∷ ts) (at_kind n.after_designator x k.Open _ e refl) refl refl refl (part n.arguments) (part n.statement_argument_end ∷ []) refl (joins p.called) (arguments_at (inside d)) (statement_end_at ∷ []) (arguments_reads d (inside d) (inside_reads d) x ts e) (statement_end_reads, tt)

  after_by_kind : (x : Lexeme) (ts : List Lexeme) (y : Kind) → kind_of x ≡ y → Reads n.after_designator d (x ∷ ts) (after_by (behind_designator (Some y)) d (x ∷ ts))
  unfolding after_by
  after_by_kind x ts k.Becomes e = plain p.assignment d (x ∷ ts) (at_kind n.after_designator x k.Becomes _ e refl) refl refl refl (ask (q.word k.Becomes) ∷ expression_at (inside d) ∷ []) (asked (q.word k.Becomes) refl d, (expression, tt))
  after_by_kind x ts k.Open e = called_reads x ts e
  after_by_kind x ts y e = empty p.no_arguments d (x ∷ ts) (at_kind n.after_designator x y _ e refl) refl refl refl refl

  after_reads : (ts : List Lexeme) → Reads n.after_designator d ts (after_at d ts)
  unfolding after_by
  after_reads [] = empty p.no_arguments d [] refl refl refl refl refl
  after_reads (x ∷ ts) = after_by_kind x ts (kind_of x) refl

  named_statement_reads : (ts : List Lexeme) → choose n.statement (front_kind ts) ≡ Some p.named_statement → Reads n.statement d ts (named_statement_at d ts)
  unfolding named_statement_at named_at
  named_statement_reads ts c = subst (λ (r : _). Reads n.statement d ts r) (sym (pair_read p.named_statement name_at (selectors_at (inside d)) (after_at d) ts))
      (plain p.named_statement d ts c refl refl refl (name_at ∷ selectors_at (inside d) ∷ after_at d ∷ []) (asked q.name refl d, (selectors, (after_reads, tt))))

  designator_is : (ts : List Lexeme) → designator_at d ts ≡ made p.designator (name_at ∷ selectors_at (inside d) ∷ []) ts
  unfolding designator_at named_at
  designator_is ts = two_read p.designator name_at (selectors_at (inside d)) ts

  designator_reads : (ts : List Lexeme) → Reads n.designator d ts (designator_at d ts)
  designator_reads ts = subst (λ (r : _). Reads n.designator d ts r) (sym (designator_is ts)) (plain p.designator d ts (always_chosen n.designator (Some p.designator) refl (λ x. refl) (front_kind ts)) refl refl refl (name_at ∷ selectors_at (inside d) ∷ []) (asked q.name refl d, (selectors, tt)))

  module _ (b : Inside) (h : AreRead Held d b) where
    -- ---- constructs

    pub compound_reads : (x : Lexeme) (ts : List Lexeme) → kind_of x ≡ k.Begin → Reads n.compound d (x ∷ ts) (compound_at b (x ∷ ts))
    unfolding compound_at
    compound_reads x ts e = opens Held p.compound x ts (at_kind n.compound x k.Begin _ e refl) refl refl refl (q.mark k.Begin) (part n.statements ∷ token (q.word k.End) ∷ []) refl (joins p.compound) (accepted_word x k.Begin k.Begin e refl)
        (λ e l. l n.statements ∷ ask (q.word k.End) ∷ []) d b h (λ e l m. (m.meets n.statements tt, (asked (q.word k.End) refl e, tt)))

    if_reads : (x : Lexeme) (ts : List Lexeme) → kind_of x ≡ k.If → Reads n.statement d (x ∷ ts) (if_at b (x ∷ ts))
    unfolding if_at
    if_reads x ts e = opens Held p.if_statement x ts (at_kind n.statement x k.If _ e refl) refl refl refl (q.mark k.If) (part n.expression ∷ token (q.word k.Then) ∷ part n.statement ∷ part n.else_part ∷ []) refl (joins p.if_statement) (accepted_word x k.If k.If e refl)
        (λ e l. l n.expression ∷ ask (q.word k.Then) ∷ l n.statement ∷ l n.else_part ∷ []) d b h (λ e l m. (m.meets n.expression tt, (asked (q.word k.Then) refl e, (m.meets n.statement tt, (m.meets n.else_part tt, tt)))))

    case_reads : (x : Lexeme) (ts : List Lexeme) → kind_of x ≡ k.Case → Reads n.statement d (x ∷ ts) (case_at b (x ∷ ts))
    unfolding case_at
    case_reads x ts e = opens Held p.case_statement x ts (at_kind n.statement x k.Case _ e refl) refl refl refl (q.mark k.Case) (part n.expression ∷ token (q.word k.Of) ∷ part n.arm ∷ part n.more_arms ∷ part n.case_else ∷ token (q.word k.End) ∷ []) refl (joins p.case_statement) (accepted_word x k.Case k.Case e refl)
        (λ e l. l n.expression ∷ ask (q.word k.Of) ∷ l n.arm ∷ l n.more_arms ∷ l n.case_else ∷ ask (q.word k.End) ∷ []) d b h (λ e l m. (m.meets n.expression tt, (asked (q.word k.Of) refl e, (m.meets n.arm tt, (m.meets n.more_arms tt, (m.meets n.case_else tt, (asked (q.word k.End) refl e, tt)))))))

    while_reads : (x : Lexeme) (ts : List Lexeme) → kind_of x ≡ k.While → Reads n.statement d (x ∷ ts) (while_at b (x ∷ ts))
    unfolding while_at
    while_reads x ts e = opens Held p.while_statement x ts (at_kind n.statement x k.While _ e refl) refl refl refl (q.mark k.While) (part n.expression ∷ token (q.word k.Do) ∷ part n.statement ∷ []) refl (joins p.while_statement) (accepted_word x k.While k.While e refl)
        (λ e l. l n.expression ∷ ask (q.word k.Do) ∷ l n.statement ∷ []) d b h (λ e l m. (m.meets n.expression tt, (asked (q.word k.Do) refl e, (m.meets n.statement tt, tt))))

    repeat_reads : (x : Lexeme) (ts : List Lexeme) → kind_of x ≡ k.Repeat → Reads n.statement d (x ∷ ts) (repeat_at b (x ∷ ts))
    unfolding repeat_at
    repeat_reads x ts e = opens Held p.repeat_statement x ts (at_kind n.statement x k.Repeat _ e refl) refl refl refl (q.mark k.Repeat) (part n.statements ∷ token (q.word k.Until) ∷ part n.expression ∷ []) refl (joins p.repeat_statement) (accepted_word x k.Repeat k.Repeat e refl)
        (λ e l. l n.statements ∷ ask (q.word k.Until) ∷ l n.expression ∷ []) d b h (λ e l m. (m.meets n.statements tt, (asked (q.word k.Until) refl e, (m.meets n.expression tt, tt))))

    for_reads : (x : Lexeme) (ts : List Lexeme) → kind_of x ≡ k.For → Reads n.statement d (x ∷ ts) (for_at b (x ∷ ts))
    unfolding for_at
    for_reads x ts e = opens Held p.for_statement x ts (at_kind n.statement x k.For _ e refl) refl refl refl (q.mark k.For) (token q.name ∷ token (q.word k.Becomes) ∷ part n.expression ∷ token q.direction ∷ part n.expression ∷ token (q.word k.Do) ∷ part n.statement ∷ []) refl (joins p.for_statement) (accepted_word x k.For k.For e refl)
        (λ e l. name_at ∷ ask (q.word k.Becomes) ∷ l n.expression ∷ ask q.direction ∷ l n.expression ∷ ask (q.word k.Do) ∷ l n.statement ∷ []) d b h (λ e l m. (asked q.name refl e, (asked (q.word k.Becomes) refl e, (m.meets n.expression tt, (asked q.direction refl e, (m.meets n.expression tt, (asked (q.word k.Do) refl e, (m.meets n.statement tt, tt))))))))

    with_reads : (x : Lexeme) (ts : List Lexeme) → kind_of x ≡ k.With → Reads n.statement d (x ∷ ts) (with_at b (x ∷ ts))
    unfolding with_at
    with_reads x ts e = opens Held p.with_statement x ts (at_kind n.statement x k.With _ e refl) refl refl refl (q.mark k.With) (part n.designator ∷ part n.with_rest ∷ []) refl (joins p.with_statement) (accepted_word x k.With k.With e refl)
        (λ e l. l n.designator ∷ l n.with_rest ∷ []) d b h (λ e l m. (m.meets n.designator tt, (m.meets n.with_rest tt, tt)))

    other_statement : (x : Lexeme) (ts : List Lexeme) (y : Kind) (t : Bool) → kind_of x ≡ y → choose_by n.statement y ≡ (if t then Some p.named_statement else Some p.empty_statement)
        → Reads n.statement d (x ∷ ts) (statement_by (if t then start.Named else start.Nothing) d b (x ∷ ts))
    unfolding statement_by
    other_statement x ts y true e c = named_statement_reads (x ∷ ts) (at_kind n.statement x y _ e c)
    other_statement x ts y false e c = empty p.empty_statement d (x ∷ ts) (at_kind n.statement x y _ e c) refl refl refl refl

    statement_by_kind : (x : Lexeme) (ts : List Lexeme) (y : Kind) → kind_of x ≡ y → Reads n.statement d (x ∷ ts) (statement_by (statement_start (Some y)) d b (x ∷ ts))
    unfolding statement_by
    statement_by_kind x ts k.Begin e = begun p.compound_statement d (x ∷ ts) (at_kind n.statement x k.Begin _ e refl) refl refl refl (part n.compound) [] refl (joins p.compound_statement) (compound_at b) [] (compound_reads x ts e) tt
    statement_by_kind x ts k.If e = if_reads x ts e
    statement_by_kind x ts k.Case e = case_reads x ts e
    statement_by_kind x ts k.While e = while_reads x ts e
    statement_by_kind x ts k.Repeat e = repeat_reads x ts e
    statement_by_kind x ts k.For e = for_reads x ts e
    statement_by_kind x ts k.With e = with_reads x ts e
    statement_by_kind x ts k.Goto e = left p.goto_statement d x ts (at_kind n.statement x k.Goto _ e refl) refl refl (q.word k.Goto) refl (accepted_word x k.Goto k.Goto e refl)
    statement_by_kind x ts k.Inline e = left p.inline_statement d x ts (at_kind n.statement x k.Inline _ e refl) refl refl (q.word k.Inline) refl (accepted_word x k.Inline k.Inline e refl)
    statement_by_kind x ts y e = other_statement x ts y (is_name y) e refl

    pub statement_reads : (ts : List Lexeme) → Reads n.statement d ts (statement_at d b ts)
    unfolding statement_by
    statement_reads [] = empty p.empty_statement d [] refl refl refl refl refl
    statement_reads (x ∷ ts) = statement_by_kind x ts (kind_of x) refl

    -- ---- statements with semicolons

    statements_end : (ts : List Lexeme) → begins k.Semicolon ts ≡ false → Reads n.more_statements d ts (Ok (of p.no_statements [], ts))
    statements_end ts e = empty p.no_statements d ts (absent n.more_statements k.Semicolon p.no_statements refl no_semicolon ts e) refl refl refl refl

    statements_from : (i : ℕ) (ts : List Lexeme) → length ts ≤ i → Reads n.more_statements d ts (chain_from (more_statements d b) i ts)
    unfolding chain_from
    statements_from zero [] l = statements_end [] refl
    statements_from zero (x ∷ ts) l = absurd (omega arith)
    statements_from (suc i) [] l = statements_end [] refl
    statements_from (suc i) (x ∷ ts) l = by (begins k.Semicolon (x ∷ ts)) refl (λ us m. statements_from i us m)
      where
        by : (c : Bool) → begins k.Semicolon (x ∷ ts) ≡ c → ((us : List Lexeme) → length us ≤ i → Reads n.more_statements d us (chain_from (more_statements d b) i us))
            → Reads n.more_statements d (x ∷ ts) (if c then (statement_at d b ts >>= λ y. chain_from (more_statements d b) i y.1 >>= λ z. Ok (of p.next_statement (word ∷ y.0 ∷ z.0 ∷ []), z.1)) else Ok (of p.no_statements [], x ∷ ts))
        by false e more = statements_end (x ∷ ts) e
        by true e more =
            let is : kind_of x ≡ k.Semicolon = same_kind x k.Semicolon e in
            subst (λ (r : _). Reads n.more_statements d (x ∷ ts) r) (sym (second_read p.next_statement (ask (q.word k.Semicolon)) (statement_at d b) (chain_from (more_statements d b) i) word (x ∷ ts) ts (word_asked k.Semicolon x ts e)))
            (list_step p.next_statement k.Semicolon n.statement n.more_statements refl (joins p.next_statement) refl refl refl d x ts (at_kind n.more_statements x k.Semicolon _ is refl) e (statement_at d b) (chain_from (more_statements d b) i) statement_reads (λ us m. more us (let k : length (x ∷ ts) ≤ suc i = l in omega arith)))

    statements_reads : (ts : List Lexeme) → Reads n.statements d ts (statements_at d b ts)
    unfolding statements_at
    statements_reads ts = plain p.statements d ts (always_chosen n.statements (Some p.statements) refl (λ x. refl) (front_kind ts)) refl refl refl (statement_at d b ∷ chain_at (more_statements d b) ∷ []) (statement_reads, ((λ us. statements_from (length us) us (omega arith)), tt))

    -- ---- what stands behind else

    -- no production may stand in front of any `else`: so the word is known to stand there
    else_known : (x : Lexeme) (ts : List Lexeme) → kind_of x ≡ k.Else → Reads n.else_part d (x ∷ ts) (else_by true d b (x ∷ ts))
    unfolding else_by
    else_known x ts e = begun p.with_else d (x ∷ ts) (at_kind n.else_part x k.Else _ e refl) refl refl refl (token (q.word k.Else)) (part n.statement ∷ []) refl (joins p.with_else) (ask (q.word k.Else)) (statement_at d b ∷ []) (word_known k.Else x ts d (accepted_word x k.Else k.Else e refl)) (statement_reads, tt)

    else_with : (ts : List Lexeme) (c : Bool) → begins k.Else ts ≡ c → Reads n.else_part d ts (else_by c d b ts)
    unfolding else_by
    else_with ts true e = let i = begins_is k.Else ts e in subst (λ (us : List Lexeme). Reads n.else_part d us (else_by true d b us)) (sym i.2) (else_known i.0 i.1 i.3)
    else_with ts false e = empty p.without_else d ts (absent n.else_part k.Else p.without_else refl no_else ts e) refl refl refl (allows_none ts e)

    case_else_known : (x : Lexeme) (ts : List Lexeme) → kind_of x ≡ k.Else → Reads n.case_else d (x ∷ ts) (case_else_by true d b (x ∷ ts))
    unfolding case_else_by
    case_else_known x ts e = begun p.case_else d (x ∷ ts) (at_kind n.case_else x k.Else _ e refl) refl refl refl (token (q.word k.Else)) (part n.statements ∷ []) refl (joins p.case_else) (ask (q.word k.Else)) (statements_at d b ∷ []) (word_known k.Else x ts d (accepted_word x k.Else k.Else e refl)) (statements_reads, tt)

    case_else_with : (ts : List Lexeme) (c : Bool) → begins k.Else ts ≡ c → Reads n.case_else d ts (case_else_by c d b ts)
    unfolding case_else_by
    case_else_with ts true e = let i = begins_is k.Else ts e in subst (λ (us : List Lexeme). Reads n.case_else d us (case_else_by true d b us)) (sym i.2) (case_else_known i.0 i.1 i.3)
    case_else_with ts false e = empty p.no_case_else d ts (absent n.case_else k.Else p.no_case_else refl no_case_else ts e) refl refl refl refl

    -- ---- arms

    pub arm_reads : (ts : List Lexeme) → Reads n.arm d ts (arm_at d b ts)
    unfolding arm_at
    arm_reads ts = plain p.arm d ts (always_chosen n.arm (Some p.arm) refl (λ x. refl) (front_kind ts)) refl refl refl (label_at d ∷ chain_at (labels d) ∷ ask (q.word k.Colon) ∷ statement_at d b ∷ []) (label_reads, (labels_read, (asked (q.word k.Colon) refl d, (statement_reads, tt))))

    arms_end_with : (x : Lexeme) (ts : List Lexeme) (c : Bool) → begins k.Semicolon (x ∷ ts) ≡ c → (c ≡ true → ends_arms (front_kind ts) ≡ true) → Reads n.more_arms d (x ∷ ts) (arms_end_by c (x ∷ ts))
    unfolding arms_end_by
    arms_end_with x ts false e f = empty p.no_semicolon d (x ∷ ts) (absent n.more_arms k.Semicolon p.no_semicolon refl no_arms_semicolon (x ∷ ts) e) refl refl refl refl
    arms_end_with x ts true e f =
        let is : kind_of x ≡ k.Semicolon = same_kind x k.Semicolon e in
        let last : Reads n.next_arms d ts (no_arms_at ts) = empty p.no_arms d ts (arm_begins ts true (f refl)) refl refl refl refl in
        subst (λ (r : Outcome). Reads n.more_arms d (x ∷ ts) r) (ap (λ (r : Outcome). (r >>= λ u. through (no_arms_at ∷ []) u.1 >>= behind u.0) >>= made_of p.semicolon_arms) (word_asked k.Semicolon x ts e))
        (word_step p.semicolon_arms k.Semicolon n.next_arms refl (joins p.semicolon_arms) refl refl refl d x ts (at_kind n.more_arms x k.Semicolon _ is refl) e no_arms_at last)

    arms_from : (i : ℕ) (ts : List Lexeme) → length ts ≤ i → Reads n.more_arms d ts (chain_from (more_arms d b) i ts)
    unfolding chain_from arms_end_by
    arms_from zero [] l = empty p.no_semicolon d [] refl refl refl refl refl
    arms_from zero (x ∷ ts) l = absurd (omega arith)
    arms_from (suc i) [] l = empty p.no_semicolon d [] refl refl refl refl refl
    arms_from (suc i) (x ∷ ts) l = by (begins k.Semicolon (x ∷ ts)) refl (ends_arms (front_kind ts)) refl (λ us m. arms_from i us m)
      where
        by : (c : Bool) → begins k.Semicolon (x ∷ ts) ≡ c → (z : Bool) → ends_arms (front_kind ts) ≡ z → ((us : List Lexeme) → length us ≤ i → Reads n.more_arms d us (chain_from (more_arms d b) i us))
            → Reads n.more_arms d (x ∷ ts) (if c && not z then (arm_at d b ts >>= λ y. chain_from (more_arms d b) i y.1 >>= λ z. Ok (of p.semicolon_arms (word ∷ of p.next_arm (y.0 ∷ z.0 ∷ []) ∷ []), z.1)) else arms_end_by c (x ∷ ts))
        by false e z f more = arms_end_with x ts false e (λ a. absurd cc)
        by true e true f more = arms_end_with x ts true e (λ a. f)
        by true e false f more =
            let is : kind_of x ≡ k.Semicolon = same_kind x k.Semicolon e in
            let next = item_step p.next_arm n.arm n.more_arms refl (joins p.next_arm) refl refl refl d ts (arm_begins ts false f) (arm_at d b) (chain_from (more_arms d b) i) (arm_reads ts) (λ us m. more us (let k : length (x ∷ ts) ≤ suc i = l in omega arith)) in
            subst (λ (r : _). Reads n.more_arms d (x ∷ ts) r) (sym (arm_shape (ask (q.word k.Semicolon)) (arm_at d b) (chain_from (more_arms d b) i) word (x ∷ ts) ts (word_asked k.Semicolon x ts e)))
            (word_step p.semicolon_arms k.Semicolon n.next_arms refl (joins p.semicolon_arms) refl refl refl d x ts (at_kind n.more_arms x k.Semicolon _ is refl) e (made p.next_arm (arm_at d b ∷ chain_from (more_arms d b) i ∷ [])) next)

    -- ---- with

    with_body_reads : (ts : List Lexeme) → choose n.with_rest (front_kind ts) ≡ Some p.with_body → Reads n.with_rest d ts (made p.with_body (ask (q.word k.Do) ∷ statement_at d b ∷ []) ts)
    with_body_reads ts c = plain p.with_body d ts c refl refl refl (ask (q.word k.Do) ∷ statement_at d b ∷ []) (asked (q.word k.Do) refl d, (statement_reads, tt))

    with_rest_by_kind : (x : Lexeme) (ts : List Lexeme) (y : Kind) → kind_of x ≡ y → Reads n.with_rest d (x ∷ ts) (with_rest_by (behind_with (Some y)) d b (x ∷ ts))
    unfolding with_rest_by
    with_rest_by_kind x ts k.Comma e = opens Held p.next_designator x ts (at_kind n.with_rest x k.Comma _ e refl) refl refl refl (q.word k.Comma) (part n.designator ∷ part n.with_rest ∷ []) refl (joins p.next_designator) (accepted_word x k.Comma k.Comma e refl)
        (λ e l. l n.designator ∷ l n.with_rest ∷ []) d b h (λ e l m. (m.meets n.designator tt, (m.meets n.with_rest tt, tt)))
    with_rest_by_kind x ts k.Open e = left p.with_cast d x ts (at_kind n.with_rest x k.Open _ e refl) refl refl (q.word k.Open) refl (accepted_word x k.Open k.Open e refl)
    with_rest_by_kind x ts y e = with_body_reads (x ∷ ts) (at_kind n.with_rest x y _ e refl)

    with_rest_reads : (ts : List Lexeme) → Reads n.with_rest d ts (with_rest_at d b ts)
    unfolding with_rest_by
    with_rest_reads [] = with_body_reads [] refl
    with_rest_reads (x ∷ ts) = with_rest_by_kind x ts (kind_of x) refl

    -- each part that is held
    pub parts_read : (m : Part) → Held m → (ts : List Lexeme) → Reads m d ts (statement_parts d b m ts)
    parts_read n.expression i ts = expression ts
    parts_read n.designator i ts = designator_reads ts
    parts_read n.statement i ts = statement_reads ts
    parts_read n.statements i ts = statements_reads ts
    parts_read n.else_part i ts = else_with ts (begins k.Else ts) refl
    parts_read n.arm i ts = arm_reads ts
    parts_read n.more_arms i ts = arms_from (length ts) ts (omega arith)
    parts_read n.case_else i ts = case_else_with ts (begins k.Else ts) refl
    parts_read n.with_rest i ts = with_rest_reads ts
    parts_read m i ts = absurd i

-- the readers within each depth
pub within_reads : (d : ℕ) → AreRead Held d (within d)
unfolding within
within_reads zero = tt
within_reads (suc d) = record { depth = refl; meets = parts_read d (within d) (within_reads d) }

-- ---- what the crate reads

pub whole_statement_reads : (d : ℕ) (ts : List Lexeme) → Reads n.statement d ts (statement_at d (within d) ts)
whole_statement_reads d ts = statement_reads d (within d) (within_reads d) ts

pub whole_arm_reads : (d : ℕ) (ts : List Lexeme) → Reads n.arm d ts (arm_at d (within d) ts)
whole_arm_reads d ts = arm_reads d (within d) (within_reads d) ts

whole_compound_with : (d : ℕ) (ts : List Lexeme) (c : Bool) → begins k.Begin ts ≡ c → Reads n.compound d ts (compound_by c (within d) ts)
unfolding compound_by
whole_compound_with d ts true e =
    let i = begins_is k.Begin ts e in
    subst (λ (us : List Lexeme). Reads n.compound d us (compound_at (within d) us)) (sym i.2) (compound_reads d (within d) (within_reads d) i.0 i.1 i.3)
whole_compound_with d ts false e = not_begun d ts e

pub whole_compound_reads : (d : ℕ) (ts : List Lexeme) → Reads n.compound d ts (whole_compound_at d ts)
whole_compound_reads d ts = whole_compound_with d ts (begins k.Begin ts) refl
