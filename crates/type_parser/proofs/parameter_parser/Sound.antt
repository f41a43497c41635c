-- The readers of names, parameters and methods meet the grammar.
use Rattle.std.proofs.Common.{◌≡◌, ℕ, zero, suc, ◌≤◌, ◌<◌, Bool, true, false, if◌then◌else◌, List, [], ◌∷◌, length, Some, Ok, refl, sym, subst, arith}
use Rattle.pascal_grammar.specs.declared.kind.Kind.{Kind}
use Rattle.pascal_grammar.specs.declared.kind.Kind.TheVariants as k
use Rattle.pascal_grammar.specs.declared.lexeme.Lexeme.{Lexeme}
use Rattle.pascal_grammar.specs.Asked.{Asked, same}
use Rattle.pascal_grammar.specs.Asked as q
use Rattle.pascal_grammar.specs.Lexemes.{kind_of, front_kind}
use Rattle.pascal_grammar.specs.Parts.{Part}
use Rattle.pascal_grammar.specs.Parts as n
use Rattle.pascal_grammar.specs.Productions.{Production}
use Rattle.pascal_grammar.specs.Productions as p
use Rattle.pascal_grammar.specs.Choices.{choose, choose_by}
use Rattle.pascal_grammar.specs.Rules.{grammar}
use Rattle.pascal_grammar.proofs.Somes.{joins}
use Rattle.pascal_grammar.proofs.Tables.{Follow}
use Rattle.pascal_grammar.proofs.Reading.{Reads, asked, plain, empty, none}
use Rattle.ll1_grammar.specs.Grammar.{token, part}
use Rattle.ll1_grammar.specs.Readers.{◌>>=◌, through, made}
use Rattle.ll1_grammar.proofs.Meeting.{one, all, Meets, then_within}
use Rattle.syntax_tree.specs.Expressions.{Parsed, of}
use Rattle.expression_parser.specs.Gives.{ask, name_at}
use Rattle.expression_parser.specs.Gives as g
use Rattle.expression_parser.specs.Reading.{begins, inside}
use Rattle.expression_parser.proofs.Shorter.{IsShort}
use Rattle.expression_parser.proofs.Sound.{Held, inside_reads}
use Rattle.expression_parser.proofs.Exact.{no_longer}
use Rattle.type_parser.specs.declared.parameter_parser.lookahead.MethodStart.{MethodStart}
use Rattle.type_parser.specs.declared.parameter_parser.lookahead.MethodStart.TheVariants as method
use Rattle.type_parser.specs.parameter_parser.Chains.{chain_from}
use Rattle.type_parser.specs.parameter_parser.Starting.{method_start, is_method}
use Rattle.type_parser.specs.parameter_parser.Reading.{identifiers_at, more_identifiers_at, parameter_type_by, parameter_type_at, result_type_by, result_type_at, result_by, result_at, group_type_by, group_type_at, group_by, group_at, more_groups_at, parameters_by, parameters_at, method_header_by, method_header_at, virtual_by, virtual_at, method_at, begins_method, methods, methods_at}
use Rattle.type_parser.proofs.parameter_parser.Behind.{Outcome, at_kind, at_all, present, absent, neither, left_at, opens_at, whole_step, last_part, then_read, no_longer_met, list_reads}
use Rattle.type_parser.proofs.parameter_parser.Results.{behind_first}
use Rattle.type_parser.proofs.parameter_parser.Shapes.{three_read}

-- ---- what one lexeme chooses

no_comma : (y : Kind) → same y k.Comma ≡ false → choose_by n.more_identifiers y ≡ Some p.no_identifiers
no_comma k.Comma e = absurd cc
no_comma y e = refl

no_string : (y : Kind) → same y k.String ≡ false → choose_by n.result_type y ≡ Some p.result_type_name
no_string k.String e = absurd cc
no_string y e = refl

no_file : (y : Kind) → same y k.String ≡ false → same y k.File ≡ false → choose_by n.parameter_type y ≡ Some p.parameter_type_name
no_file k.String e f = absurd cc
no_file k.File e f = absurd cc
no_file y e f = refl

no_colon : (y : Kind) → same y k.Colon ≡ false → choose_by n.result y ≡ Some p.no_result
no_colon k.Colon e = absurd cc
no_colon y e = refl

typed : (y : Kind) → same y k.Semicolon ≡ false → same y k.Close ≡ false → choose_by n.variable_group_type y ≡ Some p.typed_group
typed k.Semicolon e f = absurd cc
typed k.Close e f = absurd cc
typed y e f = refl

no_var : (y : Kind) → same y k.Var ≡ false → choose_by n.group y ≡ Some p.value_group
no_var k.Var e = absurd cc
no_var y e = refl

no_semicolon : (y : Kind) → same y k.Semicolon ≡ false → choose_by n.more_groups y ≡ Some p.no_groups
no_semicolon k.Semicolon e = absurd cc
no_semicolon y e = refl

no_open : (y : Kind) → same y k.Open ≡ false → choose_by n.parameters y ≡ Some p.no_parameters
no_open k.Open e = absurd cc
no_open y e = refl

no_virtual : (y : Kind) → same y k.Virtual ≡ false → choose_by n.virtual y ≡ Some p.not_virtual
no_virtual k.Virtual e = absurd cc
no_virtual y e = refl

-- ---- names

module _ (d : ℕ) where
  names_end : (ts : List Lexeme) → begins k.Comma ts ≡ false → Reads n.more_identifiers d ts (Ok (of p.no_identifiers [], ts))
  names_end ts e = empty p.no_identifiers d ts (absent n.more_identifiers k.Comma (Some p.no_identifiers) refl no_comma ts e) refl refl refl refl

  pub identifiers_reads : (ts : List Lexeme) → Reads n.identifiers d ts (identifiers_at ts)
  unfolding identifiers_at
  identifiers_reads ts = plain p.identifiers d ts (at_all n.identifiers (Some p.identifiers) refl (λ x. refl) (front_kind ts)) refl refl refl (name_at ∷ more_identifiers_at ∷ [])
      (asked q.name refl d, ((λ us. list_reads k.Comma p.no_identifiers p.next_identifier (token q.name) d name_at (asked q.name refl d) refl (joins p.next_identifier) refl refl refl refl names_end (length us) us (omega arith)), tt))

  -- ---- types and results

  parameter_type_with : (ts : List Lexeme) (b c : Bool) → begins k.String ts ≡ b → begins k.File ts ≡ c → Reads n.parameter_type d ts (parameter_type_by b c ts)
  unfolding parameter_type_by
  parameter_type_with ts true c e f = plain p.parameter_string d ts (present n.parameter_type k.String p.parameter_string refl ts e) refl refl refl (ask (q.mark k.String) ∷ []) (asked (q.mark k.String) refl d, tt)
  parameter_type_with ts false true e f = left_at p.parameter_file k.File refl refl refl refl d ts f
  parameter_type_with ts false false e f = plain p.parameter_type_name d ts (neither n.parameter_type k.String k.File (Some p.parameter_type_name) refl no_file ts e f) refl refl refl (name_at ∷ []) (asked q.name refl d, tt)

  pub parameter_type_reads : (ts : List Lexeme) → Reads n.parameter_type d ts (parameter_type_at ts)
  parameter_type_reads ts = parameter_type_with ts (begins k.String ts) (begins k.File ts) refl refl

  result_type_with : (ts : List Lexeme) (b : Bool) → begins k.String ts ≡ b → Reads n.result_type d ts (result_type_by b ts)
  unfolding result_type_by
  result_type_with ts true e = plain p.result_string d ts (present n.result_type k.String p.result_string refl ts e) refl refl refl (ask (q.mark k.String) ∷ []) (asked (q.mark k.String) refl d, tt)
  result_type_with ts false e = plain p.result_type_name d ts (absent n.result_type k.String (Some p.result_type_name) refl no_string ts e) refl refl refl (name_at ∷ []) (asked q.name refl d, tt)

  pub result_type_reads : (ts : List Lexeme) → Reads n.result_type d ts (result_type_at ts)
  result_type_reads ts = result_type_with ts (begins k.String ts) refl

  result_with : (ts : List Lexeme) (b : Bool) → begins k.Colon ts ≡ b → Reads n.result d ts (result_by b ts)
  unfolding result_by
  result_with ts true e = plain p.result d ts (present n.result k.Colon p.result refl ts e) refl refl refl (ask (q.word k.Colon) ∷ result_type_at ∷ []) (asked (q.word k.Colon) refl d, (result_type_reads, tt))
  result_with ts false e = empty p.no_result d ts (absent n.result k.Colon (Some p.no_result) refl no_colon ts e) refl refl refl refl

  pub result_reads : (ts : List Lexeme) → Reads n.result d ts (result_at ts)
  result_reads ts = result_with ts (begins k.Colon ts) refl

  -- ---- parameters

  group_type_with : (ts : List Lexeme) (b c : Bool) → begins k.Semicolon ts ≡ b → begins k.Close ts ≡ c → Reads n.variable_group_type d ts (group_type_by b c ts)
  unfolding group_type_by
  group_type_with ts true c e f = left_at p.untyped_before_group k.Semicolon refl refl refl refl d ts e
  group_type_with ts false true e f = left_at p.untyped_last k.Close refl refl refl refl d ts f
  group_type_with ts false false e f = plain p.typed_group d ts (neither n.variable_group_type k.Semicolon k.Close (Some p.typed_group) refl typed ts e f) refl refl refl (ask (q.word k.Colon) ∷ parameter_type_at ∷ []) (asked (q.word k.Colon) refl d, (parameter_type_reads, tt))

  group_type_reads : (ts : List Lexeme) → Reads n.variable_group_type d ts (group_type_at ts)
  group_type_reads ts = group_type_with ts (begins k.Semicolon ts) (begins k.Close ts) refl refl

  group_with : (ts : List Lexeme) (b : Bool) → begins k.Var ts ≡ b → Reads n.group d ts (group_by b ts)
  unfolding group_by
  group_with ts true e = plain p.variable_group d ts (present n.group k.Var p.variable_group refl ts e) refl refl refl (ask (q.mark k.Var) ∷ identifiers_at ∷ group_type_at ∷ []) (asked (q.mark k.Var) refl d, (identifiers_reads, (group_type_reads, tt)))
  group_with ts false e = plain p.value_group d ts (absent n.group k.Var (Some p.value_group) refl no_var ts e) refl refl refl (identifiers_at ∷ ask (q.word k.Colon) ∷ parameter_type_at ∷ []) (identifiers_reads, (asked (q.word k.Colon) refl d, (parameter_type_reads, tt)))

  group_reads : (ts : List Lexeme) → Reads n.group d ts (group_at ts)
  group_reads ts = group_with ts (begins k.Var ts) refl

  groups_end : (ts : List Lexeme) → begins k.Semicolon ts ≡ false → Reads n.more_groups d ts (Ok (of p.no_groups [], ts))
  groups_end ts e = empty p.no_groups d ts (absent n.more_groups k.Semicolon (Some p.no_groups) refl no_semicolon ts e) refl refl refl refl

  more_groups_reads : (ts : List Lexeme) → Reads n.more_groups d ts (more_groups_at ts)
  more_groups_reads ts = list_reads k.Semicolon p.no_groups p.next_group (part n.group) d group_at group_reads refl (joins p.next_group) refl refl refl refl groups_end (length ts) ts (omega arith)

  virtual_with : (ts : List Lexeme) (b : Bool) → begins k.Virtual ts ≡ b → Reads n.virtual d ts (virtual_by b ts)
  unfolding virtual_by
  virtual_with ts true e = plain p.virtual d ts (present n.virtual k.Virtual p.virtual refl ts e) refl refl refl (ask (q.word k.Virtual) ∷ ask (q.word k.Semicolon) ∷ []) (asked (q.word k.Virtual) refl d, (asked (q.word k.Semicolon) refl d, tt))
  virtual_with ts false e = empty p.not_virtual d ts (absent n.virtual k.Virtual (Some p.not_virtual) refl no_virtual ts e) refl refl refl refl

  virtual_reads : (ts : List Lexeme) → Reads n.virtual d ts (virtual_at ts)
  virtual_reads ts = virtual_with ts (begins k.Virtual ts) refl

parameters_with : (d : ℕ) (ts : List Lexeme) (b : Bool) → begins k.Open ts ≡ b → Reads n.parameters d ts (parameters_by b (inside d) ts)
unfolding parameters_by
parameters_with d ts true e = opens_at Held p.parameters k.Open (q.word k.Open) refl refl refl refl refl (part n.group ∷ part n.more_groups ∷ token (q.word k.Close) ∷ []) refl (joins p.parameters)
    (λ e l. group_at ∷ more_groups_at ∷ ask (q.word k.Close) ∷ []) d (inside d) (inside_reads d) (λ e l m. (group_reads e, (more_groups_reads e, (asked (q.word k.Close) refl e, tt)))) ts e
parameters_with d ts false e = empty p.no_parameters d ts (absent n.parameters k.Open (Some p.no_parameters) refl no_open ts e) refl refl refl refl

pub parameters_reads : (d : ℕ) (ts : List Lexeme) → Reads n.parameters d ts (parameters_at (inside d) ts)
parameters_reads d ts = parameters_with d ts (begins k.Open ts) refl

-- ---- methods

header_by_kind : (d : ℕ) (x : Lexeme) (ts : List Lexeme) (y : Kind) → kind_of x ≡ y → Reads n.method_header d (x ∷ ts) (method_header_by (method_start (Some y)) (inside d) (x ∷ ts))
unfolding method_header_by
header_by_kind d x ts k.Procedure e = opens_at Held p.method_procedure k.Procedure (q.mark k.Procedure) refl refl refl refl refl (token q.name ∷ part n.parameters ∷ []) refl (joins p.method_procedure)
    (λ e l. name_at ∷ parameters_at (inside e) ∷ []) d (inside d) (inside_reads d) (λ e l m. (asked q.name refl e, (parameters_reads e, tt))) (x ∷ ts) (rw e refl)
header_by_kind d x ts k.Function e = opens_at Held p.method_function k.Function (q.mark k.Function) refl refl refl refl refl (token q.name ∷ part n.parameters ∷ part n.result ∷ []) refl (joins p.method_function)
    (λ e l. name_at ∷ parameters_at (inside e) ∷ result_at ∷ []) d (inside d) (inside_reads d) (λ e l m. (asked q.name refl e, (parameters_reads e, (result_reads e, tt)))) (x ∷ ts) (rw e refl)
header_by_kind d x ts k.Constructor e = opens_at Held p.method_constructor k.Constructor (q.mark k.Constructor) refl refl refl refl refl (token q.name ∷ part n.parameters ∷ []) refl (joins p.method_constructor)
    (λ e l. name_at ∷ parameters_at (inside e) ∷ []) d (inside d) (inside_reads d) (λ e l m. (asked q.name refl e, (parameters_reads e, tt))) (x ∷ ts) (rw e refl)
header_by_kind d x ts k.Destructor e = opens_at Held p.method_destructor k.Destructor (q.mark k.Destructor) refl refl refl refl refl (token q.name ∷ part n.parameters ∷ []) refl (joins p.method_destructor)
    (λ e l. name_at ∷ parameters_at (inside e) ∷ []) d (inside d) (inside_reads d) (λ e l m. (asked q.name refl e, (parameters_reads e, tt))) (x ∷ ts) (rw e refl)
header_by_kind d x ts y e = none n.method_header d (x ∷ ts) (at_kind n.method_header x y _ e refl)

header_reads : (d : ℕ) (ts : List Lexeme) → Reads n.method_header d ts (method_header_at (inside d) ts)
unfolding method_header_by
header_reads d [] = none n.method_header d [] refl
header_reads d (x ∷ ts) = header_by_kind d x ts (kind_of x) refl

parameters_short : (d : ℕ) → IsShort (parameters_at (inside d))
parameters_short d ts x e = no_longer n.parameters d ts x (subst (λ (r : Outcome). Reads n.parameters d ts r) e (parameters_reads d ts))

name_short : IsShort name_at
name_short ts x e = no_longer_met (token q.name) 0 ts x (subst (λ (r : Outcome). Meets grammar Follow (one grammar Follow (token q.name)) 0 ts r) e (asked q.name refl 0 ts))

result_short : IsShort result_at
result_short ts x e = no_longer n.result 0 ts x (subst (λ (r : Outcome). Reads n.result 0 ts r) e (result_reads 0 ts))

header_shorter : (d : ℕ) (s : MethodStart) (ts : List Lexeme) (x : Parsed × List Lexeme) → method_header_by s (inside d) ts ≡ Ok x → length x.1 < length ts
unfolding method_header_by inside
header_shorter zero method.Procedure ts x e = absurd cc
header_shorter zero method.Function ts x e = absurd cc
header_shorter zero method.Constructor ts x e = absurd cc
header_shorter zero method.Destructor ts x e = absurd cc
header_shorter zero method.Nothing ts x e = absurd cc
header_shorter (suc d) method.Procedure ts x e = behind_first (q.mark k.Procedure) (name_at ∷ parameters_at (inside d) ∷ []) (name_short, (parameters_short d, tt)) p.method_procedure ts x e
header_shorter (suc d) method.Function ts x e = behind_first (q.mark k.Function) (name_at ∷ parameters_at (inside d) ∷ result_at ∷ []) (name_short, (parameters_short d, (result_short, tt))) p.method_function ts x e
header_shorter (suc d) method.Constructor ts x e = behind_first (q.mark k.Constructor) (name_at ∷ parameters_at (inside d) ∷ []) (name_short, (parameters_short d, tt)) p.method_constructor ts x e
header_shorter (suc d) method.Destructor ts x e = behind_first (q.mark k.Destructor) (name_at ∷ parameters_at (inside d) ∷ []) (name_short, (parameters_short d, tt)) p.method_destructor ts x e
header_shorter (suc d) method.Nothing ts x e = absurd cc

method_chosen : (ts : List Lexeme) (b : Bool) → begins_method ts ≡ b → choose n.methods (front_kind ts) ≡ (if b then Some p.method else Some p.no_methods)
method_chosen [] true e = absurd cc
method_chosen [] false e = refl
method_chosen (x ∷ ts) b e = by (kind_of x) b e
  where
    by : (y : Kind) (b : Bool) → is_method (method_start (Some y)) ≡ b → choose_by n.methods y ≡ (if b then Some p.method else Some p.no_methods)
    by k.Procedure true e = refl
    by k.Procedure false e = absurd cc
    by k.Function true e = refl
    by k.Function false e = absurd cc
    by k.Constructor true e = refl
    by k.Constructor false e = absurd cc
    by k.Destructor true e = refl
    by k.Destructor false e = absurd cc
    by y true e = absurd cc
    by y false e = refl

module _ (d : ℕ) where
  abbrev the_methods : ℕ → g.Reads
  the_methods i = chain_from (methods (inside d)) i

  -- the semicolon, the word, and the methods behind them
  behind_header : (i : ℕ) → ((us : List Lexeme) → length us ≤ i → Reads n.methods d us (the_methods i us)) → (us : List Lexeme) → length us ≤ i → Meets grammar Follow (all grammar Follow (token (q.word k.Semicolon) ∷ part n.virtual ∷ part n.methods ∷ []) (Follow n.methods)) d us (through (ask (q.word k.Semicolon) ∷ virtual_at ∷ the_methods i ∷ []) us)
  behind_header i more us l =
      let j = joins p.method in
      then_within grammar Follow (token (q.word k.Semicolon)) (part n.virtual ∷ part n.methods ∷ []) (Follow n.methods) j.1.0 d us (ask (q.word k.Semicolon) us) (through (virtual_at ∷ the_methods i ∷ [])) (asked (q.word k.Semicolon) refl d us)
      (λ vs m. then_within grammar Follow (part n.virtual) (part n.methods ∷ []) (Follow n.methods) j.1.1.0 d vs (virtual_at vs) (through (the_methods i ∷ [])) (virtual_reads d vs)
      (λ ws o. last_part n.methods (Follow n.methods) j.1.1.1 d ws (the_methods i) (more ws (omega arith))))

  method_step : (i : ℕ) → ((us : List Lexeme) → length us ≤ i → Reads n.methods d us (the_methods i us)) → (ts : List Lexeme) → length ts ≤ suc i → begins_method ts ≡ true
      → Reads n.methods d ts (made p.method (method_header_at (inside d) ∷ ask (q.word k.Semicolon) ∷ virtual_at ∷ the_methods i ∷ []) ts)
  method_step i more ts l b =
      let j = joins p.method in
      let rs = method_header_at (inside d) ∷ ask (q.word k.Semicolon) ∷ virtual_at ∷ the_methods i ∷ [] in
      whole_step p.method refl refl refl d ts (method_chosen ts true b) rs
      (then_read (part n.method_header) (token (q.word k.Semicolon) ∷ part n.virtual ∷ part n.methods ∷ []) (Follow n.methods) j.0 d ts (method_header_at (inside d) ts) (through (ask (q.word k.Semicolon) ∷ virtual_at ∷ the_methods i ∷ [])) (header_reads d ts)
      (λ x e. let s = header_shorter d (method_start (front_kind ts)) ts x e in behind_header i more x.1 (omega arith)))

  methods_end : (ts : List Lexeme) → begins_method ts ≡ false → Reads n.methods d ts (Ok (of p.no_methods [], ts))
  methods_end ts e = empty p.no_methods d ts (method_chosen ts false e) refl refl refl refl

  methods_with : (i : ℕ) → ((us : List Lexeme) → length us ≤ i → Reads n.methods d us (the_methods i us)) → (ts : List Lexeme) → length ts ≤ suc i → (b : Bool) → begins_method ts ≡ b
      → Reads n.methods d ts (if b then (method_at (inside d) ts >>= λ x. the_methods i x.1 >>= λ y. Ok (of p.method (x.0.0 ∷ x.0.1 ∷ x.0.2 ∷ y.0 ∷ []), y.1)) else Ok (of p.no_methods [], ts))
  unfolding method_at
  methods_with i more ts l false b = methods_end ts b
  methods_with i more ts l true b = subst (λ (r : Outcome). Reads n.methods d ts r) (sym (three_read p.method (method_header_at (inside d)) (ask (q.word k.Semicolon)) virtual_at (the_methods i) ts)) (method_step i more ts l b)

  methods_from : (i : ℕ) (ts : List Lexeme) → length ts ≤ i → Reads n.methods d ts (the_methods i ts)
  unfolding chain_from
  methods_from zero [] l = methods_end [] refl
  methods_from zero (x ∷ ts) l = absurd (omega arith)
  methods_from (suc i) ts l = methods_with i (λ us m. methods_from i us m) ts l (begins_method ts) refl

  pub methods_reads : (ts : List Lexeme) → Reads n.methods d ts (methods_at (inside d) ts)
  methods_reads ts = methods_from (length ts) ts (omega arith)
