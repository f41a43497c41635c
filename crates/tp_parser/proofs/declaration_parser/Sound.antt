-- The readers of declarations meet the grammar.
use Rattle.std.proofs.Common.{◌≡◌, ℕ, zero, suc, ◌≤◌, Bool, true, false, if◌then◌else◌, List, [], ◌∷◌, length, Some, Ok, refl, sym, ap, subst, ◌∙◌, arith}
use Rattle.pascal_grammar.specs.declared.kind.Kind.{Kind}
use Rattle.pascal_grammar.specs.declared.kind.Kind.TheVariants as k
use Rattle.pascal_grammar.specs.declared.lexeme.Lexeme.{Lexeme}
use Rattle.pascal_grammar.specs.Asked.{same, is_name}
use Rattle.pascal_grammar.specs.Asked as q
use Rattle.pascal_grammar.specs.Lexemes.{kind_of, front_kind}
use Rattle.pascal_grammar.specs.Parts.{Part}
use Rattle.pascal_grammar.specs.Parts as n
use Rattle.pascal_grammar.specs.Productions.{Production, counts, left_out}
use Rattle.pascal_grammar.specs.Productions as p
use Rattle.pascal_grammar.specs.Choices.{choose, choose_at_end, choose_by}
use Rattle.pascal_grammar.specs.Rules.{grammar}
use Rattle.pascal_grammar.proofs.Somes.{joins}
use Rattle.pascal_grammar.proofs.Samples.{always}
use Rattle.pascal_grammar.proofs.Tables.{Follow}
use Rattle.pascal_grammar.proofs.Reading.{Reads, AreRead, asked, plain, empty, none, left, opens}
use Rattle.ll1_grammar.specs.Grammar.{token, part, size}
use Rattle.ll1_grammar.specs.Readers.{made, ◌>>=◌}
use Rattle.ll1_grammar.proofs.Meeting.{AllJoin}
use Rattle.syntax_tree.specs.Expressions.{of}
use Rattle.expression_parser.specs.Gives.{Inside, ask, name_at}
use Rattle.expression_parser.specs.Gives as g
use Rattle.expression_parser.specs.Reading.{begins, inside, simple_at}
use Rattle.expression_parser.proofs.Sound.{inside_reads, simple_reads}
use Rattle.type_parser.specs.parameter_parser.Reading.{identifiers_at, more_identifiers_at, parameters_at, result_at}
use Rattle.type_parser.proofs.parameter_parser.Behind.{at_kind, at_all, present, absent, left_at}
use Rattle.type_parser.proofs.parameter_parser.Sound.{identifiers_reads, parameters_reads, result_reads}
use Rattle.type_parser.proofs.Sound.{type_reads}
use Rattle.type_parser.proofs.initializer_parser.Sound.{initializer_reads}
use Rattle.type_parser.specs.parameter_parser.Chains.{chain_from, chain_at}
use Rattle.expression_parser.specs.statement_parser.Reading.{whole_compound_at}
use Rattle.expression_parser.proofs.statement_parser.Sound.{whole_compound_reads}
use Rattle.tp_parser.specs.declaration_parser.Starting.{declaration_start, behind_procedure, behind_function, body_start}
use Rattle.tp_parser.specs.declaration_parser.Reading.{denoter_at, first_value_at, constant_value_by, constant_value_at, constant_at, type_declaration_at, variable_end_by, variable_end_at, variable_at, is_named, listed, more_constants, more_types, more_variables, constants_at, types_at, variables_at, part_by, block_at, body_by, body_at, procedure_rest_by, procedure_rest_at, function_rest_by, function_rest_at, procedure_at, function_at, constructor_at, destructor_at, declaration_by, declares, declarations, declarations_at, routine_parts, nested}
use Rattle.tp_parser.proofs.declaration_parser.Shapes.{item_read, routine_read, words_read, then_rest}
use Rattle.tp_parser.proofs.declaration_parser.Stepping.{End, item_past, words_past, some_lexeme, some_part, some_construct}

same_word : (x : Lexeme) (y want : Kind) → kind_of x ≡ y → same y want ≡ true → same (kind_of x) want ≡ true
same_word x y want e s = ap (λ (z : Kind). same z want) e ∙ s

-- what the readers of fewer constructs read
abbrev pub Held : Part → Type 0
Held n.parameters = Unit {0}
Held n.block = Unit {0}
Held n.procedure_rest = Unit {0}
Held n.function_rest = Unit {0}
Held m = ⊥

-- ---- what one lexeme chooses

no_colon : (y : Kind) → same y k.Colon ≡ false → choose_by n.constant_value y ≡ Some p.plain_constant
no_colon k.Colon e = absurd cc
no_colon y e = refl

no_absolute : (y : Kind) → same y k.Absolute ≡ false → choose_by n.variable_end y ≡ Some p.no_address
no_absolute k.Absolute e = absurd cc
no_absolute y e = refl

-- one item more where a name stands in front
abbrev next_if : Production → Production → Bool → Production
next_if more ends true = more
next_if more ends false = ends

by_name : (m : Part) (next ends : Production) → choose_at_end m ≡ Some ends → ((y : Kind) → choose_by m y ≡ (if is_name y then Some next else Some ends)) → (ts : List Lexeme) (c : Bool) → is_named ts ≡ c → choose m (front_kind ts) ≡ Some (next_if next ends c)
by_name m more ends none some [] true e = absurd cc
by_name m more ends none some [] false e = none
by_name m more ends none some (x ∷ ts) true e = some (kind_of x) ∙ ap (λ (b : Bool). if b then Some more else Some ends) e
by_name m more ends none some (x ∷ ts) false e = some (kind_of x) ∙ ap (λ (b : Bool). if b then Some more else Some ends) e

-- items with nothing between them
module _ (next ends : Production) (m : Part) (d : ℕ) (item : g.Reads) (item_reads : (ts : List Lexeme) → Reads m d ts (item ts)) (some : (ts : List Lexeme) (y : End) → item ts ≡ Ok y → 1 ≤ size y.0)
    (is : grammar.body next ≡ part m ∷ part (grammar.owner next) ∷ []) (j : AllJoin grammar Follow (part m ∷ part (grammar.owner next) ∷ []) (Follow (grammar.owner next))) (a : always next ≡ true) (i : left_out next ≡ false) (o : counts next ≡ false)
    (chosen : (ts : List Lexeme) (c : Bool) → is_named ts ≡ c → choose (grammar.owner next) (front_kind ts) ≡ Some (next_if next ends c)) (ended : (ts : List Lexeme) → is_named ts ≡ false → Reads (grammar.owner next) d ts (Ok (of ends [], ts))) where
  listed_reads : (c : ℕ) (ts : List Lexeme) → length ts ≤ c → Reads (grammar.owner next) d ts (chain_from (listed next ends item) c ts)
  unfolding chain_from
  listed_reads zero [] l = ended [] refl
  listed_reads zero (x ∷ ts) l = absurd (omega arith)
  listed_reads (suc c) ts l = by (is_named ts) refl (λ us h. listed_reads c us h)
    where
      by : (b : Bool) → is_named ts ≡ b → ((us : List Lexeme) → length us ≤ c → Reads (grammar.owner next) d us (chain_from (listed next ends item) c us))
          → Reads (grammar.owner next) d ts (if b then (item ts >>= λ x. chain_from (listed next ends item) c x.1 >>= λ y. Ok (of next (x.0 ∷ y.0 ∷ []), y.1)) else Ok (of ends [], ts))
      by false e more = ended ts e
      by true e more =
          subst (λ (r : _). Reads (grammar.owner next) d ts r) (sym (item_read next item (chain_from (listed next ends item) c) ts))
          (item_past next m (grammar.owner next) is j a i o d ts (chosen ts true e) item (chain_from (listed next ends item) c) (item_reads ts) (some ts) (λ us h. more us (omega (arith, l, h))))

  pub all_listed : (ts : List Lexeme) → Reads (grammar.owner next) d ts (chain_at (listed next ends item) ts)
  all_listed ts = listed_reads (length ts) ts (omega arith)

module _ (d : ℕ) where
  simple : (ts : List Lexeme) → Reads n.simple d ts (simple_at (inside d) ts)
  simple ts = simple_reads d (inside d) (inside_reads d) ts

  -- ---- constants, types and variables

  constant_value_with : (ts : List Lexeme) (b : Bool) → begins k.Colon ts ≡ b → Reads n.constant_value d ts (constant_value_by b d ts)
  unfolding constant_value_by
  constant_value_with ts true e = plain p.typed_constant d ts (present n.constant_value k.Colon p.typed_constant refl ts e) refl refl refl (ask (q.word k.Colon) ∷ denoter_at d ∷ ask (q.word k.Equal) ∷ first_value_at d ∷ ask (q.word k.Semicolon) ∷ []) (asked (q.word k.Colon) refl d, (type_reads d, (asked (q.word k.Equal) refl d, (initializer_reads d, (asked (q.word k.Semicolon) refl d, tt)))))
  constant_value_with ts false e = plain p.plain_constant d ts (absent n.constant_value k.Colon (Some p.plain_constant) refl no_colon ts e) refl refl refl (ask (q.word k.Equal) ∷ simple_at (inside d) ∷ ask (q.word k.Semicolon) ∷ []) (asked (q.word k.Equal) refl d, (simple, (asked (q.word k.Semicolon) refl d, tt)))

  pub constant_reads : (ts : List Lexeme) → Reads n.constant d ts (constant_at d ts)
  unfolding constant_at
  constant_reads ts = plain p.constant d ts (at_all n.constant (Some p.constant) refl (λ x. refl) (front_kind ts)) refl refl refl (name_at ∷ constant_value_at d ∷ []) (asked q.name refl d, ((λ us. constant_value_with us (begins k.Colon us) refl), tt))

  constant_some : (ts : List Lexeme) (y : End) → constant_at d ts ≡ Ok y → 1 ≤ size y.0
  unfolding constant_at
  constant_some ts y e = some_lexeme p.constant q.name (constant_value_at d ∷ []) ts y e

  pub type_declaration_reads : (ts : List Lexeme) → Reads n.type_declaration d ts (type_declaration_at d ts)
  unfolding type_declaration_at
  type_declaration_reads ts = plain p.type_declaration d ts (at_all n.type_declaration (Some p.type_declaration) refl (λ x. refl) (front_kind ts)) refl refl refl (name_at ∷ ask (q.word k.Equal) ∷ denoter_at d ∷ ask (q.word k.Semicolon) ∷ []) (asked q.name refl d, (asked (q.word k.Equal) refl d, (type_reads d, (asked (q.word k.Semicolon) refl d, tt))))

  type_declaration_some : (ts : List Lexeme) (y : End) → type_declaration_at d ts ≡ Ok y → 1 ≤ size y.0
  unfolding type_declaration_at
  type_declaration_some ts y e = some_lexeme p.type_declaration q.name (ask (q.word k.Equal) ∷ denoter_at d ∷ ask (q.word k.Semicolon) ∷ []) ts y e

  variable_end_with : (ts : List Lexeme) (b : Bool) → begins k.Absolute ts ≡ b → Reads n.variable_end d ts (variable_end_by b ts)
  unfolding variable_end_by
  variable_end_with ts true e = left_at p.absolute k.Absolute refl refl refl refl d ts e
  variable_end_with ts false e = empty p.no_address d ts (absent n.variable_end k.Absolute (Some p.no_address) refl no_absolute ts e) refl refl refl refl

  pub variable_reads : (ts : List Lexeme) → Reads n.variable d ts (variable_at d ts)
  unfolding variable_at
  variable_reads ts = plain p.variable d ts (at_all n.variable (Some p.variable) refl (λ x. refl) (front_kind ts)) refl refl refl (identifiers_at ∷ ask (q.word k.Colon) ∷ denoter_at d ∷ variable_end_at ∷ ask (q.word k.Semicolon) ∷ []) (identifiers_reads d, (asked (q.word k.Colon) refl d, (type_reads d, ((λ us. variable_end_with us (begins k.Absolute us) refl), (asked (q.word k.Semicolon) refl d, tt)))))

  identifiers_some : (ts : List Lexeme) (y : End) → identifiers_at ts ≡ Ok y → 1 ≤ size y.0
  unfolding identifiers_at
  identifiers_some ts y e = some_lexeme p.identifiers q.name (more_identifiers_at ∷ []) ts y e

  variable_some : (ts : List Lexeme) (y : End) → variable_at d ts ≡ Ok y → 1 ≤ size y.0
  unfolding variable_at
  variable_some ts y e = some_part p.variable identifiers_at (ask (q.word k.Colon) ∷ denoter_at d ∷ variable_end_at ∷ ask (q.word k.Semicolon) ∷ []) ts y (identifiers_some ts) e

  constant_chosen : (ts : List Lexeme) (c : Bool) → is_named ts ≡ c → choose n.more_constants (front_kind ts) ≡ Some (next_if p.next_constant p.no_constants c)
  constant_chosen = by_name n.more_constants p.next_constant p.no_constants refl (λ y. refl)

  type_chosen : (ts : List Lexeme) (c : Bool) → is_named ts ≡ c → choose n.more_types (front_kind ts) ≡ Some (next_if p.next_type p.no_types c)
  type_chosen = by_name n.more_types p.next_type p.no_types refl (λ y. refl)

  variable_chosen : (ts : List Lexeme) (c : Bool) → is_named ts ≡ c → choose n.more_variables (front_kind ts) ≡ Some (next_if p.next_variable p.no_variables c)
  variable_chosen = by_name n.more_variables p.next_variable p.no_variables refl (λ y. refl)

  pub more_constants_reads : (ts : List Lexeme) → Reads n.more_constants d ts (chain_at (more_constants d) ts)
  more_constants_reads = all_listed p.next_constant p.no_constants n.constant d (constant_at d) constant_reads constant_some refl (joins p.next_constant) refl refl refl constant_chosen (λ ts e. empty p.no_constants d ts (constant_chosen ts false e) refl refl refl refl)

  pub more_types_reads : (ts : List Lexeme) → Reads n.more_types d ts (chain_at (more_types d) ts)
  more_types_reads = all_listed p.next_type p.no_types n.type_declaration d (type_declaration_at d) type_declaration_reads type_declaration_some refl (joins p.next_type) refl refl refl type_chosen (λ ts e. empty p.no_types d ts (type_chosen ts false e) refl refl refl refl)

  pub more_variables_reads : (ts : List Lexeme) → Reads n.more_variables d ts (chain_at (more_variables d) ts)
  more_variables_reads = all_listed p.next_variable p.no_variables n.variable d (variable_at d) variable_reads variable_some refl (joins p.next_variable) refl refl refl variable_chosen (λ ts e. empty p.no_variables d ts (variable_chosen ts false e) refl refl refl refl)

  -- ---- routines

  module _ (b : Inside) (h : AreRead Held d b) where
    procedure_reads : (x : Lexeme) (ts : List Lexeme) → kind_of x ≡ k.Procedure → Reads n.routine d (x ∷ ts) (procedure_at b (x ∷ ts))
    unfolding procedure_at
    procedure_reads x ts e = opens Held p.procedure x ts (at_kind n.routine x k.Procedure _ e refl) refl refl refl (q.mark k.Procedure) (token q.name ∷ part n.procedure_rest ∷ []) refl (joins p.procedure) (same_word x k.Procedure k.Procedure e refl)
        (λ e l. name_at ∷ l n.procedure_rest ∷ []) d b h (λ e l m. (asked q.name refl e, (m.meets n.procedure_rest tt, tt)))

    function_reads : (x : Lexeme) (ts : List Lexeme) → kind_of x ≡ k.Function → Reads n.routine d (x ∷ ts) (function_at b (x ∷ ts))
    unfolding function_at
    function_reads x ts e = opens Held p.function x ts (at_kind n.routine x k.Function _ e refl) refl refl refl (q.mark k.Function) (token q.name ∷ part n.function_rest ∷ []) refl (joins p.function) (same_word x k.Function k.Function e refl)
        (λ e l. name_at ∷ l n.function_rest ∷ []) d b h (λ e l m. (asked q.name refl e, (m.meets n.function_rest tt, tt)))

    constructor_reads : (x : Lexeme) (ts : List Lexeme) → kind_of x ≡ k.Constructor → Reads n.routine d (x ∷ ts) (constructor_at b (x ∷ ts))
    unfolding constructor_at
    constructor_reads x ts e = opens Held p.constructor x ts (at_kind n.routine x k.Constructor _ e refl) refl refl refl (q.mark k.Constructor) (token q.name ∷ token (q.word k.Dot) ∷ token q.name ∷ part n.parameters ∷ token (q.word k.Semicolon) ∷ part n.block ∷ token (q.word k.Semicolon) ∷ []) refl (joins p.constructor) (same_word x k.Constructor k.Constructor e refl)
        (λ e l. name_at ∷ ask (q.word k.Dot) ∷ name_at ∷ l n.parameters ∷ ask (q.word k.Semicolon) ∷ l n.block ∷ ask (q.word k.Semicolon) ∷ []) d b h (λ e l m. (asked q.name refl e, (asked (q.word k.Dot) refl e, (asked q.name refl e, (m.meets n.parameters tt, (asked (q.word k.Semicolon) refl e, (m.meets n.block tt, (asked (q.word k.Semicolon) refl e, tt))))))))

    destructor_reads : (x : Lexeme) (ts : List Lexeme) → kind_of x ≡ k.Destructor → Reads n.routine d (x ∷ ts) (destructor_at b (x ∷ ts))
    unfolding destructor_at
    destructor_reads x ts e = opens Held p.destructor x ts (at_kind n.routine x k.Destructor _ e refl) refl refl refl (q.mark k.Destructor) (token q.name ∷ token (q.word k.Dot) ∷ token q.name ∷ part n.parameters ∷ token (q.word k.Semicolon) ∷ part n.block ∷ token (q.word k.Semicolon) ∷ []) refl (joins p.destructor) (same_word x k.Destructor k.Destructor e refl)
        (λ e l. name_at ∷ ask (q.word k.Dot) ∷ name_at ∷ l n.parameters ∷ ask (q.word k.Semicolon) ∷ l n.block ∷ ask (q.word k.Semicolon) ∷ []) d b h (λ e l m. (asked q.name refl e, (asked (q.word k.Dot) refl e, (asked q.name refl e, (m.meets n.parameters tt, (asked (q.word k.Semicolon) refl e, (m.meets n.block tt, (asked (q.word k.Semicolon) refl e, tt))))))))

    -- ---- declarations

    no_more_declarations : (x : Lexeme) (ts : List Lexeme) (y : Kind) → kind_of x ≡ y → choose_by n.declarations y ≡ Some p.no_declarations → Reads n.declarations d (x ∷ ts) (Ok (of p.no_declarations [], x ∷ ts))
    no_more_declarations x ts y e c = empty p.no_declarations d (x ∷ ts) (at_kind n.declarations x y _ e c) refl refl refl refl

    module _ (rest : g.Reads) (x : Lexeme) (ts : List Lexeme) (rest_reads : (us : List Lexeme) → length us ≤ length ts → Reads n.declarations d us (rest us)) where
      routine_step : (y : Kind) → kind_of x ≡ y → choose_by n.declarations y ≡ Some p.routines → (read : g.Reads) → Reads n.routine d (x ∷ ts) (read (x ∷ ts)) → ((z : End) → read (x ∷ ts) ≡ Ok z → 1 ≤ size z.0) → Reads n.declarations d (x ∷ ts) ((read (x ∷ ts) >>= λ u. Ok ((λ more. of p.routines (u.0 ∷ more ∷ [])), u.1)) >>= then_rest rest)
      routine_step y e c read m some =
          subst (λ (r : _). Reads n.declarations d (x ∷ ts) r) (sym (routine_read read rest (x ∷ ts)))
          (item_past p.routines n.routine n.declarations refl (joins p.routines) refl refl refl d (x ∷ ts) (at_kind n.declarations x y _ e c) read rest m some (λ us h. rest_reads us (let l : suc (length us) ≤ length (x ∷ ts) = h in omega (arith, l))))

      step : (y : Kind) → kind_of x ≡ y → Reads n.declarations d (x ∷ ts) (if declares (declaration_start (Some y)) then (declaration_by (declaration_start (Some y)) d b (x ∷ ts) >>= then_rest rest) else Ok (of p.no_declarations [], x ∷ ts))
      unfolding declaration_by part_by constants_at types_at variables_at procedure_at function_at constructor_at destructor_at
      step k.Const e =
          subst (λ (r : _). Reads n.declarations d (x ∷ ts) r) (sym (words_read p.constants rest (chain_at (more_constants d)) (ask (q.mark k.Const)) (constant_at d) (x ∷ ts)))
          (words_past p.constants k.Const n.constant n.more_constants n.declarations refl (joins p.constants) refl refl refl d x ts (at_kind n.declarations x k.Const _ e refl) (same_word x k.Const k.Const e refl) (constant_at d) (chain_at (more_constants d)) rest constant_reads more_constants_reads rest_reads)
      step k.Type e =
          subst (λ (r : _). Reads n.declarations d (x ∷ ts) r) (sym (words_read p.types rest (chain_at (more_types d)) (ask (q.mark k.Type)) (type_declaration_at d) (x ∷ ts)))
          (words_past p.types k.Type n.type_declaration n.more_types n.declarations refl (joins p.types) refl refl refl d x ts (at_kind n.declarations x k.Type _ e refl) (same_word x k.Type k.Type e refl) (type_declaration_at d) (chain_at (more_types d)) rest type_declaration_reads more_types_reads rest_reads)
      step k.Var e =
          subst (λ (r : _). Reads n.declarations d (x ∷ ts) r) (sym (words_read p.variables rest (chain_at (more_variables d)) (ask (q.mark k.Var)) (variable_at d) (x ∷ ts)))
          (words_past p.variables k.Var n.variable n.more_variables n.declarations refl (joins p.variables) refl refl refl d x ts (at_kind n.declarations x k.Var _ e refl) (same_word x k.Var k.Var e refl) (variable_at d) (chain_at (more_variables d)) rest variable_reads more_variables_reads rest_reads)
      step k.Procedure e = routine_step k.Procedure e refl (procedure_at b) (procedure_reads x ts e) (λ z i. some_construct p.procedure (q.mark k.Procedure) (λ e l. name_at ∷ l n.procedure_rest ∷ []) b (x ∷ ts) z i)
      step k.Function e = routine_step k.Function e refl (function_at b) (function_reads x ts e) (λ z i. some_construct p.function (q.mark k.Function) (λ e l. name_at ∷ l n.function_rest ∷ []) b (x ∷ ts) z i)
      step k.Constructor e = routine_step k.Constructor e refl (constructor_at b) (constructor_reads x ts e) (λ z i. some_construct p.constructor (q.mark k.Constructor) (λ e l. name_at ∷ ask (q.word k.Dot) ∷ name_at ∷ l n.parameters ∷ ask (q.word k.Semicolon) ∷ l n.block ∷ ask (q.word k.Semicolon) ∷ []) b (x ∷ ts) z i)
      step k.Destructor e = routine_step k.Destructor e refl (destructor_at b) (destructor_reads x ts e) (λ z i. some_construct p.destructor (q.mark k.Destructor) (λ e l. name_at ∷ ask (q.word k.Dot) ∷ name_at ∷ l n.parameters ∷ ask (q.word k.Semicolon) ∷ l n.block ∷ ask (q.word k.Semicolon) ∷ []) b (x ∷ ts) z i)
      step k.Label e = left p.labels d x ts (at_kind n.declarations x k.Label _ e refl) refl refl (q.word k.Label) refl (same_word x k.Label k.Label e refl)
      step y e = no_more_declarations x ts y e refl

    declarations_from : (i : ℕ) (ts : List Lexeme) → length ts ≤ i → Reads n.declarations d ts (chain_from (declarations d b) i ts)
    unfolding chain_from
    declarations_from zero [] l = empty p.no_declarations d [] refl refl refl refl refl
    declarations_from zero (x ∷ ts) l = absurd (omega arith)
    declarations_from (suc i) [] l = empty p.no_declarations d [] refl refl refl refl refl
    declarations_from (suc i) (x ∷ ts) l = step (chain_from (declarations d b) i) x ts (λ us h. declarations_from i us (let k : length (x ∷ ts) ≤ suc i = l in omega (arith, h, k))) (kind_of x) refl

    pub declarations_reads : (ts : List Lexeme) → Reads n.declarations d ts (declarations_at d b ts)
    declarations_reads ts = declarations_from (length ts) ts (omega arith)

    -- ---- what stands in a routine

    pub block_reads : (ts : List Lexeme) → Reads n.block d ts (block_at d (declarations_at d b) ts)
    unfolding block_at
    block_reads ts = plain p.block d ts (at_all n.block (Some p.block) refl (λ x. refl) (front_kind ts)) refl refl refl (declarations_at d b ∷ whole_compound_at d ∷ []) (declarations_reads, (whole_compound_reads d, tt))

    own_block_reads : (ts : List Lexeme) → choose n.routine_body (front_kind ts) ≡ Some p.own_block → Reads n.routine_body d ts (made p.own_block (block_at d (declarations_at d b) ∷ ask (q.word k.Semicolon) ∷ []) ts)
    own_block_reads ts c = plain p.own_block d ts c refl refl refl (block_at d (declarations_at d b) ∷ ask (q.word k.Semicolon) ∷ []) (block_reads, (asked (q.word k.Semicolon) refl d, tt))

    body_by_kind : (x : Lexeme) (ts : List Lexeme) (y : Kind) → kind_of x ≡ y → Reads n.routine_body d (x ∷ ts) (body_by (body_start (Some y)) d (declarations_at d b) (x ∷ ts))
    unfolding body_by
    body_by_kind x ts k.Forward e = plain p.forward d (x ∷ ts) (at_kind n.routine_body x k.Forward _ e refl) refl refl refl (ask (q.word k.Forward) ∷ ask (q.word k.Semicolon) ∷ []) (asked (q.word k.Forward) refl d, (asked (q.word k.Semicolon) refl d, tt))
    body_by_kind x ts k.External e = left p.external d x ts (at_kind n.routine_body x k.External _ e refl) refl refl (q.word k.External) refl (same_word x k.External k.External e refl)
    body_by_kind x ts k.Interrupt e = left p.interrupt d x ts (at_kind n.routine_body x k.Interrupt _ e refl) refl refl (q.word k.Interrupt) refl (same_word x k.Interrupt k.Interrupt e refl)
    body_by_kind x ts k.Inline e = left p.inline_body d x ts (at_kind n.routine_body x k.Inline _ e refl) refl refl (q.word k.Inline) refl (same_word x k.Inline k.Inline e refl)
    body_by_kind x ts y e = own_block_reads (x ∷ ts) (at_kind n.routine_body x y _ e refl)

    body_reads : (ts : List Lexeme) → Reads n.routine_body d ts (body_at d (declarations_at d b) ts)
    unfolding body_by
    body_reads [] = own_block_reads [] refl
    body_reads (x ∷ ts) = body_by_kind x ts (kind_of x) refl

    plain_procedure_reads : (ts : List Lexeme) → choose n.procedure_rest (front_kind ts) ≡ Some p.plain_procedure → Reads n.procedure_rest d ts (made p.plain_procedure (parameters_at (inside d) ∷ ask (q.word k.Semicolon) ∷ body_at d (declarations_at d b) ∷ []) ts)
    plain_procedure_reads ts c = plain p.plain_procedure d ts c refl refl refl (parameters_at (inside d) ∷ ask (q.word k.Semicolon) ∷ body_at d (declarations_at d b) ∷ []) (parameters_reads d, (asked (q.word k.Semicolon) refl d, (body_reads, tt)))

    procedure_rest_by_kind : (x : Lexeme) (ts : List Lexeme) (y : Kind) → kind_of x ≡ y → Reads n.procedure_rest d (x ∷ ts) (procedure_rest_by (behind_procedure (Some y)) d (declarations_at d b) (x ∷ ts))
    unfolding procedure_rest_by
    procedure_rest_by_kind x ts k.Dot e = plain p.procedure_method d (x ∷ ts) (at_kind n.procedure_rest x k.Dot _ e refl) refl refl refl (ask (q.word k.Dot) ∷ name_at ∷ parameters_at (inside d) ∷ ask (q.word k.Semicolon) ∷ block_at d (declarations_at d b) ∷ ask (q.word k.Semicolon) ∷ []) (asked (q.word k.Dot) refl d, (asked q.name refl d, (parameters_reads d, (asked (q.word k.Semicolon) refl d, (block_reads, (asked (q.word k.Semicolon) refl d, tt))))))
    procedure_rest_by_kind x ts k.Open e = plain_procedure_reads (x ∷ ts) (at_kind n.procedure_rest x k.Open _ e refl)
    procedure_rest_by_kind x ts k.Semicolon e = plain_procedure_reads (x ∷ ts) (at_kind n.procedure_rest x k.Semicolon _ e refl)
    procedure_rest_by_kind x ts y e = none n.procedure_rest d (x ∷ ts) (at_kind n.procedure_rest x y _ e refl)

    procedure_rest_reads : (ts : List Lexeme) → Reads n.procedure_rest d ts (procedure_rest_at d (declarations_at d b) ts)
    unfolding procedure_rest_by
    procedure_rest_reads [] = none n.procedure_rest d [] refl
    procedure_rest_reads (x ∷ ts) = procedure_rest_by_kind x ts (kind_of x) refl

    plain_function_reads : (ts : List Lexeme) → choose n.function_rest (front_kind ts) ≡ Some p.plain_function → Reads n.function_rest d ts (made p.plain_function (parameters_at (inside d) ∷ result_at ∷ ask (q.word k.Semicolon) ∷ body_at d (declarations_at d b) ∷ []) ts)
    plain_function_reads ts c = plain p.plain_function d ts c refl refl refl (parameters_at (inside d) ∷ result_at ∷ ask (q.word k.Semicolon) ∷ body_at d (declarations_at d b) ∷ []) (parameters_reads d, (result_reads d, (asked (q.word k.Semicolon) refl d, (body_reads, tt))))

    function_rest_by_kind : (x : Lexeme) (ts : List Lexeme) (y : Kind) → kind_of x ≡ y → Reads n.function_rest d (x ∷ ts) (function_rest_by (behind_function (Some y)) d (declarations_at d b) (x ∷ ts))
    unfolding function_rest_by
    function_rest_by_kind x ts k.Dot e = plain p.function_method d (x ∷ ts) (at_kind n.function_rest x k.Dot _ e refl) refl refl refl (ask (q.word k.Dot) ∷ name_at ∷ parameters_at (inside d) ∷ result_at ∷ ask (q.word k.Semicolon) ∷ block_at d (declarations_at d b) ∷ ask (q.word k.Semicolon) ∷ []) (asked (q.word k.Dot) refl d, (asked q.name refl d, (parameters_reads d, (result_reads d, (asked (q.word k.Semicolon) refl d, (block_reads, (asked (q.word k.Semicolon) refl d, tt)))))))
    function_rest_by_kind x ts k.Open e = plain_function_reads (x ∷ ts) (at_kind n.function_rest x k.Open _ e refl)
    function_rest_by_kind x ts k.Semicolon e = plain_function_reads (x ∷ ts) (at_kind n.function_rest x k.Semicolon _ e refl)
    function_rest_by_kind x ts k.Colon e = plain_function_reads (x ∷ ts) (at_kind n.function_rest x k.Colon _ e refl)
    function_rest_by_kind x ts y e = none n.function_rest d (x ∷ ts) (at_kind n.function_rest x y _ e refl)

    function_rest_reads : (ts : List Lexeme) → Reads n.function_rest d ts (function_rest_at d (declarations_at d b) ts)
    unfolding function_rest_by
    function_rest_reads [] = none n.function_rest d [] refl
    function_rest_reads (x ∷ ts) = function_rest_by_kind x ts (kind_of x) refl

    -- each part that is held
    pub parts_read : (m : Part) → Held m → (ts : List Lexeme) → Reads m d ts (routine_parts d b m ts)
    parts_read n.parameters i ts = parameters_reads d ts
    parts_read n.block i ts = block_reads ts
    parts_read n.procedure_rest i ts = procedure_rest_reads ts
    parts_read n.function_rest i ts = function_rest_reads ts
    parts_read m i ts = absurd i

-- the readers within each depth
pub nested_reads : (d : ℕ) → AreRead Held d (nested d)
unfolding nested
nested_reads zero = tt
nested_reads (suc d) = record { depth = refl; meets = parts_read d (nested d) (nested_reads d) }

-- declarations, where at most d constructs may be open at once
pub all_declarations_read : (d : ℕ) (ts : List Lexeme) → Reads n.declarations d ts (declarations_at d (nested d) ts)
all_declarations_read d ts = declarations_reads d (nested d) (nested_reads d) ts

pub all_blocks_read : (d : ℕ) (ts : List Lexeme) → Reads n.block d ts (block_at d (declarations_at d (nested d)) ts)
all_blocks_read d ts = block_reads d (nested d) (nested_reads d) ts
