-- The readers of sources meet the grammar.
use Rattle.std.proofs.Common.{◌≡◌, ℕ, zero, suc, ◌≤◌, Bool, true, false, if◌then◌else◌, List, [], ◌∷◌, length, Some, Ok, refl, sym, ap, subst, ◌∙◌, arith}
use Rattle.pascal_grammar.specs.declared.kind.Kind.{Kind}
use Rattle.pascal_grammar.specs.declared.kind.Kind.TheVariants as k
use Rattle.pascal_grammar.specs.declared.lexeme.Lexeme.{Lexeme}
use Rattle.pascal_grammar.specs.Asked.{same}
use Rattle.pascal_grammar.specs.Asked as q
use Rattle.pascal_grammar.specs.Lexemes.{kind_of}
use Rattle.pascal_grammar.specs.Parts as n
use Rattle.pascal_grammar.specs.Productions as p
use Rattle.pascal_grammar.specs.Choices.{choose_by}
use Rattle.pascal_grammar.proofs.Somes.{joins}
use Rattle.pascal_grammar.proofs.Reading.{Reads, asked, plain, empty, left}
use Rattle.ll1_grammar.specs.Grammar.{size}
use Rattle.ll1_grammar.specs.Readers.{◌>>=◌}
use Rattle.syntax_tree.specs.Expressions.{of}
use Rattle.expression_parser.specs.Gives.{ask, name_at}
use Rattle.expression_parser.specs.Gives as g
use Rattle.expression_parser.specs.Reading.{begins, inside}
use Rattle.type_parser.specs.parameter_parser.Reading.{parameters_at, result_at}
use Rattle.type_parser.proofs.parameter_parser.Behind.{at_kind, present, absent}
use Rattle.type_parser.specs.parameter_parser.Chains.{chain_from, chain_at}
use Rattle.expression_parser.specs.statement_parser.Reading.{whole_compound_at}
use Rattle.expression_parser.proofs.statement_parser.Sound.{whole_compound_reads}
use Rattle.tp_parser.specs.heading_parser.Starting.{header_start}
use Rattle.tp_parser.specs.heading_parser.Reading.{uses_at, heading_at, header_by, header_at}
use Rattle.tp_parser.proofs.heading_parser.Sound.{uses_reads, heading_reads, header_reads}
use Rattle.tp_parser.specs.declaration_parser.Reading.{constant_at, type_declaration_at, variable_at, more_constants, more_types, more_variables, constants_at, types_at, variables_at, part_by, declarations_at, nested}
use Rattle.tp_parser.proofs.declaration_parser.Shapes.{words_read, then_rest}
use Rattle.tp_parser.proofs.declaration_parser.Stepping.{End, words_past, some_construct}
use Rattle.tp_parser.proofs.declaration_parser.Sound.{constant_reads, type_declaration_reads, variable_reads, more_constants_reads, more_types_reads, more_variables_reads, all_declarations_read}
use Rattle.tp_parser.specs.Starting.{interface_start, directive_start}
use Rattle.tp_parser.specs.Reading.{directive_by, directive_at, header_then, interface_by, offers, interface, interface_at, unit_body_by, unit_body_at, source_by, source_at}
use Rattle.tp_parser.proofs.Shapes.{header_read, header_past}

same_word : (x : Lexeme) (y want : Kind) → kind_of x ≡ y → same y want ≡ true → same (kind_of x) want ≡ true
same_word x y want e s = ap (λ (z : Kind). same z want) e ∙ s

no_end : (y : Kind) → same y k.End ≡ false → choose_by n.unit_body y ≡ Some p.initialization
no_end k.End e = absurd cc
no_end y e = refl

no_unit : (y : Kind) → same y k.Unit ≡ false → choose_by n.source y ≡ Some p.program
no_unit k.Unit e = absurd cc
no_unit y e = refl

module _ (d : ℕ) where
  -- ---- the interface part

  directive_by_kind : (x : Lexeme) (ts : List Lexeme) (y : Kind) → kind_of x ≡ y → Reads n.interface_directive d (x ∷ ts) (directive_by (directive_start (Some y)) (x ∷ ts))
  unfolding directive_by
  directive_by_kind x ts k.External e = left p.interface_external d x ts (at_kind n.interface_directive x k.External _ e refl) refl refl (q.word k.External) refl (same_word x k.External k.External e refl)
  directive_by_kind x ts k.Interrupt e = left p.interface_interrupt d x ts (at_kind n.interface_directive x k.Interrupt _ e refl) refl refl (q.word k.Interrupt) refl (same_word x k.Interrupt k.Interrupt e refl)
  directive_by_kind x ts k.Inline e = left p.interface_inline d x ts (at_kind n.interface_directive x k.Inline _ e refl) refl refl (q.word k.Inline) refl (same_word x k.Inline k.Inline e refl)
  directive_by_kind x ts y e = empty p.no_directive d (x ∷ ts) (at_kind n.interface_directive x y _ e refl) refl refl refl refl

  directive_reads : (ts : List Lexeme) → Reads n.interface_directive d ts (directive_at ts)
  unfolding directive_by
  directive_reads [] = empty p.no_directive d [] refl refl refl refl refl
  directive_reads (x ∷ ts) = directive_by_kind x ts (kind_of x) refl

  -- a header begins with its word
  header_some : (x : Lexeme) (ts : List Lexeme) (z : End) → header_at (inside d) (x ∷ ts) ≡ Ok z → 1 ≤ size z.0
  unfolding header_by
  header_some x ts z i = by (kind_of x) i
    where
      by : (y : Kind) → header_by (header_start (Some y)) (inside d) (x ∷ ts) ≡ Ok z → 1 ≤ size z.0
      by k.Procedure i = some_construct p.procedure_header (q.mark k.Procedure) (λ e l. name_at ∷ parameters_at (inside e) ∷ []) (inside d) (x ∷ ts) z i
      by k.Function i = some_construct p.function_header (q.mark k.Function) (λ e l. name_at ∷ parameters_at (inside e) ∷ result_at ∷ []) (inside d) (x ∷ ts) z i
      by y i = absurd cc

  module _ (rest : g.Reads) (x : Lexeme) (ts : List Lexeme) (rest_reads : (us : List Lexeme) → length us ≤ length ts → Reads n.interface_part d us (rest us)) where
    header_step : (y : Kind) → kind_of x ≡ y → choose_by n.interface_part y ≡ Some p.interface_header → Reads n.interface_part d (x ∷ ts) (header_then d (x ∷ ts) >>= then_rest rest)
    header_step y e c =
        subst (λ (r : _). Reads n.interface_part d (x ∷ ts) r) (sym (header_read rest directive_at (header_at (inside d)) (ask (q.word k.Semicolon)) (x ∷ ts)))
        (header_past d (x ∷ ts) (at_kind n.interface_part x y _ e c) (header_at (inside d)) directive_at rest (header_reads d (x ∷ ts)) (header_some x ts) directive_reads (λ us h. rest_reads us (let l : suc (length us) ≤ length (x ∷ ts) = h in omega (arith, l))))

    step : (y : Kind) → kind_of x ≡ y → Reads n.interface_part d (x ∷ ts) (if offers (interface_start (Some y)) then (interface_by (interface_start (Some y)) d (x ∷ ts) >>= then_rest rest) else Ok (of p.no_interface [], x ∷ ts))
    unfolding interface_by part_by constants_at types_at variables_at
    step k.Const e =
        subst (λ (r : _). Reads n.interface_part d (x ∷ ts) r) (sym (words_read p.interface_constants rest (chain_at (more_constants d)) (ask (q.mark k.Const)) (constant_at d) (x ∷ ts)))
        (words_past p.interface_constants k.Const n.constant n.more_constants n.interface_part refl (joins p.interface_constants) refl refl refl d x ts (at_kind n.interface_part x k.Const _ e refl) (same_word x k.Const k.Const e refl) (constant_at d) (chain_at (more_constants d)) rest (constant_reads d) (more_constants_reads d) rest_reads)
    step k.Type e =
        subst (λ (r : _). Reads n.interface_part d (x ∷ ts) r) (sym (words_read p.interface_types rest (chain_at (more_types d)) (ask (q.mark k.Type)) (type_declaration_at d) (x ∷ ts)))
        (words_past p.interface_types k.Type n.type_declaration n.more_types n.interface_part refl (joins p.interface_types) refl refl refl d x ts (at_kind n.interface_part x k.Type _ e refl) (same_word x k.Type k.Type e refl) (type_declaration_at d) (chain_at (more_types d)) rest (type_declaration_reads d) (more_types_reads d) rest_reads)
    step k.Var e =
        subst (λ (r : _). Reads n.interface_part d (x ∷ ts) r) (sym (words_read p.interface_variables rest (chain_at (more_variables d)) (ask (q.mark k.Var)) (variable_at d) (x ∷ ts)))
        (words_past p.interface_variables k.Var n.variable n.more_variables n.interface_part refl (joins p.interface_variables) refl refl refl d x ts (at_kind n.interface_part x k.Var _ e refl) (same_word x k.Var k.Var e refl) (variable_at d) (chain_at (more_variables d)) rest (variable_reads d) (more_variables_reads d) rest_reads)
    step k.Procedure e = header_step k.Procedure e refl
    step k.Function e = header_step k.Function e refl
    step y e = empty p.no_interface d (x ∷ ts) (at_kind n.interface_part x y _ e refl) refl refl refl refl

  interface_from : (i : ℕ) (ts : List Lexeme) → length ts ≤ i → Reads n.interface_part d ts (chain_from (interface d) i ts)
  unfolding chain_from
  interface_from zero [] l = empty p.no_interface d [] refl refl refl refl refl
  interface_from zero (x ∷ ts) l = absurd (omega arith)
  interface_from (suc i) [] l = empty p.no_interface d [] refl refl refl refl refl
  interface_from (suc i) (x ∷ ts) l = step (chain_from (interface d) i) x ts (λ us h. interface_from i us (let k : length (x ∷ ts) ≤ suc i = l in omega (arith, h, k))) (kind_of x) refl

  pub interface_reads : (ts : List Lexeme) → Reads n.interface_part d ts (interface_at d ts)
  interface_reads ts = interface_from (length ts) ts (omega arith)

  -- ---- sources

  unit_body_with : (ts : List Lexeme) (b : Bool) → begins k.End ts ≡ b → Reads n.unit_body d ts (unit_body_by b d ts)
  unfolding unit_body_by
  unit_body_with ts true e = plain p.no_body d ts (present n.unit_body k.End p.no_body refl ts e) refl refl refl (ask (q.word k.End) ∷ []) (asked (q.word k.End) refl d, tt)
  unit_body_with ts false e = plain p.initialization d ts (absent n.unit_body k.End (Some p.initialization) refl no_end ts e) refl refl refl (whole_compound_at d ∷ []) (whole_compound_reads d, tt)

  unit_body_reads : (ts : List Lexeme) → Reads n.unit_body d ts (unit_body_at d ts)
  unit_body_reads ts = unit_body_with ts (begins k.End ts) refl

  source_with : (ts : List Lexeme) (b : Bool) → begins k.Unit ts ≡ b → Reads n.source d ts (source_by b d ts)
  unfolding source_by
  source_with ts true e = plain p.unit d ts (present n.source k.Unit p.unit refl ts e) refl refl refl (ask (q.mark k.Unit) ∷ name_at ∷ ask (q.word k.Semicolon) ∷ ask (q.word k.Interface) ∷ uses_at ∷ interface_at d ∷ ask (q.word k.Implementation) ∷ uses_at ∷ declarations_at d (nested d) ∷ unit_body_at d ∷ ask (q.word k.Dot) ∷ [])
      (asked (q.mark k.Unit) refl d, (asked q.name refl d, (asked (q.word k.Semicolon) refl d, (asked (q.word k.Interface) refl d, (uses_reads d, (interface_reads, (asked (q.word k.Implementation) refl d, (uses_reads d, (all_declarations_read d, (unit_body_reads, (asked (q.word k.Dot) refl d, tt)))))))))))
  source_with ts false e = plain p.program d ts (absent n.source k.Unit (Some p.program) refl no_unit ts e) refl refl refl (heading_at (inside d) ∷ uses_at ∷ declarations_at d (nested d) ∷ whole_compound_at d ∷ ask (q.word k.Dot) ∷ [])
      (heading_reads d, (uses_reads d, (all_declarations_read d, (whole_compound_reads d, (asked (q.word k.Dot) refl d, tt)))))

  pub source_reads : (ts : List Lexeme) → Reads n.source d ts (source_at d ts)
  source_reads ts = source_with ts (begins k.Unit ts) refl
