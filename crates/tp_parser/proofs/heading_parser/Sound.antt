-- The readers of uses clauses, headings and headers meet the grammar.
use Rattle.std.proofs.Common.{◌≡◌, ℕ, Bool, true, false, List, [], ◌∷◌, Some, refl, ap, ◌∙◌}
use Rattle.pascal_grammar.specs.declared.kind.Kind.{Kind}
use Rattle.pascal_grammar.specs.declared.kind.Kind.TheVariants as k
use Rattle.pascal_grammar.specs.declared.lexeme.Lexeme.{Lexeme}
use Rattle.pascal_grammar.specs.Asked.{same}
use Rattle.pascal_grammar.specs.Asked as q
use Rattle.pascal_grammar.specs.Lexemes.{kind_of}
use Rattle.pascal_grammar.specs.Parts as n
use Rattle.pascal_grammar.specs.Productions as p
use Rattle.pascal_grammar.specs.Choices.{choose_by}
use Rattle.pascal_grammar.proofs.Somes.{joins}
use Rattle.pascal_grammar.proofs.Reading.{Reads, asked, plain, empty, none, opens}
use Rattle.ll1_grammar.specs.Grammar.{token, part}
use Rattle.expression_parser.specs.Gives.{ask, name_at}
use Rattle.expression_parser.specs.Reading.{begins, inside}
use Rattle.expression_parser.proofs.Sound.{Held, inside_reads}
use Rattle.type_parser.specs.parameter_parser.Reading.{identifiers_at, parameters_at, result_at}
use Rattle.type_parser.proofs.parameter_parser.Behind.{at_kind, present, absent, opens_at}
use Rattle.type_parser.proofs.parameter_parser.Sound.{identifiers_reads, parameters_reads, result_reads}
use Rattle.tp_parser.specs.heading_parser.Starting.{header_start}
use Rattle.tp_parser.specs.heading_parser.Reading.{uses_by, uses_at, files_by, files_at, heading_by, heading_at, header_by, header_at}

no_uses : (y : Kind) → same y k.Uses ≡ false → choose_by n.uses y ≡ Some p.no_uses
no_uses k.Uses e = absurd cc
no_uses y e = refl

no_files : (y : Kind) → same y k.Open ≡ false → choose_by n.program_files y ≡ Some p.no_files
no_files k.Open e = absurd cc
no_files y e = refl

headless : (y : Kind) → same y k.Program ≡ false → choose_by n.program_head y ≡ Some p.headless
headless k.Program e = absurd cc
headless y e = refl

same_word : (x : Lexeme) (y want : Kind) → kind_of x ≡ y → same y want ≡ true → same (kind_of x) want ≡ true
same_word x y want e s = ap (λ (z : Kind). same z want) e ∙ s

module _ (d : ℕ) where
  uses_with : (ts : List Lexeme) (b : Bool) → begins k.Uses ts ≡ b → Reads n.uses d ts (uses_by b ts)
  unfolding uses_by
  uses_with ts true e = plain p.uses_clause d ts (present n.uses k.Uses p.uses_clause refl ts e) refl refl refl (ask (q.word k.Uses) ∷ identifiers_at ∷ ask (q.word k.Semicolon) ∷ []) (asked (q.word k.Uses) refl d, (identifiers_reads d, (asked (q.word k.Semicolon) refl d, tt)))
  uses_with ts false e = empty p.no_uses d ts (absent n.uses k.Uses (Some p.no_uses) refl no_uses ts e) refl refl refl refl

  pub uses_reads : (ts : List Lexeme) → Reads n.uses d ts (uses_at ts)
  uses_reads ts = uses_with ts (begins k.Uses ts) refl

  files_with : (ts : List Lexeme) (b : Bool) → begins k.Open ts ≡ b → Reads n.program_files d ts (files_by b (inside d) ts)
  unfolding files_by
  files_with ts true e = opens_at Held p.files k.Open (q.word k.Open) refl refl refl refl refl (part n.identifiers ∷ token (q.word k.Close) ∷ []) refl (joins p.files)
      (λ e l. identifiers_at ∷ ask (q.word k.Close) ∷ []) d (inside d) (inside_reads d) (λ e l m. (identifiers_reads e, (asked (q.word k.Close) refl e, tt))) ts e
  files_with ts false e = empty p.no_files d ts (absent n.program_files k.Open (Some p.no_files) refl no_files ts e) refl refl refl refl

  files_reads : (ts : List Lexeme) → Reads n.program_files d ts (files_at (inside d) ts)
  files_reads ts = files_with ts (begins k.Open ts) refl

  heading_with : (ts : List Lexeme) (b : Bool) → begins k.Program ts ≡ b → Reads n.program_head d ts (heading_by b (inside d) ts)
  unfolding heading_by
  heading_with ts true e = plain p.headed d ts (present n.program_head k.Program p.headed refl ts e) refl refl refl (ask (q.mark k.Program) ∷ name_at ∷ files_at (inside d) ∷ ask (q.word k.Semicolon) ∷ []) (asked (q.mark k.Program) refl d, (asked q.name refl d, (files_reads, (asked (q.word k.Semicolon) refl d, tt))))
  heading_with ts false e = empty p.headless d ts (absent n.program_head k.Program (Some p.headless) refl headless ts e) refl refl refl refl

  pub heading_reads : (ts : List Lexeme) → Reads n.program_head d ts (heading_at (inside d) ts)
  heading_reads ts = heading_with ts (begins k.Program ts) refl

  header_by_kind : (x : Lexeme) (ts : List Lexeme) (y : Kind) → kind_of x ≡ y → Reads n.header d (x ∷ ts) (header_by (header_start (Some y)) (inside d) (x ∷ ts))
  unfolding header_by
  header_by_kind x ts k.Procedure e = opens Held p.procedure_header x ts (at_kind n.header x k.Procedure _ e refl) refl refl refl (q.mark k.Procedure) (token q.name ∷ part n.parameters ∷ []) refl (joins p.procedure_header) (same_word x k.Procedure k.Procedure e refl)
      (λ e l. name_at ∷ parameters_at (inside e) ∷ []) d (inside d) (inside_reads d) (λ e l m. (asked q.name refl e, (parameters_reads e, tt)))
  header_by_kind x ts k.Function e = opens Held p.function_header x ts (at_kind n.header x k.Function _ e refl) refl refl refl (q.mark k.Function) (token q.name ∷ part n.parameters ∷ part n.result ∷ []) refl (joins p.function_header) (same_word x k.Function k.Function e refl)
      (λ e l. name_at ∷ parameters_at (inside e) ∷ result_at ∷ []) d (inside d) (inside_reads d) (λ e l m. (asked q.name refl e, (parameters_reads e, (result_reads e, tt))))
  header_by_kind x ts y e = none n.header d (x ∷ ts) (at_kind n.header x y _ e refl)

  pub header_reads : (ts : List Lexeme) → Reads n.header d ts (header_at (inside d) ts)
  unfolding header_by
  header_reads [] = none n.header d [] refl
  header_reads (x ∷ ts) = header_by_kind x ts (kind_of x) refl
