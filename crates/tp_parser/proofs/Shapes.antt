-- A header in an interface part in the shape of the grammar's reader, and how it is read.
use Rattle.std.proofs.Common.{◌≡◌, ℕ, ◌≤◌, ◌<◌, List, [], ◌∷◌, length, Some, Result, Ok, Err, refl, subst, arith}
use Rattle.pascal_grammar.specs.declared.kind.Kind.TheVariants as k
use Rattle.pascal_grammar.specs.declared.lexeme.Lexeme.{Lexeme}
use Rattle.pascal_grammar.specs.Asked as q
use Rattle.pascal_grammar.specs.Lexemes.{front_kind}
use Rattle.pascal_grammar.specs.Parts as n
use Rattle.pascal_grammar.specs.Productions.{Production}
use Rattle.pascal_grammar.specs.Productions as p
use Rattle.pascal_grammar.specs.Choices.{choose}
use Rattle.pascal_grammar.specs.Rules.{grammar}
use Rattle.pascal_grammar.proofs.Somes.{joins}
use Rattle.pascal_grammar.proofs.Tables.{Follow}
use Rattle.pascal_grammar.proofs.Reading.{Reads, asked}
use Rattle.ll1_grammar.specs.Grammar.{token, part, nil, pair, node, size}
use Rattle.ll1_grammar.specs.Readers.{Fault, ◌>>=◌, through, made}
use Rattle.ll1_grammar.proofs.Meeting.{all, Meets, then_within}
use Rattle.syntax_tree.specs.Expressions.{Parsed, of}
use Rattle.expression_parser.specs.Gives.{ask}
use Rattle.expression_parser.specs.Gives as g
use Rattle.type_parser.proofs.parameter_parser.Behind.{Outcome, last_part, then_read, whole_step}
use Rattle.tp_parser.proofs.declaration_parser.Shapes.{then_rest, closes}
use Rattle.tp_parser.proofs.declaration_parser.Stepping.{End, past}

abbrev Makers : Type 0
Makers = Result ((Parsed → Parsed) × List Lexeme) (Fault Production)

abbrev alone : End → Outcome
alone u = Ok (pair u.0 nil, u.1)

abbrev behind : Parsed → End → Outcome
behind a u = Ok (pair a u.0, u.1)

abbrev made_of : Production → End → Outcome
made_of x u = Ok (node x u.0, u.1)

abbrev header : Parsed → Parsed → End → Makers
header h w u = Ok ((λ more. of p.interface_header (h ∷ w ∷ u.0 ∷ more ∷ [])), u.1)

module _ (rest : g.Reads) where
  rest_by : (h w x : Parsed) (r : Outcome) → (r >>= closes (λ more. of p.interface_header (h ∷ w ∷ x ∷ more ∷ []))) ≡ ((((r >>= alone) >>= behind x) >>= behind w) >>= behind h) >>= made_of p.interface_header
  rest_by h w x (Ok u) = refl
  rest_by h w x (Err f) = refl

  directive_by : (h w : Parsed) (r : Outcome) → ((r >>= header h w) >>= then_rest rest) ≡ (((r >>= λ x. (rest x.1 >>= alone) >>= behind x.0) >>= behind w) >>= behind h) >>= made_of p.interface_header
  directive_by h w (Ok x) = rest_by h w x.0 (rest x.1)
  directive_by h w (Err f) = refl

  module _ (directive : g.Reads) where
    word_by : (h : Parsed) (r : Outcome) → ((r >>= λ w. directive w.1 >>= header h w.0) >>= then_rest rest) ≡ ((r >>= λ w. (directive w.1 >>= λ x. (rest x.1 >>= alone) >>= behind x.0) >>= behind w.0) >>= behind h) >>= made_of p.interface_header
    word_by h (Ok w) = directive_by h w.0 (directive w.1)
    word_by h (Err f) = refl

    header_by : (asks : g.Reads) (r : Outcome) → ((r >>= λ h. asks h.1 >>= λ w. directive w.1 >>= header h.0 w.0) >>= then_rest rest) ≡ (r >>= λ h. (asks h.1 >>= λ w. (directive w.1 >>= λ x. (rest x.1 >>= alone) >>= behind x.0) >>= behind w.0) >>= behind h.0) >>= made_of p.interface_header
    header_by asks (Ok h) = word_by h.0 (asks h.1)
    header_by asks (Err f) = refl

    pub header_read : (read asks : g.Reads) (ts : List Lexeme) → ((read ts >>= λ h. asks h.1 >>= λ w. directive w.1 >>= header h.0 w.0) >>= then_rest rest) ≡ made p.interface_header (read ∷ asks ∷ directive ∷ rest ∷ []) ts
    header_read read asks ts = header_by asks (read ts)

-- A header that is not empty, a semicolon, what may stand behind it, and more of the interface part.
pub header_past : (d : ℕ) (ts : List Lexeme) → choose n.interface_part (front_kind ts) ≡ Some p.interface_header → (read directive rest : g.Reads) → Reads n.header d ts (read ts) → ((y : End) → read ts ≡ Ok y → 1 ≤ size y.0)
    → ((us : List Lexeme) → Reads n.interface_directive d us (directive us)) → ((us : List Lexeme) → length us < length ts → Reads n.interface_part d us (rest us))
    → Reads n.interface_part d ts (made p.interface_header (read ∷ ask (q.word k.Semicolon) ∷ directive ∷ rest ∷ []) ts)
header_past d ts chosen read directive rest hm some dm rm =
    let F = Follow n.interface_part in
    let j = joins p.interface_header in
    let word = token (q.word k.Semicolon) in
    let behind_header : (y : End) → read ts ≡ Ok y → Meets grammar Follow (all grammar Follow (word ∷ part n.interface_directive ∷ part n.interface_part ∷ []) F) d y.1 (through (ask (q.word k.Semicolon) ∷ directive ∷ rest ∷ []) y.1) = λ y h.
    let l = past n.header d ts y (subst (λ (r : Outcome). Reads n.header d ts r) h hm) (some y h) in
    then_within grammar Follow word (part n.interface_directive ∷ part n.interface_part ∷ []) F j.1.0 d y.1 (ask (q.word k.Semicolon) y.1) (through (directive ∷ rest ∷ [])) (asked (q.word k.Semicolon) refl d y.1) (λ us m.
    then_within grammar Follow (part n.interface_directive) (part n.interface_part ∷ []) F j.1.1.0 d us (directive us) (through (rest ∷ [])) (dm us) (λ vs o.
    last_part n.interface_part F j.1.1.1 d vs rest (rm vs (omega (arith, l, m, o)))))
    in
    whole_step p.interface_header refl refl refl d ts chosen (read ∷ ask (q.word k.Semicolon) ∷ directive ∷ rest ∷ [])
    (then_read (part n.header) (word ∷ part n.interface_directive ∷ part n.interface_part ∷ []) F j.0 d ts (read ts) (through (ask (q.word k.Semicolon) ∷ directive ∷ rest ∷ [])) hm behind_header)
