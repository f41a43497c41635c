-- Readers in the code's shape, and the productions that they read.
use Rattle.std.proofs.Common.{◌≡◌, List, [], ◌∷◌, Result, Ok, Err, refl}
use Rattle.pascal_grammar.specs.declared.lexeme.Lexeme.{Lexeme}
use Rattle.pascal_grammar.specs.Productions.{Production}
use Rattle.ll1_grammar.specs.Readers.{Fault, ◌>>=◌, made}
use Rattle.syntax_tree.specs.Expressions.{Parsed, of}
use Rattle.expression_parser.specs.Gives.{Reads}
use Rattle.expression_parser.proofs.Fronts.{End, Outcome, alone, behind, made_of}

abbrev pub Three : Type 0
Three = (Parsed × Parsed × Parsed) × List Lexeme

-- three parts as one
abbrev pub three_of : Parsed → Parsed → End → Result Three (Fault Production)
three_of a b u = Ok ((a, b, u.0), u.1)

-- a fourth behind them
abbrev pub four_of : Production → Parsed → Parsed → Parsed → End → Outcome
four_of w a b c u = Ok (of w (a ∷ b ∷ c ∷ u.0 ∷ []), u.1)

abbrev pub fourth : Production → Reads → Three → Outcome
fourth w r x = r x.1 >>= four_of w x.0.0 x.0.1 x.0.2

module _ (w : Production) where
  fourth_by : (a b c : Parsed) (r : Outcome) → (r >>= four_of w a b c) ≡ ((((r >>= alone) >>= behind c) >>= behind b) >>= behind a) >>= made_of w
  fourth_by a b c (Ok u) = refl
  fourth_by a b c (Err f) = refl

  third_by : (r4 : Reads) (a b : Parsed) (r : Outcome) → ((r >>= three_of a b) >>= fourth w r4) ≡ (((r >>= λ t. (r4 t.1 >>= alone) >>= behind t.0) >>= behind b) >>= behind a) >>= made_of w
  third_by r4 a b (Ok u) = fourth_by a b u.0 (r4 u.1)
  third_by r4 a b (Err f) = refl

  second_by : (r3 r4 : Reads) (a : Parsed) (r : Outcome) → ((r >>= λ b. r3 b.1 >>= three_of a b.0) >>= fourth w r4) ≡ ((r >>= λ b. (r3 b.1 >>= λ t. (r4 t.1 >>= alone) >>= behind t.0) >>= behind b.0) >>= behind a) >>= made_of w
  second_by r3 r4 a (Ok u) = third_by r4 a u.0 (r3 u.1)
  second_by r3 r4 a (Err f) = refl

  first_by : (r2 r3 r4 : Reads) (r : Outcome) → ((r >>= λ a. r2 a.1 >>= λ b. r3 b.1 >>= three_of a.0 b.0) >>= fourth w r4) ≡ (r >>= λ a. (r2 a.1 >>= λ b. (r3 b.1 >>= λ t. (r4 t.1 >>= alone) >>= behind t.0) >>= behind b.0) >>= behind a.0) >>= made_of w
  first_by r2 r3 r4 (Ok u) = second_by r3 r4 u.0 (r2 u.1)
  first_by r2 r3 r4 (Err f) = refl

  pub three_read : (r1 r2 r3 r4 : Reads) (ts : List Lexeme) → ((r1 ts >>= λ a. r2 a.1 >>= λ b. r3 b.1 >>= three_of a.0 b.0) >>= fourth w r4) ≡ made w (r1 ∷ r2 ∷ r3 ∷ r4 ∷ []) ts
  three_read r1 r2 r3 r4 ts = first_by r2 r3 r4 (r1 ts)
