-- Productions as one reader after the other, with what is made of their parts.
use Rattle.std.proofs.Common.{◌≡◌, List, [], ◌∷◌, Result, Ok, Err, refl, ◌∙◌}
use Rattle.pascal_grammar.specs.declared.lexeme.Lexeme.{Lexeme}
use Rattle.pascal_grammar.specs.Productions.{Production}
use Rattle.ll1_grammar.specs.Grammar.{pair, node}
use Rattle.ll1_grammar.specs.Readers.{Fault, ◌>>=◌, through, made}
use Rattle.syntax_tree.specs.Expressions.{Parsed, row, of}
use Rattle.expression_parser.specs.Gives.{Reads}

abbrev pub End : Type 0
End = Parsed × List Lexeme

abbrev pub Outcome : Type 0
Outcome = Result End (Fault Production)

abbrev pub each : List Reads → List Lexeme → (List Parsed → List Lexeme → Outcome) → Outcome
each [] ts k = k [] ts
each (r ∷ rs) ts k = r ts >>= λ x. each rs x.1 (λ xs us. k (x.0 ∷ xs) us)

regroup : (t : Parsed) (k : End → Outcome) (r : Outcome) → ((r >>= λ y. Ok (pair t y.0, y.1)) >>= k) ≡ (r >>= λ y. k (pair t y.0, y.1))
regroup t k (Ok y) = refl
regroup t k (Err f) = refl

with_first : (rs : List Reads) (k : End → Outcome) → ((us : List Lexeme) (h : End → Outcome) → (through rs us >>= h) ≡ each rs us (λ xs vs. h (row xs, vs)))
    → (r : Outcome) → ((r >>= λ x. through rs x.1 >>= λ y. Ok (pair x.0 y.0, y.1)) >>= k) ≡ (r >>= λ x. each rs x.1 (λ xs us. k (pair x.0 (row xs), us)))
with_first rs k others (Ok x) = regroup x.0 k (through rs x.1) ∙ others x.1 (λ y. k (pair x.0 y.0, y.1))
with_first rs k others (Err f) = refl

pub through_each : (rs : List Reads) (ts : List Lexeme) (k : End → Outcome) → (through rs ts >>= k) ≡ each rs ts (λ xs us. k (row xs, us))
through_each [] ts k = refl
through_each (r ∷ rs) ts k = with_first rs k (λ us h. through_each rs us h) (r ts)

renode : (w : Production) (k : End → Outcome) (r : Outcome) → ((r >>= λ y. Ok (node w y.0, y.1)) >>= k) ≡ (r >>= λ y. k (node w y.0, y.1))
renode w k (Ok y) = refl
renode w k (Err f) = refl

-- a production, with what is made of it
pub made_each : (w : Production) (rs : List Reads) (ts : List Lexeme) (k : End → Outcome) → (made w rs ts >>= k) ≡ each rs ts (λ xs us. k (of w xs, us))
made_each w rs ts k = renode w k (through rs ts) ∙ through_each rs ts (λ y. k (node w y.0, y.1))

pub made_is : (w : Production) (rs : List Reads) (ts : List Lexeme) → made w rs ts ≡ each rs ts (λ xs us. Ok (of w xs, us))
made_is w rs ts = through_each rs ts (λ y. Ok (node w y.0, y.1))
