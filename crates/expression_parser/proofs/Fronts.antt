-- What was read before, with an answer behind it.
use Rattle.std.proofs.Common.{◌≡◌, List, [], ◌∷◌, Result, Ok, Err, refl, ap}
use Rattle.pascal_grammar.specs.declared.lexeme.Lexeme.{Lexeme}
use Rattle.pascal_grammar.specs.Productions.{Production}
use Rattle.ll1_grammar.specs.Grammar.{pair, node, nil}
use Rattle.ll1_grammar.specs.Readers.{Fault, ◌>>=◌}
use Rattle.syntax_tree.specs.Expressions.{Parsed, of}
use Rattle.expression_parser.specs.declared.error.ReadError.{ReadError}
use Rattle.expression_parser.specs.declared.error.ReadError.TheVariants as errors
use Rattle.expression_parser.specs.Gives.{Fails}
use Rattle.expression_parser.specs.Views.{with_front}

abbrev pub End : Type 0
End = Parsed × List Lexeme

abbrev pub Outcome : Type 0
Outcome = Result End (Fault Production)

-- the last part of a node, one before it, and the node
abbrev pub alone : End → Outcome
alone u = Ok (pair u.0 nil, u.1)

abbrev pub behind : Parsed → End → Outcome
behind a u = Ok (pair a u.0, u.1)

abbrev pub made_of : Production → End → Outcome
made_of x u = Ok (node x u.0, u.1)

pub same_front : {A B : Type 0} (f g : A → B) → ((z : A) → f z ≡ g z) → (r : Result (A × List Lexeme) (Fault Production)) → with_front f r ≡ with_front g r
same_front f g h (Ok x) = ap (λ (y : _). Ok (y, x.1)) (h x.0)
same_front f g h (Err e) = refl

-- a fault is that of what it stands in
pub fails_bind : {A B : Type 0} (e : ReadError) (r : Result A (Fault Production)) (g : A → Result B (Fault Production)) → Fails e r → Fails e (r >>= g)
fails_bind errors.NoMemory r g h = tt
fails_bind (errors.Syntax i) r g h = rw h refl
fails_bind (errors.LeftOut o i) r g h = rw h refl
fails_bind (errors.TooDeep i) r g h = rw h refl

-- ---- what stands in front of the last part of a node

pub second : {C : Type 0} (f : Parsed → C) (p1 : Production) (a : Parsed) (r : Outcome) → with_front f (((r >>= alone) >>= behind a) >>= made_of p1) ≡ with_front (λ z. f (of p1 (a ∷ z ∷ []))) r
second f p1 a (Ok x) = refl
second f p1 a (Err e) = refl

pub third : {C : Type 0} (f : Parsed → C) (p1 : Production) (a b : Parsed) (r : Outcome) → with_front f ((((r >>= alone) >>= behind b) >>= behind a) >>= made_of p1) ≡ with_front (λ z. f (of p1 (a ∷ b ∷ z ∷ []))) r
third f p1 a b (Ok x) = refl
third f p1 a b (Err e) = refl

-- the same where the node is the one part of another
pub wrapped_second : {C : Type 0} (f : Parsed → C) (p0 p1 : Production) (a : Parsed) (r : Outcome) → with_front f (((((r >>= alone) >>= behind a) >>= made_of p1) >>= alone) >>= made_of p0) ≡ with_front (λ z. f (of p0 (of p1 (a ∷ z ∷ []) ∷ []))) r
wrapped_second f p0 p1 a (Ok x) = refl
wrapped_second f p0 p1 a (Err e) = refl

pub wrapped_third : {C : Type 0} (f : Parsed → C) (p0 p1 : Production) (a b : Parsed) (r : Outcome) → with_front f ((((((r >>= alone) >>= behind b) >>= behind a) >>= made_of p1) >>= alone) >>= made_of p0) ≡ with_front (λ z. f (of p0 (of p1 (a ∷ b ∷ z ∷ []) ∷ []))) r
wrapped_third f p0 p1 a b (Ok x) = refl
wrapped_third f p0 p1 a b (Err e) = refl
