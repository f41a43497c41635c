-- Loops that read a chain.
use Rattle.std.proofs.Common.{◌≡◌, ℕ, zero, suc, ◌≤◌, ◌<◌, true, false, List, [], ◌∷◌, length, Result, Ok, Err, refl, sym, ◌∙◌, arith}
use Rattle.pascal_grammar.specs.declared.lexeme.Lexeme.{Lexeme}
use Rattle.pascal_grammar.specs.Productions.{Production}
use Rattle.ll1_grammar.specs.Readers.{Fault, ◌>>=◌}
use Rattle.syntax_tree.specs.Expressions.{Parsed}
use Rattle.expression_parser.specs.declared.error.ReadError.{ReadError}
use Rattle.expression_parser.specs.declared.error.ReadError.TheVariants as errors
use Rattle.expression_parser.specs.Gives.{Fails}
use Rattle.expression_parser.specs.Views.{with_front}
use Rattle.expression_parser.proofs.Fronts.{same_front}
use Rattle.type_parser.specs.parameter_parser.Chains.{Chain, chain_from, chain_at}

pub with_same : {A : Type 0} (read : Result (A × List Lexeme) (Fault Production)) → with_front (λ x. x) read ≡ read
with_same (Ok x) = refl
with_same (Err f) = refl

-- The items from rest on, behind those that were read, make the whole.
pub record Goes {A C : Type 0} (c : Chain A) (front : Parsed → C) (rest : List Lexeme) (total : Result (C × List Lexeme) (Fault Production)) : Type 0 where
  pub count : ℕ
  pub enough : length rest ≤ count
  pub is : with_front front (chain_from c count rest) ≡ total

-- no item follows where nothing is left
abbrev pub Ends : {A : Type 0} → Chain A → Type 0
Ends c = c.follows [] ≡ false

module _ {A C : Type 0} (c : Chain A) (ends_at_end : Ends c) where
  pub starts : (front : Parsed → C) (rest : List Lexeme) (total : Result (C × List Lexeme) (Fault Production)) → with_front front (chain_at c rest) ≡ total → Goes c front rest total
  starts front rest total e = record { count = length rest; enough = omega arith; is = e }

  regroup : (front : Parsed → C) (x : A) (read : Result (Parsed × List Lexeme) (Fault Production)) → with_front front (read >>= λ y. Ok (c.join x y.0, y.1)) ≡ with_front (λ z. front (c.join x z)) read
  regroup front x (Ok y) = refl
  regroup front x (Err f) = refl

  step : (front : Parsed → C) (i : ℕ) (rest : List Lexeme) (x : A × List Lexeme) → c.follows rest ≡ true → c.item rest ≡ Ok x → with_front front (chain_from c (suc i) rest) ≡ with_front (λ z. front (c.join x.0 z)) (chain_from c i x.1)
  unfolding chain_from
  step front i rest x b e = rw (b, e) (regroup front x.0 (chain_from c i x.1))

  next_at : (front g : Parsed → C) (rest : List Lexeme) (x : A × List Lexeme) (total : Result (C × List Lexeme) (Fault Production)) (i : ℕ) → c.follows rest ≡ true → c.item rest ≡ Ok x → length x.1 < length rest → ((z : Parsed) → g z ≡ front (c.join x.0 z)) → length rest ≤ i → with_front front (chain_from c i rest) ≡ total → Goes c g x.1 total
  next_at front g rest x total zero b e l s h i = absurd (omega arith)
  next_at front g rest x total (suc n) b e l s h i = record { count = n; enough = omega arith; is = same_front g (λ z. front (c.join x.0 z)) s (chain_from c n x.1) ∙ sym (step front n rest x b e) ∙ i }

  -- one item more, by a front that does the same
  pub next : (front g : Parsed → C) (rest : List Lexeme) (x : A × List Lexeme) (total : Result (C × List Lexeme) (Fault Production)) → c.follows rest ≡ true → c.item rest ≡ Ok x → length x.1 < length rest → ((z : Parsed) → g z ≡ front (c.join x.0 z)) → Goes c front rest total → Goes c g x.1 total
  next front g rest x total b e l s go = next_at front g rest x total go.count b e l s go.enough go.is

  error_at : (f : Fault Production) (front : Parsed → C) (rest : List Lexeme) (total : Result (C × List Lexeme) (Fault Production)) (n : ℕ) → c.follows rest ≡ true → c.item rest ≡ Err f → length rest ≤ n → with_front front (chain_from c n rest) ≡ total → total ≡ Err f
  unfolding chain_from
  error_at f front [] total zero b e h i = let k = ends_at_end in absurd cc
  error_at f front (t ∷ ts) total zero b e h i = absurd (omega arith)
  error_at f front rest total (suc n) b e h i =
      let s : with_front front (chain_from c (suc n) rest) ≡ Err f = rw (b, e) refl in
      sym i ∙ s

  pub fails : (e : ReadError) (front : Parsed → C) (rest : List Lexeme) (total : Result (C × List Lexeme) (Fault Production)) → c.follows rest ≡ true → Fails e (c.item rest) → Goes c front rest total → Fails e total
  fails errors.NoMemory front rest total b f g = tt
  fails (errors.Syntax n) front rest total b f g = error_at _ front rest total g.count b f g.enough g.is
  fails (errors.LeftOut o n) front rest total b f g = error_at _ front rest total g.count b f g.enough g.is
  fails (errors.TooDeep n) front rest total b f g = error_at _ front rest total g.count b f g.enough g.is

  ends_at : (front : Parsed → C) (rest : List Lexeme) (total : Result (C × List Lexeme) (Fault Production)) (n : ℕ) → c.follows rest ≡ false → with_front front (chain_from c n rest) ≡ total → total ≡ with_front front (c.last rest)
  unfolding chain_from
  ends_at front rest total zero b i = sym i
  ends_at front rest total (suc n) b i =
      let s : with_front front (chain_from c (suc n) rest) ≡ with_front front (c.last rest) = rw b refl in
      sym i ∙ s

  pub ends : (front : Parsed → C) (rest : List Lexeme) (total : Result (C × List Lexeme) (Fault Production)) → c.follows rest ≡ false → Goes c front rest total → total ≡ with_front front (c.last rest)
  ends front rest total b g = ends_at front rest total g.count b g.is
