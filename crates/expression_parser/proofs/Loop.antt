-- Loops that build a chain to the left, or a list behind separators.
use Rattle.std.proofs.Common.{◌≡◌, ℕ, zero, suc, ◌≤◌, ◌<◌, Bool, true, false, if◌then◌else◌, List, [], ◌∷◌, length, Result, Ok, Err, refl, sym, ap, subst, ◌∙◌, arith}
use Rattle.pascal_grammar.specs.declared.kind.Kind.{Kind}
use Rattle.pascal_grammar.specs.declared.lexeme.Lexeme.{Lexeme}
use Rattle.pascal_grammar.specs.Productions.{Production}
use Rattle.ll1_grammar.specs.Readers.{Fault, ◌>>=◌}
use Rattle.syntax_tree.specs.Expressions.{Parsed, of, word}
use Rattle.expression_parser.specs.declared.error.ReadError.{ReadError}
use Rattle.expression_parser.specs.declared.error.ReadError.TheVariants as errors
use Rattle.expression_parser.specs.Gives.{Fails, Reads}
use Rattle.expression_parser.specs.Reading.{begins, tail_of, list_from}
use Rattle.expression_parser.specs.Views.{with_front}

-- The items from rest on, behind those that were read, make the whole.
pub record Goes {C : Type 0} (sep : Kind) (none after : Production) (item : Reads) (front : Parsed → C) (rest : List Lexeme) (total : Result (C × List Lexeme) (Fault Production)) : Type 0 where
  pub count : ℕ
  pub enough : length rest ≤ count
  pub is : with_front front (list_from sep none after item count rest) ≡ total

pub falls : (sep : Kind) (rest past : List Lexeme) → begins sep rest ≡ true → length past ≤ length (tail_of rest) → length past < length rest
falls sep [] past b l = absurd cc
falls sep (x ∷ xs) past b l = omega arith

tail_le : (sep : Kind) (i : ℕ) (rest past : List Lexeme) → begins sep rest ≡ true → length rest ≤ suc i → length past ≤ length (tail_of rest) → length past ≤ i
tail_le sep i [] past b h l = absurd cc
tail_le sep i (x ∷ xs) past b h l = omega arith

module _ {C : Type 0} (sep : Kind) (none after : Production) (item : Reads) where
  regroup : (front : Parsed → C) (x : Parsed) (read : Result (Parsed × List Lexeme) (Fault Production)) → with_front front (read >>= λ y. Ok (of after (word ∷ x ∷ y.0 ∷ []), y.1)) ≡ with_front (λ z. front (of after (word ∷ x ∷ z ∷ []))) read
  regroup front x (Ok y) = refl
  regroup front x (Err f) = refl

  pub starts : (front : Parsed → C) (rest : List Lexeme) (total : Result (C × List Lexeme) (Fault Production)) → with_front front (list_from sep none after item (length rest) rest) ≡ total → Goes sep none after item front rest total
  starts front rest total e = record { count = length rest; enough = omega arith; is = e }

  step : (front : Parsed → C) (i : ℕ) (rest : List Lexeme) (x : Parsed × List Lexeme) → begins sep rest ≡ true → item (tail_of rest) ≡ Ok x → with_front front (list_from sep none after item (suc i) rest) ≡ with_front (λ z. front (of after (word ∷ x.0 ∷ z ∷ []))) (list_from sep none after item i x.1)
  unfolding list_from
  step front i rest x b e = rw (b, e) (regroup front x.0 (list_from sep none after item i x.1))

  next_at : (front : Parsed → C) (rest : List Lexeme) (x : Parsed × List Lexeme) (total : Result (C × List Lexeme) (Fault Production)) (i : ℕ) → begins sep rest ≡ true → item (tail_of rest) ≡ Ok x → length x.1 ≤ length (tail_of rest) → length rest ≤ i → with_front front (list_from sep none after item i rest) ≡ total → Goes sep none after item (λ z. front (of after (word ∷ x.0 ∷ z ∷ []))) x.1 total
  next_at front [] x total zero b e l h i = absurd cc
  next_at front (t ∷ ts) x total zero b e l h i = absurd (omega arith)
  next_at front rest x total (suc n) b e l h i = record { count = n; enough = tail_le sep n rest x.1 b h l; is = sym (step front n rest x b e) ∙ i }

  pub next : (front : Parsed → C) (rest : List Lexeme) (x : Parsed × List Lexeme) (total : Result (C × List Lexeme) (Fault Production)) → begins sep rest ≡ true → item (tail_of rest) ≡ Ok x → length x.1 ≤ length (tail_of rest) → Goes sep none after item front rest total → Goes sep none after item (λ z. front (of after (word ∷ x.0 ∷ z ∷ []))) x.1 total
  next front rest x total b e l g = next_at front rest x total g.count b e l g.enough g.is

  error_at : (f : Fault Production) (front : Parsed → C) (rest : List Lexeme) (total : Result (C × List Lexeme) (Fault Production)) (n : ℕ) → begins sep rest ≡ true → item (tail_of rest) ≡ Err f → length rest ≤ n → with_front front (list_from sep none after item n rest) ≡ total → total ≡ Err f
  unfolding list_from
  error_at f front [] total zero b e h i = absurd cc
  error_at f front (t ∷ ts) total zero b e h i = absurd (omega arith)
  error_at f front rest total (suc n) b e h i =
      let s : with_front front (list_from sep none after item (suc n) rest) ≡ Err f = rw (b, e) refl in
      sym i ∙ s

  pub fails : (e : ReadError) (front : Parsed → C) (rest : List Lexeme) (total : Result (C × List Lexeme) (Fault Production)) → begins sep rest ≡ true → Fails e (item (tail_of rest)) → Goes sep none after item front rest total → Fails e total
  fails errors.NoMemory front rest total b f g = tt
  fails (errors.Syntax n) front rest total b f g = error_at _ front rest total g.count b f g.enough g.is
  fails (errors.LeftOut o n) front rest total b f g = error_at _ front rest total g.count b f g.enough g.is
  fails (errors.TooDeep n) front rest total b f g = error_at _ front rest total g.count b f g.enough g.is

  ends_at : (front : Parsed → C) (rest : List Lexeme) (total : Result (C × List Lexeme) (Fault Production)) (n : ℕ) → begins sep rest ≡ false → with_front front (list_from sep none after item n rest) ≡ total → total ≡ Ok (front (of none []), rest)
  unfolding list_from
  ends_at front rest total zero b i = sym i
  ends_at front rest total (suc n) b i =
      let s : with_front front (list_from sep none after item (suc n) rest) ≡ Ok (front (of none []), rest) = rw b refl in
      sym i ∙ s

  pub ends : (front : Parsed → C) (rest : List Lexeme) (total : Result (C × List Lexeme) (Fault Production)) → begins sep rest ≡ false → Goes sep none after item front rest total → total ≡ Ok (front (of none []), rest)
  ends front rest total b g = ends_at front rest total g.count b g.is
