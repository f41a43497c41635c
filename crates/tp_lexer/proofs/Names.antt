-- A set of names, name by name.
use Rattle.std.proofs.Common.{◌≡◌, ℕ, ◌+◌, ◌<◌, Bool, true, false, cond, ◌||◌, List, [], length, take, get_or, nat_eq, refl, sym, ap, ◌∙◌}
use Rattle.std.specs.List.{list_any}
use Rattle.std.specs.Cmp.Lexicographic.{pointwise}
use Rattle.std.proofs.lemmas.List.Folds.{list_any_more}
use Rattle.tp_lexer.specs.Effects.{set_defined}

either : (a b : Bool) → cond b true a ≡ (a || b)
either true true = refl
either true false = refl
either false true = refl
either false false = refl

pub one_more_name : (names : List (List ℕ)) (i : ℕ) (name other : List ℕ) (old new : List ℕ → Bool) → i < length names → name ≡ get_or names i [] → new ≡ set_defined name true old →
    old other ≡ list_any (λ n. pointwise nat_eq n other) (take i names) → new other ≡ list_any (λ n. pointwise nat_eq n other) (take (i + 1) names)
one_more_name names i name other old new within is set before =
    let test : List ℕ → Bool = λ n. pointwise nat_eq n other in
    ap (λ (f : List ℕ → Bool). f other) set ∙ either (old other) (test name)
    ∙ ap (λ (b : Bool). b || test name) before ∙ ap (λ (n : List ℕ). list_any test (take i names) || test n) is
    ∙ sym (list_any_more test names i [] within)
