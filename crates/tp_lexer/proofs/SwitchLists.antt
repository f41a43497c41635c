-- A list of switches by its length.
use Rattle.std.proofs.Common.{◌≡◌, ℕ, ◌<◌, cond, eqb, List, [], ◌∷◌, length, get_or, drop, Option, Some, None, refl, sym, ap, ◌∙◌, arith}
use Rattle.std.specs.Option.{option_and_then}
use Rattle.tp_lexer.specs.declared.directive.Changes.{Changes}
use Rattle.tp_lexer.specs.Directives.{switched, changes_from}

pub changes_from-more : (changes : Changes) (s : List ℕ) → 2 < length s → changes_from changes s ≡ cond (eqb (get_or s 2 0) 44) (option_and_then (λ next. changes_from next (drop 3 s)) (switched changes (get_or s 0 0) (get_or s 1 0))) None
changes_from-more changes [] more = absurd (omega arith)
changes_from-more changes (c ∷ []) more = absurd (omega arith)
changes_from-more changes (c ∷ d ∷ []) more = absurd (omega arith)
changes_from-more changes (c ∷ d ∷ e ∷ s) more = refl

pub changes_from-last : (changes : Changes) (s : List ℕ) → length s ≡ 2 → changes_from changes s ≡ switched changes (get_or s 0 0) (get_or s 1 0)
changes_from-last changes [] two = absurd (omega arith)
changes_from-last changes (c ∷ []) two = absurd (omega arith)
changes_from-last changes (c ∷ d ∷ []) two = refl
changes_from-last changes (c ∷ d ∷ e ∷ s) two = absurd (omega arith)

pub changes_from-short : (changes : Changes) (s : List ℕ) → length s < 2 → changes_from changes s ≡ None
changes_from-short changes [] short = refl
changes_from-short changes (c ∷ []) short = refl
changes_from-short changes (c ∷ d ∷ s) short = absurd (omega arith)

pub changes_from-step : (changes after : Changes) (s : List ℕ) (whole : Option Changes) → 2 < length s → get_or s 2 0 ≡ 44 → switched changes (get_or s 0 0) (get_or s 1 0) ≡ Some after → changes_from changes s ≡ whole → changes_from after (drop 3 s) ≡ whole
changes_from-step changes after [] whole more comma found before = absurd (omega arith)
changes_from-step changes after (c ∷ []) whole more comma found before = absurd (omega arith)
changes_from-step changes after (c ∷ d ∷ []) whole more comma found before = absurd (omega arith)
changes_from-step changes after (c ∷ d ∷ e ∷ s) whole more comma found before =
    let f : Changes → Option Changes = λ next. changes_from next s in
    sym (ap (option_and_then f) found) ∙ sym (ap (λ (n : ℕ). cond (eqb n 44) (option_and_then f (switched changes c d)) None) comma) ∙ before

pub ruleset switch_lists = (changes_from-step, changes_from-more, changes_from-last, changes_from-short)
