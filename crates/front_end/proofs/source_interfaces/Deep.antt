-- Where no unit lies on a circle, no more uses stand behind one another than there are units.
use Rattle.std.proofs.Common.{◌≡◌, ℕ, zero, suc, ◌<◌, ◌≤◌, Bool, true, false, List, [], ◌∷◌, length, refl, sym, subst, arith, inl, inr, nat_eq, eqb-true}
use Rattle.std.specs.List.{list_any}
use Rattle.std.proofs.lemmas.Map.Steps.{length-le_from_distinct_below}
use Rattle.unit_interface.specs.Circles.{next, LeadsWithin, IsOnCircle}
use Rattle.unit_interface.specs.Order.{repeats}
use Rattle.unit_interface.proofs.CircleLaws.{one_true, distinct}
use Rattle.front_end.specs.source_interfaces.Interfaces.{IsDeep}
use Rattle.front_end.proofs.source_interfaces.Uses.{contrary}

-- each of these places is used by the one before it
abbrev Walks : List (List ℕ) → ℕ → List ℕ → Type 0
Walks edges from [] = Unit {0}
Walks edges from (to ∷ rest) = (list_any (nat_eq to) (next edges from) ≡ true) × Walks edges to rest

record Way (edges : List (List ℕ)) (from target : ℕ) : Type 0 where
  pub steps : ℕ
  pub leads : LeadsWithin edges steps from target

way : (edges : List (List ℕ)) (from : ℕ) (rest : List ℕ) (target : ℕ) → Walks edges from rest → list_any (nat_eq target) rest ≡ true → Way edges from target
way edges from [] target walks on = absurd (cc)
way edges from (to ∷ rest) target walks on =
    elim (one_true (nat_eq target to) (list_any (nat_eq target) rest) on) [
      | inl here ↦ record { steps = suc zero; leads = (to, walks.0, inl (sym (eqb-true target to here))) }
      | inr later ↦ let w = way edges to rest target walks.1 later in record { steps = suc w.steps; leads = (to, walks.0, inr w.leads) }
    ]

record Circle (edges : List (List ℕ)) : Type 0 where
  pub place : ℕ
  pub on : IsOnCircle edges place

circle : (edges : List (List ℕ)) (from : ℕ) (rest : List ℕ) → Walks edges from rest → repeats (from ∷ rest) ≡ true → Circle edges
circle edges from [] walks twice = absurd (cc)
circle edges from (to ∷ rest) walks twice =
    elim (one_true (list_any (nat_eq from) (to ∷ rest)) (repeats (to ∷ rest)) twice) [
      | inl again ↦ let w = way edges from (to ∷ rest) from walks again in record { place = from; on = record { steps = w.steps; leads = w.leads } }
      | inr later ↦ circle edges to rest walks.1 later
    ]

record Walk (edges : List (List ℕ)) (steps from : ℕ) : Type 0 where
  pub rest : List ℕ
  pub walks : Walks edges from rest
  pub long : length rest ≡ steps
  pub below : (place : ℕ) → list_any (nat_eq place) rest ≡ true → place < length edges

walk : (edges : List (List ℕ)) (steps from : ℕ) → IsDeep edges steps from → Walk edges steps from
walk edges zero from deep = record { rest = []; walks = tt; long = refl; below = λ place on. contrary false on refl }
walk edges (suc steps) from (to, used, below, deep) =
    let w = walk edges steps to deep in
    record {
      rest = to ∷ w.rest;
      walks = (used, w.walks);
      long = omega (arith, w.long);
      below = λ place on. elim (one_true (nat_eq place to) (list_any (nat_eq place) w.rest) on) [
        | inl here ↦ subst (λ (p : ℕ). p < length edges) (sym (eqb-true place to here)) below
        | inr later ↦ w.below place later
      ];
    }

pub too_deep : (edges : List (List ℕ)) → ((place : ℕ) → IsOnCircle edges place → ⊥) → (steps from : ℕ) → length edges ≤ steps → from < length edges → IsDeep edges steps from → ⊥
too_deep edges acyclic steps from far within deep = by (repeats (from ∷ (walk edges steps from deep).rest)) refl
  where
    by : (b : Bool) → repeats (from ∷ (walk edges steps from deep).rest) ≡ b → ⊥
    by true twice =
        let w = walk edges steps from deep in
        let c = circle edges from w.rest w.walks twice in
        acyclic c.place c.on
    by false once =
        let w = walk edges steps from deep in
        let few : length (from ∷ w.rest) ≤ length edges =
        length-le_from_distinct_below (from ∷ w.rest) (length edges) (distinct (from ∷ w.rest) once)
        (λ place on. elim (one_true (nat_eq place from) (list_any (nat_eq place) w.rest) on) [
          | inl here ↦ subst (λ (p : ℕ). p < length edges) (sym (eqb-true place from here)) within
          | inr later ↦ w.below place later
        ]) in
        absurd (omega (arith, few, far, w.long))
