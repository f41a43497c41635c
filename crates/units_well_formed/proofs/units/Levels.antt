-- The routines round one, by their outer routines, and their variables.
use Rattle.std.proofs.Common.{◌≡◌, ℕ, zero, suc, ◌<◌, List, [], ◌∷◌, get_or, Option, Some, None, refl, sym, subst, ap, ◌∙◌, arith}
use Rattle.std.specs.Prelude.{slice_get}
use Rattle.declarations_well_formed.specs.type_layout.declared.definitions.TypeId.{TypeId}
use Rattle.declarations_well_formed.specs.typed_tree.declared.units.Routine.{Routine}
use Rattle.declarations_well_formed.specs.typed_tree.type_fits.Routines.{variables_of}
use Rattle.declarations_well_formed.specs.well_formed.Scopes.{with_outer, around_from, levels_of, levels_from}
use Rattle.declarations_well_formed.specs.well_formed.WellFormed.{IsInside}
use Rattle.units_well_formed.specs.parts.Below.{AreNested, variables_at, levels_in}

-- a routine of the unit with the same variables and the same outer routine
pub record IsAlike (us : List Routine) (number : ℕ) (one : Routine) : Type 0 where
  pub other : Routine
  pub is : slice_get us number ≡ Some other
  pub variables : variables_of other ≡ variables_of one
  pub outer : other.outer ≡ one.outer

module _ (rs us : List Routine) (alike : (number : ℕ) (one : Routine) → slice_get rs number ≡ Some one → IsAlike us number one)
    (inside : (number : ℕ) (one : Routine) → slice_get rs number ≡ Some one → IsInside number one.outer) where
  first_below : (number : ℕ) (outer : Option ℕ) (next : ℕ) → IsInside number outer → outer ≡ Some next → next < number
  first_below number None next h e = let bad : ⊥ = cc in absurd bad
  first_below number (Some m) next h e =
      let same : m ≡ next = cc in
      subst (λ (n : ℕ). n < number) same h

  pub levels_alike : (most number : ℕ) (around : List ℕ) (level place : ℕ) (ty : TypeId) → number < most → AreNested rs (number ∷ around)
      → slice_get (get_or (levels_in rs (number ∷ around)) level []) place ≡ Some ty → slice_get (get_or (levels_from us most (Some number)) level []) place ≡ Some ty
  levels_alike zero number around level place ty few nested h = absurd (omega (arith, few))
  levels_alike (suc most) number around zero place ty few nested h =
      let it = alike number nested.0.0 nested.0.1 in
      let here : slice_get (variables_of nested.0.0) place ≡ Some ty = subst (λ (o : Option Routine). slice_get (variables_at o) place ≡ Some ty) nested.0.1 h in
      subst (λ (o : Option Routine). slice_get (get_or (levels_of (λ (outer : Option ℕ). levels_from us most outer) o) 0 []) place ≡ Some ty) (sym it.is)
      (subst (λ (types : List TypeId). slice_get types place ≡ Some ty) (sym it.variables) here)
  levels_alike (suc most) number [] (suc level) place ty few nested h = let bad : ⊥ = none_at level place h in absurd bad
    where
      none_at : (level place : ℕ) → slice_get (get_or (levels_in rs []) level []) place ≡ Some ty → ⊥
      none_at zero zero e = let bad : ⊥ = cc in bad
      none_at zero (suc place) e = let bad : ⊥ = cc in bad
      none_at (suc level) zero e = let bad : ⊥ = cc in bad
      none_at (suc level) (suc place) e = let bad : ⊥ = cc in bad
  levels_alike (suc most) number (next ∷ around) (suc level) place ty few nested h =
      let it = alike number nested.0.0 nested.0.1 in
      let low = first_below number nested.0.0.outer next (inside number nested.0.0 nested.0.1) nested.0.2 in
      let below : next < most = omega (arith, few, low) in
      let outer : it.other.outer ≡ Some next = it.outer ∙ nested.0.2 in
      let rest = levels_alike most next around level place ty below nested.1 h in
      subst (λ (o : Option Routine). slice_get (get_or (levels_of (λ (out : Option ℕ). levels_from us most out) o) (suc level) []) place ≡ Some ty) (sym it.is)
      (subst (λ (o : Option ℕ). slice_get (get_or (levels_from us most o) level []) place ≡ Some ty) (sym outer) rest)

  -- the routines round it
  none_around : (most : ℕ) → around_from us most None ≡ []
  none_around zero = refl
  none_around (suc most) = refl

  pub around_alike : (most number : ℕ) (around : List ℕ) → number < most → AreNested rs (number ∷ around) → around_from us most (Some number) ≡ number ∷ around
  around_alike zero number around few nested = absurd (omega (arith, few))
  around_alike (suc most) number [] few nested =
      let it = alike number nested.0.0 nested.0.1 in
      ap (λ (o : Option Routine). with_outer number (λ (outer : Option ℕ). around_from us most outer) o) it.is
      ∙ ap (λ (o : Option ℕ). number ∷ around_from us most o) (it.outer ∙ nested.0.2)
      ∙ ap (λ (rest : List ℕ). number ∷ rest) (none_around most)
  around_alike (suc most) number (next ∷ around) few nested =
      let it = alike number nested.0.0 nested.0.1 in
      let low = first_below number nested.0.0.outer next (inside number nested.0.0 nested.0.1) nested.0.2 in
      let below : next < most = omega (arith, few, low) in
      ap (λ (o : Option Routine). with_outer number (λ (outer : Option ℕ). around_from us most outer) o) it.is
      ∙ ap (λ (o : Option ℕ). number ∷ around_from us most o) (it.outer ∙ nested.0.2)
      ∙ ap (λ (rest : List ℕ). number ∷ rest) (around_alike most next around below nested.1)
