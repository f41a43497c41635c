-- The predeclared types can be added one after the other.
use Rattle.std.proofs.Common.{◌≡◌, ℕ, zero, suc, ◌+◌, List, [], ◌∷◌, Some, refl, arith, ap, ◌∙◌, rules}
use Rattle.std.specs.Prelude.{slice_get}
use Rattle.type_layout.specs.declared.definitions.TypeDef.{TypeDef}
use Rattle.scopes.specs.Growth.{Addition, empty, AreAddable, IsGrown}
use Rattle.scopes.specs.Predeclared.{system, type_list, of_system, type_table}
use Rattle.scopes.proofs.GrowthLaws.{grown-all, grown-empty}

pub of_system-at : (from : ℕ) (types : List TypeDef) (place : ℕ) (one : TypeDef) → slice_get types place ≡ Some one
    → slice_get (of_system from types) place ≡ Some (record { origin = system; number = from + place; one = one })
of_system-at from [] zero one at = cc
of_system-at from [] (suc place) one at = cc
of_system-at from (first ∷ types) zero one at =
    let same : first ≡ one = cc in
    let same_number : from ≡ from + 0 = omega arith in
    rw (same, ← same_number) refl
of_system-at from (first ∷ types) (suc place) one at =
    let same_number : from + 1 + place ≡ from + suc place = omega arith in
    rw (← same_number) (of_system-at (from + 1) types place one at)

pub addable : AreAddable empty (of_system 0 type_list)
addable = search rules

pub grown-type_table : IsGrown type_table
grown-type_table = grown-all empty (of_system 0 type_list) grown-empty addable

pub predeclared-at : (place : ℕ) (one : TypeDef) → slice_get type_list place ≡ Some one
    → slice_get (of_system 0 type_list) place ≡ Some (record { origin = system; number = place; one = one })
predeclared-at place one at =
    of_system-at 0 type_list place one at
    ∙ ap (λ (n : ℕ). Some (let a : Addition = record { origin = system; number = n; one = one } in a)) (let e : 0 + place ≡ place = omega arith in e)
