-- How many types of a unit are among the first of a table.
use Rattle.std.proofs.Common.{◌≡◌, ◌≤◌, ◌<◌, ◌^◌, ◌==◌, ℕ, zero, suc, ◌+◌, min, Bool, true, false, cond, List, [], ◌∷◌, ◌++◌, length, take, Some, refl, ap, ◌∙◌, arith, add-one}
use Rattle.std.specs.List.{sum_by}
use Rattle.std.specs.Prelude.{slice_get}
use Rattle.std.proofs.lemmas.List.{take_all}
use Rattle.std.proofs.lemmas.List.Sums.{sum_by-append}
use Rattle.type_layout.specs.declared.definitions.Origin.{Origin}
use Rattle.declaration_checker.specs.type_denoters.Additions.{one_of}

take-next : {A : Type 0} → (all : List A) (place : ℕ) (one : A) → slice_get all place ≡ Some one → take (suc place) all ≡ take place all ++ one ∷ []
take-next [] zero one at = cc
take-next [] (suc place) one at = cc
take-next (x ∷ xs) zero one at =
    let same : x ≡ one = cc in
    rw same refl
take-next {A} (x ∷ xs) (suc place) one at = ap (λ (rest : List A). x ∷ rest) (take-next xs place one at)

-- one type more is looked at
pub next_count : (place : ℕ) (origins : List Origin) (number count : ℕ) (one : Origin) → slice_get origins number ≡ Some one
    → count ≡ min (sum_by (one_of place) (take number origins)) 4294967295
    → min (count + one_of place one) 4294967295 ≡ min (sum_by (one_of place) (take (number + 1) origins)) 4294967295
next_count place origins number count one at is =
    rw (add-one, take-next origins number one at, sum_by-append (one_of place) (take number origins) (one ∷ []), is) (omega arith)

at_most_one : (b : Bool) → cond b 1 0 ≤ 1
at_most_one true = omega arith
at_most_one false = omega arith

-- a unit has no more types than there are
at_most : (place : ℕ) (origins : List Origin) → sum_by (one_of place) origins ≤ length origins
at_most place [] = omega arith
at_most place (origin ∷ origins) =
    let step : sum_by (one_of place) (origin ∷ origins) ≡ sum_by (one_of place) (origin ∷ []) + sum_by (one_of place) origins = sum_by-append (one_of place) (origin ∷ []) origins in
    let alone : sum_by (one_of place) (origin ∷ []) ≡ 0 + one_of place origin = refl in
    let first : one_of place origin ≤ 1 = at_most_one (origin.unit == place) in
    let rest = at_most place origins in
    omega (arith, step, alone, first, rest)

-- all are looked at, and 32 bits hold how many there are
pub whole_count : (place : ℕ) (origins : List Origin) (number count : ℕ) → length origins ≤ number → length origins < 2 ^ 32
    → count ≡ min (sum_by (one_of place) (take number origins)) 4294967295
    → count ≡ sum_by (one_of place) origins
whole_count place origins number count past few is =
    let all : count ≡ min (sum_by (one_of place) origins) 4294967295 = is ∙ ap (λ (all : List Origin). min (sum_by (one_of place) all) 4294967295) (take_all number origins past) in
    omega (arith, all, few, at_most place origins)
