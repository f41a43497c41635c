-- Steps of the loops over the uses of a unit.
use Rattle.std.proofs.Common.{◌≡◌, ℕ, ◌+◌, ◌<◌, true, false, List, [], ◌∷◌, ◌++◌, length, get_or, take, Some, refl, ap, ◌∙◌}
use Rattle.std.specs.Prelude.{slice_get}
use Rattle.std.proofs.lemmas.Bool.{and_parts}
use Rattle.scopes.specs.Environment.{Environment}
use Rattle.scopes.specs.Predeclared.{first}
use Rattle.unit_interface.specs.declared.interfaces.Interface.{Interface}
use Rattle.unit_interface.specs.Resolve.{with_use, with_uses, resolved, is_there, is_repeated}
use Rattle.unit_interface.specs.Fitting.{use_fits, uses_fit}
use Rattle.unit_interface.proofs.MergeLaws.{item-at, take-next}

-- a name at a place of the uses is no repetition
abbrev pub IsOnce : List (List ℕ) → ℕ → Type 0
IsOnce uses place = (name : List ℕ) → slice_get uses place ≡ Some name → is_repeated (take place uses) name ≡ false

abbrev pub IsFound : List Interface → List (List ℕ) → ℕ → Type 0
IsFound have uses place = (name : List ℕ) → slice_get uses place ≡ Some name → is_there have name ≡ true

pub with_uses-push : (have : List Interface) (environment : Environment) (names : List (List ℕ)) (name : List ℕ)
    → with_uses have environment (names ++ name ∷ []) ≡ with_use have (with_uses have environment names) name
with_uses-push have environment [] name = refl
with_uses-push have environment (one ∷ names) name = with_uses-push have (with_use have environment one) names name

uses_fit-push : (have : List Interface) (environment : Environment) (names : List (List ℕ)) (name : List ℕ) → uses_fit have environment names ≡ true
    → use_fits have (with_uses have environment names) name ≡ true → uses_fit have environment (names ++ name ∷ []) ≡ true
uses_fit-push have environment [] name fit here = rw here refl
uses_fit-push have environment (one ∷ names) name fit here =
    let both = and_parts (use_fits have environment one) (uses_fit have (with_use have environment one) names) fit in
    rw (both.0, uses_fit-push have (with_use have environment one) names name both.1 here) refl

-- a further used unit fits
pub fit-next : (have : List Interface) (own : List ℕ) (uses : List (List ℕ)) (place : ℕ) (name : List ℕ) (scope : Environment) → place < length uses
    → name ≡ get_or uses place name → scope ≡ resolved have own (take place uses) → uses_fit have (first own) (take place uses) ≡ true → use_fits have scope name ≡ true
    → uses_fit have (first own) (take (place + 1) uses) ≡ true
fit-next have own uses place name scope below is at fit here =
    rw (take-next uses place name (item-at uses place name below is))
    (uses_fit-push have (first own) (take place uses) name fit (rw (← at) here))

pub resolved-next : (have : List Interface) (own : List ℕ) (uses : List (List ℕ)) (place : ℕ) (name : List ℕ) → place < length uses → name ≡ get_or uses place name
    → resolved have own (take (place + 1) uses) ≡ with_use have (resolved have own (take place uses)) name
resolved-next have own uses place name below is =
    ap (resolved have own) (take-next uses place name (item-at uses place name below is)) ∙ with_uses-push have (first own) (take place uses) name
