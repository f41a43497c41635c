-- Members of lists.
use Rattle.std.proofs.Common.{◌≡◌, ◌⊎◌, inl, inr, ℕ, zero, suc, All, List, [], ◌∷◌, ◌++◌, Some, refl}
use Rattle.std.specs.Prelude.{slice_get}
use Rattle.std.proofs.lemmas.List.Elements.{All-nil, All-cons}
use Rattle.rules_well_formed.specs.well_formed.Scopes.{IsOneOf}

-- an empty list has none
pub one_none : {A : Type 0} → (one : A) (place : ℕ) → slice_get [] place ≡ Some one → ⊥
one_none one place e = cc

-- a list of one has no other
pub one_only : {A : Type 0} → (one x : A) → IsOneOf one (x ∷ []) → x ≡ one
one_only one x h = by h.0 h.1
  where
    by : (place : ℕ) → slice_get (x ∷ []) place ≡ Some one → x ≡ one
    by zero e = cc
    by (suc place) e = absurd (one_none one place e)

front_at : {A : Type 0} → (one : A) (xs ys : List A) (place : ℕ) → slice_get xs place ≡ Some one → IsOneOf one (xs ++ ys)
front_at one [] ys place e = absurd (one_none one place e)
front_at one (x ∷ xs) ys zero e = (0, e)
front_at one (x ∷ xs) ys (suc place) e =
    let it = front_at one xs ys place e in
    (suc it.0, it.1)

pub one_front : {A : Type 0} → (one : A) (xs ys : List A) → IsOneOf one xs → IsOneOf one (xs ++ ys)
one_front one xs ys h = front_at one xs ys h.0 h.1

pub one_back : {A : Type 0} → (one : A) (xs ys : List A) → IsOneOf one ys → IsOneOf one (xs ++ ys)
one_back one [] ys h = h
one_back one (x ∷ xs) ys h =
    let it = one_back one xs ys h in
    (suc it.0, it.1)

both_at : {A : Type 0} → (one : A) (xs ys : List A) (place : ℕ) → slice_get (xs ++ ys) place ≡ Some one → IsOneOf one xs ⊎ IsOneOf one ys
both_at one [] ys place e = inr (place, e)
both_at one (x ∷ xs) ys zero e = inl (0, e)
both_at one (x ∷ xs) ys (suc place) e = by (both_at one xs ys place e)
  where
    by : IsOneOf one xs ⊎ IsOneOf one ys → IsOneOf one (x ∷ xs) ⊎ IsOneOf one ys
    by (inl h) = inl (suc h.0, h.1)
    by (inr h) = inr h

pub one_of_both : {A : Type 0} → (one : A) (xs ys : List A) → IsOneOf one (xs ++ ys) → IsOneOf one xs ⊎ IsOneOf one ys
one_of_both one xs ys h = both_at one xs ys h.0 h.1

-- what each member has
pub all_members : {A : Type 0} → (P : A → Type 0) (xs : List A) → ((one : A) → IsOneOf one xs → P one) → All P xs
all_members P [] h = All-nil P
all_members P (x ∷ xs) h = All-cons P x xs (h x (0, refl)) (all_members P xs (λ one k. h one (suc k.0, k.1)))
