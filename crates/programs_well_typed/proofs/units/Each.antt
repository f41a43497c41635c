-- Lists of which each element has a property.
use Rattle.std.proofs.Common.{◌≡◌, ℕ, zero, suc, List, [], ◌∷◌, ◌++◌, Some, refl, subst}
use Rattle.std.specs.Prelude.{slice_get}

abbrev pub Each : {A : Type 0} → (A → Type 0) → List A → Type 0
Each P [] = Unit {0}
Each P (x ∷ xs) = P x × Each P xs

pub each_at : {A : Type 0} → (P : A → Type 0) (xs : List A) (number : ℕ) (x : A) → Each P xs → slice_get xs number ≡ Some x → P x
each_at P [] zero x all at = cc
each_at P [] (suc number) x all at = cc
each_at P (y ∷ ys) zero x all at = let same : y ≡ x = cc in subst P same all.0
each_at P (y ∷ ys) (suc number) x all at = each_at P ys number x all.1 at

pub each_from : {A : Type 0} → (P : A → Type 0) (xs : List A) → ((number : ℕ) (x : A) → slice_get xs number ≡ Some x → P x) → Each P xs
each_from P [] f = tt
each_from P (x ∷ xs) f = (f zero x refl, each_from P xs (λ number y at. f (suc number) y at))

pub each_on : {A : Type 0} → (P : A → Type 0) (xs ys : List A) → Each P xs → Each P ys → Each P (xs ++ ys)
each_on P [] ys h k = k
each_on P (x ∷ xs) ys h k = (h.0, each_on P xs ys h.1 k)

pub each_as : {A : Type 0} → (P Q : A → Type 0) → ((x : A) → P x → Q x) → (xs : List A) → Each P xs → Each Q xs
each_as P Q f [] h = tt
each_as P Q f (x ∷ xs) h = (f x h.0, each_as P Q f xs h.1)
