-- Lists that grow at their end, and tests that decide.
use Rattle.std.proofs.Common.{◌≡◌, ℕ, zero, suc, ◌<◌, Bool, true, false, ◌||◌, ◌&&◌, List, [], ◌∷◌, ◌++◌, length, Some, take, refl, ap, ◌∙◌, arith, ◌⊎◌, inl, inr, eqb-true, nat_eq}
use Rattle.std.specs.List.{slice_get}
use Rattle.type_layout.specs.Words.{same_bytes}

pub none_at : {A : Type 0} (k : ℕ) (x : A) → slice_get [] k ≡ Some x → ⊥
none_at zero x found = cc
none_at (suc k) x found = cc

pub place_below : {A : Type 0} (xs : List A) (k : ℕ) (x : A) → slice_get xs k ≡ Some x → k < length xs
place_below [] k x found = absurd (none_at k x found)
place_below (y ∷ ys) zero x found = omega arith
place_below (y ∷ ys) (suc k) x found = let rec = place_below ys k x found in omega arith

-- an element of a list with a further one: it stood there, or it is the further one
pub place_in : {A : Type 0} (xs : List A) (last : A) (k : ℕ) (x : A) → slice_get (xs ++ last ∷ []) k ≡ Some x
    → (slice_get xs k ≡ Some x) ⊎ ((k ≡ length xs) × (last ≡ x))
place_in [] last zero x found = inr (refl, cc)
place_in [] last (suc k) x found = absurd (none_at k x found)
place_in (y ∷ ys) last zero x found = inl found
place_in (y ∷ ys) last (suc k) x found = elim (place_in ys last k x found) [ inl h ↦ inl h | inr h ↦ inr (ap (λ (n : ℕ). suc n) h.0, h.1) ]

pub stays_at : {A : Type 0} (xs more : List A) (k : ℕ) (x : A) → slice_get xs k ≡ Some x → slice_get (xs ++ more) k ≡ Some x
stays_at [] more k x found = absurd (none_at k x found)
stays_at (y ∷ ys) more zero x found = found
stays_at (y ∷ ys) more (suc k) x found = stays_at ys more k x found

pub last_at : {A : Type 0} (xs : List A) (last : A) → slice_get (xs ++ last ∷ []) (length xs) ≡ Some last
last_at [] last = refl
last_at (y ∷ ys) last = last_at ys last

pub take_front : {A : Type 0} (xs more : List A) (k : ℕ) → k < length xs → take k (xs ++ more) ≡ take k xs
take_front [] more k below = absurd (omega arith)
take_front (y ∷ ys) more zero below = refl
take_front {A} (y ∷ ys) more (suc k) below = ap (λ (zs : List A). y ∷ zs) (take_front ys more k (omega arith))

pub take_whole : {A : Type 0} (xs more : List A) → take (length xs) (xs ++ more) ≡ xs
take_whole [] more = refl
take_whole {A} (y ∷ ys) more = ap (λ (zs : List A). y ∷ zs) (take_whole ys more)

pub both_false : (a b : Bool) → (a || b) ≡ false → (a ≡ false) × (b ≡ false)
both_false true b h = absurd (cc)
both_false false b h = (refl, h)

pub one_true : (a b : Bool) → (a || b) ≡ true → (a ≡ true) ⊎ (b ≡ true)
one_true true b h = inl refl
one_true false b h = inr h

pub or_right : (a b : Bool) → b ≡ true → (a || b) ≡ true
or_right true b h = refl
or_right false b h = h

pub true_not_false : (b : Bool) → b ≡ true → b ≡ false → ⊥
true_not_false b holds fails = cc

pub both_true : (a b : Bool) → (a && b) ≡ true → (a ≡ true) × (b ≡ true)
both_true true b h = (refl, h)
both_true false b h = absurd (cc)

pub same_bytes_is : (one other : List ℕ) → same_bytes one other ≡ true → one ≡ other
same_bytes_is [] [] h = refl
same_bytes_is [] (d ∷ ds) h = absurd (cc)
same_bytes_is (c ∷ cs) [] h = absurd (cc)
same_bytes_is (c ∷ cs) (d ∷ ds) h =
    let both = both_true (nat_eq c d) (same_bytes cs ds) h in
    let heads : c ≡ d = eqb-true c d both.0 in
    ap (λ (n : ℕ). n ∷ cs) heads ∙ ap (λ (ns : List ℕ). d ∷ ns) (same_bytes_is cs ds both.1)
