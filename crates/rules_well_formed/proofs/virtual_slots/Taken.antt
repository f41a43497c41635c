-- The slots that methods take.
use Rattle.std.proofs.Common.{◌≡◌, ◌⊎◌, inl, inr, ℕ, ◌+◌, ◌<◌, Bool, true, false, not, ◌&&◌, ◌||◌, cond, List, [], ◌∷◌, ◌++◌, length, get_or, Option, Some, None, refl, sym, subst, ap, ◌∙◌, arith}
use Rattle.std.specs.Prelude.{slice_get, position, nat_lt}
use Rattle.std.specs.List.{list_any, position_or_len}
use Rattle.std.proofs.lemmas.List.Folds.{list_any-append}
use Rattle.std.proofs.lemmas.List.Quantifiers.{position-Some}
use Rattle.std.proofs.lemmas.Option.{slice_get-get_or}
use Rattle.well_formed.specs.type_layout.declared.definitions.Method.{Method}
use Rattle.well_formed.specs.type_layout.Words.{same_bytes}
use Rattle.well_formed.specs.object_vmt.Members.{nearest, later_of}
use Rattle.well_formed.specs.object_vmt.Slots.{with_slot, slots_from, slots_of}
use Rattle.well_formed.proofs.object_vmt_proofs.Lines.{same_bytes_is}

-- one of some methods has a name and is virtual
abbrev pub HasVirtual : List ℕ → List Method → Type 0
HasVirtual name [] = ⊥
HasVirtual name (one ∷ rest) = ((same_bytes name one.name ≡ true) × (one.is_virtual ≡ true)) ⊎ HasVirtual name rest

-- the nearest one of a name is one of the name
pub near_has : (name : List ℕ) (methods : List Method) (method : Method) → nearest methods name ≡ Some method → method.is_virtual ≡ true → HasVirtual name methods
near_has name [] method e v = let bad : ⊥ = cc in absurd bad
near_has name (one ∷ rest) method e v = by (λ k. near_has name rest method k v) (nearest rest name) refl (same_bytes name one.name) refl e
  where
    by : (nearest rest name ≡ Some method → HasVirtual name rest) → (o : Option Method) → nearest rest name ≡ o → (b : Bool) → same_bytes name one.name ≡ b
        → later_of o (cond b (Some one) None) ≡ Some method → HasVirtual name (one ∷ rest)
    by rec (Some other) is b named k = inr (rec (is ∙ k))
    by rec None is true named k =
        let same : method ≡ one = cc in
        inl (named, subst (λ (m : Method). m.is_virtual ≡ true) same v)
    by rec None is false named k = let bad : ⊥ = cc in absurd bad

-- ---- a name that has a slot

abbrev IsTaken : List ℕ → List (List ℕ) → Type 0
IsTaken name slots = list_any (same_bytes name) slots ≡ true

yes_left : (a b : Bool) → a ≡ true → (a || b) ≡ true
yes_left true b e = refl
yes_left false b e = let bad : ⊥ = cc in absurd bad

yes_right : (a b : Bool) → b ≡ true → (a || b) ≡ true
yes_right true b e = refl
yes_right false b e = e

any_left : (name : List ℕ) (xs ys : List (List ℕ)) → IsTaken name xs → IsTaken name (xs ++ ys)
any_left name xs ys h = list_any-append (same_bytes name) xs ys ∙ yes_left (list_any (same_bytes name) xs) (list_any (same_bytes name) ys) h

any_last : (name last : List ℕ) (xs : List (List ℕ)) → same_bytes name last ≡ true → IsTaken name (xs ++ last ∷ [])
any_last name last xs h =
    list_any-append (same_bytes name) xs (last ∷ []) ∙ yes_right (list_any (same_bytes name) xs) (list_any (same_bytes name) (last ∷ [])) (yes_left (same_bytes name last) false h)

-- a further method takes nothing away
kept_by : (name : List ℕ) (slots : List (List ℕ)) (method : Method) (b : Bool) → IsTaken name slots → IsTaken name (cond b (slots ++ method.name ∷ []) slots)
kept_by name slots method true h = any_left name slots (method.name ∷ []) h
kept_by name slots method false h = h

kept_all : (name : List ℕ) (slots : List (List ℕ)) (methods : List Method) → IsTaken name slots → IsTaken name (slots_from slots methods)
kept_all name slots [] h = h
kept_all name slots (method ∷ methods) h =
    kept_all name (with_slot slots method) methods (kept_by name slots method (method.is_virtual && not (list_any (same_bytes method.name) slots)) h)

-- a virtual method has a slot then
taken_by : (name : List ℕ) (slots : List (List ℕ)) (method : Method) → same_bytes name method.name ≡ true → (virtual taken : Bool) → virtual ≡ true → list_any (same_bytes method.name) slots ≡ taken
    → IsTaken name (cond (virtual && not taken) (slots ++ method.name ∷ []) slots)
taken_by name slots method named true true v t = subst (λ (word : List ℕ). IsTaken word slots) (sym (same_bytes_is name method.name named)) t
taken_by name slots method named true false v t = any_last name method.name slots named
taken_by name slots method named false taken v t = let bad : ⊥ = cc in absurd bad

taken_from : (name : List ℕ) (slots : List (List ℕ)) (methods : List Method) → HasVirtual name methods → IsTaken name (slots_from slots methods)
taken_from name slots [] h = absurd h
taken_from name slots (method ∷ methods) (inl h) =
    kept_all name (with_slot slots method) methods (taken_by name slots method h.0 method.is_virtual (list_any (same_bytes method.name) slots) h.1 refl)
taken_from name slots (method ∷ methods) (inr h) = taken_from name (with_slot slots method) methods h

-- what is there has a place
below_by : {X : Type 0} (p : X → Bool) (x : X) (xs : List X) (b : Bool) → (list_any p xs ≡ true → position_or_len p xs < length xs) → (b || list_any p xs) ≡ true
    → cond (not b) (1 + position_or_len p xs) 0 < length (x ∷ xs)
below_by p x xs true rec e = omega arith
below_by p x xs false rec e =
    let low = rec e in
    omega (arith, low)

below : {X : Type 0} (p : X → Bool) (xs : List X) → list_any p xs ≡ true → position_or_len p xs < length xs
below p [] e = let bad : ⊥ = cc in absurd bad
below p (x ∷ xs) e = below_by p x xs (p x) (λ k. below p xs k) e

pub there : {X : Type 0} (p : X → Bool) (xs : List X) → list_any p xs ≡ true → (k : ℕ) × (position p xs ≡ Some k)
there p xs e =
    let low : position_or_len p xs < length xs = below p xs e in
    let yes : nat_lt (position_or_len p xs) (length xs) ≡ true = grind arith in
    (position_or_len p xs, ap (λ (b : Bool). cond b (Some (position_or_len p xs)) None) yes)

-- a name that has a slot has a number among them
pub has_slot : (name : List ℕ) (methods : List Method) → HasVirtual name methods → (k : ℕ) × (position (same_bytes name) (slots_of methods) ≡ Some k)
has_slot name methods h = there (same_bytes name) (slots_of methods) (taken_from name [] methods h)

pub slot_named : (name : List ℕ) (slots : List (List ℕ)) (k : ℕ) → position (same_bytes name) slots ≡ Some k → (k < length slots) × (slice_get slots k ≡ Some name)
slot_named name slots k e =
    let found = position-Some (same_bytes name) slots k [] e in
    let is : name ≡ get_or slots k [] = same_bytes_is name (get_or slots k []) found.1 in
    (found.0, slice_get-get_or slots k [] found.0 ∙ ap (λ (word : List ℕ). Some word) (sym is))
