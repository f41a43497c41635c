-- Changes of an object leave a store typed.
use Rattle.std.proofs.Common.{◌≡◌, ℕ, zero, suc, ◌+◌, ◌<◌, ◌≤◌, Bool, true, false, List, [], ◌∷◌, ◌++◌, length, Some, None, refl, sym, ap, subst, ◌∙◌, arith, length-append}
use Rattle.std.specs.Prelude.{◌⊎◌, ◌==◌, if◌then◌else◌, slice_get, slice_set, Option, Ok, Err}
use Rattle.std.proofs.Common.{inl, inr, ⊎_elim}
use Rattle.std.specs.Option.{option_flatten}
use Rattle.std.proofs.lemmas.Option.{same_Some}
use Rattle.tp_meaning.specs.Trees.{Spot, Tree, with_part}
use Rattle.tp_meaning.specs.Found.{Act, ◌>>=◌, known}
use Rattle.tp_meaning.specs.Store.{Object, Store, object_at, with_object, with_new, without, tree_in, tree_at, replaced_in, replaced, without_row, disposed_in, disposed}
use Rattle.store_typing.specs.stores.Worlds.{Made, Own, World, HasForm}
use Rattle.store_typing.specs.types.Forms.{Form, form_at}
use Rattle.store_typing.specs.stores.Places.{LiesAt}
use Rattle.store_typing.specs.stores.Stores.{IsMadeOrGone, AreMade, IsTypedStore, Finds}
use Rattle.store_typing.proofs.stores.Grown.{grown, slot_in}
use Rattle.store_typing.proofs.stores.Paths.{part_of}

-- ---- lists

changed_slot : {X : Type 0} (xs : List X) (i j : ℕ) (x y : X) → slice_get (slice_set xs i x) j ≡ Some y → ((i ≡ j) × (x ≡ y)) ⊎ (slice_get xs j ≡ Some y)
changed_slot [] i j x y e = inr e
changed_slot (z ∷ xs) zero zero x y e = inl (refl, same_Some x y e)
changed_slot (z ∷ xs) zero (suc j) x y e = inr e
changed_slot (z ∷ xs) (suc i) zero x y e = inr e
changed_slot (z ∷ xs) (suc i) (suc j) x y e = ⊎_elim (λ h. inl (ap suc h.0, h.1)) inr (changed_slot xs i j x y e)

length_set : {X : Type 0} (xs : List X) (i : ℕ) (x : X) → length (slice_set xs i x) ≡ length xs
length_set [] i x = refl
length_set (z ∷ xs) zero x = refl
length_set (z ∷ xs) (suc i) x = ap suc (length_set xs i x)

within_some : {X : Type 0} (xs : List X) (k : ℕ) (x : X) → slice_get xs k ≡ Some x → k < length xs
within_some [] k x e = absurd cc
within_some (y ∷ xs) zero x e = omega arith
within_some (y ∷ xs) (suc k) x e = omega (arith, within_some xs k x e)

past_none : {X : Type 0} (xs : List X) (k : ℕ) → slice_get xs k ≡ None → length xs ≤ k
past_none [] k e = omega arith
past_none (y ∷ xs) zero e = absurd cc
past_none (y ∷ xs) (suc k) e = omega (arith, past_none xs k e)

-- ---- objects

module _ (w : World) (store : Store) (typed : IsTypedStore w store) where
  -- an object becomes another of its kind, or it is gone
  pub object_set : (serial : ℕ) (slot : Option Object) → ((made : Made) → slice_get w.made serial ≡ Some made → IsMadeOrGone w made slot) → IsTypedStore w (with_object store serial slot)
  object_set serial slot is = record {
    count = length_set store.objects serial slot ∙ typed.count;
    objects = λ k made found e e'. ⊎_elim
        (λ h. subst (IsMadeOrGone w made) h.1 (is made (ap (slice_get w.made) h.0 ∙ e)))
        (λ h. typed.objects k made found e h)
        (changed_slot store.objects serial k slot found e');
  }

  pub object_gone : (serial : ℕ) → IsTypedStore w (with_object store serial None)
  object_gone serial = object_set serial None (λ made e. tt)

  row_gone_of : (serial bytes : ℕ) → IsTypedStore w (without_row (with_object store serial None) bytes)
  row_gone_of serial bytes = let gone = object_gone serial in record { count = gone.count; objects = gone.objects }

  -- what is found at a place, if its object is there
  module _ (spot : Spot) (form : Form) (place : LiesAt w spot form) where
    no_slot : {A : Type 0} → slice_get store.objects spot.object ≡ None → A
    no_slot e = absurd (omega (arith, within_some w.made spot.object (Own place.whole) place.made, past_none store.objects spot.object e, typed.count))

    there : (slot : Option (Option Object)) → slice_get store.objects spot.object ≡ slot → Finds (HasForm w form) (tree_in (option_flatten slot) spot.path)
    there None e = no_slot e
    there (Some None) e = tt
    there (Some (Some object)) e =
        let one = part_of w (form_at place.whole) object.tree spot.path form place.leads (typed.objects spot.object (Own place.whole) (Some object) place.made e) in
        subst (λ (o : Option Tree). Finds (HasForm w form) (known o)) (sym one.found) one.has

    -- the tree at a place has the place's form, if the object is there
    pub form_found : Finds (HasForm w form) (tree_at store spot)
    form_found = there (slice_get store.objects spot.object) refl

    put : (new : Tree) → HasForm w form new → (slot : Option (Option Object)) → slice_get store.objects spot.object ≡ slot → Finds (IsTypedStore w) (replaced_in store spot new (option_flatten slot))
    put new has None e = no_slot e
    put new has (Some None) e = tt
    put new has (Some (Some object)) e =
        let one = part_of w (form_at place.whole) object.tree spot.path form place.leads (typed.objects spot.object (Own place.whole) (Some object) place.made e) in
        let changed : Object = record { tree = with_part object.tree spot.path new; bytes = object.bytes } in
        let here : HasForm w (form_at place.whole) changed.tree = one.kept new has in
        subst (λ (o : Option Tree). Finds (IsTypedStore w) (known o >>= λ old. Ok (with_object store spot.object (Some changed)))) (sym one.found)
        (object_set spot.object (Some changed) (λ made e'. subst (λ (m : Made). IsMadeOrGone w m (Some changed)) (same_Some (Own place.whole) made (sym place.made ∙ e')) here))

    -- a tree of that form is put there
    pub replaced_keeps : (new : Tree) → HasForm w form new → Finds (IsTypedStore w) (replaced store spot new)
    replaced_keeps new has = put new has (slice_get store.objects spot.object) refl

  gone_if : (serial bytes : ℕ) (same : Bool) → Finds (IsTypedStore w) (if same then Ok (without_row (with_object store serial None) bytes) else Err (Act 5))
  gone_if serial bytes true = row_gone_of serial bytes
  gone_if serial bytes false = tt

  gone_in : (serial bytes : ℕ) (slot : Option Object) → Finds (IsTypedStore w) (disposed_in store serial bytes slot)
  gone_in serial bytes None = tt
  gone_in serial bytes (Some object) = gone_if serial bytes (object.bytes == bytes)

  -- a block is disposed of
  pub disposed_keeps : (serial bytes : ℕ) → Finds (IsTypedStore w) (disposed store serial bytes)
  disposed_keeps serial bytes = gone_in serial bytes (object_at store serial)

-- variables of an activation are gone
pub without_keeps : (w : World) (count : ℕ) (store : Store) (serial : ℕ) → IsTypedStore w store → IsTypedStore w (without store serial count)
without_keeps w zero store serial typed = typed
without_keeps w (suc count) store serial typed = without_keeps w count (with_object store serial None) (serial + 1) (object_gone w store typed serial)

-- ---- new objects

length_made : (w : World) (more : List Made) (slots : List (Option Object)) → AreMade w more slots → length slots ≡ length more
length_made w [] [] each = refl
length_made w [] (slot ∷ slots) each = absurd each
length_made w (made ∷ more) [] each = absurd each
length_made w (made ∷ more) (slot ∷ slots) each = ap suc (length_made w more slots each.1)

made_at : (w : World) (more : List Made) (slots : List (Option Object)) (k : ℕ) (made : Made) (slot : Option Object) → AreMade w more slots → slice_get more k ≡ Some made → slice_get slots k ≡ Some slot → IsMadeOrGone w made slot
made_at w [] slots k made slot each e e' = absurd cc
made_at w (m ∷ more) [] k made slot each e e' = absurd each
made_at w (m ∷ more) (s ∷ slots) zero made slot each e e' =
    subst (λ (x : Made). IsMadeOrGone w x slot) (same_Some m made e) (subst (IsMadeOrGone w m) (same_Some s slot e') each.0)
made_at w (m ∷ more) (s ∷ slots) (suc k) made slot each e e' = made_at w more slots k made slot each.1 e e'

-- an element of two lists, one behind the other
record Behind {X : Type 0} (xs ys : List X) (k : ℕ) (y : X) : Type 0 where
  n : ℕ
  is : k ≡ length xs + n
  at : slice_get ys n ≡ Some y

front_or_behind : {X : Type 0} (xs ys : List X) (k : ℕ) (y : X) → slice_get (xs ++ ys) k ≡ Some y → (slice_get xs k ≡ Some y) ⊎ Behind xs ys k y
front_or_behind [] ys k y e = inr (record { n = k; is = omega arith; at = e })
front_or_behind (x ∷ xs) ys zero y e = inl e
front_or_behind (x ∷ xs) ys (suc k) y e =
    ⊎_elim inl (λ h. inr (record { n = h.n; is = omega (arith, h.is); at = h.at })) (front_or_behind xs ys k y e)

module _ (w : World) (store : Store) (typed : IsTypedStore w store) (more : List Made) (slots : List (Option Object)) (each : AreMade (grown w more) more slots) where
  new_slot : (serial : ℕ) (made : Made) (slot : Option Object) → (slice_get w.made serial ≡ Some made) ⊎ Behind w.made more serial made
      → (slice_get store.objects serial ≡ Some slot) ⊎ Behind store.objects slots serial slot → IsMadeOrGone (grown w more) made slot
  new_slot serial made slot (inl a) (inl b) = slot_in w more made slot (typed.objects serial made slot a b)
  new_slot serial made slot (inl a) (inr b) = absurd (omega (arith, within_some w.made serial made a, b.is, typed.count))
  new_slot serial made slot (inr a) (inl b) = absurd (omega (arith, within_some store.objects serial slot b, a.is, typed.count))
  new_slot serial made slot (inr a) (inr b) =
      let same : a.n ≡ b.n = omega (arith, a.is, b.is, typed.count) in
      made_at (grown w more) more slots b.n made slot each (subst (λ n. slice_get more n ≡ Some made) same a.at) b.at

  -- objects are made
  pub with_new_keeps : IsTypedStore (grown w more) (with_new store slots)
  with_new_keeps = record {
    count = omega (arith, length-append store.objects slots, length-append w.made more, length_made (grown w more) more slots each, typed.count);
    objects = λ serial made slot e e'. new_slot serial made slot (front_or_behind w.made more serial made e) (front_or_behind store.objects slots serial slot e');
  }
