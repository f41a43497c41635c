-- The slots that methods take.
use Rattle.std.proofs.Common.{◌≡◌, ℕ, zero, suc, ◌<◌, ◌^◌, Bool, true, false, not, ◌&&◌, cond, List, [], ◌∷◌, ◌++◌, length, Option, Some, None, refl, sym, ap, ◌∙◌, ◌⊎◌, inl, inr, eq-eqb, get_or}
use Rattle.std.specs.List.{slice_get, list_any}
use Rattle.std.specs.Option.{option_and_then}
use Rattle.std.proofs.lemmas.Option.{slice_get_read}
use Rattle.type_layout.specs.declared.definitions.Method.{Method}
use Rattle.type_layout.specs.Words.{same_bytes}
use Rattle.object_vmt.specs.Members.{Members, nearest, later_of}
use Rattle.object_vmt.specs.Slots.{with_slot, slots_from, slots_of, HasSlots, method_at}

pub slots_from-append : (slots : List (List ℕ)) (methods more : List Method)
    → slots_from slots (methods ++ more) ≡ slots_from (slots_from slots methods) more
slots_from-append slots [] more = refl
slots_from-append slots (method ∷ methods) more = slots_from-append (with_slot slots method) methods more

-- a further method takes its slot behind those that are there
pub has_slots_push : (methods : List Method) (method : Method) (slots next : List (List ℕ)) → HasSlots methods slots
    → next ≡ with_slot slots method → length next < 2 ^ 32 → HasSlots (methods ++ method ∷ []) next
has_slots_push methods method slots next has is few = record {
  are = is ∙ ap (λ (s : List (List ℕ)). with_slot s method) has.are ∙ sym (slots_from-append [] methods (method ∷ []));
  few = few;
}

pub same_bytes_refl : (name : List ℕ) → same_bytes name name ≡ true
same_bytes_refl [] = refl
same_bytes_refl (c ∷ cs) = rw (eq-eqb c c refl) (same_bytes_refl cs)

last_or_before : (names : List (List ℕ)) (last name : List ℕ) (k : ℕ) → slice_get (names ++ last ∷ []) k ≡ Some name
    → (slice_get names k ≡ Some name) ⊎ (last ≡ name)
last_or_before [] last name zero found = inr (cc)
last_or_before [] last name (suc k) found = absurd (cc)
last_or_before (first ∷ names) last name zero found = inl found
last_or_before (first ∷ names) last name (suc k) found = last_or_before names last name k found

-- a method of this name is declared
pub record IsDeclared (methods : List Method) (name : List ℕ) : Type 0 where
  pub method : Method
  pub is : nearest methods name ≡ Some method

declared_more : (first : Method) (methods : List Method) (name : List ℕ) → IsDeclared methods name → IsDeclared (first ∷ methods) name
declared_more first methods name d =
    record { method = d.method; is = ap (λ (z : Option Method). later_of z (cond (same_bytes name first.name) (Some first) None)) d.is }

later_or : (later : Option Method) (first : Method) → (m : Method) × (later_of later (Some first) ≡ Some m)
later_or None first = (first, refl)
later_or (Some later) first = (later, refl)

declared_first : (first : Method) (methods : List Method) (name : List ℕ) → first.name ≡ name → IsDeclared (first ∷ methods) name
declared_first first methods name is =
    let named : same_bytes name first.name ≡ true = rw is (same_bytes_refl name) in
    let l = later_or (nearest methods name) first in
    record { method = l.0; is = ap (λ (b : Bool). later_of (nearest methods name) (cond b (Some first) None)) named ∙ l.1 }

slot_before : (slots : List (List ℕ)) (method : Method) (taken : Bool) (name : List ℕ) (k : ℕ)
    → slice_get (cond taken (slots ++ method.name ∷ []) slots) k ≡ Some name → (slice_get slots k ≡ Some name) ⊎ (method.name ≡ name)
slot_before slots method true name k found = last_or_before slots method.name name k found
slot_before slots method false name k found = inl found

slot_from : (slots : List (List ℕ)) (methods : List Method) (name : List ℕ) (k : ℕ) → slice_get (slots_from slots methods) k ≡ Some name
    → (slice_get slots k ≡ Some name) ⊎ IsDeclared methods name
slot_from slots [] name k found = inl found
slot_from slots (method ∷ methods) name k found =
    elim (slot_from (with_slot slots method) methods name k found) [
      | inl h ↦ elim (slot_before slots method (method.is_virtual && not (list_any (same_bytes method.name) slots)) name k h) [
        | inl before ↦ inl before
        | inr is ↦ inr (declared_first method methods name is)
      ]
      | inr d ↦ inr (declared_more method methods name d)
    ]

none_at : (name : List ℕ) (k : ℕ) (A : Type 0) → slice_get [] k ≡ Some name → A
none_at name zero A found = absurd (cc)
none_at name (suc k) A found = absurd (cc)

-- each slot has the name of a method
pub slot_is_declared : (methods : List Method) (name : List ℕ) (k : ℕ) → slice_get (slots_of methods) k ≡ Some name → IsDeclared methods name
slot_is_declared methods name k found =
    elim (slot_from [] methods name k found) [ inl h ↦ none_at name k (IsDeclared methods name) h | inr d ↦ d ]

-- the slot of a class at a place
pub found_slot : (methods : List Method) (slots given : List (List ℕ)) (k : ℕ) (name : List ℕ) → HasSlots methods slots → given ≡ slots
    → k < length (slots_of methods) → name ≡ get_or given k name → slice_get (slots_of methods) k ≡ Some name
found_slot methods slots given k name has is within read =
    slice_get_read (slots_of methods) (length (slots_of methods)) k name refl within
    (read ∙ ap (λ (names : List (List ℕ)). get_or names k name) (is ∙ has.are))

pub method_at_found : (members : Members) (k : ℕ) (name : List ℕ) (method : Method) → slice_get (slots_of members.methods) k ≡ Some name
    → nearest members.methods name ≡ Some method → method_at members k ≡ Some method
method_at_found members k name method found is = ap (option_and_then (nearest members.methods)) found ∙ is
