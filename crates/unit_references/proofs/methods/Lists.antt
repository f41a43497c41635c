-- Lists of methods: the slots that they take, and the method that answers a name.
use Rattle.std.proofs.Common.{◌≡◌, ℕ, zero, suc, Bool, true, false, List, [], ◌∷◌, ◌++◌, map, Some, None, refl, sym, ap, subst, ◌∙◌}
use Rattle.std.proofs.Common.{inl, inr, ⊎_elim}
use Rattle.std.specs.Prelude.{◌⊎◌, Option, slice_get, cond, not, ◌&&◌, option_and_then}
use Rattle.std.specs.List.{list_any}
use Rattle.std.specs.Option.{option_map}
use Rattle.type_soundness.specs.type_layout.declared.definitions.Method.{Method}
use Rattle.type_soundness.specs.type_layout.Words.{same_bytes}
use Rattle.type_soundness.specs.object_vmt.Members.{later_of, nearest}
use Rattle.type_soundness.specs.object_vmt.Slots.{with_slot, slots_from, slots_of}
use Rattle.type_soundness.specs.object_vmt.Rules.{first_virtual}
use Rattle.type_soundness.proofs.object_vmt_proofs.SlotLaws.{slots_from-append, same_bytes_refl}
use Rattle.type_soundness.proofs.object_vmt_proofs.Lines.{stays_at}

-- ---- slots

stays_with : (slots : List (List ℕ)) (method : Method) (taken : Bool) (k : ℕ) (name : List ℕ) → slice_get slots k ≡ Some name → slice_get (cond taken (slots ++ method.name ∷ []) slots) k ≡ Some name
stays_with slots method true k name found = stays_at slots (method.name ∷ []) k name found
stays_with slots method false k name found = found

slot_stays : (slots : List (List ℕ)) (methods : List Method) (k : ℕ) (name : List ℕ) → slice_get slots k ≡ Some name → slice_get (slots_from slots methods) k ≡ Some name
slot_stays slots [] k name found = found
slot_stays slots (method ∷ methods) k name found =
    slot_stays (with_slot slots method) methods k name (stays_with slots method (method.is_virtual && not (list_any (same_bytes method.name) slots)) k name found)

-- methods that are declared below keep each slot
pub slot_kept : (methods more : List Method) (k : ℕ) (name : List ℕ) → slice_get (slots_of methods) k ≡ Some name → slice_get (slots_of (methods ++ more)) k ≡ Some name
slot_kept methods more k name found =
    subst (λ (s : List (List ℕ)). slice_get s k ≡ Some name) (sym (slots_from-append [] methods more)) (slot_stays (slots_of methods) more k name found)

last_or_before : (names : List (List ℕ)) (last name : List ℕ) (k : ℕ) → slice_get (names ++ last ∷ []) k ≡ Some name → (slice_get names k ≡ Some name) ⊎ (last ≡ name)
last_or_before [] last name zero found = inr cc
last_or_before [] last name (suc k) found = absurd cc
last_or_before (first ∷ names) last name zero found = inl found
last_or_before (first ∷ names) last name (suc k) found = last_or_before names last name k found

-- a virtual method has a name
abbrev pub IsVirtual : List Method → List ℕ → Type 0
IsVirtual methods name = (method : Method) × (first_virtual methods name ≡ Some method)

virtual_more : (t : Bool) (method : Method) (methods : List Method) (name : List ℕ) → IsVirtual methods name → (one : Method) × (cond t (Some method) (first_virtual methods name) ≡ Some one)
virtual_more true method methods name is = (method, refl)
virtual_more false method methods name is = is

both_first : (a b : Bool) → (a && b) ≡ true → a ≡ true
both_first true b e = refl
both_first false b e = absurd cc

virtual_here : (method : Method) (methods : List Method) (name : List ℕ) → method.is_virtual ≡ true → method.name ≡ name → IsVirtual (method ∷ methods) name
virtual_here method methods name virtual named =
    let test : (method.is_virtual && same_bytes name method.name) ≡ true =
    ap (λ (b : Bool). b && same_bytes name method.name) virtual ∙ ap (λ (n : List ℕ). same_bytes name n) named ∙ same_bytes_refl name in
    (method, ap (λ (b : Bool). cond b (Some method) (first_virtual methods name)) test)

taken_here : (slots : List (List ℕ)) (method : Method) (methods : List Method) (name : List ℕ) (k : ℕ) (taken : Bool) → (method.is_virtual && not (list_any (same_bytes method.name) slots)) ≡ taken
    → slice_get (cond taken (slots ++ method.name ∷ []) slots) k ≡ Some name → (slice_get slots k ≡ Some name) ⊎ IsVirtual (method ∷ methods) name
taken_here slots method methods name k true is found =
    ⊎_elim inl (λ named. inr (virtual_here method methods name (both_first method.is_virtual (not (list_any (same_bytes method.name) slots)) is) named)) (last_or_before slots method.name name k found)
taken_here slots method methods name k false is found = inl found

slot_from : (slots : List (List ℕ)) (methods : List Method) (name : List ℕ) (k : ℕ) → slice_get (slots_from slots methods) k ≡ Some name → (slice_get slots k ≡ Some name) ⊎ IsVirtual methods name
slot_from slots [] name k found = inl found
slot_from slots (method ∷ methods) name k found =
    ⊎_elim (λ h. taken_here slots method methods name k (method.is_virtual && not (list_any (same_bytes method.name) slots)) refl h)
    (λ is. inr (virtual_more (method.is_virtual && same_bytes name method.name) method methods name is)) (slot_from (with_slot slots method) methods name k found)

no_slot : {A : Type 0} (name : List ℕ) (k : ℕ) → slice_get [] k ≡ Some name → A
no_slot name zero e = absurd cc
no_slot name (suc k) e = absurd cc

-- each slot was taken by a virtual method
pub slot_virtual : (methods : List Method) (name : List ℕ) (k : ℕ) → slice_get (slots_of methods) k ≡ Some name → IsVirtual methods name
slot_virtual methods name k found = ⊎_elim (λ h. no_slot name k h) (λ is. is) (slot_from [] methods name k found)

first_by : (t : Bool) (method one : Method) (methods more : List Method) (name : List ℕ) → (first_virtual methods name ≡ Some one → first_virtual (methods ++ more) name ≡ Some one)
    → cond t (Some method) (first_virtual methods name) ≡ Some one → cond t (Some method) (first_virtual (methods ++ more) name) ≡ Some one
first_by true method one methods more name rec e = e
first_by false method one methods more name rec e = rec e

-- which stays the first
pub first_stays : (methods more : List Method) (name : List ℕ) (one : Method) → first_virtual methods name ≡ Some one → first_virtual (methods ++ more) name ≡ Some one
first_stays [] more name one e = absurd cc
first_stays (method ∷ methods) more name one e =
    first_by (method.is_virtual && same_bytes name method.name) method one methods more name (λ e'. first_stays methods more name one e') e

-- ---- the nearest method

abbrev pub StandsIn : List Method → Method → Type 0
StandsIn methods method = (place : ℕ) × (slice_get methods place ≡ Some method)

nearest_by : (t : Bool) (method one : Method) (methods : List Method) (later : Option Method) → (later ≡ Some one → StandsIn methods one) → later_of later (cond t (Some method) None) ≡ Some one → StandsIn (method ∷ methods) one
nearest_by t method one methods (Some m) rec e = let at = rec e in (suc at.0, at.1)
nearest_by true method one methods None rec e = (0, e)
nearest_by false method one methods None rec e = absurd cc

-- it is one of them
pub nearest_stands : (methods : List Method) (name : List ℕ) (one : Method) → nearest methods name ≡ Some one → StandsIn methods one
nearest_stands [] name one e = absurd cc
nearest_stands (method ∷ methods) name one e = nearest_by (same_bytes name method.name) method one methods (nearest methods name) (λ e'. nearest_stands methods name one e') e

later_three : (a b c : Option Method) → later_of (later_of a b) c ≡ later_of a (later_of b c)
later_three (Some m) b c = refl
later_three None b c = refl

nearest_append : (xs ys : List Method) (name : List ℕ) → nearest (xs ++ ys) name ≡ later_of (nearest ys name) (nearest xs name)
nearest_append [] ys name = none (nearest ys name) where
  none : (o : Option Method) → o ≡ later_of o None
  none (Some m) = refl
  none None = refl
nearest_append (x ∷ xs) ys name =
    ap (λ (o : Option Method). later_of o (cond (same_bytes name x.name) (Some x) None)) (nearest_append xs ys name)
    ∙ later_three (nearest ys name) (nearest xs name) (cond (same_bytes name x.name) (Some x) None)

either : (a b : Option Method) (one : Method) → later_of a b ≡ Some one → (a ≡ Some one) ⊎ (b ≡ Some one)
either (Some m) b one e = inl e
either None b one e = inr e

-- it is declared below or above
pub nearest_either : (xs ys : List Method) (name : List ℕ) (one : Method) → nearest (xs ++ ys) name ≡ Some one → (nearest ys name ≡ Some one) ⊎ (nearest xs name ≡ Some one)
nearest_either xs ys name one e = either (nearest ys name) (nearest xs name) one (sym (nearest_append xs ys name) ∙ e)

-- ---- methods of two tables that are declared alike

module _ {D : Type 0} (f g : Method → D) (name_of : D → List ℕ) (virtual_of : D → Bool) (f_name : (m : Method) → name_of (f m) ≡ m.name) (g_name : (m : Method) → name_of (g m) ≡ m.name)
    (f_virtual : (m : Method) → virtual_of (f m) ≡ m.is_virtual) (g_virtual : (m : Method) → virtual_of (g m) ≡ m.is_virtual) where
  same_name : (x y : Method) → f x ≡ g y → x.name ≡ y.name
  same_name x y e = sym (f_name x) ∙ ap name_of e ∙ g_name y

  same_virtual : (x y : Method) → f x ≡ g y → x.is_virtual ≡ y.is_virtual
  same_virtual x y e = sym (f_virtual x) ∙ ap virtual_of e ∙ g_virtual y

  with_alike : (slots : List (List ℕ)) (x y : Method) → f x ≡ g y → with_slot slots x ≡ with_slot slots y
  with_alike slots x y e =
      let name = same_name x y e in
      ap (λ (b : Bool). cond (b && not (list_any (same_bytes x.name) slots)) (slots ++ x.name ∷ []) slots) (same_virtual x y e)
      ∙ ap (λ (n : List ℕ). cond (y.is_virtual && not (list_any (same_bytes n) slots)) (slots ++ n ∷ []) slots) name

  slots_alike : (xs ys : List Method) (slots : List (List ℕ)) → map f xs ≡ map g ys → slots_from slots xs ≡ slots_from slots ys
  slots_alike [] [] slots e = refl
  slots_alike [] (y ∷ ys) slots e = absurd cc
  slots_alike (x ∷ xs) [] slots e = absurd cc
  slots_alike (x ∷ xs) (y ∷ ys) slots e =
      let first : f x ≡ g y = cc in
      let rest : map f xs ≡ map g ys = cc in
      ap (λ (s : List (List ℕ)). slots_from s xs) (with_alike slots x y first) ∙ slots_alike xs ys (with_slot slots y) rest

  abbrev later_in : Option D → Option D → Option D
  later_in (Some later) earlier = Some later
  later_in None earlier = earlier

  later_map : (h : Method → D) (a b : Option Method) → option_map h (later_of a b) ≡ later_in (option_map h a) (option_map h b)
  later_map h (Some m) b = refl
  later_map h None b = refl

  cond_map : (h : Method → D) (t : Bool) (m : Method) → option_map h (cond t (Some m) None) ≡ cond t (Some (h m)) None
  cond_map h true m = refl
  cond_map h false m = refl

  nearest_alike : (xs ys : List Method) (name : List ℕ) → map f xs ≡ map g ys → option_map f (nearest xs name) ≡ option_map g (nearest ys name)
  nearest_alike [] [] name e = refl
  nearest_alike [] (y ∷ ys) name e = absurd cc
  nearest_alike (x ∷ xs) [] name e = absurd cc
  nearest_alike (x ∷ xs) (y ∷ ys) name e =
      let first : f x ≡ g y = cc in
      let rest : map f xs ≡ map g ys = cc in
      later_map f (nearest xs name) (cond (same_bytes name x.name) (Some x) None)
      ∙ ap (λ (o : Option D). later_in o (option_map f (cond (same_bytes name x.name) (Some x) None))) (nearest_alike xs ys name rest)
      ∙ ap (later_in (option_map g (nearest ys name)))
      (cond_map f (same_bytes name x.name) x ∙ ap (λ (d : D). cond (same_bytes name x.name) (Some d) None) first
      ∙ ap (λ (n : List ℕ). cond (same_bytes name n) (Some (g y)) None) (same_name x y first) ∙ sym (cond_map g (same_bytes name y.name) y))
      ∙ sym (later_map g (nearest ys name) (cond (same_bytes name y.name) (Some y) None))

  by_slot : (xs ys : List Method) → map f xs ≡ map g ys → (o : Option (List ℕ)) → option_map f (option_and_then (nearest xs) o) ≡ option_map g (option_and_then (nearest ys) o)
  by_slot xs ys e None = refl
  by_slot xs ys e (Some name) = nearest_alike xs ys name e

  -- a slot is answered alike
  pub answered_alike : (xs ys : List Method) (slot : ℕ) → map f xs ≡ map g ys
      → option_map f (option_and_then (nearest xs) (slice_get (slots_of xs) slot)) ≡ option_map g (option_and_then (nearest ys) (slice_get (slots_of ys) slot))
  answered_alike xs ys slot e =
      ap (λ (s : List (List ℕ)). option_map f (option_and_then (nearest xs) (slice_get s slot))) (slots_alike xs ys [] e) ∙ by_slot xs ys e (slice_get (slots_of ys) slot)

-- what is mapped to something
pub mapped_some : {X D : Type 0} (g : X → D) (o : Option X) (d : D) → option_map g o ≡ Some d → (x : X) × (o ≡ Some x) × (g x ≡ d)
mapped_some g None d e = absurd cc
mapped_some g (Some x) d e = (x, refl, cc)
