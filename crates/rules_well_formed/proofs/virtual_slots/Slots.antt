-- The slot of a virtual method.
use Rattle.std.proofs.Common.{◌≡◌, ℕ, zero, suc, ◌≤◌, true, List, [], Option, Some, None, refl, subst, ap, ◌∙◌, arith}
use Rattle.std.specs.Prelude.{slice_get, position, option_map}
use Rattle.std.specs.Option.{option_and_then}
use Rattle.std.proofs.Math.Nat.{min-eq_left}
use Rattle.well_formed.specs.type_layout.declared.definitions.TypeId.{TypeId}
use Rattle.well_formed.specs.type_layout.declared.definitions.Method.{Method}
use Rattle.well_formed.specs.type_layout.declared.definitions.TypeDef.{TypeDef}
use Rattle.well_formed.specs.type_layout.declared.definitions.TypeDef.TheVariants as type
use Rattle.well_formed.specs.type_layout.Words.{same_bytes}
use Rattle.well_formed.specs.type_layout.Table.{AllDefined}
use Rattle.well_formed.specs.typed_tree.type_fits.Fits.{definition, parent_of, ancestor}
use Rattle.call_rules.specs.scopes.Members.{narrow}
use Rattle.well_formed.specs.object_vmt.Members.{members_of, members_in, nearest}
use Rattle.well_formed.specs.object_vmt.Slots.{slots_of, method_at}
use Rattle.well_formed.proofs.object_vmt_proofs.DispatchLaws.{is_dispatch}
use Rattle.call_rules.specs.method_rules.Slots.{methods_in}
use Rattle.call_rules.specs.method_rules.Methods.{method_in}
use Rattle.call_rules.proofs.method_rules.LineLaws.{are_lines}
use Rattle.rules_well_formed.specs.virtual_slots.Laws.{IsNumbered, IsSlot}
use Rattle.rules_well_formed.proofs.virtual_slots.Taken.{near_has, has_slot, slot_named}
use Rattle.rules_well_formed.proofs.virtual_slots.Lines.{nearest_found}

-- the names of the slots of a class
abbrev slots_in : List TypeDef → TypeId → List (List ℕ)
slots_in types class = slots_of (members_in (members_of types) class).methods

module _ (types : List TypeDef) (defined : AllDefined [] types) (slot : ℕ) (name : List ℕ) where
  -- a class has the slots of its ancestor
  kept_by : (heir parent : TypeId) (d : Option TypeDef) → slice_get types heir.0 ≡ d → parent_of d ≡ Some parent → slice_get (slots_in types parent) slot ≡ Some name → slice_get (slots_in types heir) slot ≡ Some name
  kept_by heir parent (Some (type.ObjectOf above dynamic fields methods)) is e has =
      (is_dispatch types defined).kept heir parent dynamic fields methods slot name (is ∙ ap (λ (o : Option TypeId). Some (type.ObjectOf o dynamic fields methods)) e) has
  kept_by heir parent d is e has = let bad : ⊥ = cc in absurd bad

  above_by : (class heir : TypeId) (n : ℕ) → ((p : TypeId) → ancestor types n p ≡ Some class → slice_get (slots_in types p) slot ≡ Some name) → (o : Option TypeId) → parent_of (definition types heir) ≡ o
      → option_and_then (ancestor types n) o ≡ Some class → slice_get (slots_in types heir) slot ≡ Some name
  above_by class heir n rec None is e = let bad : ⊥ = cc in absurd bad
  above_by class heir n rec (Some p) is e = kept_by heir p (definition types heir) refl is (rec p e)

  heir_has : (class : TypeId) → slice_get (slots_in types class) slot ≡ Some name → (n : ℕ) (heir : TypeId) → ancestor types n heir ≡ Some class → slice_get (slots_in types heir) slot ≡ Some name
  heir_has class has zero heir e =
      let same : class ≡ heir = cc in
      subst (λ (t : TypeId). slice_get (slots_in types t) slot ≡ Some name) same has
  heir_has class has (suc n) heir e = above_by class heir n (λ p k. heir_has class has n p k) (parent_of (definition types heir)) refl e

-- what answers a slot of a name
answer_of : (types : List TypeDef) (class : TypeId) (slot : ℕ) (name : List ℕ) → slice_get (slots_in types class) slot ≡ Some name
    → method_at (members_in (members_of types) class) slot ≡ nearest (members_in (members_of types) class).methods name
answer_of types class slot name e = ap (λ (o : Option (List ℕ)). option_and_then (nearest (members_in (members_of types) class).methods) o) e

module _ (types : List TypeDef) (defined : AllDefined [] types) (few : IsNumbered types) (class : TypeId) (name : List ℕ) (method : Method) where
  slot_by : nearest (methods_in types class) name ≡ Some method → (k : ℕ) → position (same_bytes name) (slots_of (methods_in types class)) ≡ Some k → IsSlot types class name method k
  slot_by near k e =
      let named = slot_named name (slots_of (methods_in types class)) k e in
      let below = named.0 in
      let count = few.slots class in
      let low : k ≤ 4294967295 = omega (arith, below, count) in
      let line : methods_in types class ≡ (members_in (members_of types) class).methods = are_lines types defined class in
      let has : slice_get (slots_in types class) k ≡ Some name = subst (λ (methods : List Method). slice_get (slots_of methods) k ≡ Some name) line named.1 in
      record {
        is = ap (λ (o : Option ℕ). option_map narrow o) e ∙ ap (λ (n : ℕ). Some n) (min-eq_left low);
        answers = answer_of types class k name has ∙ subst (λ (methods : List Method). nearest methods name ≡ Some method) line near;
        heirs = λ heir line. answer_of types heir k name (heir_has types defined k name class has line.0 heir line.1);
      }

  pub virtual_slot : method_in types class name ≡ Some method → method.is_virtual ≡ true → (slot : ℕ) × IsSlot types class name method slot
  virtual_slot found virtual =
      let near = nearest_found types few class name method found in
      let k = has_slot name (methods_in types class) (near_has name (methods_in types class) method near virtual) in
      (k.0, slot_by near k.0 k.1)
