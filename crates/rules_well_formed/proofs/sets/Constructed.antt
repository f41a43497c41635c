-- Set constructors are typed.
use Rattle.std.proofs.Common.{◌≡◌, ℕ, suc, ◌+◌, Bool, true, false, cond, List, [], ◌∷◌, map, Option, Some, None, refl, sym, subst, ap, ◌∙◌, arith}
use Rattle.std.proofs.Math.IntN.{ℤ, pos}
use Rattle.std.specs.Prelude.{slice_get, ◌≤ℤ◌}
use Rattle.std.specs.Option.{option_and_then}
use Rattle.std.proofs.lemmas.Int.{ints}
use Rattle.std.proofs.lemmas.Bool.Decides.{Decides-eqb}
use Rattle.well_formed.specs.type_layout.declared.definitions.TypeId.{TypeId}
use Rattle.well_formed.specs.type_layout.declared.definitions.Host.TheVariants as host
use Rattle.well_formed.specs.type_layout.declared.definitions.TypeDef.{TypeDef}
use Rattle.well_formed.specs.type_layout.declared.definitions.TypeDef.TheVariants as type
use Rattle.well_formed.specs.type_layout.declared.texts.Place.{Place}
use Rattle.well_formed.specs.typed_tree.Expressions.{Expression, Elements, type_of}
use Rattle.well_formed.specs.typed_tree.type_fits.Fits.{definition, stored_as, family_of, IsSome, AreOfOneFamily}
use Rattle.well_formed.specs.Scopes.{Scope}
use Rattle.well_formed.specs.Typed.{IsTyped, IsMember, AreTypedElements}
use Rattle.well_formed.specs.typed_tree.type_fits.Standard.{sort_of}
use Rattle.call_rules.specs.scopes.Predeclared.{type_id, whole}
use Rattle.call_rules.specs.typing_rules.declared.sorts.Range.{Range as Bounds}
use Rattle.call_rules.specs.typing_rules.declared.sorts.Sort.{Sort}
use Rattle.call_rules.specs.typing_rules.declared.sorts.Sort.TheVariants as sort
use Rattle.call_rules.specs.typing_rules.Sorts as sorts
use Rattle.call_rules.specs.typing_rules.Plans.{AreOfOneHost}
use Rattle.call_rules.specs.typing_rules.Assignments.{ranged_as, ranged}
use Rattle.call_rules.specs.set_rules.Bases.{is_set_of, set_in, set_over}
use Rattle.call_rules.specs.set_rules.Sets.{Item, single, span, onto, elements_of, AreItems, IsItem, ranged_item, first_sort, typed_set, constructed_by, constructed}
use Rattle.rules_well_formed.specs.nodes.Tables.{IsSound}
use Rattle.rules_well_formed.specs.nodes.Laws.{IsOperand}
use Rattle.rules_well_formed.proofs.nodes.Ordinals.{at_begin, stored_byte, stored_char, stored_boolean, set_types}
use Rattle.rules_well_formed.proofs.nodes.Sorted.{Shows, shows}
use Rattle.rules_well_formed.proofs.nodes.Wanting.{some_of}
use Rattle.rules_well_formed.proofs.nodes.Combined.{not_nil, hosts_left, hosts_right}
use Rattle.rules_well_formed.proofs.nodes.Indexed.{one_family}
use Rattle.rules_well_formed.proofs.nodes.Assigned.{same_id, hosts_stored}
use Rattle.rules_well_formed.specs.sets.Laws.{ListsOperands, AllListOperands}

-- ---- the base

-- a set type whose base is of the family of a sort
pub record IsOver (s : Scope) (x : Sort) (ty : TypeId) : Type 0 where
  pub base : TypeId
  pub is : definition s.types ty ≡ Some (type.SetOf base)
  pub like : (y : Sort) (one : Option TypeDef) → AreOfOneHost x y → Shows s.types y one → AreOfOneFamily (definition s.types base) one

pub record Found (over : TypeId) (number : ℕ) (types : List TypeDef) (id : TypeId) : Type 0 where
  pub place : ℕ
  pub base : TypeId
  pub is : id.0 ≡ number + place
  pub at : slice_get types place ≡ Some (type.SetOf base)
  pub same : base.0 ≡ over.0

abbrev id_in : Option TypeId → ℕ
id_in None = 0
id_in (Some ty) = ty.0

set_here : (over : TypeId) (number : ℕ) (types : List TypeDef) (id : TypeId) (one : TypeDef) → is_set_of over one ≡ true → number ≡ id.0 → Found over number (one ∷ types) id
set_here over number types id (type.SetOf base) e is = record { place = 0; base = base; is = omega (arith, is); at = refl; same = (Decides-eqb base.0 over.0).0 e }
set_here over number types id one e is = let bad : ⊥ = cc in absurd bad

set_by : (over : TypeId) (number : ℕ) (one : TypeDef) (types : List TypeDef) (id : TypeId) → (set_in over (number + 1) types ≡ Some id → Found over (number + 1) types id)
    → (b : Bool) → is_set_of over one ≡ b → cond b (Some (type_id number)) (set_in over (number + 1) types) ≡ Some id → Found over number (one ∷ types) id
set_by over number one types id rec true is e = set_here over number types id one is (ap (λ (o : Option TypeId). id_in o) e)
set_by over number one types id rec false is e =
    let r = rec e in
    let at = r.is in
    record { place = suc r.place; base = r.base; is = omega (arith, at); at = r.at; same = r.same }

set_found : (over : TypeId) (number : ℕ) (types : List TypeDef) (id : TypeId) → set_in over number types ≡ Some id → Found over number types id
set_found over number [] id e = let bad : ⊥ = cc in absurd bad
set_found over number (one ∷ types) id e = set_by over number one types id (λ k. set_found over (number + 1) types id k) (is_set_of over one) refl e

enumerated : (types : List TypeDef) (ty : TypeId) (y : Sort) (one : Option TypeDef) → AreOfOneHost (sort.Enumeration ty) y → Shows types y one → family_of one ≡ Some host.Enumeration
enumerated types ty (sort.Enumeration other) one k h = h.1
enumerated types ty y one k h = absurd k

module _ (s : Scope) (sound : IsSound s.types) where
  over_type : (x : Sort) (set base : TypeId) → definition s.types set ≡ Some (type.SetOf base) → Shows s.types x (definition s.types base) → IsOver s x set
  over_type x set base is h = record { base = base; is = is; like = λ y one k i. one_family s.types x y (definition s.types base) one k h i }

  at_id : (x : Sort) (set ty : TypeId) → Some set ≡ Some ty → IsOver s x set → IsOver s x ty
  at_id x set ty e h =
      let same : set ≡ ty = cc in
      subst (λ (t : TypeId). IsOver s x t) same h

  over_bytes : (r : Bounds) → IsOver s (sort.Integer r) (type_id 8)
  over_bytes r =
      let byte : definition s.types (type_id 1) ≡ Some (whole host.Byte) = at_begin s.types sound.begins.0 1 (whole host.Byte) sound.begins.1 refl in
      over_type (sort.Integer r) (type_id 8) (type_id 1) (set_types s.types sound).0
      (ap (λ (o : Option TypeDef). family_of o) byte, some_of (stored_as (definition s.types (type_id 1))) host.Byte (stored_byte s.types sound))

  over_enumeration : (over ty : TypeId) → family_of (definition s.types over) ≡ Some host.Enumeration → set_in over 0 s.types ≡ Some ty → IsOver s (sort.Enumeration over) ty
  over_enumeration over ty h e =
      let f = set_found over 0 s.types ty e in
      let place = f.is in
      let number : ty.0 ≡ f.place = omega (arith, place) in
      let base : f.base ≡ over = same_id f.base over f.same in
      record {
        base = f.base;
        is = subst (λ (k : ℕ). slice_get s.types k ≡ Some (type.SetOf f.base)) (sym number) f.at;
        like = λ y one k i.
            let of : family_of (definition s.types f.base) ≡ Some host.Enumeration = ap (λ (t : TypeId). family_of (definition s.types t)) base ∙ h in
            let it : AreOfOneFamily (definition s.types f.base) one = record { ordinal = some_of (family_of (definition s.types f.base)) host.Enumeration of; same = of ∙ sym (enumerated s.types over y one k i) } in
            it;
      }

  over : (x : Sort) (one : Option TypeDef) → Shows s.types x one → (ty : TypeId) → set_over s.types x ≡ Some ty → IsOver s x ty
  over (sort.Integer r) one h ty e = at_id (sort.Integer r) (type_id 8) ty e (over_bytes r)
  over sort.Char one h ty e = at_id sort.Char (type_id 9) ty e (over_type sort.Char (type_id 9) (type_id 5) (set_types s.types sound).1 (stored_char s.types sound))
  over sort.Boolean one h ty e = at_id sort.Boolean (type_id 10) ty e (over_type sort.Boolean (type_id 10) (type_id 6) (set_types s.types sound).2 (stored_boolean s.types sound))
  over (sort.Enumeration of) one h ty e = over_enumeration of ty h.2 e
  over x one h ty e = let bad : ⊥ = cc in absurd bad

  -- ---- what is listed

  ranged_by : (e : Expression) → IsSome (stored_as (sort_of s.types e)) → IsTyped s e → (o : Option TypeId) → type_of e ≡ o
      → IsTyped s (ranged_as o (pos 0) (pos 255) e) × (sort_of s.types (ranged_as o (pos 0) (pos 255) e) ≡ sort_of s.types e)
  ranged_by e some typed None is = (typed, refl)
  ranged_by e some typed (Some own) is =
      let same : sort_of s.types e ≡ definition s.types own = ap (λ (o : Option TypeId). option_and_then (definition s.types) o) is in
      let rises : pos 0 ≤ℤ pos 255 = omega (arith, ints) in
      ((typed, is, subst (λ (o : Option TypeDef). IsSome (stored_as o)) same some, rises), sym same)

  ranged_keeps : (checked : Bool) (e : Expression) → IsSome (stored_as (sort_of s.types e)) → IsTyped s e
      → IsTyped s (ranged checked (pos 0) (pos 255) e) × (sort_of s.types (ranged checked (pos 0) (pos 255) e) ≡ sort_of s.types e)
  ranged_keeps false e some typed = (typed, refl)
  ranged_keeps true e some typed = ranged_by e some typed (type_of e) refl

  element_typed : (x : Sort) (ty : TypeId) (o : IsOver s x ty) (checked : Bool) (e : Expression) → IsOperand s e → AreOfOneHost x (sorts.sort_of s.types e)
      → IsTyped s (ranged checked (pos 0) (pos 255) e) × IsMember s.types o.base (ranged checked (pos 0) (pos 255) e)
  element_typed x ty o checked e oe k =
      let typed = not_nil s e (hosts_right x (sorts.sort_of s.types e) k) oe in
      let h = shows s e typed in
      let kept = ranged_keeps checked e (hosts_stored s.types x (sorts.sort_of s.types e) (sort_of s.types e) k h) typed in
      (kept.0, subst (λ (d : Option TypeDef). AreOfOneFamily (definition s.types o.base) d) (sym kept.1) (o.like (sorts.sort_of s.types e) (sort_of s.types e) k h))

  item_typed : (x : Sort) (ty : TypeId) (o : IsOver s x ty) (checked : Bool) (item : Item) (rest : Elements) → ListsOperands s item → IsItem s.types x item
      → AreTypedElements s o.base rest → AreTypedElements s o.base (onto (ranged_item checked item) rest)
  item_typed x ty o checked (single e) rest oe k h =
      let m = element_typed x ty o checked e oe k.0 in
      (m.0, m.1, h)
  item_typed x ty o checked (span low high) rest oe k h =
      let m = element_typed x ty o checked low oe.0 k.0.0 in
      let n = element_typed x ty o checked high oe.1 k.1.0 in
      (m.0, m.1, n.0, n.1, h)

  items_typed : (x : Sort) (ty : TypeId) (o : IsOver s x ty) (checked : Bool) (items : List Item) → AllListOperands s items → AreItems s.types x items
      → AreTypedElements s o.base (elements_of (map (λ (item : Item). ranged_item checked item) items))
  items_typed x ty o checked [] oes k = tt
  items_typed x ty o checked (item ∷ items) oes k =
      item_typed x ty o checked item (elements_of (map (λ (item : Item). ranged_item checked item) items)) oes.0 k.0 (items_typed x ty o checked items oes.1 k.1)

  by_set : (x : Sort) (one : Option TypeDef) → Shows s.types x one → (place : Place) (checked : Bool) (items : List Item) (e : Expression) → AllListOperands s items → AreItems s.types x items
      → (o : Option TypeId) → set_over s.types x ≡ o → (typed_set place o (map (ranged_item checked) items)).holds e → IsTyped s e
  by_set x one shown place checked items e oes k None is h = absurd h
  by_set x one shown place checked items e oes k (Some ty) is h =
      let o = over x one shown ty is in
      subst (λ (y : Expression). IsTyped s y) (sym h) (o.base, o.is, items_typed x ty o checked items oes k)

  -- the first element is typed
  first_shown : (e : Expression) → IsOperand s e → AreOfOneHost (sorts.sort_of s.types e) (sorts.sort_of s.types e) → Shows s.types (sorts.sort_of s.types e) (sort_of s.types e)
  first_shown e oe k = shows s e (not_nil s e (hosts_left (sorts.sort_of s.types e) (sorts.sort_of s.types e) k) oe)

  by_items : (place : Place) (checked : Bool) (items : List Item) (e : Expression) → AllListOperands s items → (constructed_by s.types place checked (first_sort s.types items) items).holds e → IsTyped s e
  by_items place checked [] e oes h = subst (λ (y : Expression). IsTyped s y) (sym h) (type_id 1, (set_types s.types sound).0, tt)
  by_items place checked (single a ∷ items) e oes h =
      let k = h.holds.asked in
      by_set (sorts.sort_of s.types a) (sort_of s.types a) (first_shown a oes.0 k.0.0) place checked (single a ∷ items) e oes k (set_over s.types (sorts.sort_of s.types a)) refl h.made
  by_items place checked (span a b ∷ items) e oes h =
      let k = h.holds.asked in
      by_set (sorts.sort_of s.types a) (sort_of s.types a) (first_shown a oes.0.0 k.0.0.0) place checked (span a b ∷ items) e oes k (set_over s.types (sorts.sort_of s.types a)) refl h.made

  pub constructed_typed : (place : Place) (checked : Bool) (items : List Item) (e : Expression) → AllListOperands s items → (constructed s.types place checked items).holds e → IsTyped s e
  unfolding constructed
  constructed_typed place checked items e oes h = by_items place checked items e oes h
