-- The class that declares a member is on the line of the object.
use Rattle.std.proofs.Common.{◌≡◌, ℕ, zero, suc, ◌+◌, Bool, true, false, List, Option, Some, None, refl, sym, subst, ap, ◌∙◌}
use Rattle.std.specs.Prelude.{position, option_map}
use Rattle.std.specs.Option.{option_and_then}
use Rattle.well_formed.specs.type_layout.declared.definitions.TypeId.{TypeId}
use Rattle.well_formed.specs.type_layout.declared.definitions.Field.{Field}
use Rattle.well_formed.specs.type_layout.declared.definitions.Method.{Method}
use Rattle.well_formed.specs.type_layout.declared.definitions.TypeDef.{TypeDef}
use Rattle.well_formed.specs.type_layout.declared.definitions.TypeDef.TheVariants as type
use Rattle.well_formed.specs.type_layout.Words.{same_bytes}
use Rattle.well_formed.specs.typed_tree.type_fits.Fits.{definition, parent_of, ancestor, Descends, IsObject}
use Rattle.call_rules.specs.scopes.declared.members.Member.{Member}
use Rattle.call_rules.specs.scopes.Members as members
use Rattle.call_rules.specs.scopes.Members.{first_of, narrow, field_of, method_of, own_member, fields_within, member_within}

abbrev class_in : TypeId → Option Member → TypeId
class_in d None = d
class_in d (Some one) = one.class

abbrev method_in : Option Member → Bool
method_in None = false
method_in (Some one) = one.method

-- the two ways in which an ancestor is told are one
parents : (one : Option TypeDef) → members.parent_of one ≡ parent_of one
parents (Some (type.ObjectOf parent dynamic fields methods)) = refl
parents (Some (type.Ordinal host low high)) = refl
parents (Some (type.Str max)) = refl
parents (Some (type.SetOf base)) = refl
parents (Some (type.ArrayOf index element)) = refl
parents (Some (type.RecordOf fields)) = refl
parents (Some (type.PointerTo target)) = refl
parents (Some (type.Procedural header)) = refl
parents None = refl

-- a member that a type has itself is of it
abbrev IsOwn : TypeId → Option Member → Type 0
IsOwn ty None = Unit {0}
IsOwn ty (Some one) = one.class ≡ ty

own_place : (ty : TypeId) (made : ℕ → ℕ) (kind : Bool) (q : Option ℕ) → IsOwn ty (option_map (λ (place : ℕ). (let m : Member = record { class = ty; number = made place; method = kind } in m)) q)
own_place ty made kind None = tt
own_place ty made kind (Some place) = refl

own_first : (ty : TypeId) (a b : Option Member) → IsOwn ty a → IsOwn ty b → IsOwn ty (first_of a b)
own_first ty None b h k = k
own_first ty (Some one) b h k = h

is_own : (before : ℕ) (ty : TypeId) (one : Option TypeDef) (name : List ℕ) → IsOwn ty (own_member before ty one name)
is_own before ty (Some (type.RecordOf fields)) name = own_place ty (λ place. narrow (0 + place)) false (position (λ (f : Field). same_bytes name f.name) fields)
is_own before ty (Some (type.ObjectOf parent dynamic fields methods)) name =
    own_first ty (field_of before ty fields name) (method_of ty methods name)
    (own_place ty (λ place. narrow (before + place)) false (position (λ (f : Field). same_bytes name f.name) fields))
    (own_place ty (λ place. narrow place) true (position (λ (m : Method). same_bytes name m.name) methods))
is_own before ty one name = tt

module _ (types : List TypeDef) (name : List ℕ) (one : Member) where
  line_by : (ty : TypeId) (own : Option Member) (above : Option Member) → IsOwn ty own → (above ≡ Some one → Descends types ty one.class) → first_of own above ≡ Some one → Descends types ty one.class
  line_by ty None above h rec e = rec e
  line_by ty (Some m) above h rec e =
      let same : m.class ≡ one.class = ap (λ (o : Option Member). class_in ty o) e in
      (0, ap (λ (t : TypeId). Some t) (sym h ∙ same))

  above_line : (ty : TypeId) (o : Option TypeId) → parent_of (definition types ty) ≡ o → ((p : TypeId) → o ≡ Some p → Descends types p one.class) → (o ≡ None → ⊥) → Descends types ty one.class
  above_line ty None is rec some = absurd (some refl)
  above_line ty (Some p) is rec some =
      let d = rec p refl in
      (suc d.0, ap (λ (o : Option TypeId). option_and_then (ancestor types d.0) o) is ∙ d.1)

  no_member : (room : ℕ) → member_within room types None name ≡ Some one → ⊥
  no_member zero e = cc
  no_member (suc room) e = cc

  pub member_line : (room : ℕ) (ty : TypeId) → member_within room types (Some ty) name ≡ Some one → Descends types ty one.class
  member_line zero ty e = let bad : ⊥ = cc in absurd bad
  member_line (suc room) ty e =
      line_by ty (own_member (fields_within room types (members.parent_of (definition types ty))) ty (definition types ty) name)
      (member_within room types (members.parent_of (definition types ty)) name)
      (is_own (fields_within room types (members.parent_of (definition types ty))) ty (definition types ty) name)
      (λ above. above_line ty (members.parent_of (definition types ty)) (sym (parents (definition types ty)))
      (λ p is. member_line room p (subst (λ (o : Option TypeId). member_within room types o name ≡ Some one) is above))
      (λ none. no_member room (subst (λ (o : Option TypeId). member_within room types o name ≡ Some one) none above)))
      e

  -- only an object has a method
  module _ (kind : one.method ≡ true) where
    no_method : (q : Option ℕ) (ty : TypeId) (made : ℕ → ℕ) (above : Option Member)
        → first_of (option_map (λ (place : ℕ). (let m : Member = record { class = ty; number = made place; method = false } in m)) q) above ≡ Some one → above ≡ Some one
    no_method None ty made above e = e
    no_method (Some place) ty made above e =
        let other : false ≡ one.method = ap (λ (o : Option Member). method_in o) e in
        let bad : ⊥ = cc in
        absurd bad

    object_by : (room : ℕ) (ty : TypeId) (d : Option TypeDef)
        → first_of (own_member (fields_within room types (members.parent_of d)) ty d name) (member_within room types (members.parent_of d) name) ≡ Some one → IsObject d
    object_by room ty (Some (type.ObjectOf parent dynamic fields methods)) e = tt
    object_by room ty (Some (type.RecordOf fields)) e =
        absurd (no_member room (no_method (position (λ (f : Field). same_bytes name f.name) fields) ty (λ place. narrow (0 + place)) (member_within room types None name) e))
    object_by room ty (Some (type.Ordinal host low high)) e = absurd (no_member room e)
    object_by room ty (Some (type.Str max)) e = absurd (no_member room e)
    object_by room ty (Some (type.SetOf base)) e = absurd (no_member room e)
    object_by room ty (Some (type.ArrayOf index element)) e = absurd (no_member room e)
    object_by room ty (Some (type.PointerTo target)) e = absurd (no_member room e)
    object_by room ty (Some (type.Procedural header)) e = absurd (no_member room e)
    object_by room ty None e = absurd (no_member room e)

    pub member_object : (room : ℕ) (ty : TypeId) → member_within room types (Some ty) name ≡ Some one → IsObject (definition types ty)
    member_object zero ty e = let bad : ⊥ = cc in absurd bad
    member_object (suc room) ty e = object_by room ty (definition types ty) e

-- lines go on
up : (types : List TypeDef) (ty p above : TypeId) → parent_of (definition types ty) ≡ Some p → Descends types p above → Descends types ty above
up types ty p above is d = (suc d.0, ap (λ (o : Option TypeId). option_and_then (ancestor types d.0) o) is ∙ d.1)

on_by : (types : List TypeDef) (m : ℕ) (ty middle above : TypeId) → ((p : TypeId) → ancestor types m p ≡ Some middle → Descends types p above) → (o : Option TypeId)
    → parent_of (definition types ty) ≡ o → option_and_then (ancestor types m) o ≡ Some middle → Descends types ty above
on_by types m ty middle above rec None is k = let bad : ⊥ = cc in absurd bad
on_by types m ty middle above rec (Some p) is k = up types ty p above is (rec p k)

ancestor_on : (types : List TypeDef) (m : ℕ) (ty middle above : TypeId) → ancestor types m ty ≡ Some middle → Descends types middle above → Descends types ty above
ancestor_on types zero ty middle above e d =
    let same : ty ≡ middle = cc in
    subst (λ (t : TypeId). Descends types t above) (sym same) d
ancestor_on types (suc m) ty middle above e d = on_by types m ty middle above (λ p k. ancestor_on types m p middle above k d) (parent_of (definition types ty)) refl e

pub line_on : (types : List TypeDef) (ty middle above : TypeId) → Descends types ty middle → Descends types middle above → Descends types ty above
line_on types ty middle above h d = ancestor_on types h.0 ty middle above h.1 d
