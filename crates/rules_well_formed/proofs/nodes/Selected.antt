-- Fields that are selected are typed places.
use Rattle.std.proofs.Common.{◌≡◌, ℕ, zero, suc, ◌+◌, ◌<◌, ◌≤◌, Bool, true, false, cond, List, [], ◌∷◌, ◌++◌, length, Option, Some, None, refl, sym, subst, ap, ◌∙◌, arith, length-append}
use Rattle.std.specs.Prelude.{slice_get, position, option_map}
use Rattle.std.proofs.lemmas.Option.{slice_get_within}
use Rattle.well_formed.specs.type_layout.declared.definitions.TypeId.{TypeId}
use Rattle.well_formed.specs.type_layout.declared.definitions.Field.{Field}
use Rattle.well_formed.specs.type_layout.declared.definitions.Method.{Method}
use Rattle.well_formed.specs.type_layout.declared.definitions.TypeDef.{TypeDef}
use Rattle.well_formed.specs.type_layout.declared.definitions.TypeDef.TheVariants as type
use Rattle.well_formed.specs.type_layout.declared.texts.Place.{Place}
use Rattle.well_formed.specs.type_layout.Words.{same_bytes}
use Rattle.well_formed.specs.type_layout.Table as table
use Rattle.well_formed.proofs.type_layout_proofs.Local.{slice_get-append, within_if_object}
use Rattle.well_formed.specs.typed_tree.Expressions as tree
use Rattle.well_formed.specs.typed_tree.Expressions.{Expression, Load, FieldOf}
use Rattle.well_formed.specs.typed_tree.type_fits.Fits.{definition, IsSome, IsObject, types_in, field_types_of, field_type}
use Rattle.well_formed.specs.Scopes.{Scope}
use Rattle.well_formed.specs.Typed.{IsTyped, HasPlace}
use Rattle.call_rules.specs.scopes.declared.members.Member.{Member}
use Rattle.call_rules.specs.scopes.Members as members
use Rattle.call_rules.specs.scopes.Members.{first_of, narrow, own_fields, method_of, fields_within, member_within, member_of}
use Rattle.call_rules.specs.typing_rules.Selectors.{field_at, field_named, field_in, declared_field, own_field, member_named, selected_by, selected_of, selected}
use Rattle.rules_well_formed.specs.nodes.Tables.{IsInTable, IsSound}
use Rattle.rules_well_formed.specs.nodes.Laws.{IsOperand}
use Rattle.rules_well_formed.proofs.nodes.Fields.{round, some_within, types_of, get-append, mapped, length-types_of, record_field_in, object_field_in, given_at, record_types, parent_below, object_types}
use Rattle.rules_well_formed.proofs.nodes.Indexed.{loaded_from}

object_at : (one : Option TypeDef) → table.IsObject one → IsObject one
object_at (Some (type.ObjectOf parent dynamic fields methods)) h = tt
object_at one h = absurd h

abbrev number_in : Option Member → ℕ
number_in None = 0
number_in (Some one) = one.number

abbrev class_in : TypeId → Option Member → TypeId
class_in d None = d
class_in d (Some one) = one.class

abbrev method_in : Option Member → Bool
method_in None = false
method_in (Some one) = one.method

declared : (fields : List Field) (name : List ℕ) → declared_field fields name ≡ field_in fields (position (λ (field : Field). same_bytes name field.name) fields)
unfolding declared_field
declared fields name = refl

module _ (types : List TypeDef) (sound : IsSound types) where
  abbrev given : Option TypeId → List TypeId
  given o = types_in (field_types_of types) o

  -- ---- how many fields a line has

  abbrev IsRoom : ℕ → Option TypeId → Type 0
  IsRoom room None = Unit {0}
  IsRoom room (Some ty) = (ty.0 < room) × IsInTable types ty

  parent_room : (room : ℕ) (ty : TypeId) (parent : Option TypeId) (dynamic : Bool) (fields : List Field) (methods : List Method) → ty.0 ≤ room
      → definition types ty ≡ Some (type.ObjectOf parent dynamic fields methods) → IsRoom room parent
  parent_room room ty None dynamic fields methods below is = tt
  parent_room room ty (Some parent) dynamic fields methods below is =
      let under : parent.0 < ty.0 = parent_below types sound ty parent dynamic fields methods is in
      let inside : ty.0 < length types = slice_get_within types ty.0 (type.ObjectOf (Some parent) dynamic fields methods) is in
      (omega (arith, under), some_within types parent.0 (omega (arith, under, inside)))

  none_fields : (room : ℕ) → fields_within room types None ≡ 0
  none_fields zero = refl
  none_fields (suc room) = refl

  bare : (room : ℕ) (ty : TypeId) → given (Some ty) ≡ [] → 0 + fields_within room types None ≡ length (given (Some ty))
  bare room ty e =
      let none : fields_within room types None ≡ 0 = none_fields room in
      let len : length (given (Some ty)) ≡ 0 = ap (λ (l : List TypeId). length l) e in
      omega (arith, none, len)

  count_at : (room : ℕ) → ((o : Option TypeId) → IsRoom room o → fields_within room types o ≡ length (given o)) → (ty : TypeId) → ty.0 ≤ room
      → (one : Option TypeDef) → definition types ty ≡ one → IsSome one → own_fields one + fields_within room types (members.parent_of one) ≡ length (given (Some ty))
  count_at room rec ty below None is some = absurd some
  count_at room rec ty below (Some (type.ObjectOf parent dynamic fields methods)) is some =
      let above : fields_within room types parent ≡ length (given parent) = rec parent (parent_room room ty parent dynamic fields methods below is) in
      let all : length (given (Some ty)) ≡ length (given parent ++ types_of fields) = ap (λ (l : List TypeId). length l) (object_types types sound ty parent dynamic fields methods is) in
      let both : length (given parent ++ types_of fields) ≡ length (given parent) + length (types_of fields) = length-append (given parent) (types_of fields) in
      let own : length (types_of fields) ≡ length fields = length-types_of fields in
      omega (arith, above, all, both, own)
  count_at room rec ty below (Some (type.RecordOf fields)) is some =
      let none : fields_within room types None ≡ 0 = none_fields room in
      let all : length (given (Some ty)) ≡ length (types_of fields) = ap (λ (l : List TypeId). length l) (record_types types sound ty fields is) in
      let own : length (types_of fields) ≡ length fields = length-types_of fields in
      omega (arith, none, all, own)
  count_at room rec ty below (Some (type.Ordinal host low high)) is some = bare room ty (given_at types sound ty (type.Ordinal host low high) (round types sound ty (type.Ordinal host low high) is))
  count_at room rec ty below (Some (type.Str max)) is some = bare room ty (given_at types sound ty (type.Str max) (round types sound ty (type.Str max) is))
  count_at room rec ty below (Some (type.SetOf base)) is some = bare room ty (given_at types sound ty (type.SetOf base) (round types sound ty (type.SetOf base) is))
  count_at room rec ty below (Some (type.ArrayOf index element)) is some = bare room ty (given_at types sound ty (type.ArrayOf index element) (round types sound ty (type.ArrayOf index element) is))
  count_at room rec ty below (Some (type.PointerTo target)) is some = bare room ty (given_at types sound ty (type.PointerTo target) (round types sound ty (type.PointerTo target) is))
  count_at room rec ty below (Some (type.Procedural header)) is some = bare room ty (given_at types sound ty (type.Procedural header) (round types sound ty (type.Procedural header) is))

  count : (room : ℕ) (o : Option TypeId) → IsRoom room o → fields_within room types o ≡ length (given o)
  count zero None h = refl
  count zero (Some ty) h = let l = h.0 in absurd (omega arith)
  count (suc room) None h = refl
  count (suc room) (Some ty) h =
      let l = h.0 in
      count_at room (λ o k. count room o k) ty (omega arith) (definition types ty) refl h.1

  -- ---- the member of a line

  module _ (name : List ℕ) (one : Member) (field : Field) (plain : one.method ≡ false) (own : own_field (definition types one.class) name ≡ Some field) where
    -- the member's number is that of the field among those of a type
    abbrev Has : TypeId → Type 0
    Has ty = (field_type types ty one.number ≡ Some field.ty) × IsInTable types field.ty

    own_has : (room : ℕ) (ty : TypeId) (parent : Option TypeId) (dynamic : Bool) (fields : List Field) (methods : List Method) → ty.0 ≤ room
        → definition types ty ≡ Some (type.ObjectOf parent dynamic fields methods) → (place : ℕ) → slice_get fields place ≡ Some field
        → narrow (fields_within room types parent + place) ≡ one.number → Has ty
    own_has room ty parent dynamic fields methods below is place at number =
        let above : fields_within room types parent ≡ length (given parent) = count room parent (parent_room room ty parent dynamic fields methods below is) in
        let inside : ty.0 < length types = slice_get_within types ty.0 (type.ObjectOf parent dynamic fields methods) is in
        let whole : fields_within (length types) types (Some ty) ≡ length (given (Some ty)) = count (length types) (Some ty) (inside, some_within types ty.0 inside) in
        let few = sound.few ty in
        let all : length (given (Some ty)) ≡ length (given parent ++ types_of fields) = ap (λ (l : List TypeId). length l) (object_types types sound ty parent dynamic fields methods is) in
        let both : length (given parent ++ types_of fields) ≡ length (given parent) + length (types_of fields) = length-append (given parent) (types_of fields) in
        let len : length (types_of fields) ≡ length fields = length-types_of fields in
        let within : place < length fields = slice_get_within fields place field at in
        let is_number : length (given parent) + place ≡ one.number = omega (arith, above, whole, few, all, both, len, within, number) in
        let found : slice_get (given parent ++ types_of fields) (length (given parent) + place) ≡ Some field.ty = get-append (given parent) (types_of fields) place ∙ mapped fields place field at in (
          ap (λ (l : List TypeId). slice_get l one.number) (object_types types sound ty parent dynamic fields methods is)
              ∙ subst (λ (n : ℕ). slice_get (given parent ++ types_of fields) n ≡ Some field.ty) is_number found,
          object_field_in types sound ty parent dynamic fields methods is place field at,
        )

    inherited_has : (ty parent : TypeId) (dynamic : Bool) (fields : List Field) (methods : List Method) → definition types ty ≡ Some (type.ObjectOf (Some parent) dynamic fields methods)
        → Has parent → Has ty
    inherited_has ty parent dynamic fields methods is h =
        let within : one.number < length (given (Some parent)) = slice_get_within (given (Some parent)) one.number field.ty h.0 in (
          ap (λ (l : List TypeId). slice_get l one.number) (object_types types sound ty (Some parent) dynamic fields methods is)
              ∙ slice_get-append (given (Some parent)) (types_of fields) one.number within ∙ h.0,
          h.1,
        )

    parent_object : (ty parent : TypeId) (dynamic : Bool) (fields : List Field) (methods : List Method) → definition types ty ≡ Some (type.ObjectOf (Some parent) dynamic fields methods)
        → IsObject (definition types parent)
    parent_object ty parent dynamic fields methods is =
        let r = round types sound ty (type.ObjectOf (Some parent) dynamic fields methods) is in
        let within = within_if_object r.front parent.0 r.defined.0 in
        let front : slice_get (r.front ++ type.ObjectOf (Some parent) dynamic fields methods ∷ r.back) parent.0 ≡ slice_get r.front parent.0 =
        slice_get-append r.front (type.ObjectOf (Some parent) dynamic fields methods ∷ r.back) parent.0 within in
        let at : definition types parent ≡ slice_get r.front parent.0 = ap (λ (t : List TypeDef). slice_get t parent.0) r.is ∙ front in
        subst (λ (o : Option TypeDef). IsObject o) (sym at) (object_at (slice_get r.front parent.0) r.defined.0)

    no_member : (room : ℕ) → member_within room types None name ≡ None
    no_member zero = refl
    no_member (suc room) = refl

    module _ (room : ℕ) (rec : (p : TypeId) → p.0 < room → IsObject (definition types p) → member_within room types (Some p) name ≡ Some one → Has p)
        (ty : TypeId) (below : ty.0 ≤ room) (dynamic : Bool) (fields : List Field) (methods : List Method) where
      above_case : (parent : Option TypeId) → definition types ty ≡ Some (type.ObjectOf parent dynamic fields methods) → member_within room types parent name ≡ Some one → Has ty
      above_case None is h =
          let none : member_within room types None name ≡ None = no_member room in
          let bad : ⊥ = cc in
          absurd bad
      above_case (Some parent) is h =
          let under : parent.0 < ty.0 = parent_below types sound ty parent dynamic fields methods is in
          inherited_has ty parent dynamic fields methods is (rec parent (omega (arith, under)) (parent_object ty parent dynamic fields methods is) h)

      method_case : (parent : Option TypeId) → definition types ty ≡ Some (type.ObjectOf parent dynamic fields methods) → (q : Option ℕ)
          → first_of (option_map (λ (place : ℕ). (let m : Member = record { class = ty; number = narrow place; method = true } in m)) q) (member_within room types parent name) ≡ Some one → Has ty
      method_case parent is None h = above_case parent is h
      method_case parent is (Some place) h =
          let yes : true ≡ one.method = ap (λ (o : Option Member). method_in o) h in
          let bad : ⊥ = cc in
          absurd bad

      field_case : (parent : Option TypeId) → definition types ty ≡ Some (type.ObjectOf parent dynamic fields methods) → (q : Option ℕ)
          → position (λ (f : Field). same_bytes name f.name) fields ≡ q
          → first_of (first_of (option_map (λ (place : ℕ). (let m : Member = record { class = ty; number = narrow (fields_within room types parent + place); method = false } in m)) q) (method_of ty methods name)) (member_within room types parent name) ≡ Some one
          → Has ty
      field_case parent is None at h = method_case parent is (position (λ (m : Method). same_bytes name m.name) methods) h
      field_case parent is (Some place) at h =
          let number : narrow (fields_within room types parent + place) ≡ one.number = ap (λ (o : Option Member). number_in o) h in
          let class : ty ≡ one.class = ap (λ (o : Option Member). class_in ty o) h in
          let here : own_field (definition types ty) name ≡ Some field = subst (λ (c : TypeId). own_field (definition types c) name ≡ Some field) (sym class) own in
          let it : declared_field fields name ≡ Some field = subst (λ (o : Option TypeDef). own_field o name ≡ Some field) is here in
          let found : slice_get fields place ≡ Some field = subst (λ (o : Option ℕ). field_in fields o ≡ Some field) at (sym (declared fields name) ∙ it) in
          own_has room ty parent dynamic fields methods below is place found number

    by_definition : (room : ℕ) → ((p : TypeId) → p.0 < room → IsObject (definition types p) → member_within room types (Some p) name ≡ Some one → Has p) → (ty : TypeId) → ty.0 ≤ room
        → (d : Option TypeDef) → definition types ty ≡ d → IsObject d
        → first_of (members.own_member (fields_within room types (members.parent_of d)) ty d name) (member_within room types (members.parent_of d) name) ≡ Some one → Has ty
    by_definition room rec ty below (Some (type.ObjectOf parent dynamic fields methods)) is object h =
        field_case room rec ty below dynamic fields methods parent is (position (λ (f : Field). same_bytes name f.name) fields) refl h
    by_definition room rec ty below d is object h = absurd object

    member_has : (room : ℕ) (ty : TypeId) → ty.0 < room → IsObject (definition types ty) → member_within room types (Some ty) name ≡ Some one → Has ty
    member_has zero ty below object h = absurd (omega arith)
    member_has (suc room) ty below object h =
        by_definition room (λ p b o k. member_has room p b o k) ty (omega arith) (definition types ty) refl object h

-- ---- the rule

module _ (s : Scope) (sound : IsSound s.types) (place : Place) (ty : TypeId) (at : tree.Place) (has : HasPlace s at ty) (name : List ℕ) (e : Expression) where
  field_typed : (number : ℕ) (field : Field) → (field_type s.types ty number ≡ Some field.ty) × IsInTable s.types field.ty → IsTyped s (Load field.ty (FieldOf at number))
  field_typed number field h = (h.1, (h.1, (ty, has, h.0)))

  record_by : (fields : List Field) → definition s.types ty ≡ Some (type.RecordOf fields) → (number : ℕ) (o : Option Field) → slice_get fields number ≡ o
      → (field_at place at number o).holds e → IsTyped s e
  record_by fields is number None found h = absurd h
  record_by fields is number (Some field) found h =
      let there = record_field_in s.types sound ty fields is number field found in
      let it = ap (λ (l : List TypeId). slice_get l number) (record_types s.types sound ty fields is) ∙ mapped fields number field found in
      subst (λ (x : Expression). IsTyped s x) (sym h) (field_typed number field (it, there))

  record_named : (fields : List Field) → definition s.types ty ≡ Some (type.RecordOf fields) → (m : Option Member) → (field_named place at fields m).holds e → IsTyped s e
  record_named fields is None h = absurd h
  record_named fields is (Some one) h = record_by fields is one.number (slice_get fields one.number) refl h

  object_by : (one : Member) → IsObject (definition s.types ty) → member_of s.types (Some ty) name ≡ Some one → one.method ≡ false → (o : Option Field)
      → own_field (definition s.types one.class) name ≡ o → (field_at place at one.number o).holds e → IsTyped s e
  object_by one object is plain None own h = absurd h
  object_by one object is plain (Some field) own h =
      let inside : ty.0 < length s.types = below (definition s.types ty) refl object in
      subst (λ (x : Expression). IsTyped s x) (sym h)
      (field_typed one.number field (member_has s.types sound name one field plain own (length s.types) ty inside object is))
    where
      below : (d : Option TypeDef) → definition s.types ty ≡ d → IsObject d → ty.0 < length s.types
      below None k o = absurd o
      below (Some d) k o = slice_get_within s.types ty.0 d k

  object_kind : (one : Member) → IsObject (definition s.types ty) → member_of s.types (Some ty) name ≡ Some one → (b : Bool) → one.method ≡ b
      → cond b ⊥ ((field_at place at one.number (own_field (definition s.types one.class) name)).holds e) → IsTyped s e
  object_kind one object is true kind h = absurd h
  object_kind one object is false kind h = object_by one object is kind (own_field (definition s.types one.class) name) refl h

  object_named : IsObject (definition s.types ty) → (m : Option Member) → member_of s.types (Some ty) name ≡ m → (member_named s.types place at name m).holds e → IsTyped s e
  object_named object None is h = absurd h
  object_named object (Some one) is h = object_kind one object is one.method refl h

  by_type : (d : Option TypeDef) → definition s.types ty ≡ d → (selected_by s.types place ty at d name).holds e → IsTyped s e
  by_type (Some (type.RecordOf fields)) is h = record_named fields is (member_of s.types (Some ty) name) h
  by_type (Some (type.ObjectOf parent dynamic fields methods)) is h =
      object_named (subst (λ (o : Option TypeDef). IsObject o) (sym is) tt) (member_of s.types (Some ty) name) refl h
  by_type d is h = absurd h

module _ (s : Scope) (sound : IsSound s.types) (place : Place) (name : List ℕ) where
  by_operand : (a e : Expression) → IsOperand s a → (selected_of s.types place a name).holds e → IsTyped s e
  by_operand (Load ty at) e oa h = by_type s sound place ty at (loaded_from s ty at oa).1 name e (definition s.types ty) refl h
  by_operand a e oa h = absurd h

  pub selected_typed : (a e : Expression) → IsOperand s a → (selected s.types place a name).holds e → IsTyped s e
  unfolding selected
  selected_typed a e oa h = by_operand a e oa h
