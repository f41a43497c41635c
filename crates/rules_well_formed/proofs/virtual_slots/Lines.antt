-- A method that is found by its name is the nearest one of the line.
use Rattle.std.proofs.Common.{◌≡◌, ℕ, zero, suc, ◌+◌, ◌≤◌, Bool, true, false, ◌||◌, cond, List, [], ◌∷◌, ◌++◌, map, length, get_or, Option, Some, None, refl, sym, subst, ap, ◌∙◌, arith}
use Rattle.std.specs.List.{list_any, AllByRecursion, IsDistinct}
use Rattle.std.specs.Prelude.{◌^◌, slice_get, position, option_map}
use Rattle.std.proofs.Math.Nat.{min-eq_left}
use Rattle.std.proofs.lemmas.Option.{get_or_from_slice_get}
use Rattle.std.proofs.lemmas.Map.Keys.{IsDistinct-head, IsDistinct-tail}
use Rattle.std.proofs.lemmas.List.Quantifiers.{position-Some}
use Rattle.well_formed.specs.type_layout.declared.definitions.TypeId.{TypeId}
use Rattle.well_formed.specs.type_layout.declared.definitions.Field.{Field}
use Rattle.well_formed.specs.type_layout.declared.definitions.Method.{Method}
use Rattle.well_formed.specs.type_layout.declared.definitions.TypeDef.{TypeDef}
use Rattle.well_formed.specs.type_layout.declared.definitions.TypeDef.TheVariants as type
use Rattle.well_formed.specs.type_layout.Words.{same_bytes}
use Rattle.well_formed.specs.typed_tree.type_fits.Fits.{definition, parent_of}
use Rattle.call_rules.specs.scopes.declared.members.Member.{Member}
use Rattle.call_rules.specs.scopes.Members as members
use Rattle.call_rules.specs.scopes.Members.{first_of, narrow, field_of, method_of, own_member, fields_within, member_within, member_of}
use Rattle.well_formed.specs.object_vmt.Members.{nearest, later_of}
use Rattle.well_formed.proofs.object_vmt_proofs.Lines.{same_bytes_is}
use Rattle.call_rules.specs.method_rules.Slots.{methods_of, methods_within, methods_in}
use Rattle.call_rules.specs.method_rules.Methods.{method_by, method_in}
use Rattle.rules_well_formed.specs.virtual_slots.Laws.{IsNumbered}
use Rattle.rules_well_formed.proofs.virtual_slots.Taken.{there}

-- the two ways in which an ancestor is told are one
parents : (one : Option TypeDef) → members.parent_of one ≡ parent_of one
parents (Some (type.ObjectOf parent dynamic fields methods)) = refl
parents (Some (type.Ordinal host low high)) = refl
parents (Some (type.Str max)) = refl
parents (Some (type.SetOf base)) = refl
parents (Some (type.ArrayOf index element)) = refl
parents (Some (type.RecordOf fields)) = refl
parents (Some (type.PointerTo target)) = refl
parents (Some (type.Procedural header)) = refl
parents None = refl

-- ---- the nearest declaration of a name

later_none : (o : Option Method) → later_of o None ≡ o
later_none None = refl
later_none (Some m) = refl

later_later : (a b c : Option Method) → later_of (later_of a b) c ≡ later_of a (later_of b c)
later_later None b c = refl
later_later (Some m) b c = refl

nearest_join : (name : List ℕ) (xs ys : List Method) → nearest (xs ++ ys) name ≡ later_of (nearest ys name) (nearest xs name)
nearest_join name [] ys = sym (later_none (nearest ys name))
nearest_join name (one ∷ xs) ys =
    ap (λ (o : Option Method). later_of o (cond (same_bytes name one.name) (Some one) None)) (nearest_join name xs ys)
    ∙ later_later (nearest ys name) (nearest xs name) (cond (same_bytes name one.name) (Some one) None)

-- no other method of a type has the name of one
none_after : (name : List ℕ) (methods : List Method) → AllByRecursion (λ (word : List ℕ). same_bytes name word ≡ false) (map (λ (m : Method). m.name) methods) → nearest methods name ≡ None
none_after name [] all = refl
none_after name (one ∷ rest) all =
    ap (λ (o : Option Method). later_of o (cond (same_bytes name one.name) (Some one) None)) (none_after name rest all.1)
    ∙ ap (λ (b : Bool). cond b (Some one) None) all.0

nearest_at : (name : List ℕ) (methods : List Method) (k : ℕ) (method : Method) → IsDistinct same_bytes (map (λ (m : Method). m.name) methods) → slice_get methods k ≡ Some method
    → same_bytes name method.name ≡ true → nearest methods name ≡ Some method
nearest_at name [] zero method once e named = let bad : ⊥ = cc in absurd bad
nearest_at name [] (suc k) method once e named = let bad : ⊥ = cc in absurd bad
nearest_at name (one ∷ rest) zero method once e named =
    let same : method ≡ one = cc in
    let first : same_bytes name one.name ≡ true = subst (λ (m : Method). same_bytes name m.name ≡ true) same named in
    let none : nearest rest name ≡ None =
    none_after name rest (subst (λ (word : List ℕ). AllByRecursion (λ (other : List ℕ). same_bytes word other ≡ false) (map (λ (m : Method). m.name) rest)) (sym (same_bytes_is name one.name first))
    (IsDistinct-head same_bytes one.name (map (λ (m : Method). m.name) rest) once)) in
    ap (λ (o : Option Method). later_of o (cond (same_bytes name one.name) (Some one) None)) none
    ∙ ap (λ (b : Bool). cond b (Some one) None) first ∙ sym (ap (λ (m : Method). Some m) same)
nearest_at name (one ∷ rest) (suc k) method once e named =
    ap (λ (o : Option Method). later_of o (cond (same_bytes name one.name) (Some one) None))
    (nearest_at name rest k method (IsDistinct-tail same_bytes one.name (map (λ (m : Method). m.name) rest) once) e named)

found_at : (name : List ℕ) (methods : List Method) (k : ℕ) (method : Method) → IsDistinct same_bytes (map (λ (m : Method). m.name) methods)
    → position (λ (m : Method). same_bytes name m.name) methods ≡ Some k → slice_get methods k ≡ Some method → nearest methods name ≡ Some method
found_at name methods k method once p e =
    let found = position-Some (λ (m : Method). same_bytes name m.name) methods k method p in
    let is : get_or methods k method ≡ method = get_or_from_slice_get methods k method method e in
    nearest_at name methods k method once e (subst (λ (m : Method). same_bytes name m.name ≡ true) is found.1)

none_of : (name : List ℕ) (methods : List Method) → list_any (λ (m : Method). same_bytes name m.name) methods ≡ false → nearest methods name ≡ None
none_of name [] e = refl
none_of name (one ∷ rest) e = by (same_bytes name one.name) (λ k. none_of name rest k) e
  where
    by : (b : Bool) → (list_any (λ (m : Method). same_bytes name m.name) rest ≡ false → nearest rest name ≡ None) → (b || list_any (λ (m : Method). same_bytes name m.name) rest) ≡ false
        → later_of (nearest rest name) (cond b (Some one) None) ≡ None
    by true rec k = let bad : ⊥ = cc in absurd bad
    by false rec k = later_none (nearest rest name) ∙ rec k

absent : (name : List ℕ) (methods : List Method) → position (λ (m : Method). same_bytes name m.name) methods ≡ None → nearest methods name ≡ None
absent name methods e = by (list_any (λ (m : Method). same_bytes name m.name) methods) refl
  where
    by : (b : Bool) → list_any (λ (m : Method). same_bytes name m.name) methods ≡ b → nearest methods name ≡ None
    by false is = none_of name methods is
    by true is =
        let k = there (λ (m : Method). same_bytes name m.name) methods is in
        let some : position (λ (m : Method). same_bytes name m.name) methods ≡ Some k.0 = k.1 in
        let bad : ⊥ = cc in
        absurd bad

-- ---- members

abbrev class_in : TypeId → Option Member → TypeId
class_in d None = d
class_in d (Some one) = one.class

abbrev number_in : Option Member → ℕ
number_in None = 0
number_in (Some one) = one.number

abbrev kind_in : Option Member → Bool
kind_in None = false
kind_in (Some one) = one.method

module _ (name : List ℕ) (one : Member) (method : Method) (kind : one.method ≡ true) where
  no_field : (q : Option ℕ) (ty : TypeId) (made : ℕ → ℕ) (other : Option Member)
      → first_of (option_map (λ (place : ℕ). (let m : Member = record { class = ty; number = made place; method = false } in m)) q) other ≡ Some one → other ≡ Some one
  no_field None ty made other e = e
  no_field (Some place) ty made other e =
      let is : false ≡ one.method = ap (λ (o : Option Member). kind_in o) e in
      let bad : ⊥ = cc in
      absurd bad

  module _ (ty : TypeId) (methods : List Method) (few : length methods ≤ 2 ^ 32) (once : IsDistinct same_bytes (map (λ (m : Method). m.name) methods)) where
    own_method : (q : Option ℕ) → position (λ (m : Method). same_bytes name m.name) methods ≡ q
        → option_map (λ (place : ℕ). (let m : Member = record { class = ty; number = narrow place; method = true } in m)) q ≡ Some one → slice_get methods one.number ≡ Some method
        → nearest methods name ≡ Some method
    own_method None p e at = let bad : ⊥ = cc in absurd bad
    own_method (Some place) p e at =
        let number : narrow place ≡ one.number = ap (λ (o : Option Member). number_in o) e in
        let found = position-Some (λ (m : Method). same_bytes name m.name) methods place method p in
        let low : place ≤ 4294967295 = (let b = found.0 in omega (arith, b, few)) in
        let is : one.number ≡ place = sym number ∙ min-eq_left low in
        found_at name methods place method once p (subst (λ (k : ℕ). slice_get methods k ≡ Some method) is at)

  -- a method that a type declares itself is the nearest one there
  own_near : (before : ℕ) (ty : TypeId) (d : Option TypeDef) → length (methods_of d) ≤ 2 ^ 32 → IsDistinct same_bytes (map (λ (m : Method). m.name) (methods_of d))
      → own_member before ty d name ≡ Some one → slice_get (methods_of d) one.number ≡ Some method → nearest (methods_of d) name ≡ Some method
  own_near before ty (Some (type.ObjectOf parent dynamic fields methods)) few once e at =
      own_method ty methods few once (position (λ (m : Method). same_bytes name m.name) methods) refl
      (no_field (position (λ (f : Field). same_bytes name f.name) fields) ty (λ place. narrow (before + place)) (method_of ty methods name) e) at
  own_near before ty (Some (type.RecordOf fields)) few once e at =
      let none : None ≡ Some one = no_field (position (λ (f : Field). same_bytes name f.name) fields) ty (λ place. narrow (0 + place)) None (first_none (field_of 0 ty fields name) ∙ e) in
      let bad : ⊥ = cc in
      absurd bad
    where
      first_none : (a : Option Member) → first_of a None ≡ a
      first_none None = refl
      first_none (Some x) = refl
  own_near before ty d few once e at = let bad : ⊥ = cc in absurd bad

-- a type that declares no member of a name has no method of that name
none_own : (name : List ℕ) (before : ℕ) (ty : TypeId) (d : Option TypeDef) → own_member before ty d name ≡ None → nearest (methods_of d) name ≡ None
none_own name before ty (Some (type.ObjectOf parent dynamic fields methods)) e =
    by (field_of before ty fields name) (position (λ (m : Method). same_bytes name m.name) methods) refl e
  where
    by : (a : Option Member) (q : Option ℕ) → position (λ (m : Method). same_bytes name m.name) methods ≡ q
        → first_of a (option_map (λ (place : ℕ). (let m : Member = record { class = ty; number = narrow place; method = true } in m)) q) ≡ None → nearest methods name ≡ None
    by a None is k = absent name methods is
    by (Some m) (Some place) is k = let bad : ⊥ = cc in absurd bad
    by None (Some place) is k = let bad : ⊥ = cc in absurd bad
none_own name before ty d e = refl

-- a member that a type declares itself is of it
abbrev IsOwn : TypeId → Option Member → Type 0
IsOwn ty None = Unit {0}
IsOwn ty (Some one) = one.class ≡ ty

own_place : (ty : TypeId) (made : ℕ → ℕ) (kind : Bool) (q : Option ℕ) → IsOwn ty (option_map (λ (place : ℕ). (let m : Member = record { class = ty; number = made place; method = kind } in m)) q)
own_place ty made kind None = tt
own_place ty made kind (Some place) = refl

own_first : (ty : TypeId) (a b : Option Member) → IsOwn ty a → IsOwn ty b → IsOwn ty (first_of a b)
own_first ty None b h k = k
own_first ty (Some one) b h k = h

is_own : (before : ℕ) (ty : TypeId) (one : Option TypeDef) (name : List ℕ) → IsOwn ty (own_member before ty one name)
is_own before ty (Some (type.RecordOf fields)) name = own_place ty (λ place. narrow (0 + place)) false (position (λ (f : Field). same_bytes name f.name) fields)
is_own before ty (Some (type.ObjectOf parent dynamic fields methods)) name =
    own_first ty (field_of before ty fields name) (method_of ty methods name)
    (own_place ty (λ place. narrow (before + place)) false (position (λ (f : Field). same_bytes name f.name) fields))
    (own_place ty (λ place. narrow place) true (position (λ (m : Method). same_bytes name m.name) methods))
is_own before ty one name = tt

-- ---- lines

module _ (types : List TypeDef) (few : IsNumbered types) (name : List ℕ) (one : Member) (method : Method) (kind : one.method ≡ true)
    (at : slice_get (methods_of (definition types one.class)) one.number ≡ Some method) where
  no_member : (room : ℕ) → member_within room types None name ≡ Some one → ⊥
  no_member zero e = cc
  no_member (suc room) e = cc

  -- a type with its ancestors, where those are looked at
  module _ (room : ℕ) (rec : (ty : TypeId) → member_within room types (Some ty) name ≡ Some one → nearest (methods_within room types (Some ty)) name ≡ Some method) where
    above : (o p : Option TypeId) → o ≡ p → member_within room types o name ≡ Some one → nearest (methods_within room types p) name ≡ Some method
    above None p is e = absurd (no_member room e)
    above (Some ty) p is e = subst (λ (q : Option TypeId). nearest (methods_within room types q) name ≡ Some method) is (rec ty e)

    by_own : (ty : TypeId) (own : Option Member) → own_member (fields_within room types (members.parent_of (definition types ty))) ty (definition types ty) name ≡ own → IsOwn ty own
        → first_of own (member_within room types (members.parent_of (definition types ty)) name) ≡ Some one → nearest (methods_within (suc room) types (Some ty)) name ≡ Some method
    by_own ty None is mine e =
        let before : List Method = methods_within room types (parent_of (definition types ty)) in
        let own : List Method = methods_of (definition types ty) in
        nearest_join name before own
        ∙ ap (λ (o : Option Method). later_of o (nearest before name)) (none_own name (fields_within room types (members.parent_of (definition types ty))) ty (definition types ty) is)
        ∙ above (members.parent_of (definition types ty)) (parent_of (definition types ty)) (parents (definition types ty)) e
    by_own ty (Some m) is mine e =
        let before : List Method = methods_within room types (parent_of (definition types ty)) in
        let own : List Method = methods_of (definition types ty) in
        let same : m.class ≡ one.class = ap (λ (o : Option Member). class_in ty o) e in
        let of : one.class ≡ ty = sym same ∙ mine in
        nearest_join name before own
        ∙ ap (λ (o : Option Method). later_of o (nearest before name))
        (own_near name one method kind (fields_within room types (members.parent_of (definition types ty))) ty (definition types ty) (few.methods ty) (few.once ty) (is ∙ e)
        (subst (λ (t : TypeId). slice_get (methods_of (definition types t)) one.number ≡ Some method) of at))

  line_near : (room : ℕ) (ty : TypeId) → member_within room types (Some ty) name ≡ Some one → nearest (methods_within room types (Some ty)) name ≡ Some method
  line_near zero ty e = let bad : ⊥ = cc in absurd bad
  line_near (suc room) ty e =
      let before : ℕ = fields_within room types (members.parent_of (definition types ty)) in
      by_own room (λ t k. line_near room t k) ty (own_member before ty (definition types ty) name) refl (is_own before ty (definition types ty) name) e

module _ (types : List TypeDef) (few : IsNumbered types) (class : TypeId) (name : List ℕ) (method : Method) where
  by_kind : (one : Member) → member_of types (Some class) name ≡ Some one → (b : Bool) → one.method ≡ b → cond b (slice_get (methods_of (definition types one.class)) one.number) None ≡ Some method
      → nearest (methods_in types class) name ≡ Some method
  by_kind one is true kind e = line_near types few name one method kind e (length types) class is
  by_kind one is false kind e = let bad : ⊥ = cc in absurd bad

  by_member : (o : Option Member) → member_of types (Some class) name ≡ o → method_by types o ≡ Some method → nearest (methods_in types class) name ≡ Some method
  by_member None is e = let bad : ⊥ = cc in absurd bad
  by_member (Some one) is e = by_kind one is one.method refl e

  -- the method that a name means is the nearest one of the line
  pub nearest_found : method_in types class name ≡ Some method → nearest (methods_in types class) name ≡ Some method
  unfolding method_in
  nearest_found e = by_member (member_of types (Some class) name) refl e
