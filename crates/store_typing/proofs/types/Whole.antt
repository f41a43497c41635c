-- The parts, fields and forms of a type over its whole table.
use Rattle.std.proofs.Common.{◌≡◌, ℕ, zero, suc, ◌+◌, ◌<◌, ◌≤◌, Bool, true, false, List, [], ◌∷◌, ◌++◌, length, map, Some, None, refl, sym, ap, subst, ◌∙◌, arith, zero-add}
use Rattle.std.specs.Prelude.{ℤ, slice_get, Option, All, ◌&&◌, not}
use Rattle.std.proofs.lemmas.List.{get_or_past}
use Rattle.std.proofs.lemmas.List.Elements.{All-head, All-tail}
use Rattle.tp_meaning.specs.type_layout.declared.definitions.TypeId.{TypeId}
use Rattle.tp_meaning.specs.type_layout.declared.definitions.Field.{Field}
use Rattle.tp_meaning.specs.type_layout.declared.definitions.Method.{Method}
use Rattle.tp_meaning.specs.type_layout.declared.definitions.TypeDef.{TypeDef}
use Rattle.tp_meaning.specs.type_layout.declared.definitions.TypeDef.TheVariants as type
use Rattle.tp_meaning.specs.type_layout.Layouts.{bounds_of, bounds_at, given_by}
use Rattle.tp_meaning.specs.type_layout.Storage.{count_between}
use Rattle.tp_meaning.specs.type_layout.Table.{Table, IsOrdinal, IsByteRange, IsObject, IsAncestor, AllDefined}
use Rattle.tp_meaning.proofs.type_layout_proofs.Given.{length-given_by, get_or-given_by-middle, get_or-given_by-front}
use Rattle.tp_meaning.proofs.type_layout_proofs.Local.{slice_get-append, within_if_object}
use Rattle.tp_meaning.proofs.type_layout_proofs.Measured.{Round, round}
use Rattle.tp_meaning.specs.typed_tree.type_fits.Fits.{types_in, fields_by, field_types_of}
use Rattle.tp_meaning.specs.Trees.{Key}
use Rattle.tp_meaning.specs.Shapes.{Part, FieldPart, ClassPart, has_class_part, field_parts, class_parts, object_parts, parts_in, parts_by, parts_of, parts_at}
use Rattle.store_typing.specs.types.Declared.{declared}
use Rattle.store_typing.proofs.stores.Sets.{AreByteBounds}
use Rattle.store_typing.specs.types.Forms.{Form, Cell, End, members_between, repeated, line, part_form, part_forms, form_of, form_in, form_by}

-- ---- the numbers of the types of parts

abbrev pub PartsBelow : ℕ → List Part → Type 0
PartsBelow n [] = Unit {0}
PartsBelow n (FieldPart ty ∷ parts) = (ty.0 < n) × PartsBelow n parts
PartsBelow n (ClassPart ∷ parts) = PartsBelow n parts

below_more : (m n : ℕ) (parts : List Part) → m ≤ n → PartsBelow m parts → PartsBelow n parts
below_more m n [] le h = tt
below_more m n (FieldPart ty ∷ parts) le h = (omega (arith, h.0, le), below_more m n parts le h.1)
below_more m n (ClassPart ∷ parts) le h = below_more m n parts le h

below_append : (n : ℕ) (xs ys : List Part) → PartsBelow n xs → PartsBelow n ys → PartsBelow n (xs ++ ys)
below_append n [] ys h g = g
below_append n (FieldPart ty ∷ xs) ys h g = (h.0, below_append n xs ys h.1 g)
below_append n (ClassPart ∷ xs) ys h g = below_append n xs ys h g

pub below_fields : (n : ℕ) (fields : List Field) → All (λ (field : Field). field.ty.0 < n) fields → PartsBelow n (field_parts fields)
below_fields n [] h = tt
below_fields n (field ∷ fields) h =
    (All-head (λ (f : Field). f.ty.0 < n) field fields h, below_fields n fields (All-tail (λ (f : Field). f.ty.0 < n) field fields h))

below_class : (n : ℕ) (has : Bool) → PartsBelow n (class_parts has)
below_class n true = tt
below_class n false = tt

-- ---- the parts of a type, over the types before it

parts_round : (types : List TypeDef) (ty : TypeId) (one : TypeDef) (r : Round types ty.0 one) → parts_at types ty ≡ parts_by r.front (parts_of r.front) one
parts_round types ty one r = rw (r.is, ← r.at) (get_or-given_by-middle parts_by r.front one r.back [])

parts_front : (types : List TypeDef) (k : ℕ) (one : TypeDef) (r : Round types k one) (ty : TypeId) → ty.0 < k → parts_in (parts_of r.front) (Some ty) ≡ parts_at types ty
parts_front types k one r ty h = rw r.is (sym (get_or-given_by-front parts_by r.front (one ∷ r.back) ty.0 [] (omega (arith, h, r.at))))

past_of_none : (types : List TypeDef) (k : ℕ) → slice_get types k ≡ None → length types ≤ k
past_of_none [] k e = omega arith
past_of_none (one ∷ types) zero e = absurd cc
past_of_none (one ∷ types) (suc k) e = omega (arith, past_of_none types k e)

length_given : {A : Type 0} (rule : List TypeDef → List A → TypeDef → A) (types : List TypeDef) → length (given_by rule [] [] types) ≡ length types
length_given {A} rule types =
    let none : List A = [] in
    length-given_by rule [] none types ∙ zero-add (length types)

pub no_parts : (types : List TypeDef) (ty : TypeId) → slice_get types ty.0 ≡ None → parts_at types ty ≡ []
no_parts types ty e = get_or_past (parts_of types) ty.0 [] (omega (arith, length_given parts_by types, past_of_none types ty.0 e))

-- ---- the parts of a type, over the whole table

-- what an object type has above its own fields
abbrev pub above : List TypeDef → Option TypeId → List Part
above types parent = parts_in (parts_of types) parent

module _ (types : List TypeDef) (all : AllDefined [] types) (ty : TypeId) where
  inherited_same : (one : TypeDef) (r : Round types ty.0 one) (parent : Option TypeId) → IsAncestor r.front parent → parts_in (parts_of r.front) parent ≡ above types parent
  inherited_same one r None is = refl
  inherited_same one r (Some parent) is = parts_front types ty.0 one r parent (omega (arith, within_if_object r.front parent.0 is, r.at))

  pub parts_of_record : (fields : List Field) → slice_get types ty.0 ≡ Some (type.RecordOf fields) → parts_at types ty ≡ field_parts fields
  parts_of_record fields e = parts_round types ty (type.RecordOf fields) (round types ty.0 (type.RecordOf fields) all e)

  pub parts_of_object : (parent : Option TypeId) (dynamic : Bool) (fields : List Field) (methods : List Method) → slice_get types ty.0 ≡ Some (type.ObjectOf parent dynamic fields methods)
      → parts_at types ty ≡ object_parts (above types parent) dynamic fields
  parts_of_object parent dynamic fields methods e =
      let one : TypeDef = type.ObjectOf parent dynamic fields methods in
      let r = round types ty.0 one all e in
      parts_round types ty one r ∙ ap (λ (l : List Part). object_parts l dynamic fields) (inherited_same one r parent r.defined.0)

  -- the parent of an object type stands before it
  pub parent_below : (parent : TypeId) (dynamic : Bool) (fields : List Field) (methods : List Method) → slice_get types ty.0 ≡ Some (type.ObjectOf (Some parent) dynamic fields methods) → parent.0 < ty.0
  parent_below parent dynamic fields methods e =
      let r = round types ty.0 (type.ObjectOf (Some parent) dynamic fields methods) all e in
      omega (arith, within_if_object r.front parent.0 r.defined.0, r.at)

  -- and is an object type
  pub parent_is_object : (parent : TypeId) (dynamic : Bool) (fields : List Field) (methods : List Method) → slice_get types ty.0 ≡ Some (type.ObjectOf (Some parent) dynamic fields methods) → IsObject (slice_get types parent.0)
  parent_is_object parent dynamic fields methods e =
      let one : TypeDef = type.ObjectOf (Some parent) dynamic fields methods in
      let r = round types ty.0 one all e in
      let same : slice_get types parent.0 ≡ slice_get r.front parent.0 =
      ap (λ (l : List TypeDef). slice_get l parent.0) r.is ∙ slice_get-append r.front (one ∷ r.back) parent.0 (within_if_object r.front parent.0 r.defined.0) in
      subst IsObject (sym same) r.defined.0

  pub fields_below : (parent : Option TypeId) (dynamic : Bool) (fields : List Field) (methods : List Method) → slice_get types ty.0 ≡ Some (type.ObjectOf parent dynamic fields methods) → PartsBelow ty.0 (field_parts fields)
  fields_below parent dynamic fields methods e =
      let r = round types ty.0 (type.ObjectOf parent dynamic fields methods) all e in
      below_fields ty.0 fields (subst (λ n. All (λ (field : Field). field.ty.0 < n) fields) r.at r.defined.1)

  pub record_below : (fields : List Field) → slice_get types ty.0 ≡ Some (type.RecordOf fields) → PartsBelow ty.0 (field_parts fields)
  record_below fields e =
      let r = round types ty.0 (type.RecordOf fields) all e in
      below_fields ty.0 fields (subst (λ n. All (λ (field : Field). field.ty.0 < n) fields) r.at r.defined)

  pub parts_of_none : (one : TypeDef) → slice_get types ty.0 ≡ Some one → ((front : List TypeDef) (given : List (List Part)) → parts_by front given one ≡ []) → parts_at types ty ≡ []
  parts_of_none one e none = let r = round types ty.0 one all e in parts_round types ty one r ∙ none r.front (parts_of r.front)

-- the types of the parts of a type stand before it
module _ (types : List TypeDef) (all : AllDefined [] types) where
  object_below : (ty : TypeId) (parent : Option TypeId) (dynamic : Bool) (fields : List Field) (methods : List Method) → slice_get types ty.0 ≡ Some (type.ObjectOf parent dynamic fields methods)
      → PartsBelow ty.0 (above types parent) → PartsBelow ty.0 (parts_at types ty)
  object_below ty parent dynamic fields methods e h =
      let parts : List Part = above types parent in
      let has : Bool = dynamic && not (has_class_part parts) in
      subst (PartsBelow ty.0) (sym (parts_of_object types all ty parent dynamic fields methods e))
      (below_append ty.0 parts (field_parts fields ++ class_parts has) h
      (below_append ty.0 (field_parts fields) (class_parts has) (fields_below types all ty parent dynamic fields methods e) (below_class ty.0 has)))

  found_below : (n : ℕ) → ((ty : TypeId) → ty.0 < n → PartsBelow ty.0 (parts_at types ty)) → (ty : TypeId) → ty.0 < suc n → (o : Option TypeDef) → slice_get types ty.0 ≡ o → PartsBelow ty.0 (parts_at types ty)
  found_below n rec ty h None e = subst (PartsBelow ty.0) (sym (no_parts types ty e)) tt
  found_below n rec ty h (Some (type.RecordOf fields)) e = subst (PartsBelow ty.0) (sym (parts_of_record types all ty fields e)) (record_below types all ty fields e)
  found_below n rec ty h (Some (type.ObjectOf None dynamic fields methods)) e = object_below ty None dynamic fields methods e tt
  found_below n rec ty h (Some (type.ObjectOf (Some parent) dynamic fields methods)) e =
      let less = parent_below types all ty parent dynamic fields methods e in
      object_below ty (Some parent) dynamic fields methods e (below_more parent.0 ty.0 (parts_at types parent) (omega (arith, less)) (rec parent (omega (arith, less, h))))
  found_below n rec ty h (Some (type.Ordinal host low high)) e = subst (PartsBelow ty.0) (sym (parts_round types ty (type.Ordinal host low high) (round types ty.0 (type.Ordinal host low high) all e))) tt
  found_below n rec ty h (Some (type.Str max)) e = subst (PartsBelow ty.0) (sym (parts_round types ty (type.Str max) (round types ty.0 (type.Str max) all e))) tt
  found_below n rec ty h (Some (type.SetOf base)) e = subst (PartsBelow ty.0) (sym (parts_round types ty (type.SetOf base) (round types ty.0 (type.SetOf base) all e))) tt
  found_below n rec ty h (Some (type.ArrayOf index element)) e = subst (PartsBelow ty.0) (sym (parts_round types ty (type.ArrayOf index element) (round types ty.0 (type.ArrayOf index element) all e))) tt
  found_below n rec ty h (Some (type.PointerTo target)) e = subst (PartsBelow ty.0) (sym (parts_round types ty (type.PointerTo target) (round types ty.0 (type.PointerTo target) all e))) tt
  found_below n rec ty h (Some (type.Procedural header)) e = subst (PartsBelow ty.0) (sym (parts_round types ty (type.Procedural header) (round types ty.0 (type.Procedural header) all e))) tt

  below_up_to : (n : ℕ) (ty : TypeId) → ty.0 < n → PartsBelow ty.0 (parts_at types ty)
  below_up_to zero ty h = absurd (omega (arith, h))
  below_up_to (suc n) ty h = found_below n (below_up_to n) ty h (slice_get types ty.0) refl

  pub parts_below : (ty : TypeId) → PartsBelow ty.0 (parts_at types ty)
  parts_below ty = below_up_to (ty.0 + 1) ty (omega arith)

-- the types of an array's parts stand before it
module _ (types : List TypeDef) (all : AllDefined [] types) (ty index element : TypeId) (e : slice_get types ty.0 ≡ Some (type.ArrayOf index element)) where
  ordinal_within : (front : List TypeDef) (k : ℕ) → IsOrdinal (slice_get front k) → k < length front
  ordinal_within [] k is = absurd is
  ordinal_within (one ∷ front) zero is = omega arith
  ordinal_within (one ∷ front) (suc k) is = let rec = ordinal_within front k is in omega arith

  pub index_below : index.0 < ty.0
  index_below = let r = round types ty.0 (type.ArrayOf index element) all e in omega (arith, ordinal_within r.front index.0 r.defined.0, r.at)

  pub element_below : element.0 < ty.0
  element_below = let r = round types ty.0 (type.ArrayOf index element) all e in omega (arith, r.defined.1, r.at)

byte_within : (front : List TypeDef) (k : ℕ) → IsByteRange (slice_get front k) → k < length front
byte_within [] k is = absurd is
byte_within (one ∷ front) zero is = omega arith
byte_within (one ∷ front) (suc k) is = let rec = byte_within front k is in omega arith

byte_bounds : (front : List TypeDef) (k : ℕ) (rest : List TypeDef) → IsByteRange (slice_get front k) → IsByteRange (slice_get (front ++ rest) k)
byte_bounds [] k rest is = absurd is
byte_bounds (one ∷ front) zero rest is = is
byte_bounds (one ∷ front) (suc k) rest is = byte_bounds front k rest is

-- the type that a set is over stands before it, and lies within a byte
module _ (types : List TypeDef) (all : AllDefined [] types) (ty base : TypeId) (e : slice_get types ty.0 ≡ Some (type.SetOf base)) where
  pub base_below : base.0 < ty.0
  base_below = let r = round types ty.0 (type.SetOf base) all e in omega (arith, byte_within r.front base.0 r.defined, r.at)

  base_range : IsByteRange (slice_get types base.0)
  base_range =
      let r = round types ty.0 (type.SetOf base) all e in
      subst (λ (l : List TypeDef). IsByteRange (slice_get l base.0)) (sym r.is) (byte_bounds r.front base.0 (type.SetOf base ∷ r.back) r.defined)

  range_bounds : (o : Option TypeDef) → slice_get types base.0 ≡ o → IsByteRange o → AreByteBounds (bounds_of o)
  range_bounds (Some (type.Ordinal host low high)) f is =
      let r = round types base.0 (type.Ordinal host low high) all f in
      record { least = is.0; order = r.defined.1; most = is.1 }
  range_bounds o f is = absurd is

  pub base_bounds : AreByteBounds (bounds_at types base)
  base_bounds = range_bounds (slice_get types base.0) refl base_range

-- ---- the fields of a type, over the whole table

abbrev pub fields_at : List TypeDef → Option TypeId → List TypeId
fields_at types ty = types_in (field_types_of types) ty

module _ (types : List TypeDef) (all : AllDefined [] types) (ty : TypeId) where
  fields_round : (one : TypeDef) (r : Round types ty.0 one) → fields_at types (Some ty) ≡ fields_by r.front (field_types_of r.front) one
  fields_round one r = rw (r.is, ← r.at) (get_or-given_by-middle fields_by r.front one r.back [])

  fields_front : (one : TypeDef) (r : Round types ty.0 one) (parent : Option TypeId) → IsAncestor r.front parent → types_in (field_types_of r.front) parent ≡ fields_at types parent
  fields_front one r None is = refl
  fields_front one r (Some parent) is =
      let within = within_if_object r.front parent.0 is in
      rw r.is (sym (get_or-given_by-front fields_by r.front (one ∷ r.back) parent.0 [] within))

  pub fields_of_record : (fields : List Field) → slice_get types ty.0 ≡ Some (type.RecordOf fields) → fields_at types (Some ty) ≡ map (λ (field : Field). field.ty) fields
  fields_of_record fields e = fields_round (type.RecordOf fields) (round types ty.0 (type.RecordOf fields) all e)

  pub fields_of_object : (parent : Option TypeId) (dynamic : Bool) (fields : List Field) (methods : List Method) → slice_get types ty.0 ≡ Some (type.ObjectOf parent dynamic fields methods)
      → fields_at types (Some ty) ≡ fields_at types parent ++ map (λ (field : Field). field.ty) fields
  fields_of_object parent dynamic fields methods e =
      let one : TypeDef = type.ObjectOf parent dynamic fields methods in
      let r = round types ty.0 one all e in
      fields_round one r ∙ ap (λ (l : List TypeId). l ++ map (λ (field : Field). field.ty) fields) (fields_front one r parent r.defined.0)

  pub no_fields : slice_get types ty.0 ≡ None → fields_at types (Some ty) ≡ []
  no_fields e = get_or_past (field_types_of types) ty.0 [] (omega (arith, length_given fields_by types, past_of_none types ty.0 e))

  pub no_fields_of : (one : TypeDef) → slice_get types ty.0 ≡ Some one → ((front : List TypeDef) (given : List (List TypeId)) → fields_by front given one ≡ []) → fields_at types (Some ty) ≡ []
  no_fields_of one e none = let r = round types ty.0 one all e in fields_round one r ∙ none r.front (field_types_of r.front)

-- ---- the form of a type, over the whole table

module _ (table : Table) where
  abbrev pub forms_over : List TypeDef → List Form
  forms_over types = given_by (form_by table) [] [] types

  module _ (types : List TypeDef) (all : AllDefined [] types) (ty : TypeId) where
    form_round : (one : TypeDef) (r : Round types ty.0 one) → form_in (forms_over types) ty ≡ form_of table r.front (length r.front) (form_in (forms_over r.front)) one
    form_round one r = rw (r.is, ← r.at) (get_or-given_by-middle (form_by table) r.front one r.back End)

    form_front : (one : TypeDef) (r : Round types ty.0 one) (id : TypeId) → id.0 < ty.0 → form_in (forms_over r.front) id ≡ form_in (forms_over types) id
    form_front one r id less = rw r.is (sym (get_or-given_by-front (form_by table) r.front (one ∷ r.back) id.0 End (omega (arith, less, r.at))))

    forms_same : (one : TypeDef) (r : Round types ty.0 one) (own : Option Key) (parts : List Part) → PartsBelow ty.0 parts
        → part_forms (form_in (forms_over r.front)) own parts ≡ part_forms (form_in (forms_over types)) own parts
    forms_same one r own [] h = refl
    forms_same one r own (FieldPart id ∷ parts) h =
        ap (λ (f : Form). f ∷ part_forms (form_in (forms_over r.front)) own parts) (form_front one r id h.0)
        ∙ ap (λ (l : List Form). form_in (forms_over types) id ∷ l) (forms_same one r own parts h.1)
    forms_same one r own (ClassPart ∷ parts) h = ap (λ (l : List Form). part_form (form_in (forms_over types)) own ClassPart ∷ l) (forms_same one r own parts h)

    within_if_ordinal : (front : List TypeDef) (k : ℕ) → IsOrdinal (slice_get front k) → k < length front
    within_if_ordinal [] k is = absurd is
    within_if_ordinal (one ∷ front) zero is = omega arith
    within_if_ordinal (one ∷ front) (suc k) is = let rec = within_if_ordinal front k is in omega arith

    bounds_front : (one : TypeDef) (r : Round types ty.0 one) (index : TypeId) → index.0 < length r.front → bounds_at r.front index ≡ bounds_at types index
    bounds_front one r index within =
        sym (ap (λ (types : List TypeDef). bounds_at types index) r.is ∙ ap bounds_of (slice_get-append r.front (one ∷ r.back) index.0 within))

    -- what the form of a type is made of
    pub form_whole : (one : TypeDef) → slice_get types ty.0 ≡ Some one → form_in (forms_over types) ty ≡ form_of table types ty.0 (form_in (forms_over types)) one
    form_whole (type.Ordinal host low high) e = form_round (type.Ordinal host low high) (round types ty.0 (type.Ordinal host low high) all e)
    form_whole (type.Str max) e = form_round (type.Str max) (round types ty.0 (type.Str max) all e)
    form_whole (type.SetOf base) e =
        let one : TypeDef = type.SetOf base in
        let r = round types ty.0 one all e in
        form_round one r ∙ ap (λ (b : ℤ × ℤ). Cell (members_between b)) (bounds_front one r base (byte_within r.front base.0 r.defined))
    form_whole (type.PointerTo target) e = form_round (type.PointerTo target) (round types ty.0 (type.PointerTo target) all e)
    form_whole (type.Procedural header) e = form_round (type.Procedural header) (round types ty.0 (type.Procedural header) all e)
    form_whole (type.ArrayOf index element) e =
        let one : TypeDef = type.ArrayOf index element in
        let r = round types ty.0 one all e in
        form_round one r
        ∙ ap (λ (b : ℤ × ℤ). repeated (count_between b.0 b.1) (form_in (forms_over r.front) element)) (bounds_front one r index (within_if_ordinal r.front index.0 r.defined.0))
        ∙ ap (repeated (count_between (bounds_at types index).0 (bounds_at types index).1)) (form_front one r element (omega (arith, r.defined.1, r.at)))
    form_whole (type.RecordOf fields) e =
        let one : TypeDef = type.RecordOf fields in
        let r = round types ty.0 one all e in
        form_round one r ∙ ap line (forms_same one r None (field_parts fields) (record_below types all ty fields e))
    form_whole (type.ObjectOf parent dynamic fields methods) e =
        let one : TypeDef = type.ObjectOf parent dynamic fields methods in
        let r = round types ty.0 one all e in
        let parts : List Part = object_parts (above types parent) dynamic fields in
        let below : PartsBelow ty.0 parts = subst (PartsBelow ty.0) (parts_of_object types all ty parent dynamic fields methods e) (parts_below types all ty) in
        form_round one r
        ∙ ap (λ (l : List Part). line (part_forms (form_in (forms_over r.front)) (declared table (record { 0 = length r.front })) (object_parts l dynamic fields))) (inherited_same types all ty one r parent r.defined.0)
        ∙ ap (λ n. line (part_forms (form_in (forms_over r.front)) (declared table (record { 0 = n })) parts)) r.at
        ∙ ap line (forms_same one r (declared table ty) parts below)
