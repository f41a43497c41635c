-- Where the fields of a type lie among its parts.
use Rattle.std.proofs.Common.{◌≡◌, ℕ, zero, suc, ◌+◌, ◌<◌, Bool, true, false, List, [], ◌∷◌, ◌++◌, map, Some, None, refl, sym, ap, subst, ◌∙◌, arith, append-nil}
use Rattle.std.specs.Prelude.{slice_get, Option, ◌&&◌, not}
use Rattle.well_formed.specs.type_layout.declared.definitions.TypeId.{TypeId}
use Rattle.well_formed.specs.type_layout.declared.definitions.Field.{Field}
use Rattle.well_formed.specs.type_layout.declared.definitions.Method.{Method}
use Rattle.well_formed.specs.type_layout.declared.definitions.TypeDef.{TypeDef}
use Rattle.well_formed.specs.type_layout.declared.definitions.TypeDef.TheVariants as type
use Rattle.well_formed.specs.type_layout.Table.{AllDefined}
use Rattle.well_formed.specs.typed_tree.type_fits.Fits.{fields_by, field_type}
use Rattle.store_typing.specs.tp_meaning.Shapes.{Part, FieldPart, ClassPart, has_class_part, field_parts, class_parts, parts_by, parts_at, field_place}
use Rattle.store_typing.proofs.types.Whole.{above, no_parts, parts_of_record, parts_of_object, parts_of_none, parent_below, fields_at, fields_of_record, fields_of_object, no_fields, no_fields_of}

abbrev fields_in : List Part → List TypeId
fields_in [] = []
fields_in (FieldPart ty ∷ parts) = ty ∷ fields_in parts
fields_in (ClassPart ∷ parts) = fields_in parts

field_found : (parts : List Part) (number : ℕ) (ty : TypeId) → slice_get (fields_in parts) number ≡ Some ty → slice_get parts (field_place parts number) ≡ Some (FieldPart ty)
field_found [] number ty e = absurd cc
field_found (ClassPart ∷ parts) number ty e =
    let next : suc (field_place parts number) ≡ 1 + field_place parts number = omega arith in
    subst (λ n. slice_get (ClassPart ∷ parts) n ≡ Some (FieldPart ty)) next (field_found parts number ty e)
field_found (FieldPart one ∷ parts) zero ty e = cc
field_found (FieldPart one ∷ parts) (suc number) ty e =
    let next : suc (field_place parts number) ≡ 1 + field_place parts number = omega arith in
    subst (λ n. slice_get (FieldPart one ∷ parts) n ≡ Some (FieldPart ty)) next (field_found parts number ty e)

fields_append : (xs ys : List Part) → fields_in (xs ++ ys) ≡ fields_in xs ++ fields_in ys
fields_append [] ys = refl
fields_append (FieldPart ty ∷ xs) ys = ap (λ (l : List TypeId). ty ∷ l) (fields_append xs ys)
fields_append (ClassPart ∷ xs) ys = fields_append xs ys

fields_of_fields : (fields : List Field) → fields_in (field_parts fields) ≡ map (λ (field : Field). field.ty) fields
fields_of_fields [] = refl
fields_of_fields (field ∷ fields) = ap (λ (l : List TypeId). field.ty ∷ l) (fields_of_fields fields)

fields_of_class : (has : Bool) → fields_in (class_parts has) ≡ []
fields_of_class true = refl
fields_of_class false = refl

module _ (types : List TypeDef) (all : AllDefined [] types) where
  abbrev Lie : TypeId → Type 0
  Lie ty = fields_at types (Some ty) ≡ fields_in (parts_at types ty)

  object_fields : (ty : TypeId) (parent : Option TypeId) (dynamic : Bool) (fields : List Field) (methods : List Method) → slice_get types ty.0 ≡ Some (type.ObjectOf parent dynamic fields methods)
      → fields_at types parent ≡ fields_in (above types parent) → Lie ty
  object_fields ty parent dynamic fields methods e inherited =
      let parts : List Part = above types parent in
      let has : Bool = dynamic && not (has_class_part parts) in
      let own : List TypeId = map (λ (field : Field). field.ty) fields in
      let behind : fields_in (field_parts fields ++ class_parts has) ≡ own =
      fields_append (field_parts fields) (class_parts has) ∙ ap (λ (l : List TypeId). fields_in (field_parts fields) ++ l) (fields_of_class has)
      ∙ append-nil (fields_in (field_parts fields)) ∙ fields_of_fields fields in
      fields_of_object types all ty parent dynamic fields methods e
      ∙ ap (λ (l : List TypeId). l ++ own) inherited
      ∙ ap (λ (l : List TypeId). fields_in parts ++ l) (sym behind)
      ∙ sym (fields_append parts (field_parts fields ++ class_parts has))
      ∙ ap fields_in (sym (parts_of_object types all ty parent dynamic fields methods e))

  neither : (ty : TypeId) (one : TypeDef) → slice_get types ty.0 ≡ Some one → ((front : List TypeDef) (given : List (List TypeId)) → fields_by front given one ≡ [])
      → ((front : List TypeDef) (given : List (List Part)) → parts_by front given one ≡ []) → Lie ty
  neither ty one e none none' = no_fields_of types all ty one e none ∙ ap fields_in (sym (parts_of_none types all ty one e none'))

  found_fields : (n : ℕ) → ((ty : TypeId) → ty.0 < n → Lie ty) → (ty : TypeId) → ty.0 < suc n → (o : Option TypeDef) → slice_get types ty.0 ≡ o → Lie ty
  found_fields n rec ty h None e = no_fields types all ty e ∙ ap fields_in (sym (no_parts types ty e))
  found_fields n rec ty h (Some (type.RecordOf fields)) e = fields_of_record types all ty fields e ∙ sym (ap fields_in (parts_of_record types all ty fields e) ∙ fields_of_fields fields)
  found_fields n rec ty h (Some (type.ObjectOf None dynamic fields methods)) e = object_fields ty None dynamic fields methods e refl
  found_fields n rec ty h (Some (type.ObjectOf (Some parent) dynamic fields methods)) e =
      object_fields ty (Some parent) dynamic fields methods e (rec parent (omega (arith, parent_below types all ty parent dynamic fields methods e, h)))
  found_fields n rec ty h (Some (type.Ordinal host low high)) e = neither ty (type.Ordinal host low high) e (λ f g. refl) (λ f g. refl)
  found_fields n rec ty h (Some (type.Str max)) e = neither ty (type.Str max) e (λ f g. refl) (λ f g. refl)
  found_fields n rec ty h (Some (type.SetOf base)) e = neither ty (type.SetOf base) e (λ f g. refl) (λ f g. refl)
  found_fields n rec ty h (Some (type.ArrayOf i x)) e = neither ty (type.ArrayOf i x) e (λ f g. refl) (λ f g. refl)
  found_fields n rec ty h (Some (type.PointerTo target)) e = neither ty (type.PointerTo target) e (λ f g. refl) (λ f g. refl)
  found_fields n rec ty h (Some (type.Procedural header)) e = neither ty (type.Procedural header) e (λ f g. refl) (λ f g. refl)

  fields_up_to : (n : ℕ) (ty : TypeId) → ty.0 < n → Lie ty
  fields_up_to zero ty h = absurd (omega (arith, h))
  fields_up_to (suc n) ty h = found_fields n (fields_up_to n) ty h (slice_get types ty.0) refl

  -- where a field lies among the parts of its type
  pub field_part : (of ty : TypeId) (number : ℕ) → field_type types of number ≡ Some ty → slice_get (parts_at types of) (field_place (parts_at types of) number) ≡ Some (FieldPart ty)
  field_part of ty number e =
      field_found (parts_at types of) number ty (ap (λ (l : List TypeId). slice_get l number) (sym (fields_up_to (of.0 + 1) of (omega arith))) ∙ e)
