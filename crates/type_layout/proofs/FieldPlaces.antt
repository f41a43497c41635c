-- Where the fields of a type lie.
use Rattle.std.proofs.Common.{◌≡◌, ℕ, zero, suc, ◌+◌, ◌<◌, ◌≤◌, List, [], ◌∷◌, length, take, Option, Some, None, Bool, true, false, refl, arith, ap, ◌∙◌, length-append}
use Rattle.std.specs.List.{All, slice_get}
use Rattle.std.proofs.lemmas.List.Sums.{sum_by-cons}
use Rattle.std.proofs.lemmas.List.Elements.{All-weaker}
use Rattle.std.proofs.lemmas.Option.{slice_get_within}
use Rattle.type_layout.specs.declared.definitions.TypeId.{TypeId}
use Rattle.type_layout.specs.declared.definitions.Field.{Field}
use Rattle.type_layout.specs.declared.definitions.TypeDef.{TypeDef}
use Rattle.type_layout.specs.declared.definitions.TypeDef.TheVariants.{Ordinal, Str, SetOf, ArrayOf, RecordOf, PointerTo, ObjectOf, Procedural}
use Rattle.type_layout.specs.declared.layout.Layout.{Layout}
use Rattle.type_layout.specs.Layouts.{plain, size_in, fields_size, object_by, layouts_of, layout_at, placed_from, HasFieldsOf}
use Rattle.type_layout.specs.Table.{Table, IsWellFormed}
use Rattle.type_layout.proofs.Given.{length-layouts_of}
use Rattle.type_layout.proofs.Local.{within_if_object}
use Rattle.type_layout.proofs.Measured.{Round, round, is_measured}

pub length-placed_from : (layouts : List Layout) (at : ℕ) (fields : List Field) → length (placed_from layouts at fields) ≡ length fields
length-placed_from layouts at [] = refl
length-placed_from layouts at (field ∷ fields) = ap suc (length-placed_from layouts (at + size_in layouts field.ty) fields)

-- a field lies behind those before it
pub slice_get-placed_from : (layouts : List Layout) (at : ℕ) (fields : List Field) (k : ℕ) → k < length fields
    → slice_get (placed_from layouts at fields) k ≡ Some (at + fields_size layouts (take k fields))
slice_get-placed_from layouts at [] k within = absurd (omega arith)
slice_get-placed_from layouts at (field ∷ fields) zero within = ap Some (omega arith)
slice_get-placed_from layouts at (field ∷ fields) (suc k) within =
    slice_get-placed_from layouts (at + size_in layouts field.ty) fields k (omega arith)
    ∙ ap Some (omega (arith, sum_by-cons (λ (f : Field). size_in layouts f.ty) field (take k fields)))

end-le-object_by : (class_field : Option ℕ) (dynamic : Bool) (end : ℕ) → end ≤ (object_by class_field dynamic end).size
end-le-object_by (Some at) dynamic end = omega arith
end-le-object_by None true end = omega arith
end-le-object_by None false end = omega arith

module _ (table : Table) (well : IsWellFormed table) (id : TypeId) where
  small : (one : TypeDef) → slice_get table.types id.0 ≡ Some one → (layout_at table.types id).size ≤ 65520
  small one found =
      let within = slice_get_within table.types id.0 one found in
      well.fits id.0 (plain 0) (omega (arith, within, length-layouts_of table.types))

  known_in_whole : (one : TypeDef) (fields : List Field) (r : Round table.types id.0 one)
      → All (λ field. field.ty.0 < length r.front) fields → All (λ field. field.ty.0 < length (layouts_of table.types)) fields
  known_in_whole one fields r known =
      let len : length r.front ≤ length (layouts_of table.types) =
      omega (arith, length-layouts_of table.types, ap length r.is, length-append r.front (one ∷ r.back)) in
      All-weaker (λ (f : Field). f.ty.0 < length r.front) (λ (f : Field). f.ty.0 < length (layouts_of table.types))
      (λ f h. omega arith) fields known

  pub has_fields : (one : TypeDef) → slice_get table.types id.0 ≡ Some one → HasFieldsOf table.types id one
  has_fields (Ordinal host low high) found = (is_measured table.types well.defined).offsets id (Ordinal host low high) found
  has_fields (Str max) found = (is_measured table.types well.defined).offsets id (Str max) found
  has_fields (SetOf base) found = (is_measured table.types well.defined).offsets id (SetOf base) found
  has_fields (ArrayOf index element) found = (is_measured table.types well.defined).offsets id (ArrayOf index element) found
  has_fields (PointerTo target) found = (is_measured table.types well.defined).offsets id (PointerTo target) found
  has_fields (Procedural header) found = (is_measured table.types well.defined).offsets id (Procedural header) found
  has_fields (RecordOf fields) found =
      let r = round table.types id.0 (RecordOf fields) well.defined found in
      let law = is_measured table.types well.defined in
      let limit = small (RecordOf fields) found in
      let size = ap (λ (l : Layout). l.size) (law.layouts id (RecordOf fields) found) in
      record {
        offsets = law.offsets id (RecordOf fields) found;
        known = known_in_whole (RecordOf fields) fields r r.defined;
        room = omega (arith, limit, size);
      }
  has_fields (ObjectOf None dynamic fields methods) found =
      let r = round table.types id.0 (ObjectOf None dynamic fields methods) well.defined found in
      let law = is_measured table.types well.defined in
      let limit = small (ObjectOf None dynamic fields methods) found in
      let size = ap (λ (l : Layout). l.size) (law.layouts id (ObjectOf None dynamic fields methods) found) in
      record {
        offsets = law.offsets id (ObjectOf None dynamic fields methods) found;
        known = known_in_whole (ObjectOf None dynamic fields methods) fields r r.defined.1;
        room = omega (arith, limit, size, end-le-object_by None dynamic (0 + fields_size (layouts_of table.types) fields));
      }
  has_fields (ObjectOf (Some parent) dynamic fields methods) found =
      let r = round table.types id.0 (ObjectOf (Some parent) dynamic fields methods) well.defined found in
      let law = is_measured table.types well.defined in
      let limit = small (ObjectOf (Some parent) dynamic fields methods) found in
      let size = ap (λ (l : Layout). l.size) (law.layouts id (ObjectOf (Some parent) dynamic fields methods) found) in
      let up = layout_at table.types parent in (
        omega (arith, within_if_object r.front parent.0 r.defined.0, r.at),
        record {
          offsets = law.offsets id (ObjectOf (Some parent) dynamic fields methods) found;
          known = known_in_whole (ObjectOf (Some parent) dynamic fields methods) fields r r.defined.1;
          room = omega (arith, limit, size, end-le-object_by up.class_field dynamic (up.size + fields_size (layouts_of table.types) fields));
        },
      )
