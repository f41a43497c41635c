-- One type under the ids of two tables is alike in both.
use Rattle.std.proofs.Common.{◌≡◌, ℕ, List, [], ◌∷◌, ◌++◌, map, Option, Some, None, option_map, refl, ap}
use Rattle.std.specs.Prelude.{slice_get}
use Rattle.std.proofs.lemmas.List.Elements.{All-head}
use Rattle.unit_references.specs.type_layout.declared.definitions.TypeId.{TypeId}
use Rattle.unit_references.specs.type_layout.declared.definitions.Param.{Param}
use Rattle.unit_references.specs.type_layout.declared.definitions.Header.{Header}
use Rattle.unit_references.specs.type_layout.declared.definitions.Field.{Field}
use Rattle.unit_references.specs.type_layout.declared.definitions.Method.{Method}
use Rattle.unit_references.specs.type_layout.declared.definitions.TypeDef.{TypeDef}
use Rattle.unit_references.specs.type_layout.declared.definitions.TypeDef.TheVariants as type
use Rattle.unit_references.specs.type_layout.Table.{Table, HasMethodsOf}
use Rattle.unit_references.specs.tp_meaning.Trees.{Key}
use Rattle.unit_references.specs.store_typing.types.Declared.{declared, declared_param, declared_header, declared_fields, declared_method, AreAlike}
use Rattle.units_well_formed.specs.unit_interface.Merge.{new_id, renumbered_param, renumbered_header, renumbered_field, renumbered_method, renumbered}
use Rattle.units_well_formed.specs.unit_interface.Exports.{in_option, in_params, in_header, in_fields, in_methods, in_type}
use Rattle.units_well_formed.proofs.imported_types_agree_proofs.consistent_types.Twice.{AllOf, front, back}

-- ---- where what it names was declared at the same places

module _ (a b : Table) (ia ib : List TypeId) (P : ℕ → Type 0) (same : (ty : TypeId) → P ty.0 → declared a (new_id ia ty) ≡ declared b (new_id ib ty)) where
  option_alike : (ty : Option TypeId) → AllOf P (in_option ty) → option_map (declared a) (option_map (new_id ia) ty) ≡ option_map (declared b) (option_map (new_id ib) ty)
  option_alike None h = refl
  option_alike (Some ty) h = ap (λ (k : Option Key). Some k) (same ty h.0)

  params_alike : (params : List Param) → AllOf P (in_params params) → map (declared_param a) (map (renumbered_param ia) params) ≡ map (declared_param b) (map (renumbered_param ib) params)
  params_alike [] h = refl
  params_alike (param ∷ params) h = λ i. (param.by_ref, same param.ty h.0 i) ∷ params_alike params h.1 i

  header_alike : (header : Header) → AllOf P (in_header header) → declared_header a (renumbered_header ia header) ≡ declared_header b (renumbered_header ib header)
  header_alike header h = λ i. record {
    kind = header.kind;
    params = params_alike header.params (front P (in_params header.params) (in_option header.result) h) i;
    result = option_alike header.result (back P (in_params header.params) (in_option header.result) h) i;
  }

  fields_alike : (fields : List Field) → AllOf P (in_fields fields) → declared_fields a (map (renumbered_field ia) fields) ≡ declared_fields b (map (renumbered_field ib) fields)
  fields_alike [] h = refl
  fields_alike (field ∷ fields) h = λ i. same field.ty h.0 i ∷ fields_alike fields h.1 i

  module _ (p q : ℕ) (routines : slice_get a.units p ≡ slice_get b.units q) where
    method_alike : (method : Method) → AllOf P (in_header method.header) → declared_method a (renumbered_method ia p method) ≡ declared_method b (renumbered_method ib q method)
    method_alike method h = λ i. record {
      name = method.name;
      header = header_alike method.header h i;
      is_virtual = method.is_virtual;
      routine = option_map (λ (name : List ℕ). (let k : Key = record { unit = name; number = method.routine.number } in k)) (routines i);
    }

    methods_alike : (methods : List Method) → AllOf P (in_methods methods) → map (declared_method a) (map (renumbered_method ia p) methods) ≡ map (declared_method b) (map (renumbered_method ib q) methods)
    methods_alike [] h = refl
    methods_alike (method ∷ methods) h = λ i.
        method_alike method (front P (in_header method.header) (in_methods methods) h) i ∷ methods_alike methods (back P (in_header method.header) (in_methods methods) h) i

    pub type_alike : (first : TypeDef) → AllOf P (in_type first) → AreAlike a (renumbered ia p first) b (renumbered ib q first)
    type_alike (type.Ordinal host low high) h = (refl, refl, refl)
    type_alike (type.Str max) h = refl
    type_alike (type.SetOf base) h = same base h.0
    type_alike (type.ArrayOf index element) h = (same index h.0, same element h.1.0)
    type_alike (type.RecordOf fields) h = fields_alike fields h
    type_alike (type.PointerTo target) h = same target h.0
    type_alike (type.ObjectOf parent dynamic fields methods) h =
        let both = front P (in_option parent ++ in_fields fields) (in_methods methods) h in (
          option_alike parent (front P (in_option parent) (in_fields fields) both),
          refl,
          fields_alike fields (back P (in_option parent) (in_fields fields) both),
          methods_alike methods (back P (in_option parent ++ in_fields fields) (in_methods methods) h),
        )
    type_alike (type.Procedural header) h = header_alike header h

-- ---- a type and itself

pub itself : (table : Table) (one : TypeDef) → AreAlike table one table one
itself table (type.Ordinal host low high) = (refl, refl, refl)
itself table (type.Str max) = refl
itself table (type.SetOf base) = refl
itself table (type.ArrayOf index element) = (refl, refl)
itself table (type.RecordOf fields) = refl
itself table (type.PointerTo target) = refl
itself table (type.ObjectOf parent dynamic fields methods) = (refl, refl, refl, refl)
itself table (type.Procedural header) = refl

-- ---- the unit of its methods

-- which that is shows in the methods, if there are any
pub moved : (ids : List TypeId) (unit place : ℕ) (first : TypeDef) → HasMethodsOf place (renumbered ids unit first) → renumbered ids unit first ≡ renumbered ids place first
moved ids unit place (type.Ordinal host low high) own = refl
moved ids unit place (type.Str max) own = refl
moved ids unit place (type.SetOf base) own = refl
moved ids unit place (type.ArrayOf index element) own = refl
moved ids unit place (type.RecordOf fields) own = refl
moved ids unit place (type.PointerTo target) own = refl
moved ids unit place (type.ObjectOf parent dynamic fields []) own = refl
moved ids unit place (type.ObjectOf parent dynamic fields (method ∷ methods)) own =
    let same : unit ≡ place = All-head (λ (m : Method). m.routine.unit ≡ place) (renumbered_method ids unit method) (map (renumbered_method ids unit) methods) own in
    ap (λ (k : ℕ). renumbered ids k (type.ObjectOf parent dynamic fields (method ∷ methods))) same
moved ids unit place (type.Procedural header) own = refl
