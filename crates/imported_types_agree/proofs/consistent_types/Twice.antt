-- What is declared with new ids, twice: as once with the ids that come of both.
use Rattle.std.proofs.Common.{◌≡◌, ◌∙◌, ℕ, List, [], ◌∷◌, ◌++◌, map, Option, Some, None, refl, ap, option_map}
use Rattle.tables_closed.specs.type_layout.declared.definitions.TypeId.{TypeId}
use Rattle.tables_closed.specs.type_layout.declared.definitions.Param.{Param}
use Rattle.tables_closed.specs.type_layout.declared.definitions.Header.{Header}
use Rattle.tables_closed.specs.type_layout.declared.definitions.Field.{Field}
use Rattle.tables_closed.specs.type_layout.declared.definitions.Method.{Method}
use Rattle.tables_closed.specs.type_layout.declared.definitions.TypeDef.{TypeDef}
use Rattle.tables_closed.specs.type_layout.declared.definitions.TypeDef.TheVariants.{Ordinal, Str, SetOf, ArrayOf, RecordOf, PointerTo, ObjectOf, Procedural}
use Rattle.tables_closed.specs.unit_interface.Merge.{new_id, renumbered_param, renumbered_header, renumbered_field, renumbered_method, renumbered}
use Rattle.tables_closed.specs.unit_interface.Exports.{in_option, in_params, in_header, in_fields, in_methods, in_type}

-- each number of a list keeps a rule
abbrev pub AllOf : (ℕ → Type 0) → List ℕ → Type 0
AllOf P [] = Unit {0}
AllOf P (x ∷ xs) = P x × AllOf P xs

module _ (P : ℕ → Type 0) where
  pub front : (xs ys : List ℕ) → AllOf P (xs ++ ys) → AllOf P xs
  front [] ys h = tt
  front (x ∷ xs) ys h = (h.0, front xs ys h.1)

  pub back : (xs ys : List ℕ) → AllOf P (xs ++ ys) → AllOf P ys
  back [] ys h = h
  back (x ∷ xs) ys h = back xs ys h.1

module _ (P : ℕ → Type 0) (a b c : List TypeId) (same : (ty : TypeId) → P ty.0 → new_id b (new_id a ty) ≡ new_id c ty) where
  twice_option : (ty : Option TypeId) → AllOf P (in_option ty) → option_map (new_id b) (option_map (new_id a) ty) ≡ option_map (new_id c) ty
  twice_option None h = refl
  twice_option (Some ty) h = ap (λ (t : TypeId). Some t) (same ty h.0)

  twice_params : (params : List Param) → AllOf P (in_params params) → map (renumbered_param b) (map (renumbered_param a) params) ≡ map (renumbered_param c) params
  twice_params [] h = refl
  twice_params (param ∷ params) h =
      ap (λ (t : TypeId). (let p : Param = record { name = param.name; by_ref = param.by_ref; ty = t } in p) ∷ map (renumbered_param b) (map (renumbered_param a) params)) (same param.ty h.0)
      ∙ ap (λ (l : List Param). renumbered_param c param ∷ l) (twice_params params h.1)

  twice_header : (header : Header) → AllOf P (in_header header) → renumbered_header b (renumbered_header a header) ≡ renumbered_header c header
  twice_header header h =
      ap (λ (l : List Param). (let x : Header = record { kind = header.kind; params = l; result = option_map (new_id b) (option_map (new_id a) header.result) } in x))
      (twice_params header.params (front P (in_params header.params) (in_option header.result) h))
      ∙ ap (λ (r : Option TypeId). (let x : Header = record { kind = header.kind; params = map (renumbered_param c) header.params; result = r } in x))
      (twice_option header.result (back P (in_params header.params) (in_option header.result) h))

  twice_fields : (fields : List Field) → AllOf P (in_fields fields) → map (renumbered_field b) (map (renumbered_field a) fields) ≡ map (renumbered_field c) fields
  twice_fields [] h = refl
  twice_fields (field ∷ fields) h =
      ap (λ (t : TypeId). (let f : Field = record { name = field.name; ty = t } in f) ∷ map (renumbered_field b) (map (renumbered_field a) fields)) (same field.ty h.0)
      ∙ ap (λ (l : List Field). renumbered_field c field ∷ l) (twice_fields fields h.1)

  twice_methods : (p q : ℕ) (methods : List Method) → AllOf P (in_methods methods) → map (renumbered_method b p) (map (renumbered_method a q) methods) ≡ map (renumbered_method c p) methods
  twice_methods p q [] h = refl
  twice_methods p q (method ∷ methods) h =
      let first = front P (in_header method.header) (in_methods methods) h in
      let rest = back P (in_header method.header) (in_methods methods) h in
      ap (λ (x : Header). (let m : Method = record { name = method.name; header = x; is_virtual = method.is_virtual; routine = record { unit = p; number = method.routine.number } } in m) ∷ map (renumbered_method b p) (map (renumbered_method a q) methods))
      (twice_header method.header first)
      ∙ ap (λ (l : List Method). renumbered_method c p method ∷ l) (twice_methods p q methods rest)

  pub twice_type : (p q : ℕ) (ty : TypeDef) → AllOf P (in_type ty) → renumbered b p (renumbered a q ty) ≡ renumbered c p ty
  twice_type p q (Ordinal host low high) h = refl
  twice_type p q (Str max) h = refl
  twice_type p q (SetOf base) h = ap (λ (t : TypeId). SetOf t) (same base h.0)
  twice_type p q (ArrayOf index element) h =
      ap (λ (t : TypeId). ArrayOf t (new_id b (new_id a element))) (same index h.0) ∙ ap (λ (t : TypeId). ArrayOf (new_id c index) t) (same element h.1.0)
  twice_type p q (RecordOf fields) h = ap (λ (l : List Field). RecordOf l) (twice_fields fields h)
  twice_type p q (PointerTo target) h = ap (λ (t : TypeId). PointerTo t) (same target h.0)
  twice_type p q (ObjectOf parent dynamic fields methods) h =
      let both = front P (in_option parent ++ in_fields fields) (in_methods methods) h in
      let last = back P (in_option parent ++ in_fields fields) (in_methods methods) h in
      ap (λ (x : Option TypeId). ObjectOf x dynamic (map (renumbered_field b) (map (renumbered_field a) fields)) (map (renumbered_method b p) (map (renumbered_method a q) methods))) (twice_option parent (front P (in_option parent) (in_fields fields) both))
      ∙ ap (λ (l : List Field). ObjectOf (option_map (new_id c) parent) dynamic l (map (renumbered_method b p) (map (renumbered_method a q) methods))) (twice_fields fields (back P (in_option parent) (in_fields fields) both))
      ∙ ap (λ (l : List Method). ObjectOf (option_map (new_id c) parent) dynamic (map (renumbered_field c) fields) l) (twice_methods p q methods last)
  twice_type p q (Procedural header) h = ap (λ (x : Header). Procedural x) (twice_header header h)
