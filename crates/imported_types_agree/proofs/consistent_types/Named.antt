-- The types that a type names under its new ids.
use Rattle.std.proofs.Common.{ℕ, ◌<◌, List, [], ◌∷◌, ◌++◌, map, Option, Some, None, option_map}
use Rattle.tables_closed.specs.type_layout.declared.definitions.TypeId.{TypeId}
use Rattle.tables_closed.specs.type_layout.declared.definitions.Param.{Param}
use Rattle.tables_closed.specs.type_layout.declared.definitions.Header.{Header}
use Rattle.tables_closed.specs.type_layout.declared.definitions.Field.{Field}
use Rattle.tables_closed.specs.type_layout.declared.definitions.Method.{Method}
use Rattle.tables_closed.specs.type_layout.declared.definitions.TypeDef.{TypeDef}
use Rattle.tables_closed.specs.type_layout.declared.definitions.TypeDef.TheVariants.{Ordinal, Str, SetOf, ArrayOf, RecordOf, PointerTo, ObjectOf, Procedural}
use Rattle.tables_closed.specs.unit_interface.Exports.{in_option, in_params, in_header, in_fields, in_methods, in_type}
use Rattle.tables_closed.specs.unit_interface.Merge.{new_id, renumbered_param, renumbered_header, renumbered_field, renumbered_method, renumbered}
use Rattle.tables_closed.proofs.unit_interface_proofs.OrderLaws.{IsIn, in_left, in_right, in_one}
use Rattle.tables_closed.specs.constants.Bounds.{AreBelow}
use Rattle.imported_types_agree.proofs.consistent_types.Twice.{AllOf, front, back}

all_both : (P : ℕ → Type 0) (xs ys : List ℕ) → AllOf P xs → AllOf P ys → AllOf P (xs ++ ys)
all_both P [] ys h k = k
all_both P (x ∷ xs) ys h k = (h.0, all_both P xs ys h.1 k)

pub all_below : (n : ℕ) (xs : List ℕ) → AreBelow n xs → AllOf (λ x. x < n) xs
all_below n [] h = tt
all_below n (x ∷ xs) h = (h.0, all_below n xs h.1)

-- three properties at once
pub all_three : (P Q R : ℕ → Type 0) (xs : List ℕ) → AllOf P xs → AllOf Q xs → AllOf R xs → AllOf (λ x. P x × Q x × R x) xs
all_three P Q R [] h k l = tt
all_three P Q R (x ∷ xs) h k l = ((h.0, k.0, l.0), all_three P Q R xs h.1 k.1 l.1)

-- what each number of a list keeps
pub all_in : (P : ℕ → Type 0) (xs : List ℕ) → ((x : ℕ) → IsIn x xs → P x) → AllOf P xs
all_in P [] h = tt
all_in P (x ∷ xs) h = (h x (in_left x (x ∷ []) xs (in_one x)), all_in P xs (λ y e. h y (in_right y (x ∷ []) xs e)))

-- what each number keeps
pub all_any : (P : ℕ → Type 0) → ((x : ℕ) → P x) → (xs : List ℕ) → AllOf P xs
all_any P h [] = tt
all_any P h (x ∷ xs) = (h x, all_any P h xs)

pub all_two : (P Q : ℕ → Type 0) (xs : List ℕ) → AllOf P xs → AllOf Q xs → AllOf (λ x. P x × Q x) xs
all_two P Q [] h k = tt
all_two P Q (x ∷ xs) h k = ((h.0, k.0), all_two P Q xs h.1 k.1)

module _ (Q : ℕ → Type 0) (ids : List TypeId) where
  -- the new id of a type keeps the rule
  abbrev pub Renamed : ℕ → Type 0
  Renamed x = Q (new_id ids (record { 0 = x })).0

  named_option : (ty : Option TypeId) → AllOf Q (in_option (option_map (new_id ids) ty)) → AllOf Renamed (in_option ty)
  named_option None h = tt
  named_option (Some ty) h = (h.0, tt)

  named_params : (params : List Param) → AllOf Q (in_params (map (renumbered_param ids) params)) → AllOf Renamed (in_params params)
  named_params [] h = tt
  named_params (param ∷ params) h = (h.0, named_params params h.1)

  named_header : (header : Header) → AllOf Q (in_header (renumbered_header ids header)) → AllOf Renamed (in_header header)
  named_header header h =
      let params : List ℕ = in_params (map (renumbered_param ids) header.params) in
      let result : List ℕ = in_option (option_map (new_id ids) header.result) in
      all_both Renamed (in_params header.params) (in_option header.result)
      (named_params header.params (front Q params result h)) (named_option header.result (back Q params result h))

  named_fields : (fields : List Field) → AllOf Q (in_fields (map (renumbered_field ids) fields)) → AllOf Renamed (in_fields fields)
  named_fields [] h = tt
  named_fields (field ∷ fields) h = (h.0, named_fields fields h.1)

  named_methods : (unit : ℕ) (methods : List Method) → AllOf Q (in_methods (map (renumbered_method ids unit) methods)) → AllOf Renamed (in_methods methods)
  named_methods unit [] h = tt
  named_methods unit (method ∷ methods) h =
      let header : List ℕ = in_header (renumbered_header ids method.header) in
      let rest : List ℕ = in_methods (map (renumbered_method ids unit) methods) in
      all_both Renamed (in_header method.header) (in_methods methods)
      (named_header method.header (front Q header rest h)) (named_methods unit methods (back Q header rest h))

  -- where all that it names under its new ids keeps the rule
  pub named_type : (unit : ℕ) (one : TypeDef) → AllOf Q (in_type (renumbered ids unit one)) → AllOf Renamed (in_type one)
  named_type unit (Ordinal host low high) h = tt
  named_type unit (Str max) h = tt
  named_type unit (SetOf base) h = (h.0, tt)
  named_type unit (ArrayOf index element) h = (h.0, (h.1.0, tt))
  named_type unit (RecordOf fields) h = named_fields fields h
  named_type unit (PointerTo target) h = (h.0, tt)
  named_type unit (ObjectOf parent dynamic fields methods) h =
      let up : List ℕ = in_option (option_map (new_id ids) parent) in
      let parts : List ℕ = in_fields (map (renumbered_field ids) fields) in
      let last : List ℕ = in_methods (map (renumbered_method ids unit) methods) in
      let first : AllOf Q (up ++ parts) = front Q (up ++ parts) last h in
      all_both Renamed (in_option parent ++ in_fields fields) (in_methods methods)
      (all_both Renamed (in_option parent) (in_fields fields) (named_option parent (front Q up parts first)) (named_fields fields (back Q up parts first)))
      (named_methods unit methods (back Q (up ++ parts) last h))
  named_type unit (Procedural header) h = named_header header h

-- the new id of a type is below the bound
abbrev pub Low : ℕ → List TypeId → ℕ → Type 0
Low n ids x = (new_id ids (record { 0 = x })).0 < n

pub low_type : (n : ℕ) (ids : List TypeId) (unit : ℕ) (one : TypeDef) → AreBelow n (in_type (renumbered ids unit one)) → AllOf (Low n ids) (in_type one)
low_type n ids unit one h = named_type (λ x. x < n) ids unit one (all_below n (in_type (renumbered ids unit one)) h)
