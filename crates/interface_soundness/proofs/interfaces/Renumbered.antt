-- What is declared with new ids, where two lists of ids agree on the first types.
use Rattle.std.proofs.Common.{◌≡◌, ◌∙◌, ℕ, ◌<◌, Bool, true, false, List, [], ◌∷◌, ◌++◌, map, Option, Some, None, refl, ap, option_map}
use Rattle.std.specs.Prelude.{◌||◌, nat_eq}
use Rattle.std.proofs.lemmas.Bool.{eq-eqb}
use Rattle.front_end.specs.type_layout.declared.definitions.TypeId.{TypeId}
use Rattle.front_end.specs.type_layout.declared.definitions.Param.{Param}
use Rattle.front_end.specs.type_layout.declared.definitions.Header.{Header}
use Rattle.front_end.specs.type_layout.declared.definitions.Field.{Field}
use Rattle.front_end.specs.type_layout.declared.definitions.Method.{Method}
use Rattle.front_end.specs.type_layout.declared.definitions.TypeDef.{TypeDef}
use Rattle.front_end.specs.type_layout.declared.definitions.TypeDef.TheVariants.{Ordinal, Str, SetOf, ArrayOf, RecordOf, PointerTo, ObjectOf, Procedural}
use Rattle.front_end.specs.typed_tree.declared.units.Item.{Item}
use Rattle.front_end.specs.typed_tree.declared.units.Item.TheVariants as item
use Rattle.front_end.specs.unit_interface.Merge.{new_id, renumbered_param, renumbered_header, renumbered_field, renumbered_method, renumbered}
use Rattle.front_end.specs.unit_interface.Exports.{in_option, in_params, in_header, in_fields, in_methods, in_type, in_item, in_items, is_in, renumbered_item}

-- ---- numbers below a count

or_true : (b : Bool) → (b || true) ≡ true
or_true true = refl
or_true false = refl

first_in : (x : ℕ) (xs : List ℕ) → is_in (x ∷ xs) x ≡ true
first_in x xs = rw (eq-eqb x x refl) refl

later_in : (x y : ℕ) (xs : List ℕ) → is_in xs y ≡ true → is_in (x ∷ xs) y ≡ true
later_in x y xs h = ap (λ (b : Bool). nat_eq y x || b) h ∙ or_true (nat_eq y x)

module _ (count : ℕ) where
  abbrev pub AreBelow : List ℕ → Type 0
  AreBelow [] = Unit {0}
  AreBelow (x ∷ xs) = (x < count) × AreBelow xs

  pub below_all : (xs : List ℕ) → ((x : ℕ) → is_in xs x ≡ true → x < count) → AreBelow xs
  below_all [] h = tt
  below_all (x ∷ xs) h = (h x (first_in x xs), below_all xs (λ y met. h y (later_in x y xs met)))

  pub below_first : (xs ys : List ℕ) → AreBelow (xs ++ ys) → AreBelow xs
  below_first [] ys h = tt
  below_first (x ∷ xs) ys h = (h.0, below_first xs ys h.1)

  below_last : (xs ys : List ℕ) → AreBelow (xs ++ ys) → AreBelow ys
  below_last [] ys h = h
  below_last (x ∷ xs) ys h = below_last xs ys h.1

-- ---- two lists of ids that agree on the first types

module _ (count : ℕ) (one other : List TypeId) (same : (ty : TypeId) → ty.0 < count → new_id one ty ≡ new_id other ty) where
  same_option : (ty : Option TypeId) → AreBelow count (in_option ty) → option_map (new_id one) ty ≡ option_map (new_id other) ty
  same_option None h = refl
  same_option (Some ty) h = ap (λ (t : TypeId). Some t) (same ty h.0)

  same_params : (params : List Param) → AreBelow count (in_params params) → map (renumbered_param one) params ≡ map (renumbered_param other) params
  same_params [] h = refl
  same_params (param ∷ params) h =
      ap (λ (t : TypeId). (let p : Param = record { name = param.name; by_ref = param.by_ref; ty = t } in p) ∷ map (renumbered_param one) params) (same param.ty h.0)
      ∙ ap (λ (l : List Param). renumbered_param other param ∷ l) (same_params params h.1)

  same_header : (header : Header) → AreBelow count (in_header header) → renumbered_header one header ≡ renumbered_header other header
  same_header header h =
      ap (λ (l : List Param). (let x : Header = record { kind = header.kind; params = l; result = option_map (new_id one) header.result } in x))
      (same_params header.params (below_first count (in_params header.params) (in_option header.result) h))
      ∙ ap (λ (r : Option TypeId). (let x : Header = record { kind = header.kind; params = map (renumbered_param other) header.params; result = r } in x))
      (same_option header.result (below_last count (in_params header.params) (in_option header.result) h))

  same_fields : (fields : List Field) → AreBelow count (in_fields fields) → map (renumbered_field one) fields ≡ map (renumbered_field other) fields
  same_fields [] h = refl
  same_fields (field ∷ fields) h =
      ap (λ (t : TypeId). (let f : Field = record { name = field.name; ty = t } in f) ∷ map (renumbered_field one) fields) (same field.ty h.0)
      ∙ ap (λ (l : List Field). renumbered_field other field ∷ l) (same_fields fields h.1)

  same_methods : (unit : ℕ) (methods : List Method) → AreBelow count (in_methods methods) → map (renumbered_method one unit) methods ≡ map (renumbered_method other unit) methods
  same_methods unit [] h = refl
  same_methods unit (method ∷ methods) h =
      let first = below_first count (in_header method.header) (in_methods methods) h in
      let rest = below_last count (in_header method.header) (in_methods methods) h in
      ap (λ (x : Header). (let m : Method = record { name = method.name; header = x; is_virtual = method.is_virtual; routine = record { unit = unit; number = method.routine.number } } in m) ∷ map (renumbered_method one unit) methods)
      (same_header method.header first)
      ∙ ap (λ (l : List Method). renumbered_method other unit method ∷ l) (same_methods unit methods rest)

  pub same_type : (unit : ℕ) (ty : TypeDef) → AreBelow count (in_type ty) → renumbered one unit ty ≡ renumbered other unit ty
  same_type unit (Ordinal host low high) h = refl
  same_type unit (Str max) h = refl
  same_type unit (SetOf base) h = ap (λ (t : TypeId). SetOf t) (same base h.0)
  same_type unit (ArrayOf index element) h =
      ap (λ (t : TypeId). ArrayOf t (new_id one element)) (same index h.0) ∙ ap (λ (t : TypeId). ArrayOf (new_id other index) t) (same element h.1.0)
  same_type unit (RecordOf fields) h = ap (λ (l : List Field). RecordOf l) (same_fields fields h)
  same_type unit (PointerTo target) h = ap (λ (t : TypeId). PointerTo t) (same target h.0)
  same_type unit (ObjectOf parent dynamic fields methods) h =
      let front = below_first count (in_option parent ++ in_fields fields) (in_methods methods) h in
      let last = below_last count (in_option parent ++ in_fields fields) (in_methods methods) h in
      ap (λ (p : Option TypeId). ObjectOf p dynamic (map (renumbered_field one) fields) (map (renumbered_method one unit) methods)) (same_option parent (below_first count (in_option parent) (in_fields fields) front))
      ∙ ap (λ (l : List Field). ObjectOf (option_map (new_id other) parent) dynamic l (map (renumbered_method one unit) methods)) (same_fields fields (below_last count (in_option parent) (in_fields fields) front))
      ∙ ap (λ (l : List Method). ObjectOf (option_map (new_id other) parent) dynamic (map (renumbered_field other) fields) l) (same_methods unit methods last)
  same_type unit (Procedural header) h = ap (λ (x : Header). Procedural x) (same_header header h)

  same_item : (one_item : Item) → AreBelow count (in_item one_item) → renumbered_item one one_item ≡ renumbered_item other one_item
  same_item (item.Const name ty value) h = ap (λ (t : TypeId). item.Const name t value) (same ty h.0)
  same_item (item.Ty name ty) h = ap (λ (t : TypeId). item.Ty name t) (same ty h.0)
  same_item (item.Var name ty number) h = ap (λ (t : TypeId). item.Var name t number) (same ty h.0)
  same_item (item.Code name header number) h = ap (λ (x : Header). item.Code name x number) (same_header header h)

  pub same_items : (items : List Item) → AreBelow count (in_items items) → map (renumbered_item one) items ≡ map (renumbered_item other) items
  same_items [] h = refl
  same_items (x ∷ xs) h =
      ap (λ (i : Item). i ∷ map (renumbered_item one) xs) (same_item x (below_first count (in_item x) (in_items xs) h))
      ∙ ap (λ (l : List Item). renumbered_item other x ∷ l) (same_items xs (below_last count (in_item x) (in_items xs) h))
