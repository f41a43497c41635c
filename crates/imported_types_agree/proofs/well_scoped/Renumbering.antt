-- What is declared with new ids, where each new id is below a bound.
use Rattle.std.proofs.Common.{ℕ, ◌<◌, Bool, true, false, cond, List, [], ◌∷◌, ◌++◌, map, Option, Some, None}
use Rattle.std.specs.Prelude.{option_map}
use Rattle.tables_closed.specs.type_layout.declared.definitions.TypeId.{TypeId}
use Rattle.tables_closed.specs.type_layout.declared.definitions.Param.{Param}
use Rattle.tables_closed.specs.type_layout.declared.definitions.Header.{Header}
use Rattle.tables_closed.specs.type_layout.declared.definitions.Field.{Field}
use Rattle.tables_closed.specs.type_layout.declared.definitions.Method.{Method}
use Rattle.tables_closed.specs.type_layout.declared.definitions.TypeDef.{TypeDef}
use Rattle.tables_closed.specs.type_layout.declared.definitions.TypeDef.TheVariants.{Ordinal, Str, SetOf, ArrayOf, RecordOf, PointerTo, ObjectOf, Procedural}
use Rattle.tables_closed.specs.typed_tree.declared.units.Item.{Item}
use Rattle.tables_closed.specs.typed_tree.declared.units.Item.TheVariants as item
use Rattle.tables_closed.specs.scopes.declared.entries.Entry.{Entry}
use Rattle.tables_closed.specs.scopes.Symbols.{SymbolList, has}
use Rattle.tables_closed.specs.unit_interface.Exports.{in_option, in_params, in_header, in_fields, in_methods, in_type, in_item, in_items, renumbered_item}
use Rattle.tables_closed.specs.unit_interface.Merge.{new_id, renumbered_param, renumbered_header, renumbered_field, renumbered_method, renumbered, name_of, entry_of, with_new, with_items}
use Rattle.tables_closed.specs.constants.Bounds.{AreBelow, in_entry, in_names}
use Rattle.tables_closed.proofs.constants.Below.{below_both, below_first, below_last}

-- numbers of which each has a property
abbrev pub AllOf : (ℕ → Type 0) → List ℕ → Type 0
AllOf P [] = Unit {0}
AllOf P (x ∷ xs) = P x × AllOf P xs

pub all_first : (P : ℕ → Type 0) (xs ys : List ℕ) → AllOf P (xs ++ ys) → AllOf P xs
all_first P [] ys h = tt
all_first P (x ∷ xs) ys h = (h.0, all_first P xs ys h.1)

all_last : (P : ℕ → Type 0) (xs ys : List ℕ) → AllOf P (xs ++ ys) → AllOf P ys
all_last P [] ys h = h
all_last P (x ∷ xs) ys h = all_last P xs ys h.1

module _ (P : ℕ → Type 0) (n : ℕ) (ids : List TypeId) (low : (ty : TypeId) → P ty.0 → (new_id ids ty).0 < n) where
  new_option : (ty : Option TypeId) → AllOf P (in_option ty) → AreBelow n (in_option (option_map (new_id ids) ty))
  new_option None h = tt
  new_option (Some ty) h = (low ty h.0, tt)

  new_params : (params : List Param) → AllOf P (in_params params) → AreBelow n (in_params (map (renumbered_param ids) params))
  new_params [] h = tt
  new_params (param ∷ params) h = (low param.ty h.0, new_params params h.1)

  new_header : (header : Header) → AllOf P (in_header header) → AreBelow n (in_header (renumbered_header ids header))
  new_header header h =
      below_both n (in_params (map (renumbered_param ids) header.params)) (in_option (option_map (new_id ids) header.result))
      (new_params header.params (all_first P (in_params header.params) (in_option header.result) h))
      (new_option header.result (all_last P (in_params header.params) (in_option header.result) h))

  new_fields : (fields : List Field) → AllOf P (in_fields fields) → AreBelow n (in_fields (map (renumbered_field ids) fields))
  new_fields [] h = tt
  new_fields (field ∷ fields) h = (low field.ty h.0, new_fields fields h.1)

  new_methods : (unit : ℕ) (methods : List Method) → AllOf P (in_methods methods) → AreBelow n (in_methods (map (renumbered_method ids unit) methods))
  new_methods unit [] h = tt
  new_methods unit (method ∷ methods) h =
      below_both n (in_header (renumbered_header ids method.header)) (in_methods (map (renumbered_method ids unit) methods))
      (new_header method.header (all_first P (in_header method.header) (in_methods methods) h))
      (new_methods unit methods (all_last P (in_header method.header) (in_methods methods) h))

  pub new_type : (unit : ℕ) (one : TypeDef) → AllOf P (in_type one) → AreBelow n (in_type (renumbered ids unit one))
  new_type unit (Ordinal host least greatest) h = tt
  new_type unit (Str max) h = tt
  new_type unit (SetOf base) h = (low base h.0, tt)
  new_type unit (ArrayOf index element) h = (low index h.0, (low element h.1.0, tt))
  new_type unit (RecordOf fields) h = new_fields fields h
  new_type unit (PointerTo target) h = (low target h.0, tt)
  new_type unit (ObjectOf parent dynamic fields methods) h =
      let front = all_first P (in_option parent ++ in_fields fields) (in_methods methods) h in
      let last = all_last P (in_option parent ++ in_fields fields) (in_methods methods) h in
      below_both n (in_option (option_map (new_id ids) parent) ++ in_fields (map (renumbered_field ids) fields)) (in_methods (map (renumbered_method ids unit) methods))
      (below_both n (in_option (option_map (new_id ids) parent)) (in_fields (map (renumbered_field ids) fields))
      (new_option parent (all_first P (in_option parent) (in_fields fields) front)) (new_fields fields (all_last P (in_option parent) (in_fields fields) front)))
      (new_methods unit methods last)
  new_type unit (Procedural header) h = new_header header h

  new_entry : (unit : ℕ) (one : Item) → AllOf P (in_item one) → AreBelow n (in_entry (entry_of ids unit one))
  new_entry unit (item.Const name ty value) h = (low ty h.0, tt)
  new_entry unit (item.Ty name ty) h = (low ty h.0, tt)
  new_entry unit (item.Var name ty number) h = (low ty h.0, tt)
  new_entry unit (item.Code name header number) h = new_header header h

  pushed : (symbols : SymbolList) (name : List ℕ) (one : Entry) → AreBelow n (in_names symbols) → AreBelow n (in_entry one) → AreBelow n (in_names (symbols ++ (name, one) ∷ []))
  pushed [] name one h k = below_both n (in_entry one) [] k tt
  pushed (first ∷ symbols) name one h k =
      below_both n (in_entry first.1) (in_names (symbols ++ (name, one) ∷ [])) (below_first n (in_entry first.1) (in_names symbols) h)
      (pushed symbols name one (below_last n (in_entry first.1) (in_names symbols) h) k)

  new_by : (b : Bool) (symbols : SymbolList) (name : List ℕ) (one : Entry) → AreBelow n (in_names symbols) → AreBelow n (in_entry one)
      → AreBelow n (in_names (cond b symbols (symbols ++ (name, one) ∷ [])))
  new_by true symbols name one h k = h
  new_by false symbols name one h k = pushed symbols name one h k

  pub new_items : (unit : ℕ) (symbols : SymbolList) (items : List Item) → AreBelow n (in_names symbols) → AllOf P (in_items items) → AreBelow n (in_names (with_items ids unit symbols items))
  new_items unit symbols [] h k = h
  new_items unit symbols (one ∷ items) h k =
      new_items unit (with_new symbols (name_of one) (entry_of ids unit one)) items
      (new_by (has symbols (name_of one)) symbols (name_of one) (entry_of ids unit one) h (new_entry unit one (all_first P (in_item one) (in_items items) k)))
      (all_last P (in_item one) (in_items items) k)

  new_item : (one : Item) → AllOf P (in_item one) → AreBelow n (in_item (renumbered_item ids one))
  new_item (item.Const name ty value) h = (low ty h.0, tt)
  new_item (item.Ty name ty) h = (low ty h.0, tt)
  new_item (item.Var name ty number) h = (low ty h.0, tt)
  new_item (item.Code name header number) h = new_header header h

  pub shown_items : (items : List Item) → AllOf P (in_items items) → AreBelow n (in_items (map (renumbered_item ids) items))
  shown_items [] h = tt
  shown_items (one ∷ items) h =
      below_both n (in_item (renumbered_item ids one)) (in_items (map (renumbered_item ids) items)) (new_item one (all_first P (in_item one) (in_items items) h))
      (shown_items items (all_last P (in_item one) (in_items items) h))
