-- A unit's own interface brings back what stands in the scope behind its interface part.
use Rattle.std.proofs.Common.{◌≡◌, ◌∙◌, ℕ, ◌<◌, Bool, true, false, ◌||◌, All, List, [], ◌∷◌, ◌++◌, length, map, Option, Some, None, refl, sym, ap, arith, option_map, nat_eq}
use Rattle.std.specs.Prelude.{slice_get}
use Rattle.std.proofs.lemmas.Bool.{eq-eqb}
use Rattle.units_well_formed.specs.type_layout.declared.definitions.TypeId.{TypeId}
use Rattle.units_well_formed.specs.type_layout.declared.definitions.Param.{Param}
use Rattle.units_well_formed.specs.type_layout.declared.definitions.Header.{Header}
use Rattle.units_well_formed.specs.typed_tree.declared.units.Item.{Item}
use Rattle.units_well_formed.specs.typed_tree.declared.units.Item.TheVariants as item
use Rattle.units_well_formed.specs.typed_tree.declared.units.Unit as typed
use Rattle.units_well_formed.specs.scopes.Predeclared.{type_id}
use Rattle.units_well_formed.specs.unit_interface.declared.keys.Key.{Key}
use Rattle.units_well_formed.specs.unit_interface.declared.interfaces.Interface.{Interface}
use Rattle.units_well_formed.specs.unit_interface.Merge.{keys_of, ids_in, new_id, renumbered_param, renumbered_header}
use Rattle.units_well_formed.specs.unit_interface.Exports.{in_option, in_params, in_header, in_item, in_items, is_in, new_ids, renumbered_item, IsInterfaceOf}
use Rattle.units_well_formed.specs.unit_interface.Keyed.{IsKeyed}
use Rattle.units_well_formed.proofs.unit_interface_proofs.KeyLaws.{count_of}
use Rattle.units_well_formed.specs.tp_check_decl.routines.Drafts.{Drafted}
use Rattle.units_well_formed.specs.tables_closed.constants.Bounds.{AreBelow}
use Rattle.units_well_formed.specs.imported_types_agree.consistent_types.Consistency.{Stands, AreWellScopedHomes, IsConsistentInterface}
use Rattle.units_well_formed.proofs.imported_types_agree_proofs.consistent_types.Known.{key_there}
use Rattle.units_well_formed.proofs.imported_types_agree_proofs.consistent_types.Shown.{shown_key}
use Rattle.units_well_formed.specs.imported_types_agree.compatible_types.Fits.{IsConsistentScope}
use Rattle.programs_well_formed.specs.imported_interfaces.Below.{items_of, twice}
use Rattle.programs_well_formed.specs.imported_interfaces.Faithful.{IsOwn}
use Rattle.programs_well_formed.proofs.programs.Faithful.{Stay, kept_id, types_same}
use Rattle.programs_well_formed.proofs.programs.Far.{IsFar}

-- ---- items that are numbered anew twice

module _ (ids kids : List TypeId) where
  -- the types of these numbers have the ids that they had
  abbrev pub AreBack : List ℕ → Type 0
  AreBack [] = Unit {0}
  AreBack (number ∷ numbers) = (twice ids kids (type_id number) ≡ type_id number) × AreBack numbers

  back_first : (xs ys : List ℕ) → AreBack (xs ++ ys) → AreBack xs
  back_first [] ys h = tt
  back_first (x ∷ xs) ys h = (h.0, back_first xs ys h.1)

  back_last : (xs ys : List ℕ) → AreBack (xs ++ ys) → AreBack ys
  back_last [] ys h = h
  back_last (x ∷ xs) ys h = back_last xs ys h.1

  option_back : (ty : Option TypeId) → AreBack (in_option ty) → option_map (new_id ids) (option_map (new_id kids) ty) ≡ ty
  option_back None h = refl
  option_back (Some ty) h = ap (λ (t : TypeId). Some t) h.0

  params_back : (params : List Param) → AreBack (in_params params) → map (renumbered_param ids) (map (renumbered_param kids) params) ≡ params
  params_back [] h = refl
  params_back (param ∷ params) h =
      ap (λ (t : TypeId). (let p : Param = record { name = param.name; by_ref = param.by_ref; ty = t } in p) ∷ map (renumbered_param ids) (map (renumbered_param kids) params)) h.0
      ∙ ap (λ (l : List Param). param ∷ l) (params_back params h.1)

  header_back : (header : Header) → AreBack (in_header header) → renumbered_header ids (renumbered_header kids header) ≡ header
  header_back header h =
      ap (λ (l : List Param). (let x : Header = record { kind = header.kind; params = l; result = option_map (new_id ids) (option_map (new_id kids) header.result) } in x))
      (params_back header.params (back_first (in_params header.params) (in_option header.result) h))
      ∙ ap (λ (r : Option TypeId). (let x : Header = record { kind = header.kind; params = header.params; result = r } in x))
      (option_back header.result (back_last (in_params header.params) (in_option header.result) h))

  item_back : (one : Item) → AreBack (in_item one) → renumbered_item ids (renumbered_item kids one) ≡ one
  item_back (item.Const name ty v) h = ap (λ (t : TypeId). item.Const name t v) h.0
  item_back (item.Ty name ty) h = ap (λ (t : TypeId). item.Ty name t) h.0
  item_back (item.Var name ty number) h = ap (λ (t : TypeId). item.Var name t number) h.0
  item_back (item.Code name header number) h = ap (λ (x : Header). item.Code name x number) (header_back header h)

  items_back : (items : List Item) → AreBack (in_items items) → map (renumbered_item ids) (map (renumbered_item kids) items) ≡ items
  items_back [] h = refl
  items_back (one ∷ rest) h =
      ap (λ (x : Item). x ∷ map (renumbered_item ids) (map (renumbered_item kids) rest)) (item_back one (back_first (in_item one) (in_items rest) h))
      ∙ ap (λ (l : List Item). one ∷ l) (items_back rest (back_last (in_item one) (in_items rest) h))

  later : (b c : Bool) → c ≡ true → (b || c) ≡ true
  later true c e = refl
  later false c e = e

  each_back : (count : ℕ) (numbers : List ℕ) → AreBelow count numbers → ((number : ℕ) → is_in numbers number ≡ true → number < count → twice ids kids (type_id number) ≡ type_id number) → AreBack numbers
  each_back count [] low h = tt
  each_back count (x ∷ xs) low h = (
    h x (ap (λ (b : Bool). b || is_in xs x) (eq-eqb x x refl)) low.0,
    each_back count xs low.1 (λ y met. h y (later (nat_eq y x) (is_in xs y) met)),
  )

-- ---- the unit's own interface

-- behind an interface part, and some of the units that come in behind it: the types stand where they stood, the block is the same
pub record IsBehind (unit : typed.Unit) (d : Drafted) : Type 0 where
  pub types : Stay unit.types d.scope.types
  pub items : items_of d.scope ≡ unit.items
  pub far : All IsFar d.routines

module _ (have : List Interface) (homes : AreWellScopedHomes have) (unit : typed.Unit) (i : Interface) (shows : IsInterfaceOf unit i) (keyed : IsKeyed unit.types) (below : AreBelow (length unit.types.types) (in_items unit.items)) where
  -- a type that the interface tells stands there
  pub own_stands : (d : Drafted) → IsBehind unit d → (number : ℕ) (key : Key) → slice_get (keys_of i.types) number ≡ Some key → Stands (keys_of d.scope.types) key
  own_stands d b number key at =
      let there = shown_key unit i shows keyed number key at in
      record { place = there.place; at = b.types there.place key there.at }

  pub is_own : (name : List ℕ) (d : Drafted) → IsBehind unit d → IsConsistentScope have d.scope → IsConsistentInterface have i → i.name ≡ name → IsOwn name d i
  is_own name d b scope told own =
      let ids : List TypeId = ids_in d.scope.types i.types in
      let kids : List TypeId = new_ids shows.reached (length unit.types.types) in
      let fixed : AreBack ids kids (in_items unit.items) =
      each_back ids kids (length unit.types.types) (in_items unit.items) below (λ number met low.
      (let k = key_there unit.types number (omega (arith, low, count_of unit.types keyed)) in
      kept_id have homes d.scope scope i told unit shows keyed number k.0 k.1 (b.types number k.0 k.1) ((shows.exactly number low).1 (record { steps = 0; within = (met, low) })))) in
      let shown : i.items ≡ map (renumbered_item kids) unit.items = ap (λ (x : Interface). x.items) shows.is in
      record {
        own = own;
        types = types_same have homes d.scope scope i told (λ number key at. own_stands d b number key at);
        items = ap (λ (l : List Item). map (renumbered_item ids) l) shown ∙ items_back ids kids unit.items fixed ∙ sym b.items;
        far = b.far;
      }
