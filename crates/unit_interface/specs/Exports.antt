-- What a unit shows to those that use it: its items, and the types that they reach.
use Rattle.std.specs.Prelude.{◌≡◌, ◌↔◌, ℕ, zero, suc, ◌+◌, ◌<◌, ◌≤◌, Bool, true, cond, nat_eq, nat_lt, List, [], ◌∷◌, ◌++◌, map, filter, Option, Some, None, length, slice_get}
use Rattle.std.specs.List.{list_any}
use Rattle.type_layout.specs.declared.definitions.TypeId.{TypeId}
use Rattle.type_layout.specs.declared.definitions.Origin.{Origin}
use Rattle.type_layout.specs.declared.definitions.Param.{Param}
use Rattle.type_layout.specs.declared.definitions.Header.{Header}
use Rattle.type_layout.specs.declared.definitions.Field.{Field}
use Rattle.type_layout.specs.declared.definitions.Method.{Method}
use Rattle.type_layout.specs.declared.definitions.Host.TheVariants as host
use Rattle.type_layout.specs.declared.definitions.TypeDef.{TypeDef}
use Rattle.type_layout.specs.declared.definitions.TypeDef.TheVariants.{Ordinal, Str, SetOf, ArrayOf, RecordOf, PointerTo, ObjectOf, Procedural}
use Rattle.type_layout.specs.Layouts.{size_over}
use Rattle.type_layout.specs.Table.{Table, IsAddable}
use Rattle.typed_tree.specs.declared.units.Item.{Item}
use Rattle.typed_tree.specs.declared.units.Item.TheVariants as item
use Rattle.typed_tree.specs.declared.units.Unit.{Unit}
use Rattle.unit_interface.specs.declared.interfaces.Interface.{Interface}
use Rattle.unit_interface.specs.Order.{no_progress, visit}
use Rattle.unit_interface.specs.Merge.{key_of, new_id, renumbered_header, added_type, with_listed}
use Rattle.unit_interface.specs.Misfits.{is_enumeration}

-- ---- the types that a declaration names, by their numbers

abbrev pub in_option : Option TypeId → List ℕ
in_option None = []
in_option (Some ty) = ty.0 ∷ []

abbrev pub in_params : List Param → List ℕ
in_params [] = []
in_params (param ∷ params) = param.ty.0 ∷ in_params params

abbrev pub in_header : Header → List ℕ
in_header header = in_params header.params ++ in_option header.result

abbrev pub in_fields : List Field → List ℕ
in_fields [] = []
in_fields (field ∷ fields) = field.ty.0 ∷ in_fields fields

abbrev pub in_methods : List Method → List ℕ
in_methods [] = []
in_methods (method ∷ methods) = in_header method.header ++ in_methods methods

abbrev pub in_type : TypeDef → List ℕ
in_type (Ordinal host low high) = []
in_type (Str max) = []
in_type (SetOf base) = base.0 ∷ []
in_type (ArrayOf index element) = index.0 ∷ element.0 ∷ []
in_type (RecordOf fields) = in_fields fields
in_type (PointerTo target) = target.0 ∷ []
in_type (ObjectOf parent dynamic fields methods) = in_option parent ++ in_fields fields ++ in_methods methods
in_type (Procedural header) = in_header header

abbrev pub in_item : Item → List ℕ
in_item (item.Const name ty value) = ty.0 ∷ []
in_item (item.Ty name ty) = ty.0 ∷ []
in_item (item.Var name ty number) = ty.0 ∷ []
in_item (item.Code name header number) = in_header header

abbrev pub in_items : List Item → List ℕ
in_items [] = []
in_items (item ∷ items) = in_item item ++ in_items items

abbrev pub in_found : Option TypeDef → List ℕ
in_found None = []
in_found (Some one) = in_type one

-- The type behind an ordinal type of an enumeration is the set over the enumeration. It goes with the ordinal type, by which it is
-- known what that is a part of,
abbrev pub behind : ℕ → TypeDef → List ℕ
behind number (Ordinal host.Enumeration low high) = (number + 1) ∷ []
behind number _ = []

-- and the ordinal type goes with the set: neither is shown without the other
abbrev pub in_front : List TypeDef → ℕ → List ℕ
in_front types zero = []
in_front types (suc number) = cond (is_enumeration (slice_get types number)) (number ∷ []) []

-- the types that a type of a number names, and what is behind it
abbrev pub with_type : ℕ → Option TypeDef → List ℕ
with_type number None = []
with_type number (Some one) = in_type one ++ behind number one

-- the types that go with a type of a number of a table: these, and what is in front of it
abbrev pub goes_with : List TypeDef → ℕ → Option TypeDef → List ℕ
goes_with types number None = []
goes_with types number (Some one) = with_type number (Some one) ++ in_front types number

abbrev pub is_in : List ℕ → ℕ → Bool
is_in numbers number = list_any (nat_eq number) numbers

-- ---- reached

-- a type of the table that the items reach in at most so many steps: an item names it, or it goes with a type that is reached
abbrev pub ReachedWithin : ℕ → List TypeDef → List Item → ℕ → Type 0
ReachedWithin zero types items number = (is_in (in_items items) number ≡ true) × (number < length types)
ReachedWithin (suc steps) types items number =
    (by : ℕ) × ReachedWithin steps types items by × (is_in (goes_with types by (slice_get types by)) number ≡ true) × (number < length types)

-- the items reach a type of the table
pub record IsReached (types : List TypeDef) (items : List Item) (number : ℕ) : Type 0 where
  pub steps : ℕ
  pub within : ReachedWithin steps types items number

-- those numbers that are of types of the table
abbrev pub known : ℕ → List ℕ → List ℕ
known count numbers = filter (λ number. nat_lt number count) numbers

-- the types of a table that go with each type, of those from a number on
abbrev pub edges_from : List TypeDef → ℕ → List TypeDef → List (List ℕ)
edges_from table number [] = []
edges_from table number (one ∷ types) = known (length table) (goes_with table number (Some one)) ∷ edges_from table (number + 1) types

-- the types that go with each type, and behind them those that the items name
abbrev pub type_edges : List TypeDef → List Item → List (List ℕ)
type_edges types items = edges_from types 0 types ++ known (length types) (in_items items) ∷ []

-- the types that a walk from the items meets, and behind them the number that stands for the items
unfoldable pub reached : List TypeDef → List Item → List ℕ
reached types items = (visit (length (type_edges types items)) (type_edges types items) no_progress (length types)).order

-- ---- kept, and numbered anew

-- how many types before this number are reached
abbrev pub kept_before : List ℕ → ℕ → ℕ
kept_before reached zero = 0
kept_before reached (suc number) = kept_before reached number + cond (is_in reached number) 1 0

-- the new ids of the first types: a type that is reached stands behind those before it that are
abbrev pub new_ids : List ℕ → ℕ → List TypeId
new_ids reached zero = []
new_ids reached (suc number) = new_ids reached number ++ (record { 0 = kept_before reached number }) ∷ []

-- a table with the type of this number of a unit's table
abbrev pub with_kept : Table → List TypeId → Table → ℕ → Table
with_kept own ids table number = with_listed ids table own.units (slice_get own.types number) (slice_get own.origins number)

-- those of the first types that are reached, in their order
abbrev pub kept : Table → List ℕ → List TypeId → ℕ → Table
kept own reached ids zero = record { types = []; origins = []; units = [] }
kept own reached ids (suc number) =
    cond (is_in reached number) (with_kept own ids (kept own reached ids number) number) (kept own reached ids number)

abbrev pub renumbered_item : List TypeId → Item → Item
renumbered_item ids (item.Const name ty value) = item.Const name (new_id ids ty) value
renumbered_item ids (item.Ty name ty) = item.Ty name (new_id ids ty)
renumbered_item ids (item.Var name ty number) = item.Var name (new_id ids ty) number
renumbered_item ids (item.Code name header number) = item.Code name (renumbered_header ids header) number

-- ---- the interface

-- a unit's items with the types of these numbers
abbrev pub shown : Unit → List ℕ → Interface
shown unit reached = record {
  name = unit.name;
  types = kept unit.types reached (new_ids reached (length unit.types.types)) (length unit.types.types);
  items = map (renumbered_item (new_ids reached (length unit.types.types))) unit.items;
}

-- The interface of a unit: its items, with just those types behind them to which they lead; these keep their order, and
-- their ids close up.
pub record IsInterfaceOf (unit : Unit) (interface : Interface) : Type 0 where
  pub reached : List ℕ
  pub exactly : (number : ℕ) → number < length unit.types.types
      → (is_in reached number ≡ true) ↔ IsReached unit.types.types unit.items number
  pub is : interface ≡ shown unit reached

-- ---- why the types that are kept can stand without the others

-- with each type those of the table that it names
abbrev pub IsClosed : List TypeDef → List ℕ → Type 0
IsClosed types reached =
    (from to : ℕ) → is_in reached from ≡ true → is_in (in_found (slice_get types from)) to ≡ true → to < length types
    → is_in reached to ≡ true

-- The type of this number of a unit's table can stand in a table, and isn't too large.
pub record IsFit (ids : List TypeId) (table own : Table) (number : ℕ) (one : TypeDef) (origin : Origin) : Type 0 where
  pub addable : IsAddable table (key_of own.units origin).unit (added_type ids table (key_of own.units origin) one)
  pub small : size_over table.types (added_type ids table (key_of own.units origin) one) ≤ 65520

abbrev pub IsFitAt : List TypeId → Table → Table → ℕ → Type 0
IsFitAt ids table own number = (one : TypeDef) (origin : Origin) → slice_get own.types number ≡ Some one → slice_get own.origins number ≡ Some origin
    → IsFit ids table own number one origin
