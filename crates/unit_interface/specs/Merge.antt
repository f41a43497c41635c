-- How the types and items of an interface come into a scope.
use Rattle.std.specs.Prelude.{ℕ, zero, suc, ◌&&◌, not, Bool, true, nat_eq, nat_lt, slice_get, cond, is_some, List, [], ◌∷◌, ◌++◌, Option, Some, map, length, get_or, position, unwrap_or, option_map}
use Rattle.type_layout.specs.declared.definitions.TypeId.{TypeId}
use Rattle.type_layout.specs.declared.definitions.Origin.{Origin}
use Rattle.type_layout.specs.declared.definitions.Param.{Param}
use Rattle.type_layout.specs.declared.definitions.Header.{Header}
use Rattle.type_layout.specs.declared.definitions.Field.{Field}
use Rattle.type_layout.specs.declared.definitions.Method.{Method}
use Rattle.type_layout.specs.declared.definitions.TypeDef.{TypeDef}
use Rattle.type_layout.specs.declared.definitions.TypeDef.TheVariants.{Ordinal, Str, SetOf, ArrayOf, RecordOf, PointerTo, ObjectOf, Procedural}
use Rattle.type_layout.specs.Words.{same_bytes}
use Rattle.type_layout.specs.Table.{Table, place_of, with_type, with_unit}
use Rattle.typed_tree.specs.declared.units.Item.{Item}
use Rattle.typed_tree.specs.declared.units.Item.TheVariants as item
use Rattle.scopes.specs.declared.entries.Entry.{Entry}
use Rattle.scopes.specs.declared.entries.Entry.TheVariants as entry
use Rattle.scopes.specs.Predeclared.{system}
use Rattle.scopes.specs.Symbols.{SymbolList, has}
use Rattle.scopes.specs.Environment.{Environment, with_used}
use Rattle.unit_interface.specs.declared.keys.Key.{Key}
use Rattle.unit_interface.specs.declared.interfaces.Interface.{Interface}

-- ---- types by the unit that declares them and their number there

abbrev pub same_key : Key → Key → Bool
same_key one other = same_bytes one.unit other.unit && nat_eq one.number other.number

abbrev pub key_of : List (List ℕ) → Origin → Key
key_of units origin = record { unit = get_or units origin.unit []; number = origin.number }

-- the keys of the types of a table
abbrev pub keys_of : Table → List Key
keys_of table = map (key_of table.units) table.origins

-- the place of a key, the next one where it is new
abbrev pub place_of_key : List Key → Key → ℕ
place_of_key keys key = unwrap_or (position (same_key key) keys) (length keys)

abbrev pub with_key : List Key → Key → List Key
with_key keys key = cond (is_some (position (same_key key) keys)) keys (keys ++ key ∷ [])

-- the ids that types with these keys get where those of the first keys are known: the same id for the same key
abbrev pub ids_of : List Key → List Key → List TypeId
ids_of known [] = []
ids_of known (key ∷ keys) = (record { 0 = place_of_key known key }) ∷ ids_of (with_key known key) keys

-- ---- what is declared, with the types' new ids

abbrev pub new_id : List TypeId → TypeId → TypeId
new_id ids ty = get_or ids ty.0 ty

abbrev pub renumbered_param : List TypeId → Param → Param
renumbered_param ids param = record { name = param.name; by_ref = param.by_ref; ty = new_id ids param.ty }

abbrev pub renumbered_header : List TypeId → Header → Header
renumbered_header ids header = record {
  kind = header.kind;
  params = map (renumbered_param ids) header.params;
  result = option_map (new_id ids) header.result;
}

abbrev pub renumbered_field : List TypeId → Field → Field
renumbered_field ids field = record { name = field.name; ty = new_id ids field.ty }

-- a method whose routine is of the unit at this place
abbrev pub renumbered_method : List TypeId → ℕ → Method → Method
renumbered_method ids unit method = record {
  name = method.name;
  header = renumbered_header ids method.header;
  is_virtual = method.is_virtual;
  routine = record { unit = unit; number = method.routine.number };
}

abbrev pub renumbered : List TypeId → ℕ → TypeDef → TypeDef
renumbered ids unit (Ordinal host low high) = Ordinal host low high
renumbered ids unit (Str max) = Str max
renumbered ids unit (SetOf base) = SetOf (new_id ids base)
renumbered ids unit (ArrayOf index element) = ArrayOf (new_id ids index) (new_id ids element)
renumbered ids unit (RecordOf fields) = RecordOf (map (renumbered_field ids) fields)
renumbered ids unit (PointerTo target) = PointerTo (new_id ids target)
renumbered ids unit (ObjectOf parent dynamic fields methods) =
    ObjectOf (option_map (new_id ids) parent) dynamic (map (renumbered_field ids) fields) (map (renumbered_method ids unit) methods)
renumbered ids unit (Procedural header) = Procedural (renumbered_header ids header)

-- ---- types into a table

-- the type that a table gets for one of another table
abbrev pub added_type : List TypeId → Table → Key → TypeDef → TypeDef
added_type ids table key one = renumbered ids (place_of table.units key.unit) one

abbrev pub with_added : List TypeId → Table → Key → TypeDef → Table
with_added ids table key one = with_type table key.unit key.number (added_type ids table key one)

abbrev pub with_listed : List TypeId → Table → List (List ℕ) → Option TypeDef → Option Origin → Table
with_listed ids table units (Some one) (Some origin) = with_added ids table (key_of units origin) one
with_listed ids table units _ _ = table

-- whether the type with this number has a new id in a table, that of the type that is added next
abbrev pub is_new : List TypeId → Table → ℕ → Bool
is_new ids table number = not (nat_lt (get_or ids number (record { 0 = number })).0 (length table.types))

-- a table with the type of this number of another table, where its id is new
abbrev pub with_merged : Table → List TypeId → Table → ℕ → Table
with_merged other ids table number =
    cond (is_new ids table number)
    (with_listed ids table other.units (slice_get other.types number) (slice_get other.origins number)) table

-- a table with the first types of another table
abbrev pub merged : Table → List TypeId → Table → ℕ → Table
merged other ids table zero = table
merged other ids table (suc number) = with_merged other ids (merged other ids table number) number

-- the ids of another table's types in this one
abbrev pub ids_in : Table → Table → List TypeId
ids_in table other = ids_of (keys_of table) (keys_of other)

-- a table with the types of another one that are new in it
abbrev pub with_types : Table → Table → Table
with_types table other = merged other (ids_in table other) table (length other.types)

-- ---- items into a symbol table

abbrev pub name_of : Item → List ℕ
name_of (item.Const name ty value) = name
name_of (item.Ty name ty) = name
name_of (item.Var name ty number) = name
name_of (item.Code name header number) = name

-- what an item of the unit at this place means; the routines of an interface are far
abbrev pub entry_of : List TypeId → ℕ → Item → Entry
entry_of ids unit (item.Const name ty value) = entry.Const (new_id ids ty) value
entry_of ids unit (item.Ty name ty) = entry.Ty (new_id ids ty)
entry_of ids unit (item.Var name ty number) = entry.Var unit 0 number (new_id ids ty)
entry_of ids unit (item.Code name header number) = entry.Code (record { unit = unit; number = number }) 0 (renumbered_header ids header) true

-- a name at the end, where it is new
abbrev pub with_new : SymbolList → List ℕ → Entry → SymbolList
with_new symbols name entry = cond (has symbols name) symbols (symbols ++ (name, entry) ∷ [])

abbrev pub with_items : List TypeId → ℕ → SymbolList → List Item → SymbolList
with_items ids unit symbols [] = symbols
with_items ids unit symbols (item ∷ items) = with_items ids unit (with_new symbols (name_of item) (entry_of ids unit item)) items

-- ---- interfaces into a scope

-- the names of units with that of one that declares a type, if it is new; SYSTEM, whose types are predeclared, is no unit of its own
abbrev pub with_declaring : List (List ℕ) → List ℕ → List (List ℕ)
with_declaring units unit = cond (same_bytes unit system) units (with_unit units unit)

abbrev pub with_all_declaring : List (List ℕ) → List (List ℕ) → List (List ℕ)
with_all_declaring units [] = units
with_all_declaring units (unit ∷ more) = with_all_declaring (with_declaring units unit) more

-- A scope that uses a further unit, with the unit's types and names. It names the unit, and those that declare its types: their
-- methods can be called.
abbrev pub with_interface : Environment → Interface → Environment
with_interface environment interface =
    with_used (record environment {
      types = with_types environment.types interface.types;
      units = with_all_declaring (with_unit environment.units interface.name) interface.types.units;
    })
    (with_items (ids_in environment.types interface.types) (place_of environment.units interface.name) [] interface.items)
