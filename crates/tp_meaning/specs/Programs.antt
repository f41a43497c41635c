-- What the names and numbers in the units of a program lead to.
use Rattle.std.specs.Prelude.{ℕ, ◌+◌, ◌%◌, ◌==◌, ◌&&◌, min, Bool, false, if◌then◌else◌, pos, negsuc, List, [], ◌∷◌, ◌++◌, length, slice_get, position, Option, Some, None, option_and_then, codes}
use Rattle.std.specs.List.{list_any}
use Rattle.std.specs.Option.{option_map}
use Rattle.type_layout.specs.declared.definitions.TypeId.{TypeId}
use Rattle.type_layout.specs.declared.definitions.RoutineId.{RoutineId}
use Rattle.type_layout.specs.declared.definitions.Origin.{Origin}
use Rattle.type_layout.specs.declared.definitions.Method.{Method}
use Rattle.type_layout.specs.declared.definitions.Host.TheVariants as host
use Rattle.type_layout.specs.declared.definitions.TypeDef.{TypeDef}
use Rattle.type_layout.specs.declared.definitions.TypeDef.TheVariants as type
use Rattle.type_layout.specs.Words.{same_bytes}
use Rattle.type_layout.specs.Table.{Table}
use Rattle.type_layout.specs.Layouts.{size_of}
use Rattle.typed_tree.specs.declared.units.Global.{Global}
use Rattle.typed_tree.specs.declared.units.Unit.{Unit as TypedUnit}
use Rattle.typed_tree.specs.declared.units.Program.{Program}
use Rattle.object_vmt.specs.Members.{members_of, members_in}
use Rattle.object_vmt.specs.Slots.{method_at}
use Rattle.tp_meaning.specs.Trees.{Key}

-- ---- units

abbrev pub unit_in : List TypedUnit → List ℕ → Option TypedUnit
unit_in [] name = None
unit_in (unit ∷ units) name = if same_bytes name unit.name then Some unit else unit_in units name

abbrev pub unit_named : Program → List ℕ → Option TypedUnit
unit_named program name = unit_in program.units name

-- the program among its units
abbrev pub main_unit : Program → Option TypedUnit
main_unit program = slice_get program.units program.start

abbrev pub overlaid_by : Option TypedUnit → List (List ℕ)
overlaid_by None = []
overlaid_by (Some unit) = unit.overlaid

-- the names of the overlaid units
abbrev pub overlaid : Program → List (List ℕ)
overlaid program = overlaid_by (main_unit program)

abbrev pub is_overlaid : Program → List ℕ → Bool
is_overlaid program name = list_any (same_bytes name) (overlaid program)

-- the stack's bytes, an odd number of them counted one up
abbrev pub stack_by : Option TypedUnit → ℕ
stack_by None = 0
stack_by (Some unit) = unit.stack + unit.stack % 2

abbrev pub stack_of : Program → ℕ
stack_of program = stack_by (main_unit program)

-- the heap has at most 196,608 bytes
abbrev pub heap_by : Option TypedUnit → ℕ
heap_by None = 0
heap_by (Some unit) = min unit.heap 196608

abbrev pub heap_of : Program → ℕ
heap_of program = heap_by (main_unit program)

-- what a place among the names of a unit names
abbrev pub key_of : TypedUnit → ℕ → ℕ → Option Key
key_of unit place number = option_map (λ name. record { unit = name; number = number }) (slice_get unit.names place)

abbrev pub routine_key : TypedUnit → RoutineId → Option Key
routine_key unit routine = key_of unit routine.unit routine.number

-- ---- the unit Overlay, which no source has

abbrev pub overlay_name : List ℕ
overlay_name = codes "OVERLAY"

abbrev pub is_overlay : List ℕ → Bool
is_overlay name = same_bytes name overlay_name

abbrev pub file_name_by : List (List ℕ) → Option TypedUnit → Option (List ℕ)
file_name_by [] unit = None
file_name_by (name ∷ names) unit = option_map (λ (unit : TypedUnit). unit.name ++ codes ".OVR") unit

-- the name of the overlay file, which a program with overlaid units has
abbrev pub overlay_file : Program → Option (List ℕ)
overlay_file program = file_name_by (overlaid program) (main_unit program)

-- ---- types

-- a type and the table that it stands in
pub record Sort : Type 0 where
  pub table : Table
  pub ty : TypeId

abbrev pub definition : Sort → Option TypeDef
definition sort = slice_get sort.table.types sort.ty.0

-- another type of the same table
abbrev pub beside : Sort → TypeId → Sort
beside sort ty = record { table = sort.table; ty = ty }

abbrev pub sort_in : TypedUnit → TypeId → Sort
sort_in unit ty = record { table = unit.types; ty = ty }

abbrev pub size_in : Sort → ℕ
size_in sort = size_of sort.table.types sort.ty

-- Integer, in a table of its own
abbrev pub integer_sort : Sort
integer_sort = record {
  table = record { types = type.Ordinal host.Integer (negsuc 32767) (pos 32767) ∷ []; origins = []; units = [] };
  ty = record { 0 = 0 };
}

-- Char, in a table of its own
abbrev pub char_sort : Sort
char_sort = record {
  table = record { types = type.Ordinal host.Char (pos 0) (pos 255) ∷ []; origins = []; units = [] };
  ty = record { 0 = 0 };
}

-- ---- classes: an object type by the unit that declares it and its number there

abbrev pub class_by : Table → Origin → Option Key
class_by table origin = option_map (λ name. record { unit = name; number = origin.number }) (slice_get table.units origin.unit)

abbrev pub class_key : Sort → Option Key
class_key sort = option_and_then (class_by sort.table) (slice_get sort.table.origins sort.ty.0)

abbrev pub is_name : List ℕ → Option (List ℕ) → Bool
is_name name None = false
is_name name (Some other) = same_bytes name other

abbrev pub is_origin : Table → Key → Origin → Bool
is_origin table class origin = origin.number == class.number && is_name class.unit (slice_get table.units origin.unit)

-- the class in the table of the unit that declares it
abbrev pub sort_by : Key → TypedUnit → Option Sort
sort_by class unit = option_map (λ place. record { table = unit.types; ty = record { 0 = place } }) (position (is_origin unit.types class) unit.types.origins)

abbrev pub class_sort : Program → Key → Option Sort
class_sort program class = option_and_then (sort_by class) (unit_named program class.unit)

abbrev pub class_size : Program → Key → Option ℕ
class_size program class = option_map size_in (class_sort program class)

abbrev pub method_key : Table → Method → Option Key
method_key table method = option_map (λ name. record { unit = name; number = method.routine.number }) (slice_get table.units method.routine.unit)

-- the routine that answers a slot of a class
abbrev pub method_in : ℕ → Sort → Option Key
method_in slot sort = option_and_then (method_key sort.table) (method_at (members_in (members_of sort.table.types) sort.ty) slot)

-- ---- globals: the variable of the unit Overlay is the first object, and then come those of the units in order

abbrev pub globals_before : List TypedUnit → List ℕ → ℕ
globals_before [] name = 0
globals_before (unit ∷ units) name = if same_bytes name unit.name then 0 else length unit.globals + globals_before units name

abbrev pub overlay_result : ℕ
overlay_result = 0

abbrev pub global_serial : Program → Key → ℕ
global_serial program key = if is_overlay key.unit then overlay_result else 1 + globals_before program.units key.unit + key.number

abbrev pub global_in : ℕ → TypedUnit → Option Sort
global_in number unit = option_map (λ (global : Global). sort_in unit global.ty) (slice_get unit.globals number)

-- the type of a global
abbrev pub global_sort : Program → Key → Option Sort
global_sort program key = if is_overlay key.unit then Some integer_sort else option_and_then (global_in key.number) (unit_named program key.unit)
