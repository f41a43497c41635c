-- How the bytes of variables are reached, and what the numbers of a unit lead to.
use Rattle.std.specs.Prelude.{ℕ, zero, suc, ◌+◌, ◌-◌, ◌==◌, nat_lt, Bool, false, if◌then◌else◌, ℤ, pos, ◌+ℤ◌, ◌-ℤ◌, List, Option, Some, None, option_and_then, slice_get, position}
use Rattle.std.specs.Option.{option_map, option_map_or}
use Rattle.type_layout.specs.declared.definitions.RoutineId.{RoutineId}
use Rattle.type_layout.specs.declared.definitions.TypeDef.{TypeDef}
use Rattle.type_layout.specs.Words.{same_bytes}
use Rattle.typed_tree.specs.declared.expressions.Variable.{Variable}
use Rattle.typed_tree.specs.declared.units.Routine.{Routine}
use Rattle.typed_tree.specs.declared.units.Unit.{Unit as TypedUnit}
use Rattle.typed_tree.specs.Expressions.{Place, Var, Deref, Index, FieldOf}
use Rattle.flat_code.specs.declared.tree.Address.{Address}
use Rattle.flat_code.specs.declared.tree.Address.TheVariants.{Global, Local, Outer, Through}
use Rattle.tp_meaning.specs.Trees.{Key}
use Rattle.tp_meaning.specs.Programs.{Sort, class_key, is_overlay}
use Rattle.tp_meaning.specs.Activations.{first_held, is_self_of}
use Rattle.lower_places.specs.declared.reach.Reach.{Reach}
use Rattle.lower_places.specs.declared.reach.Reach.TheVariants.{At, Beyond}
use Rattle.lower_places.specs.Frames.{FramePart, Home, In, Behind, return_bytes, from_bp, part_at, home_of}
use Rattle.lower_places.specs.Data.{flat_names, overlay_place, literal_number}
use Rattle.lower_places.specs.Scenes.{HeldPlace, Setting, routine_in, routine_around}

-- ---- addresses

-- so many bytes further on
abbrev pub further : Address → ℕ → Address
further (Global unit number plus) bytes = Global unit number (plus + bytes)
further (Local at) bytes = Local (at +ℤ pos bytes)
further (Outer levels at) bytes = Outer levels (at +ℤ pos bytes)
further (Through slot plus) bytes = Through slot (plus + bytes)

-- a slot of so many bytes behind others, below so many bytes of locals
abbrev pub slot_below : ℕ → ℕ → ℕ → ℤ
slot_below locals slot bytes = from_bp 0 (locals + slot + bytes)

-- ---- variables

-- of the routine itself
abbrev pub own_reach : List TypeDef → Routine → Home → Reach
own_reach types routine (In part) = At (Local (part_at types routine part))
own_reach types routine (Behind part) = At (Through (part_at types routine part) 0)

-- a part seen from the link word, which lies above the return address and the caller's BP
abbrev pub from_link : List TypeDef → Routine → ℕ → FramePart → Address
from_link types routine links part = Outer links (part_at types routine part -ℤ pos (return_bytes routine))

-- of a routine round it
abbrev pub outer_reach : List TypeDef → Routine → ℕ → Home → Reach
outer_reach types routine links (In part) = At (from_link types routine links part)
outer_reach types routine links (Behind part) = Beyond (from_link types routine links part)

abbrev pub outer_reach_in : List TypeDef → ℕ → ℕ → Routine → Option Reach
outer_reach_in types links number routine = option_map (outer_reach types routine links) (home_of types routine number)

-- what an open `with` holds
abbrev pub held_reach : Setting → HeldPlace → Reach
held_reach here held = At (Through (slot_below here.locals held.slot 4) 0)

abbrev pub inner_reach : Setting → ℕ → Option Reach
inner_reach here number =
    if nat_lt number first_held
    then option_map (own_reach here.unit.types.types here.routine) (home_of here.unit.types.types here.routine number)
    else option_map (held_reach here) (slice_get here.withs (number - first_held))

abbrev pub reach_by_level : Setting → ℕ → ℕ → ℕ → Option Reach
reach_by_level here zero unit number = Some (At (Global unit number 0))
reach_by_level here (suc zero) unit number = inner_reach here number
reach_by_level here (suc (suc links)) unit number = option_and_then (outer_reach_in here.unit.types.types (suc links) number) (routine_around here.unit here.routine (suc links))

unfoldable pub reach_of : Setting → Variable → Option Reach
reach_of here variable = reach_by_level here variable.level variable.unit variable.number

-- Self of a method
abbrev pub is_self_by_level : Setting → ℕ → ℕ → Bool
is_self_by_level here zero number = false
is_self_by_level here (suc links) number = option_map_or (λ (routine : Routine). is_self_of routine number) (routine_around here.unit here.routine links) false

abbrev pub is_self : Setting → Place → Bool
is_self here (Var variable) = is_self_by_level here variable.level variable.number
is_self here (Deref pointer) = false
is_self here (Index at index checked) = false
is_self here (FieldOf at number) = false

-- ---- data

-- the runtime's 8 bytes for what a routine gives before it is stored, among the data of its unit of overlays and the heap
abbrev pub scratch_number : ℕ
scratch_number = 5

abbrev pub scratch_address : TypedUnit → ℕ → Address
scratch_address unit plus = Global (overlay_place unit) scratch_number plus

-- the literal that so many others of the unit stand before
abbrev pub literal_address : TypedUnit → ℕ → Address
literal_address unit before = Global 0 (literal_number unit before) 0

-- whether a place among the names of a unit is that of the unit Overlay
abbrev pub is_overlay_place : TypedUnit → ℕ → Bool
is_overlay_place unit place = option_map_or is_overlay (slice_get unit.names place) false

-- ---- classes

abbrev pub class_at : TypedUnit → Key → Option (ℕ × ℕ)
class_at unit key = option_map (λ place. (place, key.number)) (position (same_bytes key.unit) (flat_names unit))

-- the unit that declares a type, by its place among the names of the flat unit, and the type's number there
abbrev pub class_of : TypedUnit → Sort → Option (ℕ × ℕ)
class_of unit sort = option_and_then (class_at unit) (class_key sort)

-- ---- static links

abbrev pub outer_number : TypedUnit → ℕ → Option ℕ
outer_number unit number = option_and_then (λ (routine : Routine). routine.outer) (routine_in unit number)

-- how many static links lead from one routine to another, where they are fewer than so many
abbrev pub links_within : TypedUnit → ℕ → ℕ → Option ℕ → Option ℕ
links_within unit to zero from = None
links_within unit to (suc most) None = None
links_within unit to (suc most) (Some from) = if from == to then Some 0 else option_map suc (links_within unit to most (outer_number unit from))

abbrev pub links_to : Setting → ℕ → Option ℕ
links_to here number = links_within here.unit number 256 (Some here.number)

-- the place of the static link that a routine of the unit is handed, if it stands in another: the link word of the activation of that one
abbrev pub link_of_outer : Setting → Option ℕ → Option Address
link_of_outer here None = None
link_of_outer here (Some outer) = option_map (λ links. Outer links (pos 0)) (links_to here outer)

abbrev pub link_for : Setting → RoutineId → Option Address
link_for here routine = if routine.unit == 0 then link_of_outer here (outer_number here.unit routine.number) else None
