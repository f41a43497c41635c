-- What a body is lowered in.
use Rattle.std.specs.Prelude.{ℕ, zero, suc, if◌then◌else◌, List, [], ◌∷◌, map, Option, Some, None, option_and_then, slice_get}
use Rattle.type_layout.specs.Words.{same_bytes}
use Rattle.typed_tree.specs.declared.units.Routine.{Routine}
use Rattle.typed_tree.specs.declared.units.Unit.{Unit as TypedUnit}
use Rattle.tp_meaning.specs.Trees.{Key}
use Rattle.tp_meaning.specs.Programs.{Sort as TypeInTable, is_overlay, integer_sort, char_sort, global_in}
use Rattle.lower_places.specs.Sorts.{Surroundings}
use Rattle.lower_places.specs.declared.sorts.Sort.{Sort}
use Rattle.lower_places.specs.declared.sorts.Sort.TheVariants as sort
use Rattle.lower_places.specs.declared.scene.Held.{Held}
use Rattle.lower_places.specs.declared.scene.UnitGlobals.{UnitGlobals}
use Rattle.lower_places.specs.declared.scene.Scene.{Scene}

-- the place that an open `with` holds: a far pointer to it lies behind so many bytes of slots
pub record HeldPlace : Type 0 where
  pub slot : ℕ
  pub sort : TypeInTable

-- What a body is lowered in: its unit, its routine and the number of that in the unit, the bytes of locals above the
-- evaluation stack, the places that the open `with`s hold, the outermost first, and the sorts of all globals.
pub record Setting : Type 0 where
  pub unit : TypedUnit
  pub routine : Routine
  pub number : ℕ
  pub locals : ℕ
  pub withs : List HeldPlace
  pub globals : Key → Option TypeInTable

-- ---- routines round others

abbrev pub routine_in : TypedUnit → ℕ → Option Routine
routine_in unit number = slice_get unit.routines number

abbrev pub outer_of : TypedUnit → Routine → Option Routine
outer_of unit routine = option_and_then (routine_in unit) routine.outer

-- the routine that so many static links lead to
abbrev pub routine_around : TypedUnit → Routine → ℕ → Option Routine
routine_around unit routine zero = Some routine
routine_around unit routine (suc links) = option_and_then (outer_of unit) (routine_around unit routine links)

abbrev pub surroundings_in : Setting → Surroundings
surroundings_in here = record {
  unit = here.unit;
  routines = routine_around here.unit here.routine;
  withs = map (λ (held : HeldPlace). held.sort) here.withs;
  globals = here.globals;
}

-- ---- as src/ has it

abbrev pub view_sort : Sort → TypeInTable
view_sort sort.Char = char_sort
view_sort sort.Integer = integer_sort
view_sort (sort.Of types classes ty) = record { table = types.now; ty = ty }

abbrev pub view_held : Held → HeldPlace
view_held held = record { slot = held.slot; sort = view_sort held.sort }

abbrev pub unit_among : List UnitGlobals → List ℕ → Option TypedUnit
unit_among [] name = None
unit_among (one ∷ units) name = if same_bytes name one.unit.now.name then Some one.unit.now else unit_among units name

-- the sort of a global of these units; the unit Overlay, which no source has, has one of its own
abbrev pub sort_among : List UnitGlobals → Key → Option TypeInTable
sort_among units key = if is_overlay key.unit then Some integer_sort else option_and_then (global_in key.number) (unit_among units key.unit)

abbrev pub view_scene : Scene → Setting
view_scene scene = record {
  unit = scene.unit.now;
  routine = scene.routine.now;
  number = scene.number;
  locals = scene.locals;
  withs = map view_held scene.withs.now;
  globals = sort_among scene.globals.now;
}
