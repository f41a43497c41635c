-- The sort of each place, as its unit tells it: what the lowering goes by where the meaning has a place at hand.
use Rattle.std.specs.Prelude.{ℕ, zero, suc, ◌-◌, nat_lt, if◌then◌else◌, List, map, Option, Some, None, option_and_then, slice_get}
use Rattle.std.specs.Option.{option_map}
use Rattle.type_layout.specs.declared.definitions.TypeId.{TypeId}
use Rattle.type_layout.specs.declared.definitions.TypeDef.{TypeDef}
use Rattle.type_layout.specs.declared.definitions.TypeDef.TheVariants as type
use Rattle.typed_tree.specs.declared.expressions.Variable.{Variable}
use Rattle.typed_tree.specs.declared.units.Routine.{Routine}
use Rattle.typed_tree.specs.declared.units.Unit.{Unit as TypedUnit}
use Rattle.typed_tree.specs.declared.units.Program.{Program}
use Rattle.typed_tree.specs.Expressions.{type_of, Place, Var, Deref, Index, FieldOf}
use Rattle.typed_tree.specs.type_fits.Fits.{field_type}
use Rattle.typed_tree.specs.type_fits.Routines.{variables_of}
use Rattle.tp_meaning.specs.Trees.{Key}
use Rattle.tp_meaning.specs.Programs.{Sort, definition, beside, sort_in, char_sort, key_of, global_sort}
use Rattle.tp_meaning.specs.Activations.{Reached, Level, Activation, first_held}

-- where a place stands: in a unit, in a routine inside others, each by how many static links lead to it, and in `with`s, the
-- outermost first; with the sorts of all globals
pub record Surroundings : Type 0 where
  pub unit : TypedUnit
  pub routines : ℕ → Option Routine
  pub withs : List Sort
  pub globals : Key → Option Sort

abbrev pub sort_of_number : Surroundings → ℕ → Routine → Option Sort
sort_of_number here number routine = option_map (sort_in here.unit) (slice_get (variables_of routine) number)

abbrev pub held_sort_or : Surroundings → ℕ → Option Sort → Option Sort
held_sort_or here number own = if nat_lt number first_held then own else slice_get here.withs (number - first_held)

abbrev pub sort_by_level : Surroundings → ℕ → ℕ → ℕ → Option Sort
sort_by_level here zero unit number = option_and_then here.globals (key_of here.unit unit number)
sort_by_level here (suc zero) unit number = held_sort_or here number (option_and_then (sort_of_number here number) (here.routines 0))
sort_by_level here (suc (suc links)) unit number = option_and_then (sort_of_number here number) (here.routines (suc links))

abbrev pub sort_of_variable : Surroundings → Variable → Option Sort
sort_of_variable here variable = sort_by_level here variable.level variable.unit variable.number

-- what a pointer leads to
abbrev pub target_in : Sort → Option TypeDef → Option Sort
target_in sort (Some (type.PointerTo to)) = Some (beside sort to)
target_in sort _ = None

abbrev pub target_sort : Sort → Option Sort
target_sort sort = target_in sort (definition sort)

-- an element of an array, or a character of a string
abbrev pub element_in : Sort → Option TypeDef → Option Sort
element_in sort (Some (type.ArrayOf index element)) = Some (beside sort element)
element_in sort (Some (type.Str max)) = Some char_sort
element_in sort _ = None

abbrev pub element_sort : Sort → Option Sort
element_sort sort = element_in sort (definition sort)

abbrev pub field_sort : ℕ → Sort → Option Sort
field_sort number sort = option_map (beside sort) (field_type sort.table.types sort.ty number)

abbrev pub sort_of_place : Surroundings → Place → Option Sort
sort_of_place here (Var variable) = sort_of_variable here variable
sort_of_place here (Deref pointer) = option_and_then (λ (ty : TypeId). target_sort (sort_in here.unit ty)) (type_of pointer)
sort_of_place here (Index at index checked) = option_and_then element_sort (sort_of_place here at)
sort_of_place here (FieldOf at number) = option_and_then (field_sort number) (sort_of_place here at)

-- ---- in a run

abbrev pub surroundings_of : Program → Activation → Surroundings
surroundings_of program f = record {
  unit = f.unit;
  routines = λ links. option_map (λ (level : Level). level.routine) (slice_get f.levels links);
  withs = map (λ (at : Reached). at.sort) f.withs;
  globals = global_sort program;
}
