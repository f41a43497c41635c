-- The kind of a routine, as the types and routines of a unit tell it.
use Rattle.std.specs.Prelude.{ℕ, ◌==◌, ◌&&◌, Bool, if◌then◌else◌, List, [], ◌∷◌, Option, Some, None, slice_get, unwrap_or}
use Rattle.std.specs.Option.{option_map}
use Rattle.type_layout.specs.declared.definitions.RoutineId.{RoutineId}
use Rattle.type_layout.specs.declared.definitions.Kind.{Kind}
use Rattle.type_layout.specs.declared.definitions.Kind.TheVariants.{Procedure}
use Rattle.type_layout.specs.declared.definitions.Method.{Method}
use Rattle.type_layout.specs.declared.definitions.TypeDef.{TypeDef}
use Rattle.type_layout.specs.declared.definitions.TypeDef.TheVariants as type
use Rattle.typed_tree.specs.declared.units.Routine.{Routine}
use Rattle.typed_tree.specs.declared.units.Unit.{Unit as TypedUnit}
use Rattle.tp_meaning.specs.Programs.{is_name}
use Rattle.lower_places.specs.Scenes.{routine_in}

-- the methods that a type declares itself
abbrev pub methods_of : TypeDef → List Method
methods_of (type.ObjectOf parent dynamic fields methods) = methods
methods_of _ = []

-- a method whose routine has a number in the unit of a name
abbrev pub is_method : List (List ℕ) → List ℕ → ℕ → Method → Bool
is_method units name number method = method.routine.number == number && is_name name (slice_get units method.routine.unit)

abbrev pub kind_among : List (List ℕ) → List ℕ → ℕ → List Method → Option Kind
kind_among units name number [] = None
kind_among units name number (method ∷ methods) = if is_method units name number method then Some method.header.kind else kind_among units name number methods

abbrev pub first_kind : Option Kind → Option Kind → Option Kind
first_kind (Some kind) rest = Some kind
first_kind None rest = rest

abbrev pub kind_from : List (List ℕ) → List ℕ → ℕ → List TypeDef → Option Kind
kind_from units name number [] = None
kind_from units name number (one ∷ types) = first_kind (kind_among units name number (methods_of one)) (kind_from units name number types)

-- a routine of another unit is known by its method alone; any other counts as a procedure
abbrev pub method_kind : TypedUnit → ℕ → List ℕ → Kind
method_kind unit number name = unwrap_or (kind_from unit.types.units name number unit.types.types) Procedure

abbrev pub kind_of : TypedUnit → RoutineId → Option Kind
kind_of unit routine =
    if routine.unit == 0
    then option_map (λ (routine : Routine). routine.header.kind) (routine_in unit routine.number)
    else option_map (method_kind unit routine.number) (slice_get unit.names routine.unit)
