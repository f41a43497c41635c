-- Activations of routines, and what their variables are.
use Rattle.std.specs.Prelude.{ℕ, zero, suc, ◌+◌, ◌-◌, ◌^◌, ◌==◌, ◌&&◌, nat_lt, Bool, true, false, if◌then◌else◌, ℤ, pos, List, [], ◌∷◌, ◌++◌, length, map, slice_get, Option, Some, None, is_some, Ok, Err}
use Rattle.std.specs.Option.{option_map_or}
use Rattle.type_layout.specs.declared.definitions.TypeId.{TypeId}
use Rattle.type_layout.specs.declared.definitions.Param.{Param}
use Rattle.type_layout.specs.declared.definitions.Kind.{Kind}
use Rattle.type_layout.specs.declared.definitions.Kind.TheVariants as kind
use Rattle.type_layout.specs.declared.definitions.TypeDef.{TypeDef}
use Rattle.type_layout.specs.declared.definitions.TypeDef.TheVariants as type
use Rattle.typed_tree.specs.declared.expressions.Variable.{Variable}
use Rattle.typed_tree.specs.declared.units.Routine.{Routine}
use Rattle.typed_tree.specs.declared.units.Unit.{Unit as TypedUnit}
use Rattle.typed_tree.specs.declared.units.Program.{Program}
use Rattle.typed_tree.specs.type_fits.Routines.{variables_of}
use Rattle.tp_meaning.specs.Trees.{Key, Spot, Value, Ordinal, Text, Class, At, Void, Tree, holding}
use Rattle.tp_meaning.specs.Found.{IllTyped, Found, ◌>>=◌, known}
use Rattle.tp_meaning.specs.Shapes.{new_tree, parts_at, class_place}
use Rattle.tp_meaning.specs.Store.{Object, Store, with_new, tree_at, value_at, text_at, length_at, spot_of, class_of, number_of, routine_of, replaced, assigned_over, copied_over}
use Rattle.tp_meaning.specs.Programs.{unit_named, key_of, Sort, definition, sort_in, global_serial, global_sort}

-- a place, with the type that it has
pub record Reached : Type 0 where
  pub spot : Spot
  pub sort : Sort

-- a live activation: the number of its routine, the routine, and the serial number of its first variable
pub record Level : Type 0 where
  pub number : ℕ
  pub routine : Routine
  pub first : ℕ

-- What a body runs in: its unit, its own activation and those of the routines round it, the places that the open `with`s
-- hold, the outermost first, and the sum of the frames of all live activations.
pub record Activation : Type 0 where
  pub unit : TypedUnit
  pub levels : List Level
  pub withs : List Reached
  pub sum : ℕ

abbrev pub whole : ℕ → Spot
whole serial = record { object = serial; path = [] }

-- a place inside another
abbrev pub inside : Spot → ℕ → Spot
inside spot place = record { object = spot.object; path = spot.path ++ place ∷ [] }

-- ---- variables

-- Self of a method is numbered behind the parameters, and the result of a function behind that
abbrev pub is_self_of : Routine → ℕ → Bool
is_self_of routine number = is_some routine.owner && number == length routine.header.params

-- Self and variable parameters stand for the places that they were given
abbrev pub is_alias : Routine → ℕ → Bool
is_alias routine number = option_map_or (λ (param : Param). param.by_ref) (slice_get routine.header.params number) (is_self_of routine number)

abbrev pub spot_through : Bool → Spot → Store → Found Spot
spot_through true own store = value_at store own >>= spot_of
spot_through false own store = Ok own

abbrev pub variable_in : TypedUnit → ℕ → Store → Level → Found Reached
variable_in unit number store level = do
  ty ← known (slice_get (variables_of level.routine) number)
  spot ← spot_through (is_alias level.routine number) (whole (level.first + number)) store
  Ok (record { spot = spot; sort = sort_in unit ty })

abbrev pub global_at : Program → Key → Found Reached
global_at program key = known (global_sort program key) >>= λ sort. Ok (record { spot = whole (global_serial program key); sort = sort })

-- the place that a `with` holds has a number from here on
abbrev pub first_held : ℕ
first_held = 2 ^ 31

abbrev pub held_or : Activation → ℕ → Found Reached → Found Reached
held_or f number own = if nat_lt number first_held then own else known (slice_get f.withs (number - first_held))

abbrev pub variable_by : Program → Activation → ℕ → ℕ → ℕ → Store → Found Reached
variable_by program f zero unit number store = known (key_of f.unit unit number) >>= global_at program
variable_by program f (suc zero) unit number store = held_or f number (known (slice_get f.levels 0) >>= variable_in f.unit number store)
variable_by program f (suc (suc links)) unit number store = known (slice_get f.levels (suc links)) >>= variable_in f.unit number store

-- the place of a variable
abbrev pub variable_at : Program → Activation → Variable → Store → Found Reached
variable_at program f variable store = variable_by program f variable.level variable.unit variable.number store

abbrev pub is_self_by : Activation → ℕ → ℕ → Bool
is_self_by f zero number = false
is_self_by f (suc links) number = option_map_or (λ (level : Level). is_self_of level.routine number) (slice_get f.levels links) false

-- the variable is Self of a method
abbrev pub is_self : Activation → Variable → Bool
is_self f variable = is_self_by f variable.level variable.number

-- ---- loads and stores

abbrev pub loaded_as : Option TypeDef → Spot → Store → Found Value
loaded_as None spot store = Err IllTyped
loaded_as (Some (type.Str max)) spot store = text_at store spot >>= λ bytes. Ok (Text bytes)
loaded_as (Some (type.ArrayOf index element)) spot store = Ok (At spot)
loaded_as (Some (type.RecordOf fields)) spot store = Ok (At spot)
loaded_as (Some (type.ObjectOf parent dynamic fields methods)) spot store = Ok (At spot)
loaded_as (Some (type.Ordinal host low high)) spot store = value_at store spot
loaded_as (Some (type.SetOf base)) spot store = value_at store spot
loaded_as (Some (type.PointerTo target)) spot store = value_at store spot
loaded_as (Some (type.Procedural header)) spot store = value_at store spot

-- what a place holds; of a record, an array or an object the place itself
abbrev pub loaded : Reached → Store → Found Value
loaded at store = loaded_as (definition at.sort) at.spot store

-- the length of what a string variable holds
abbrev pub length_as : Option TypeDef → Spot → Store → Found ℕ
length_as (Some (type.Str max)) spot store = length_at store spot
length_as _ spot store = Err IllTyped

abbrev pub length_held : Reached → Store → Found Value
length_held at store = length_as (definition at.sort) at.spot store >>= λ count. Ok (Ordinal (pos count))

-- the routine that a procedural variable holds
abbrev pub held_routine : Reached → Store → Found Key
held_routine at store = value_at store at.spot >>= routine_of

-- the number that an ordinal variable holds
abbrev pub number_in : Reached → Store → Found ℤ
number_in at store = value_at store at.spot >>= number_of

-- a value is assigned to a place
abbrev pub assigned : Reached → Value → Store → Found Store
assigned at v store = do
  old ← tree_at store at.spot
  tree ← assigned_over at.sort.table.types (definition at.sort) old v
  replaced store at.spot tree

-- a record, an array or an object is copied to a place
abbrev pub copied : Reached → Spot → Store → Found Store
copied at from store = do
  old ← tree_at store at.spot
  new ← tree_at store from
  tree ← copied_over at.sort.table.types at.sort.ty (definition at.sort) old new
  replaced store at.spot tree

-- ---- classes of instances

abbrev pub class_spot : Reached → Found Spot
class_spot at = known (class_place (parts_at at.sort.table.types at.sort.ty)) >>= λ place. Ok (inside at.spot place)

-- the class of an instance, if it has one
abbrev pub class_at : Reached → Store → Found (Option Key)
class_at at store = class_spot at >>= value_at store >>= class_of

abbrev pub with_class : Reached → Key → Store → Found Store
with_class at class store = class_spot at >>= λ spot. replaced store spot (holding (Class (Some class)))

-- ---- the variables of a new activation

-- a routine that is called, with its unit
pub record Callee : Type 0 where
  pub unit : TypedUnit
  pub number : ℕ
  pub routine : Routine

abbrev pub callee_of : Program → Key → Found Callee
callee_of program key = do
  unit ← known (unit_named program key.unit)
  routine ← known (slice_get unit.routines key.number)
  Ok (record { unit = unit; number = key.number; routine = routine })

-- a record, an array or an object by value is copied to a new variable, whose own instance has no class
abbrev pub passed : List TypeDef → TypeId → Value → Store → Found Tree
passed types ty (At spot) store = tree_at store spot >>= copied_over types ty (slice_get types ty.0) (new_tree types ty)
passed types ty v store = assigned_over types (slice_get types ty.0) (new_tree types ty) v

abbrev pub argument_tree : List TypeDef → Param → Value → Store → Found Tree
argument_tree types param v store = if param.by_ref then (spot_of v >>= λ spot. Ok (holding (At spot))) else passed types param.ty v store

abbrev pub argument_trees : List TypeDef → List Param → List Value → Store → Found (List Tree)
argument_trees types [] [] store = Ok []
argument_trees types (param ∷ params) (v ∷ vs) store = do
  tree ← argument_tree types param v store
  trees ← argument_trees types params vs store
  Ok (tree ∷ trees)
argument_trees types [] (v ∷ vs) store = Err IllTyped
argument_trees types (param ∷ params) [] store = Err IllTyped

-- Self of a method
abbrev pub self_trees : Option TypeId → Option Spot → Found (List Tree)
self_trees None None = Ok []
self_trees (Some owner) (Some spot) = Ok (holding (At spot) ∷ [])
self_trees None (Some spot) = Err IllTyped
self_trees (Some owner) None = Err IllTyped

abbrev pub result_trees : List TypeDef → Option TypeId → List Tree
result_trees types None = []
result_trees types (Some ty) = new_tree types ty ∷ []

abbrev pub variable_object : Tree → Option Object
variable_object tree = Some (record { tree = tree; bytes = 0 })

-- the objects of a routine's variables, in the order of their numbers
abbrev pub opened : Callee → Option Spot → List Value → Store → Found Store
opened callee own args store = do
  arguments ← argument_trees callee.unit.types.types callee.routine.header.params args store
  self ← self_trees callee.routine.owner own
  Ok (with_new store (map variable_object (arguments ++ (self ++ (result_trees callee.unit.types.types callee.routine.header.result ++ map (new_tree callee.unit.types.types) callee.routine.locals)))))

-- the activations of the routines round one, as they are reached from where it is called
abbrev pub around : ℕ → List Level → Found (List Level)
around outer [] = Err IllTyped
around outer (level ∷ levels) = if level.number == outer then Ok (level ∷ levels) else around outer levels

abbrev pub levels_around : Option ℕ → List Level → Found (List Level)
levels_around None levels = Ok []
levels_around (Some outer) levels = around outer levels

-- the number of a function's result among its variables
abbrev pub result_number : Routine → ℕ
result_number routine = length routine.header.params + (if is_some routine.owner then 1 else 0)

abbrev pub result_in : List TypeDef → Option TypeId → Spot → Store → Found Value
result_in types None spot store = Ok Void
result_in types (Some ty) spot store = loaded_as (slice_get types ty.0) spot store

-- what a function gives as it ends
abbrev pub result_of : Callee → ℕ → Store → Found Value
result_of callee first store = result_in callee.unit.types.types callee.routine.header.result (whole (first + result_number callee.routine)) store

abbrev pub is_constructor : Kind → Bool
is_constructor kind.Constructor = true
is_constructor kind.Procedure = false
is_constructor kind.Function = false
is_constructor kind.Destructor = false

abbrev pub instance_of : Callee → TypeId → Spot → Reached
instance_of callee owner own = record { spot = own; sort = sort_in callee.unit owner }

abbrev pub class_set_in : Callee → Option TypeId → Option Spot → Option Key → Store → Found Store
class_set_in callee (Some owner) (Some own) (Some class) store = with_class (instance_of callee owner own) class store
class_set_in callee owner own None store = Ok store
class_set_in callee owner own (Some class) store = Err IllTyped

-- a constructor gives its instance the class for which it is called, if it is called for one
abbrev pub class_set : Callee → Option Spot → Option Key → Store → Found Store
class_set callee own class store =
    if is_constructor callee.routine.header.kind then class_set_in callee callee.routine.owner own class store else Ok store
