-- The stack that an activation of a routine takes, and the weight of a unit.
use Rattle.std.specs.Prelude.{◌≡◌, ℕ, ◌+◌, ◌*◌, ◌≤◌, ◌%◌, Bool, true, false, nat_eq, cond, List, length, Option, Some, None, is_some, slice_get, sum_by}
use Rattle.std.specs.Option.{option_map_or}
use Rattle.type_layout.specs.declared.definitions.TypeId.{TypeId}
use Rattle.type_layout.specs.declared.definitions.Param.{Param}
use Rattle.type_layout.specs.declared.definitions.Kind.{Kind}
use Rattle.type_layout.specs.declared.definitions.Kind.TheVariants.{Procedure, Function, Constructor, Destructor}
use Rattle.type_layout.specs.declared.definitions.TypeDef.{TypeDef}
use Rattle.type_layout.specs.declared.definitions.TypeDef.TheVariants as type
use Rattle.type_layout.specs.Layouts.{size_of}
use Rattle.typed_tree.specs.declared.units.Routine.{Routine}
use Rattle.typed_tree.specs.Statements.{view_stmt}
use Rattle.typed_tree.specs.Slots.{slot_of_type}
use Rattle.typed_tree.specs.Needs.{statement_need}
use Rattle.typed_tree.specs.Stacks.{FitsStatement}
use Rattle.typed_tree.specs.Weights.{statement_weight}

-- the next even number
abbrev pub even : ℕ → ℕ
even n = n + n % 2

-- an ordinal of at most two bytes by value has 2, every other parameter 4
abbrev pub param_bytes : List TypeDef → Param → ℕ
param_bytes types param = cond param.by_ref 4 (cond (nat_eq (slot_of_type types param.ty) 2) 2 4)

-- strings, sets, arrays, records and objects, which a routine copies where they are passed by value
abbrev pub is_copied : Option TypeDef → Bool
is_copied (Some (type.Ordinal host low high)) = false
is_copied (Some (type.Str max)) = true
is_copied (Some (type.SetOf base)) = true
is_copied (Some (type.ArrayOf index element)) = true
is_copied (Some (type.RecordOf fields)) = true
is_copied (Some (type.PointerTo target)) = false
is_copied (Some (type.ObjectOf parent dynamic fields methods)) = true
is_copied (Some (type.Procedural header)) = false
is_copied None = false

abbrev pub is_string : Option TypeDef → Bool
is_string (Some (type.Ordinal host low high)) = false
is_string (Some (type.Str max)) = true
is_string (Some (type.SetOf base)) = false
is_string (Some (type.ArrayOf index element)) = false
is_string (Some (type.RecordOf fields)) = false
is_string (Some (type.PointerTo target)) = false
is_string (Some (type.ObjectOf parent dynamic fields methods)) = false
is_string (Some (type.Procedural header)) = false
is_string None = false

abbrev pub even_size : List TypeDef → TypeId → ℕ
even_size types id = even (size_of types id)

abbrev pub copy_bytes : List TypeDef → Param → ℕ
copy_bytes types param = cond param.by_ref 0 (cond (is_copied (slice_get types param.ty.0)) (even_size types param.ty) 0)

-- the hidden argument of a constructor or destructor, which names a class
abbrev pub class_argument : Kind → ℕ
class_argument Procedure = 0
class_argument Function = 0
class_argument Constructor = 2
class_argument Destructor = 2

-- the hidden argument of a function whose result is a string: where it goes
abbrev pub result_argument : List TypeDef → Option TypeId → ℕ
result_argument types None = 0
result_argument types (Some id) = cond (is_string (slice_get types id.0)) 4 0

-- a result that is no string lies in the frame
abbrev pub result_bytes : List TypeDef → Option TypeId → ℕ
result_bytes types None = 0
result_bytes types (Some id) = cond (is_string (slice_get types id.0)) 0 (even_size types id)

abbrev pub argument_bytes : List TypeDef → Routine → ℕ
argument_bytes types routine =
    sum_by (param_bytes types) routine.header.params
    + (cond (is_some routine.owner) 4 0 + (class_argument routine.header.kind + result_argument types routine.header.result))

abbrev pub local_bytes : List TypeDef → Routine → ℕ
local_bytes types routine =
    sum_by (even_size types) routine.locals
    + (sum_by (copy_bytes types) routine.header.params + result_bytes types routine.header.result)

-- the evaluation stack of a routine's body
abbrev pub need_of : List TypeDef → Routine → ℕ
need_of types routine = statement_need types (view_stmt routine.body)

-- arguments, static link, return address, the caller's BP, locals and the evaluation stack
abbrev pub frame_of : List TypeDef → Routine → ℕ
frame_of types routine =
    argument_bytes types routine
    + (cond (is_some routine.outer) 2 0 + (cond routine.far 4 2 + (2 + (local_bytes types routine + need_of types routine))))

-- static link, return address and the caller's BP
abbrev pub link_bytes : Routine → ℕ
link_bytes routine = cond (is_some routine.outer) 2 0 + (cond routine.far 4 2 + 2)

-- A frame is its arguments, its links, its locals and the evaluation stack, one behind another and nothing else; the
-- links have at least a near return address and BP.
pub record HoldsItsParts (types : List TypeDef) (routine : Routine) : Type 0 where
  pub sum : argument_bytes types routine + link_bytes routine + local_bytes types routine + need_of types routine ≡ frame_of types routine
  pub links : 4 ≤ link_bytes routine

-- the body of a routine is evaluated within the need of the routine
abbrev pub StaysWithinNeed : List TypeDef → Routine → Type 0
StaysWithinNeed types routine = FitsStatement types (need_of types routine) 0 (view_stmt routine.body)

abbrev pub routine_weight : Routine → ℕ
routine_weight routine =
    statement_weight (view_stmt routine.body) + (160 + 48 * (length routine.header.params + length routine.locals))

-- the weights of all routines
abbrev pub weight_of : List Routine → ℕ
weight_of routines = sum_by routine_weight routines

-- what a routine with this number gives
abbrev pub at_routine : (Routine → ℕ) → List Routine → ℕ → ℕ
at_routine f routines number = option_map_or f (slice_get routines number) 0
