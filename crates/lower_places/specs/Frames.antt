-- The activation record of a routine: which parts it has, and where its variables and slots lie.
use Rattle.std.specs.Prelude.{ℕ, zero, suc, ◌+◌, ◌-◌, nat_le, Bool, false, cond, if◌then◌else◌, ℤ, pos, negsuc, List, [], ◌∷◌, ◌++◌, map, length, slice_get, Option, Some, None, is_some}
use Rattle.std.specs.Option.{option_map}
use Rattle.type_layout.specs.declared.definitions.TypeId.{TypeId}
use Rattle.type_layout.specs.declared.definitions.Param.{Param}
use Rattle.type_layout.specs.declared.definitions.TypeDef.{TypeDef}
use Rattle.typed_tree.specs.declared.units.Routine.{Routine}
use Rattle.typed_tree.specs.Frames.{param_bytes, copy_bytes, is_copied, is_string, even_size, class_argument, result_argument, result_bytes, argument_bytes, need_of}
use Rattle.lower_places.specs.Parts.{above, until}

-- From the top: where a string result goes, Self, the parameters in order, the word of a class and the static link; the
-- return address and the caller's BP; the copies of arguments, a result that is no string, the routine's own variables,
-- and the evaluation stack.
pub data FramePart : Type 0 where
  StringResult : FramePart
  Instance : FramePart
  Parameter : (number : ℕ) → FramePart
  ClassWord : FramePart
  StaticLink : FramePart
  ReturnLinks : FramePart
  CopyOf : (number : ℕ) → FramePart
  ResultValue : FramePart
  OwnVariable : (number : ℕ) → FramePart
  EvaluationStack : FramePart

-- ---- their sizes, some of which are 0

abbrev pub instance_bytes : Routine → ℕ
instance_bytes routine = cond (is_some routine.owner) 4 0

abbrev pub static_bytes : Routine → ℕ
static_bytes routine = cond (is_some routine.outer) 2 0

abbrev pub return_bytes : Routine → ℕ
return_bytes routine = cond routine.far 4 2 + 2

-- all arguments, the static link among them
abbrev pub handed_bytes : List TypeDef → Routine → ℕ
handed_bytes types routine = argument_bytes types routine + static_bytes routine

-- whether a routine copies what it is handed for a parameter
abbrev pub copies : List TypeDef → Param → Bool
copies types param = cond param.by_ref false (is_copied (slice_get types param.ty.0))

-- what a caller hands over, the links, and what the routine has for itself
abbrev pub frame_parts : List TypeDef → Routine → List ℕ
frame_parts types routine =
    result_argument types routine.header.result ∷ (instance_bytes routine ∷ (map (param_bytes types) routine.header.params
    ++ (class_argument routine.header.kind ∷ (static_bytes routine ∷ (return_bytes routine ∷ (map (copy_bytes types) routine.header.params
    ++ (result_bytes types routine.header.result ∷ (map (even_size types) routine.locals ++ (need_of types routine ∷ [])))))))))

-- ---- and their numbers

abbrev pub parameters : Routine → ℕ
parameters routine = length routine.header.params

abbrev pub number_in : Routine → FramePart → ℕ
number_in routine StringResult = 0
number_in routine Instance = 1
number_in routine (Parameter number) = 2 + number
number_in routine ClassWord = 2 + parameters routine
number_in routine StaticLink = 3 + parameters routine
number_in routine ReturnLinks = 4 + parameters routine
number_in routine (CopyOf number) = 5 + parameters routine + number
number_in routine ResultValue = 5 + parameters routine + parameters routine
number_in routine (OwnVariable number) = 6 + parameters routine + parameters routine + number
number_in routine EvaluationStack = 6 + parameters routine + parameters routine + length routine.locals

-- ---- where they lie

-- how many bytes lie between the caller's SP and the top of a part, and how far below that SP its lowest byte lies
abbrev pub top_of : List TypeDef → Routine → FramePart → ℕ
top_of types routine part = above (frame_parts types routine) (number_in routine part)

abbrev pub depth_of : List TypeDef → Routine → FramePart → ℕ
depth_of types routine part = until (frame_parts types routine) (number_in routine part)

-- a slot of so many bytes, behind so many others of the evaluation stack: slots grow downward
abbrev pub slot_depth : List TypeDef → Routine → ℕ → ℕ → ℕ
slot_depth types routine before bytes = top_of types routine EvaluationStack + (before + bytes)

-- BP leads to the lowest byte of the links
abbrev pub bp_depth : List TypeDef → Routine → ℕ
bp_depth types routine = depth_of types routine ReturnLinks

-- what lies so far below the caller's SP lies so far from BP, which lies so far below it
unfoldable pub from_bp : ℕ → ℕ → ℤ
from_bp bp depth = if nat_le depth bp then pos (bp - depth) else negsuc (depth - bp - 1)

abbrev pub part_at : List TypeDef → Routine → FramePart → ℤ
part_at types routine part = from_bp (bp_depth types routine) (depth_of types routine part)

abbrev pub slot_at : List TypeDef → Routine → ℕ → ℕ → ℤ
slot_at types routine before bytes = from_bp (bp_depth types routine) (slot_depth types routine before bytes)

-- ---- variables

-- where a variable lies: itself in a part, or what a far pointer in a part leads to
pub data Home : Type 0 where
  In : (part : FramePart) → Home
  Behind : (part : FramePart) → Home

abbrev pub part_of : Home → FramePart
part_of (In part) = part
part_of (Behind part) = part

abbrev pub home_of_param : List TypeDef → ℕ → Param → Home
home_of_param types number param =
    cond param.by_ref (Behind (Parameter number)) (cond (is_copied (slice_get types param.ty.0)) (In (CopyOf number)) (In (Parameter number)))

abbrev pub home_of_own : Routine → ℕ → Option Home
home_of_own routine number = option_map (λ (ty : TypeId). In (OwnVariable number)) (slice_get routine.locals number)

-- the result of a function stands before its own variables
abbrev pub home_of_result : List TypeDef → TypeId → Home
home_of_result types ty = cond (is_string (slice_get types ty.0)) (Behind StringResult) (In ResultValue)

abbrev pub home_from_result : List TypeDef → Routine → Option TypeId → ℕ → Option Home
home_from_result types routine None number = home_of_own routine number
home_from_result types routine (Some ty) zero = Some (home_of_result types ty)
home_from_result types routine (Some ty) (suc number) = home_of_own routine number

-- Self stands before the result
abbrev pub home_from_instance : List TypeDef → Routine → Option TypeId → ℕ → Option Home
home_from_instance types routine None number = home_from_result types routine routine.header.result number
home_from_instance types routine (Some owner) zero = Some (Behind Instance)
home_from_instance types routine (Some owner) (suc number) = home_from_result types routine routine.header.result number

-- the parameters stand first
abbrev pub home_from : List TypeDef → Routine → ℕ → List Param → ℕ → Option Home
home_from types routine before [] number = home_from_instance types routine routine.owner number
home_from types routine before (param ∷ params) zero = Some (home_of_param types before param)
home_from types routine before (param ∷ params) (suc number) = home_from types routine (suc before) params number

-- the variable with a number
abbrev pub home_of : List TypeDef → Routine → ℕ → Option Home
home_of types routine number = home_from types routine 0 routine.header.params number
