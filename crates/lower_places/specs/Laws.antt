-- What lies in an activation record keeps apart, and fills it; and variables have the sorts that their unit tells.
use Rattle.std.specs.Prelude.{◌≡◌, ℕ, ◌+◌, ◌-◌, ◌≤◌, ◌<◌, List, sum, Some, Ok, is_some, slice_get}
use Rattle.type_layout.specs.declared.definitions.TypeId.{TypeId}
use Rattle.type_layout.specs.declared.definitions.Param.{Param}
use Rattle.type_layout.specs.declared.definitions.TypeDef.{TypeDef}
use Rattle.type_layout.specs.Layouts.{size_of, IsMeasured}
use Rattle.typed_tree.specs.declared.expressions.Variable.{Variable}
use Rattle.typed_tree.specs.declared.units.Routine.{Routine}
use Rattle.typed_tree.specs.declared.units.Program.{Program}
use Rattle.typed_tree.specs.Frames.{param_bytes, copy_bytes, even_size, class_argument, result_argument, result_bytes, argument_bytes, local_bytes, need_of, frame_of}
use Rattle.typed_tree.specs.type_fits.Routines.{variables_of}
use Rattle.common_values.specs.integers.Words.{w16, word_of, wrapping_add}
use Rattle.tp_meaning.specs.Store.{Store}
use Rattle.tp_meaning.specs.Activations.{Reached, Activation, variable_at}
use Rattle.lower_places.specs.Frames.{FramePart, StringResult, Instance, Parameter, ClassWord, StaticLink, ReturnLinks, CopyOf, ResultValue, OwnVariable, EvaluationStack, instance_bytes, static_bytes, return_bytes, frame_parts, number_in, top_of, depth_of, slot_depth, bp_depth, from_bp, Home, In, Behind, part_of, home_of}
use Rattle.lower_places.specs.Sorts.{sort_of_variable, surroundings_of}

pub record FrameLaws (types : List TypeDef) (routine : Routine) : Type 0 where
  -- a part ends where or before a later one begins
  pub apart : (one other : FramePart) → number_in routine one < number_in routine other → depth_of types routine one ≤ top_of types routine other
  pub inside : (part : FramePart) → depth_of types routine part ≤ frame_of types routine
  pub whole : sum (frame_parts types routine) ≡ frame_of types routine
  -- sizes
  pub string_result : depth_of types routine StringResult ≡ top_of types routine StringResult + result_argument types routine.header.result
  pub instance : depth_of types routine Instance ≡ top_of types routine Instance + instance_bytes routine
  pub parameter : (number : ℕ) (param : Param) → slice_get routine.header.params number ≡ Some param → depth_of types routine (Parameter number) ≡ top_of types routine (Parameter number) + param_bytes types param
  pub class_word : depth_of types routine ClassWord ≡ top_of types routine ClassWord + class_argument routine.header.kind
  pub static_link : depth_of types routine StaticLink ≡ top_of types routine StaticLink + static_bytes routine
  pub links : depth_of types routine ReturnLinks ≡ top_of types routine ReturnLinks + return_bytes routine
  pub copy : (number : ℕ) (param : Param) → slice_get routine.header.params number ≡ Some param → depth_of types routine (CopyOf number) ≡ top_of types routine (CopyOf number) + copy_bytes types param
  pub result_value : depth_of types routine ResultValue ≡ top_of types routine ResultValue + result_bytes types routine.header.result
  pub own : (number : ℕ) (ty : TypeId) → slice_get routine.locals number ≡ Some ty → depth_of types routine (OwnVariable number) ≡ top_of types routine (OwnVariable number) + even_size types ty
  -- arguments with the static link, and locals
  pub arguments : top_of types routine ReturnLinks ≡ argument_bytes types routine + static_bytes routine
  pub locals : top_of types routine EvaluationStack ≡ bp_depth types routine + local_bytes types routine
  pub stack : depth_of types routine EvaluationStack ≡ top_of types routine EvaluationStack + need_of types routine
  -- a slot ends within the frame where it ends within the need
  pub slot : (before bytes : ℕ) → before + bytes ≤ need_of types routine → slot_depth types routine before bytes ≤ frame_of types routine

-- a part has room for a value of a type, or for a far pointer to one
abbrev pub HasRoom : List TypeDef → Routine → Home → TypeId → Type 0
HasRoom types routine (In part) ty = top_of types routine part + size_of types ty ≤ depth_of types routine part
HasRoom types routine (Behind part) ty = depth_of types routine part ≡ top_of types routine part + 4

pub record HomeLaws (types : List TypeDef) (routine : Routine) : Type 0 where
  -- each variable has a home, and no number else
  pub there : (number : ℕ) → is_some (home_of types routine number) ≡ is_some (slice_get (variables_of routine) number)
  -- different ones in different parts
  pub apart : (one other : ℕ) (first second : Home) → home_of types routine one ≡ Some first → home_of types routine other ≡ Some second → number_in routine (part_of first) ≡ number_in routine (part_of second) → one ≡ other
  pub room : IsMeasured types → (number : ℕ) (ty : TypeId) (one : TypeDef) (home : Home) → slice_get (variables_of routine) number ≡ Some ty → slice_get types ty.0 ≡ Some one → home_of types routine number ≡ Some home → HasRoom types routine home ty

-- what lies so far from BP lies where it should, below the caller's SP
abbrev pub IsFromTop : Type 0
IsFromTop = (sp bp depth : ℕ) → sp < 65536 → bp ≤ sp → depth ≤ sp → wrapping_add w16 (sp - bp) (word_of w16 (from_bp bp depth)) ≡ sp - depth

-- a variable that is found has the sort that its unit tells
abbrev pub VariablesHaveSorts : Type 0
VariablesHaveSorts = (program : Program) (f : Activation) (variable : Variable) (store : Store) (at : Reached) → variable_at program f variable store ≡ Ok at → sort_of_variable (surroundings_of program f) variable ≡ Some at.sort
