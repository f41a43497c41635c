-- How much a routine may take for its arguments and for itself, how deep routines may nest, and what the stack of a program has.
use Rattle.std.specs.Prelude.{ℕ, zero, suc, ◌+◌, ◌&&◌, nat_le, Bool, true, false, List, Option, Some, None, slice_get}
use Rattle.std.specs.Option.{option_map_or}
use Rattle.type_layout.specs.declared.definitions.TypeDef.{TypeDef}
use Rattle.typed_tree.specs.declared.units.Routine.{Routine}
use Rattle.typed_tree.specs.declared.units.Unit.{Unit as TypedUnit}
use Rattle.typed_tree.specs.Frames.{argument_bytes, local_bytes, need_of}

-- locals, copies and the evaluation stack have at most 65,000 bytes, and arguments at most 256
abbrev pub fits : List TypeDef → Routine → Bool
fits types routine = nat_le (local_bytes types routine + need_of types routine) 65000 && nat_le (argument_bytes types routine) 256

-- at most so many routines stand round one; routines nest 16 deep, so 15 at most stand round the innermost
abbrev pub nests : List Routine → ℕ → Option ℕ → Bool
nests routines most None = true
nests routines zero (Some outer) = false
nests routines (suc most) (Some outer) = option_map_or (λ (routine : Routine). nests routines most routine.outer) (slice_get routines outer) false

abbrev pub has_stack : Option TypedUnit → Bool
has_stack None = false
has_stack (Some unit) = nat_le 1024 unit.stack && nat_le unit.stack 65520
