-- The unit of the runtime's routines on overlays and the heap, by name OVERLAY.
use Rattle.std.specs.Prelude.{◌≡◌, false, List, [], ◌∷◌, Some, None, codes}
use Rattle.flat_code.specs.Program.{Routine, Datum, UnitCode, FlatProgram, overlay_unit}
use Rattle.heap_runtime.specs.overlay.Data.{ovr_result_datum, ovr_name_datum}
use Rattle.heap_runtime.specs.overlay.Routines.{init_routine, set_buffer_routine, clear_buffer_routine}
use Rattle.heap_runtime.specs.heap.Routines.{new_routine, dispose_routine}
use Rattle.heap_runtime.specs.clear.Routines.{clear_routine}
use Rattle.heap_runtime.specs.scratch.Data.{scratch_datum}

-- the heap's segment and its bytes, which the program gets as it starts
abbrev pub heap_segment_datum : Datum
heap_segment_datum = record { size = 2; first = [] }

abbrev pub heap_bytes_datum : Datum
heap_bytes_datum = record { size = 4; first = [] }

-- how much of it was cut into blocks, and the first free list
abbrev pub heap_state_datum : Datum
heap_state_datum = record { size = 4; first = [] }

-- in the order of their numbers
abbrev pub heap_codes : List Routine
heap_codes = init_routine ∷ set_buffer_routine ∷ clear_buffer_routine ∷ new_routine ∷ dispose_routine ∷ clear_routine ∷ []

abbrev pub heap_data : List Datum
heap_data = ovr_result_datum ∷ heap_segment_datum ∷ heap_bytes_datum ∷ ovr_name_datum ∷ heap_state_datum ∷ scratch_datum ∷ []

abbrev pub heap_code : UnitCode
heap_code = record {
  names = codes "OVERLAY" ∷ [];
  routines = heap_codes;
  globals = heap_data;
  vmts = [];
  initial = None;
}

-- a program that holds the unit, not overlaid
pub record HoldsHeapUnit (program : FlatProgram) : Type 0 where
  pub is_there : program.unit overlay_unit ≡ Some heap_code
  pub resident : program.overlaid overlay_unit ≡ false
