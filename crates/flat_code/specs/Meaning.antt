-- What flat code does: to the bytes that it can reach, the installed flag, input and output; its statements, and whole programs.
use Rattle.std.specs.Prelude.{ℕ, zero, suc, ◌+◌, ◌-◌, ◌/◌, false, List, [], ◌∷◌, ◌++◌, length, Option, Some, None, replicate}
use Rattle.std.specs.Option.{option_and_then}
use Rattle.common_values.specs.behaviour.Seen.{Standing, Ended, Going, Seen}
use Rattle.common_values.specs.integers.Words.{w16, wrapping_sub, low_byte}
use Rattle.flat_code.specs.declared.tree.Address.{Address}
use Rattle.flat_code.specs.Tree.{expr_size, Step, StoreByte, StoreWord, Copy, Leave, Call, CallThrough, Runtime, StoreRoutine, Return, Error, step_size, End, Do, If, Loop}
use Rattle.flat_code.specs.Memory.{Cells, word_bytes, far_bytes, region, laid}
use Rattle.flat_code.specs.declared.memory.Place.{Place}
use Rattle.flat_code.specs.declared.memory.Cell.TheVariants.{Known, Outside}
use Rattle.flat_code.specs.Program.{Name, Datum, Vmt, UnitCode, FlatProgram, Choice, named, heap_segment_key, heap_bytes_key, ovr_name_key}
pub use Rattle.flat_code.specs.Values.{Frame, stack_place, linked, if_placed, key_of, datum_place, vmt_offset, routine_pointer, place_of, truth, divided, op_of, value_of, values_of}
pub use Rattle.flat_code.specs.Calls.{State, Outcome, and_then, spent, spend, error_text, raised, trapped, with_found, begun, with_cells, set_cells, stored_at, copied_at, pointer_at, result_bytes, give, link_bytes, activation_bytes, stack_top, is_too_deep, frame_of, opened, closed, ended, finished, Does, activated, tested, admitted, entered, with_some, entered_at, called, written, write_act, read_act, end_act, clear_act, flag_act, runtime_of, Next, Left, Returned, Over}

-- ---- statements

abbrev pub stored : Choice → Frame → Address → List ℕ → State → Outcome
stored choice f to bytes s = with_found (stored_at choice f s.cells to bytes) s (set_cells s)

abbrev pub left : ℕ → State → Outcome
left zero s = Next s
left (suc loops) s = Left loops s

abbrev pub step_of : FlatProgram → Choice → Does → Step → Frame → State → Outcome
step_of program choice again (StoreByte to value) f s = with_found (value_of choice f s.cells value) s (λ v. stored choice f to (low_byte v ∷ []) s)
step_of program choice again (StoreWord to value) f s = with_found (value_of choice f s.cells value) s (λ v. stored choice f to (word_bytes v) s)
step_of program choice again (Copy to from bytes) f s = with_found (copied_at choice f s.cells to from bytes) s (set_cells s)
step_of program choice again (Leave loops) f s = left loops s
step_of program choice again (Call unit number args result) f s =
    with_found (values_of choice f s.cells args) s (λ vs. spend s (λ s. with_found (key_of f unit number) s (called program choice again vs result f s)))
step_of program choice again (CallThrough pointer args result) f s =
    with_found (values_of choice f s.cells args) s (λ vs. spend s (λ s.
    with_found (pointer_at choice f s.cells pointer) s (λ p. with_some (choice.callee p) s (called program choice again vs result f s))))
step_of program choice again (Runtime number args result) f s =
    with_found (values_of choice f s.cells args) s (λ vs. spend s (runtime_of program choice again number vs result f))
step_of program choice again (StoreRoutine to unit number) f s =
    with_found (routine_pointer choice f unit number) s (λ p. stored choice f to (far_bytes p) s)
step_of program choice again Return f s = Returned s
step_of program choice again (Error code) f s = raised code s

-- a loop's body ended: again, or out of this loop or further ones
abbrev pub looped : Outcome → (State → Outcome) → Outcome
looped (Next s) go = go s
looped (Left zero s) go = Next s
looped (Left (suc loops) s) go = Left loops s
looped (Returned s) go = Returned s
looped (Over standing s) go = Over standing s

abbrev pub chosen : ℕ → Outcome → Outcome → Outcome
chosen zero taken other = other
chosen (suc n) taken other = taken

-- what statements do, where `again` is what they do with fewer turns
abbrev pub runs : FlatProgram → Choice → Does → Does
runs program choice again End f s = Next s
runs program choice again (Do step next) f s = and_then (step_of program choice again step f (begun (step_size step) s)) (runs program choice again next f)
runs program choice again (If test taken other next) f s =
    and_then
    (with_found (value_of choice f s.cells test) (begun (1 + expr_size test) s) (λ v.
    chosen v (runs program choice again taken f (begun (1 + expr_size test) s)) (runs program choice again other f (begun (1 + expr_size test) s))))
    (runs program choice again next f)
runs program choice again (Loop body next) f s =
    and_then
    (spend (begun 1 s) (λ s. looped (runs program choice again body f (begun 1 s)) (again (Loop body End) f)))
    (runs program choice again next f)

-- with fuel, which runs out no earlier than the turns where it is greater
abbrev pub run_by : FlatProgram → Choice → ℕ → Does
run_by program choice zero code f s = Over Going s
run_by program choice (suc fuel) code f s = runs program choice (run_by program choice fuel) code f s

unfoldable pub run : FlatProgram → Choice → Does
run program choice code f s = run_by program choice (suc s.turns) code f s

-- ---- whole programs

-- so many bytes, the lowest first
abbrev pub number_bytes : ℕ → ℕ → List ℕ
number_bytes zero n = []
number_bytes (suc count) n = low_byte n ∷ number_bytes count (n / 256)

-- so many bytes, with zeros after the given ones
abbrev pub filled : ℕ → List ℕ → List ℕ
filled size bytes = bytes ++ replicate (size - length bytes) 0

-- bytes at an offset of the data segment, where there is one
abbrev pub laid_at : Choice → Option ℕ → List ℕ → Cells → Cells
laid_at choice None bytes m = m
laid_at choice (Some offset) bytes m = laid m (record { segment = choice.data_segment; offset = offset }) 0 bytes

abbrev pub with_data : Choice → Name → ℕ → List Datum → Cells → Cells
with_data choice name number [] m = m
with_data choice name number (datum ∷ rest) m =
    with_data choice name (number + 1) rest (laid_at choice (choice.datum (record { unit = name; number = number })) (filled datum.size datum.first) m)

abbrev pub pointer_bytes : Option Place → List ℕ
pointer_bytes None = replicate 4 0
pointer_bytes (Some p) = far_bytes p

abbrev pub slot_bytes : Choice → Name → List Name → ℕ × ℕ → List ℕ
slot_bytes choice own names slot =
    pointer_bytes (option_and_then (λ name. choice.far (record { unit = name; number = slot.1 })) (named own names slot.0))

abbrev pub slots_bytes : Choice → Name → List Name → List (ℕ × ℕ) → List ℕ
slots_bytes choice own names [] = []
slots_bytes choice own names (slot ∷ slots) = slot_bytes choice own names slot ++ slots_bytes choice own names slots

-- the size of an instance, its negative, and the methods
abbrev pub vmt_bytes : Choice → Name → List Name → Vmt → List ℕ
vmt_bytes choice own names vmt = word_bytes vmt.size ++ word_bytes (wrapping_sub w16 0 vmt.size) ++ slots_bytes choice own names vmt.slots

abbrev pub with_vmts : Choice → Name → List Name → ℕ → List Vmt → Cells → Cells
with_vmts choice own names number [] m = m
with_vmts choice own names number (vmt ∷ rest) m =
    with_vmts choice own names (number + 1) rest (laid_at choice (choice.vmt (record { unit = own; number = number })) (vmt_bytes choice own names vmt) m)

abbrev pub with_unit : Choice → Name → Option UnitCode → Cells → Cells
with_unit choice name None m = m
with_unit choice name (Some unit) m = with_vmts choice name unit.names 0 unit.vmts (with_data choice name 0 unit.globals m)

abbrev pub with_units : FlatProgram → Choice → List Name → Cells → Cells
with_units program choice [] m = m
with_units program choice (name ∷ names) m = with_units program choice names (with_unit choice name (program.unit name) m)

-- what the runtime finds in its globals
abbrev pub with_runtime : FlatProgram → Choice → Cells → Cells
with_runtime program choice m =
    laid_at choice (choice.datum ovr_name_key) (length program.ovr_name ∷ program.ovr_name)
    (laid_at choice (choice.datum heap_bytes_key) (number_bytes 4 program.heap)
    (laid_at choice (choice.datum heap_segment_key) (word_bytes choice.heap_segment) m))

-- the data and the heap; nothing of the stack can be reached
abbrev pub start_cells : FlatProgram → Choice → Cells
start_cells program choice =
    with_runtime program choice (with_units program choice program.order (region (λ x. Outside) choice.heap_segment 0 program.heap (Known 0)))

abbrev pub start_state : FlatProgram → Choice → List ℕ → ℕ → State
start_state program choice input turns =
    record { turns = turns; cells = start_cells program choice; flag = false; input = input; out = []; err = []; work = 0 }

-- before the first activation
abbrev pub start_frame : FlatProgram → Frame
start_frame program = record { unit = []; names = []; bp = 0; link = 0; sp = stack_top program; sum = 0 }

-- the start of a unit spends no turn
abbrev pub started : FlatProgram → Choice → Does → Name → Option ℕ → State → Outcome
started program choice again name None s = Next s
started program choice again name (Some number) s = called program choice again [] None (start_frame program) s (record { unit = name; number = number })

abbrev pub initial_of : Option UnitCode → Option ℕ
initial_of None = None
initial_of (Some unit) = unit.initial

-- the initial routine of each unit in order, and then the end with code 0
abbrev pub all_started : FlatProgram → Choice → Does → List Name → State → Outcome
all_started program choice again [] s = Over (Ended 0) s
all_started program choice again (name ∷ names) s = and_then (started program choice again name (initial_of (program.unit name)) s) (all_started program choice again names)

pub record FlatSeen : Type 0 where
  pub seen : Seen
  pub read : ℕ
  pub work : ℕ

abbrev pub seen_so : Standing → List ℕ → State → FlatSeen
seen_so standing input s = record {
  seen = record { out = s.out; err = s.err; end = standing };
  read = length input - length s.input;
  work = s.work;
}

-- the outcome of a whole run is always Over
abbrev pub seen_of : List ℕ → Outcome → FlatSeen
seen_of input (Next s) = seen_so (Ended 0) input s
seen_of input (Left loops s) = seen_so (Ended 0) input s
seen_of input (Returned s) = seen_so (Ended 0) input s
seen_of input (Over standing s) = seen_so standing input s

-- what a program shows on an input within so many turns, how many bytes it has read, and its work
abbrev pub flat_run : FlatProgram → Choice → List ℕ → ℕ → FlatSeen
flat_run program choice input turns =
    seen_of input (all_started program choice (run program choice) program.order (start_state program choice input turns))
