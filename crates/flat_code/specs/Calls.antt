-- What calls of flat code and the effects of the machine do to a state.
-- A run has a number of turns. One is due at each call, at each use of the runtime, at each error and before each run of a loop's body; where none is left the run goes on.
use Rattle.std.specs.Prelude.{ℕ, zero, suc, ◌+◌, ◌-◌, ◌*◌, ◌%◌, ◌==◌, ◌&&◌, Bool, true, not, nat_lt, if◌then◌else◌, List, [], ◌∷◌, ◌++◌, length, Option, Some, None, slice_get, codes}
use Rattle.std.specs.Fmt.{decimal}
use Rattle.common_values.specs.behaviour.Seen.{Standing, Ended, Going, Undefined}
use Rattle.flat_code.specs.declared.tree.Address.{Address}
use Rattle.flat_code.specs.declared.tree.FlatResult.{FlatResult}
use Rattle.flat_code.specs.Tree.{Code}
use Rattle.flat_code.specs.Memory.{Cells, Found, ◌>>=◌, far_at, bytes_at, store_bytes, word_bytes, copy, region, pushed}
use Rattle.flat_code.specs.declared.memory.Place.{Place}
use Rattle.flat_code.specs.declared.memory.Cell.TheVariants.{Unset, Outside}
use Rattle.flat_code.specs.declared.memory.Trap.{Trap}
use Rattle.flat_code.specs.declared.memory.Trap.TheVariants.{ByZero, Bad}
use Rattle.std.specs.Prelude.{Ok, Err}
use Rattle.flat_code.specs.Program.{Name, Key, Routine, UnitCode, FlatProgram, Choice, runtime_key}
use Rattle.flat_code.specs.Values.{Frame, place_of}

-- ---- states and outcomes

-- the work is the number of nodes that were begun, and of runs of loops' bodies
pub record State : Type 0 where
  pub turns : ℕ
  pub cells : Cells
  pub flag : Bool
  pub input : List ℕ
  pub out : List ℕ
  pub err : List ℕ
  pub work : ℕ

-- what comes after some statements: the next one; what follows the loop so many loops further out; the end of the routine; or nothing, since the run stands so
pub data Outcome : Type 0 where
  Next : (s : State) → Outcome
  Left : (loops : ℕ) (s : State) → Outcome
  Returned : (s : State) → Outcome
  Over : (standing : Standing) (s : State) → Outcome

abbrev pub and_then : Outcome → (State → Outcome) → Outcome
and_then (Next s) go = go s
and_then (Left loops s) go = Left loops s
and_then (Returned s) go = Returned s
and_then (Over standing s) go = Over standing s

abbrev pub spent : ℕ → State → (State → Outcome) → Outcome
spent zero s go = Over Going s
spent (suc turns) s go = go (record s { turns = turns })

-- a turn is due
abbrev pub spend : State → (State → Outcome) → Outcome
spend s go = spent s.turns s go

abbrev pub error_text : ℕ → List ℕ
error_text code = codes "Runtime error " ++ decimal code ++ 13 ∷ 10 ∷ []

-- a runtime error ends the run
abbrev pub raised : ℕ → State → Outcome
raised code s = spend s (λ s. Over (Ended (code % 256)) (record s { err = s.err ++ error_text code }))

abbrev pub trapped : Trap → State → Outcome
trapped ByZero s = raised 200 s
trapped (Bad act) s = Over (Undefined act) s

abbrev pub with_found : {A : Type 0} → Found A → State → (A → Outcome) → Outcome
with_found (Ok x) s go = go x
with_found (Err trap) s go = trapped trap s

abbrev pub begun : ℕ → State → State
begun nodes s = record s { work = s.work + nodes }

abbrev pub with_cells : State → Cells → State
with_cells s m = record s { cells = m }

-- the next statement, with these cells
abbrev pub set_cells : State → Cells → Outcome
set_cells s m = Next (with_cells s m)

-- bytes stored at an address
abbrev pub stored_at : Choice → Frame → Cells → Address → List ℕ → Found Cells
stored_at choice f m to bytes = place_of choice f m to >>= λ p. store_bytes m p 0 bytes

-- both places are known before the first byte moves
abbrev pub copied_at : Choice → Frame → Cells → Address → Address → ℕ → Found Cells
copied_at choice f m to from bytes = place_of choice f m to >>= λ p. place_of choice f m from >>= λ q. copy m p q 0 bytes

-- the far pointer at an address
abbrev pub pointer_at : Choice → Frame → Cells → Address → Found Place
pointer_at choice f m at = place_of choice f m at >>= λ p. far_at m p

-- ---- results

-- the bytes of a result, or none
abbrev pub result_bytes : Choice → Frame → Cells → Option FlatResult → Found (List ℕ)
result_bytes choice f m None = Ok []
result_bytes choice f m (Some result) = place_of choice f m result.at >>= λ p. bytes_at m p 0 result.bytes

-- they go to where the call wants them, which must be as many
abbrev pub give : Choice → Frame → Option FlatResult → List ℕ → State → Outcome
give choice f None bytes s = Next s
give choice f (Some result) bytes s =
    if length bytes == result.bytes
    then with_found (stored_at choice f s.cells result.at bytes) s (set_cells s)
    else Over (Undefined 1) s

-- ---- calls

-- the bytes of a return address and of the caller's BP
abbrev pub link_bytes : Bool → ℕ
link_bytes far = if far then 6 else 4

-- the bytes that an activation takes of the stack
abbrev pub activation_bytes : Routine → ℕ
activation_bytes r = r.arguments + link_bytes r.far + r.locals

-- the stack's bytes, an odd number of them counted one up
abbrev pub stack_top : FlatProgram → ℕ
stack_top program = program.stack + program.stack % 2

-- routines of the runtime, whose frame is 0, are not tested
abbrev pub is_too_deep : FlatProgram → Routine → ℕ → Bool
is_too_deep program r sum = nat_lt 0 r.frame && nat_lt (stack_top program) (sum + r.frame + 512)

abbrev pub frame_of : Name → UnitCode → Routine → Frame → Frame
frame_of name unit r f = record {
  unit = name;
  names = unit.names;
  bp = f.sp - (r.arguments + link_bytes r.far);
  link = f.sp - r.arguments;
  sp = f.sp - activation_bytes r;
  sum = f.sum + r.frame;
}

-- the arguments stand at the top, the locals are unset, and what lies between can't be reached
abbrev pub opened : Choice → Routine → Frame → List ℕ → Cells → Cells
opened choice r f args m = region (pushed m choice.stack_segment f.sp args) choice.stack_segment (f.sp - activation_bytes r) r.locals Unset

-- an activation that ended can't be reached
abbrev pub closed : Choice → Routine → Frame → Cells → Cells
closed choice r f m = region m choice.stack_segment (f.sp - activation_bytes r) (activation_bytes r) Outside

-- the end of an activation of r, whose frame was g, that was called in f
abbrev pub ended : Choice → Routine → Frame → Frame → Option FlatResult → State → Outcome
ended choice r g f result s =
    with_found (result_bytes choice g s.cells r.result) s (λ bytes. give choice f result bytes (with_cells s (closed choice r f s.cells)))

abbrev pub finished : Outcome → (State → Outcome) → Outcome
finished (Next s) go = go s
finished (Left loops s) go = go s
finished (Returned s) go = go s
finished (Over standing s) go = Over standing s

-- what some statements do in an activation
abbrev pub Does : Type 0
Does = Code → Frame → State → Outcome

abbrev pub activated : Choice → Does → Name → UnitCode → Routine → List ℕ → Option FlatResult → Frame → State → Outcome
activated choice again name unit r args result f s =
    if nat_lt f.sp (activation_bytes r)
    then Over (Undefined 2) s
    else finished (again r.body (frame_of name unit r f) (with_cells s (opened choice r f args s.cells))) (ended choice r (frame_of name unit r f) f result)

-- error 202 where the sum of the frames would leave too little of the stack
abbrev pub tested : FlatProgram → Choice → Does → Name → UnitCode → Routine → List ℕ → Option FlatResult → Frame → State → Outcome
tested program choice again name unit r args result f s =
    if is_too_deep program r f.sum then raised 202 s else activated choice again name unit r args result f s

-- error 208 where the unit is overlaid and the overlays are not installed
abbrev pub admitted : FlatProgram → Choice → Does → Name → UnitCode → Routine → List ℕ → Option FlatResult → Frame → State → Outcome
admitted program choice again name unit r args result f s =
    if program.overlaid name && not s.flag then raised 208 s else tested program choice again name unit r args result f s

-- a routine takes as many bytes as are handed over
abbrev pub entered : FlatProgram → Choice → Does → Name → UnitCode → List ℕ → Option FlatResult → Frame → State → Routine → Outcome
entered program choice again name unit args result f s r =
    if 2 * length args == r.arguments then admitted program choice again name unit r args result f s else Over (Undefined 1) s

-- what is there, else an undefined act
abbrev pub with_some : {A : Type 0} → Option A → State → (A → Outcome) → Outcome
with_some None s go = Over (Undefined 1) s
with_some (Some x) s go = go x

abbrev pub entered_at : FlatProgram → Choice → Does → Key → List ℕ → Option FlatResult → Frame → State → UnitCode → Outcome
entered_at program choice again key args result f s unit =
    with_some (slice_get unit.routines key.number) s (entered program choice again key.unit unit args result f s)

abbrev pub called : FlatProgram → Choice → Does → List ℕ → Option FlatResult → Frame → State → Key → Outcome
called program choice again args result f s key = with_some (program.unit key.unit) s (entered_at program choice again key args result f s)

-- ---- effects of the machine

-- handle 1 is the output and 2 the errors; another one takes nothing
abbrev pub written : ℕ → List ℕ → State → State
written handle bytes s =
    if handle == 1 then record s { out = s.out ++ bytes } else (if handle == 2 then record s { err = s.err ++ bytes } else s)

-- bytes are written: the handle, the segment, the offset and how many
abbrev pub write_act : List ℕ → State → Outcome
write_act (handle ∷ segment ∷ offset ∷ count ∷ []) s =
    with_found (bytes_at s.cells (record { segment = segment; offset = offset }) 0 count) s (λ bytes. Next (written handle bytes s))
write_act args s = Over (Undefined 1) s

-- a byte is read and given as a word, or FFFFh at the end of the input
abbrev pub read_act : Choice → Frame → List ℕ → Option FlatResult → List ℕ → State → Outcome
read_act choice f [] result [] s = give choice f result (word_bytes 65535) s
read_act choice f [] result (byte ∷ input) s = give choice f result (word_bytes byte) (record s { input = input })
read_act choice f (arg ∷ args) result input s = Over (Undefined 1) s

abbrev pub end_act : List ℕ → State → Outcome
end_act (code ∷ []) s = Over (Ended (code % 256)) s
end_act args s = Over (Undefined 1) s

-- the overlay buffer is no part of what flat code sees
abbrev pub clear_act : List ℕ → State → Outcome
clear_act [] s = Next s
clear_act (arg ∷ args) s = Over (Undefined 1) s

abbrev pub flag_act : List ℕ → State → Outcome
flag_act [] s = Next (record s { flag = true })
flag_act (arg ∷ args) s = Over (Undefined 1) s

-- numbers 0 to 4 are acts, the others routines
abbrev pub runtime_of : FlatProgram → Choice → Does → ℕ → List ℕ → Option FlatResult → Frame → State → Outcome
runtime_of program choice again zero args result f s = write_act args s
runtime_of program choice again (suc zero) args result f s = read_act choice f args result s.input s
runtime_of program choice again (suc (suc zero)) args result f s = end_act args s
runtime_of program choice again (suc (suc (suc zero))) args result f s = clear_act args s
runtime_of program choice again (suc (suc (suc (suc zero)))) args result f s = flag_act args s
runtime_of program choice again (suc (suc (suc (suc (suc n))))) args result f s = called program choice again args result f s (runtime_key (5 + n))
