-- The routines that always succeed.
use Rattle.std.proofs.Common.{ℕ, ◌+◌, ◌≤◌, List, [], ◌∷◌, false, refl, arith}
use Rattle.flat_code.specs.Tree.{End}
use Rattle.flat_code.specs.Memory.{word_bytes, laid}
use Rattle.flat_code.specs.Program.{FlatProgram, Choice, UnitCode, runtime_key}
use Rattle.flat_code.specs.Meaning.{activation_bytes, frame_of, stack_top}
use Rattle.flat_code.specs.Legal.{StackFits}
use Rattle.runtime_proofs.specs.routine_proofs.Activation.{Activation}
use Rattle.runtime_proofs.specs.routine_proofs.Straight.{Onward}
use Rattle.runtime_proofs.specs.routine_proofs.Entry.{entered, memory_without}
use Rattle.runtime_proofs.specs.routine_proofs.Specifications.{IsHeld}
use Rattle.runtime_proofs.proofs.routine_proofs.Doing.{weaker-does, then-does, straight-does, clear-does}
use Rattle.runtime_proofs.proofs.routine_proofs.Calls.{call-ends, placed, starts}
use Rattle.runtime_proofs.specs.strings_in_memory.Strings.{place}
use Rattle.runtime_proofs.proofs.string_loops.Entry.{reached-inside}
use Rattle.runtime_proofs.proofs.text_memory.Buffer.{off-lower}
use Rattle.heap_runtime.specs.overlay.Data.{HasOverlay}
use Rattle.heap_runtime.specs.overlay.Routines.{set_result, clear_buffer, set_buffer_routine, clear_buffer_routine}
use Rattle.heap_runtime.specs.overlay.Specifications.{set_buffer_number, clear_buffer_number, IsResult, SetsResult, SetsBuffer, ClearsBuffer}
use Rattle.heap_runtime.proofs.overlay.Results.{datum-at, result-so, others-stay, result-left}

pub sets-buffer : (program : FlatProgram) (choice : Choice) (result name : ℕ) (unit : UnitCode) → StackFits program choice → HasOverlay program choice result name → IsHeld program (runtime_key set_buffer_number) unit set_buffer_routine → SetsBuffer program choice result
sets-buffer program choice result name unit fits there held_so low high f s are stack reached =
    let key = runtime_key set_buffer_number in
    let room : activation_bytes set_buffer_routine ≤ f.sp = omega (arith, stack.room) in
    let args = low ∷ high ∷ [] in
    let own = frame_of key.unit unit set_buffer_routine f in
    let here = placed program choice key unit set_buffer_routine held_so fits args f s refl room stack.inside in
    let a = entered choice f.sp 0 args s in
    let m = memory_without choice f.sp s.cells in
    let p = place choice.data_segment result in
    let b : Activation = record a { memory = laid m p 0 (word_bytes 0) } in
    let off = off-lower choice f.sp (stack_top program) p 2 stack.inside there.result_off in
    let small = there.result_small in
    let at = datum-at choice own 10 refl a 0 result (omega (arith, small)) there.result_is in
    let does = weaker-does program choice own f.sp set_buffer_routine.body 0 2 1 64 a Onward b (omega arith) (omega arith)
    (straight-does program choice own f.sp 10 here set_buffer_routine.body a Onward b (result-so choice own 10 a p 0 End refl at (reached-inside choice f.sp s.cells p 2 off reached))) in
    call-ends program choice key unit set_buffer_routine held_so fits args f s refl room stack.inside (IsResult choice result) (SetsResult choice result 0 false s) 1 64 Onward b [] tt
    (does _ (starts program choice key unit set_buffer_routine held_so fits args f s refl room stack.inside 2 are))
    refl (others-stay choice result 0 m)
    (λ after left. record {
      nothing = refl;
      result_is = result-left choice f.sp result 0 m after.cells off left.cells;
      flag = left.flag;
      input = left.input;
      out = left.out;
      err = left.err;
    })

pub clears-buffer : (program : FlatProgram) (choice : Choice) (result name : ℕ) (unit : UnitCode) → StackFits program choice → HasOverlay program choice result name → IsHeld program (runtime_key clear_buffer_number) unit clear_buffer_routine → ClearsBuffer program choice result
clears-buffer program choice result name unit fits there held_so f s stack reached =
    let key = runtime_key clear_buffer_number in
    let room : activation_bytes clear_buffer_routine ≤ f.sp = omega (arith, stack.room) in
    let args : List ℕ = [] in
    let own = frame_of key.unit unit clear_buffer_routine f in
    let here = placed program choice key unit clear_buffer_routine held_so fits args f s refl room stack.inside in
    let a = entered choice f.sp 0 args s in
    let m = memory_without choice f.sp s.cells in
    let p = place choice.data_segment result in
    let b : Activation = record a { memory = laid m p 0 (word_bytes 0) } in
    let off = off-lower choice f.sp (stack_top program) p 2 stack.inside there.result_off in
    let small = there.result_small in
    let at = datum-at choice own 6 refl a 0 result (omega (arith, small)) there.result_is in
    let set = straight-does program choice own f.sp 6 here (set_result 0 End) a Onward b (result-so choice own 6 a p 0 End refl at (reached-inside choice f.sp s.cells p 2 off reached)) in
    let does = weaker-does program choice own f.sp clear_buffer_routine.body (1 + 0) (1 + 2) 1 64 a Onward b (omega arith) (omega arith)
    (then-does program choice own f.sp clear_buffer (set_result 0 End) 1 1 0 2 a a Onward b (clear-does program choice own f.sp a) set) in
    call-ends program choice key unit clear_buffer_routine held_so fits args f s refl room stack.inside (IsResult choice result) (SetsResult choice result 0 false s) 1 64 Onward b [] tt
    (does _ (starts program choice key unit clear_buffer_routine held_so fits args f s refl room stack.inside 0 tt))
    refl (others-stay choice result 0 m)
    (λ after left. record {
      nothing = refl;
      result_is = result-left choice f.sp result 0 m after.cells off left.cells;
      flag = left.flag;
      input = left.input;
      out = left.out;
      err = left.err;
    })
