-- Str: the routine as a whole, and its promise.
use Rattle.std.proofs.Common.{◌≡◌, ℕ, zero, suc, ◌+◌, ◌-◌, ◌<◌, ◌≤◌, inl, inr, List, [], ◌∷◌, ◌++◌, length, take, refl, sym, ap, subst, ◌∙◌, arith, length-append}
use Rattle.std.specs.Prelude.{min, replicate}
use Rattle.std.proofs.lemmas.List.{length-replicate}
use Rattle.common_values.specs.integers.Words.{w16, wrapping_add, cast_signed}
use Rattle.common_values.specs.Written.{blanks_due}
use Rattle.flat_code.specs.Tree.{◌then◌}
use Rattle.flat_code.specs.Program.{FlatProgram, Choice, UnitCode, runtime_key}
use Rattle.flat_code.specs.Meaning.{activation_bytes, frame_of, stack_top}
use Rattle.flat_code.specs.Legal.{StackFits}
use Rattle.runtime_proofs.specs.routine_proofs.Activation.{Holds}
use Rattle.runtime_proofs.specs.routine_proofs.Straight.{Onward}
use Rattle.runtime_proofs.specs.routine_proofs.Entry.{entered, memory_without}
use Rattle.runtime_proofs.specs.routine_proofs.Specifications.{IsHeld}
use Rattle.runtime_proofs.proofs.routine_proofs.Doing.{weaker-does, then-does}
use Rattle.runtime_proofs.proofs.routine_proofs.Calls.{call-ends, placed, starts}
use Rattle.runtime_proofs.specs.strings_in_memory.Strings.{HasString, IsIn, place}
use Rattle.runtime_proofs.proofs.string_loops.Entry.{reached-inside, string-left}
use Rattle.runtime_proofs.specs.text_memory.Data.{HasText}
use Rattle.runtime_proofs.proofs.text_memory.Buffer.{item-inside, item-left}
use Rattle.rt_text.specs.write_numbers.Routines.{make_digits}
use Rattle.rt_text.specs.str_routines.Routines.{take_room, fill_variable, str_routine}
use Rattle.rt_text.specs.str_routines.Specifications.{str_number, str_of, GetsText, MakesText}
use Rattle.rt_text.proofs.str_routines.MakingDigits as making
use Rattle.rt_text.proofs.str_routines.RoomTaking as taking
use Rattle.rt_text.proofs.str_routines.Filling as filling
use Rattle.rt_text.proofs.str_routines.Standing as standing
use Rattle.rt_text.proofs.str_routines.Texts.{parts, str-parts}

taken-length : (k : ℕ) (xs : List ℕ) → k ≤ length xs → length (take k xs) ≡ k
taken-length zero xs h = refl
taken-length (suc k) [] h = absurd (omega (arith, h))
taken-length (suc k) (x ∷ xs) h = ap suc (taken-length k xs (omega (arith, h)))

pub makes-text : (program : FlatProgram) (choice : Choice) (item ahead : ℕ) (unit : UnitCode) → StackFits program choice → HasText program choice item ahead → IsHeld program (runtime_key str_number) unit str_routine → MakesText program choice item
makes-text program choice item ahead unit fits there held_so ts t size low high width f s are stack can =
    let key = runtime_key str_number in
    let room : activation_bytes str_routine ≤ f.sp = omega (arith, stack.room) in
    let args = ts ∷ t ∷ size ∷ low ∷ high ∷ width ∷ [] in
    let own = frame_of key.unit unit str_routine f in
    let here = placed program choice key unit str_routine held_so fits args f s refl room stack.inside in
    let start = entered choice f.sp 18 args s in
    let m = memory_without choice f.sp s.cells in
    let inside = item-inside choice item f.sp (stack_top program) stack.inside there.item_off s.cells can.buffer in
    let reached = reached-inside choice f.sp s.cells (place ts t) (1 + size) can.target_off can.target in
    let b = making.digits-made program choice own f.sp here refl item ahead there start ts t size width m inside s.out low high are.1.1.1.0 are.1.1.1.1.0 in
    let n = length b.text in
    let few = b.few in
    let small = can.small in
    let d = min (blanks_due (cast_signed w16 width) n) size in
    let r = min (size - d) n in
    let whole : d + r ≤ size = omega arith in
    let exact = taken-length r b.text (omega arith) in
    let many = length-replicate {A = ℕ} d 32 in
    let from = wrapping_add w16 item b.before in
    let k = standing.digits choice item ts t size b.before m b.text inside b.small b.few b.ends can.small reached can.apart in
    let second = taking.room-taken program choice own f.sp here start ts t size width from n k s.out can.small (omega (arith, few)) are.1.1.1.1.1.0 b.y' b.g' in
    let third = filling.filled-so program choice own f.sp here refl item ahead there start ts size width n s.out t from d r k (omega (arith, whole, small))
    (standing.digits-reached choice item ts t size b.before m b.text inside b.small b.few b.ends can.small reached can.apart 0 (omega arith))
    (replicate d 32) (take r b.text) many exact
    (standing.blanks-there choice item ts t size b.before m b.text inside b.small b.few b.ends can.small reached can.apart d r whole)
    (standing.blanks-room choice item ts t size b.before m b.text inside b.small b.few b.ends can.small reached can.apart d r whole)
    (standing.blanks-can choice item ts t size b.before m b.text inside b.small b.few b.ends can.small reached can.apart d r whole)
    (standing.bytes-there choice item ts t size b.before m b.text inside b.small b.few b.ends can.small reached can.apart d r whole)
    (standing.bytes-room choice item ts t size b.before m b.text inside b.small b.few b.ends can.small reached can.apart d r whole (omega (arith, exact)))
    (standing.bytes-can choice item ts t size b.before m b.text inside b.small b.few b.ends can.small reached can.apart d r whole (omega (arith, exact)) (omega (arith, exact))) in
    let a1 = taking.at program choice own f.sp here start ts t size width from n k s.out can.small (omega (arith, few)) are.1.1.1.1.1.0 b.y' b.g' in
    let a2 = taking.at program choice own f.sp here start ts t size width from n k s.out can.small (omega (arith, few)) are.1.1.1.1.1.0 d r in
    let memory = standing.with_bytes choice item ts t size b.before m b.text inside b.small b.few b.ends can.small reached can.apart d r whole in
    let a3 = filling.at program choice own f.sp here refl item ahead there start ts size width n s.out third.t' third.f' 0 (Holds choice.data_segment) (Holds third.b') 0 (Holds ts) (Holds third.v') memory in
    let rest = then-does program choice own f.sp take_room fill_variable 0 64 260 5400 a1 a2 Onward a3 second third.does in
    let does = weaker-does program choice own f.sp str_routine.body (10 + (0 + 260)) (800 + (64 + 5400)) 544 9216 start Onward a3 (omega arith) (omega arith)
    (then-does program choice own f.sp make_digits (take_room then fill_variable) 10 800 (0 + 260) (64 + 5400) start a1 Onward a3 b.does rest) in
    let value : parts d r b.text ≡ str_of size low high width = sym (str-parts size width b.text) ∙ ap (λ text. take size (replicate (blanks_due (cast_signed w16 width) (length text)) 32 ++ text)) b.text_is in
    let long : d + length (take r b.text) ≡ length (str_of size low high width) = sym (length-append (replicate d 32) (take r b.text) ∙ ap (λ x. x + length (take r b.text)) many) ∙ ap length value in
    let stands = subst (λ text. HasString memory (place ts t) text) value (standing.text-stands choice item ts t size b.before m b.text inside b.small b.few b.ends can.small reached can.apart d r whole exact) in
    let item_stays = standing.item-stays choice item ts t size b.before m b.text inside b.small b.few b.ends can.small reached can.apart d r whole (omega (arith, exact)) in
    let off = λ (i : ℕ) (h : i < 1 + length (str_of size low high width)). can.target_off i (omega (arith, h, long, exact, whole)) in
    call-ends program choice key unit str_routine held_so fits args f s refl room stack.inside _ (GetsText choice item (place ts t) (str_of size low high width) s) 544 9216 Onward a3 [] tt
    (does _ (starts program choice key unit str_routine held_so fits args f s refl room stack.inside 6 are))
    refl
    (λ x free. standing.others-stay choice item ts t size b.before m b.text inside b.small b.few b.ends can.small reached can.apart d r whole (omega (arith, exact)) x (λ h. free (inl h)) (λ h. free (inr (subst (λ l. IsIn (place ts t) (1 + l) x) long h))))
    (λ after left. record {
      nothing = refl;
      value = string-left choice f.sp memory after.cells (place ts t) (str_of size low high width) left.cells off stands;
      buffer = item-left choice item f.sp (stack_top program) stack.inside there.item_off memory after.cells left.cells item_stays;
      rest = record { flag = left.flag; input = left.input; out = left.out; err = left.err };
    })
