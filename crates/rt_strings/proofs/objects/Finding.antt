-- The routine that finds a method by the class of an instance.
use Rattle.std.proofs.Common.{◌≡◌, ℕ, ◌+◌, ◌≤◌, ◌<◌, List, [], ◌∷◌, Ok, pos, negsuc, refl, ap, ◌∙◌, arith}
use Rattle.common_values.specs.integers.Words.{w16, wrapping_add, wrapping_sub, low_byte, high_byte, word_from_bytes}
use Rattle.flat_code.specs.declared.memory.Place.{Place}
use Rattle.flat_code.specs.declared.tree.Address.TheVariants.{Through}
use Rattle.flat_code.specs.declared.tree.FlatOp.TheVariants as op
use Rattle.flat_code.specs.Tree.{Number, Word, Op, Code, End}
use Rattle.flat_code.specs.Memory.{Cells, Found, place_after, word_bytes, far_bytes}
use Rattle.flat_code.specs.Program.{FlatProgram, Choice, UnitCode, runtime_key}
use Rattle.flat_code.specs.Meaning.{Frame, activation_bytes, frame_of}
use Rattle.flat_code.specs.Legal.{StackFits}
use Rattle.flat_code.specs.Gives.{KeepsRest}
use Rattle.runtime_proofs.specs.routine_proofs.Activation.{Slot, Shut, Free, Holds, Activation, IsPlaced}
use Rattle.runtime_proofs.specs.routine_proofs.Straight.{Onward, Failing, seen_value, straight, code_size}
use Rattle.runtime_proofs.specs.routine_proofs.Comes.{Does}
use Rattle.runtime_proofs.specs.routine_proofs.Entry.{entered, memory_without}
use Rattle.runtime_proofs.specs.routine_proofs.Specifications.{IsHeld}
use Rattle.runtime_proofs.proofs.routine_proofs.Replies.{next_of, taken-so, other-so}
use Rattle.runtime_proofs.proofs.routine_proofs.Doing.{weaker-does, straight-does}
use Rattle.runtime_proofs.proofs.routine_proofs.Calls.{call-ends, call-raises, placed, starts}
use Rattle.runtime_proofs.specs.strings_in_memory.Strings.{HasBytes, place}
use Rattle.runtime_proofs.specs.string_loops.Pieces.{word}
use Rattle.runtime_proofs.proofs.string_loops.Seen.{op-so, set-so, raise-so}
use Rattle.rt_strings.specs.objects.Routines.{class_of_method, method_code, method_routine}
use Rattle.rt_strings.specs.objects.Specifications.{method_number, FindsMethod}
use Rattle.rt_strings.proofs.memory.Words.{plus-some, bytes-plus, bytes-inside, pair-read, word-read}

-- the bytes of a far pointer, from its words as they were read
abbrev read_again : ℕ → ℕ
read_again v = word_from_bytes (low_byte v) (high_byte v)

pointer-again : (p : Place) → (let r : Found (List ℕ) = Ok (low_byte (read_again p.offset) ∷ high_byte (read_again p.offset) ∷ low_byte (read_again p.segment) ∷ high_byte (read_again p.segment) ∷ []) in r ≡ Ok (far_bytes p))
pointer-again p = again p.offset p.segment
  where
    again : (o s : ℕ) → (let r : Found (List ℕ) = Ok (low_byte (read_again o) ∷ high_byte (read_again o) ∷ low_byte (read_again s) ∷ high_byte (read_again s) ∷ []) in r ≡ Ok (low_byte o ∷ high_byte o ∷ low_byte s ∷ high_byte s ∷ []))
    again o s =
        let e0 : low_byte (read_again o) ≡ low_byte o = omega arith in
        let e1 : high_byte (read_again o) ≡ high_byte o = omega arith in
        let e2 : low_byte (read_again s) ≡ low_byte s = omega arith in
        let e3 : high_byte (read_again s) ≡ high_byte s = omega arith in
        cc

module _ (program : FlatProgram) (choice : Choice) (own : Frame) (sp : ℕ) (is_placed : IsPlaced choice own sp 16) (e : Activation) (segment o place_of_class entry ds : ℕ) (m : Cells) where
  -- in the routine: the offset of the instance or of its class field, and what stands below BP
  abbrev at : ℕ → Slot → Slot → Slot → Slot → Activation
  at k table_segment table method_segment method = record e { words = Holds segment ∷ Holds k ∷ Holds place_of_class ∷ Holds entry ∷ Holds ds ∷ Shut ∷ Shut ∷ Shut ∷ table_segment ∷ table ∷ method_segment ∷ method ∷ []; memory = m }

  abbrev begin : Activation
  begin = at o Free Free Free Free

  abbrev field : ℕ
  field = wrapping_add w16 o place_of_class

  -- once the pointer leads to the class field
  abbrev led : Activation
  led = at field Free Free Free Free

  abbrev tested : Code
  tested = next_of method_code

  leads : straight choice own 16 method_code begin ≡ straight choice own 16 tested led
  leads = raise-so choice own 16 (pos 12) (word (pos 10)) tested begin led o place_of_class refl refl refl

  class-so : (class : ℕ) (a b : Slot) → class < 65536 → HasBytes m (place segment field) 0 (word_bytes class) → seen_value choice own 16 (at field a b Free Free) class_of_method ≡ Ok class
  class-so class a b small has = word-read m (place_after (place segment field) 0) class small (bytes-plus m segment field 0 0 (word_bytes class) has)

  -- no class
  refused : HasBytes m (place segment field) 0 (word_bytes 0) → Does program choice own sp method_code 0 64 begin (Failing 210) led
  refused has =
      weaker-does program choice own sp method_code 0 (code_size method_code) 0 64 begin (Failing 210) led (omega arith) (omega arith)
      (straight-does program choice own sp 16 is_placed method_code begin (Failing 210) led
      (leads ∙ other-so choice own 16 tested led 0 (record { exit = Failing 210; there = led }) (class-so 0 Free Free (omega arith) has) refl refl))

  module _ (vmt : ℕ) (method : Place) (vmt_small : vmt < 65535) (has : HasBytes m (place segment field) 0 (word_bytes (vmt + 1))) (holds : HasBytes m (place_after (place ds vmt) entry) 0 (far_bytes method)) where
    abbrev table : ℕ
    table = wrapping_add w16 vmt entry

    abbrev found : Activation
    found = at field (Holds ds) (Holds table) (Holds (read_again method.segment)) (Holds (read_again method.offset))

    lower : seen_value choice own 16 (at field (Holds ds) (Holds table) Free Free) (Word (Through (negsuc 3) 0)) ≡ Ok (read_again method.offset)
    lower = pair-read m (place_after (place ds table) 0) (low_byte method.offset) (high_byte method.offset)
        (ap m (plus-some ds table 0 0) ∙ holds.0) holds.1 (ap m (plus-some ds table 0 1) ∙ holds.2.0) holds.2.1

    upper : seen_value choice own 16 (at field (Holds ds) (Holds table) Free (Holds (read_again method.offset))) (Word (Through (negsuc 3) 2)) ≡ Ok (read_again method.segment)
    upper = pair-read m (place_after (place ds table) 2) (low_byte method.segment) (high_byte method.segment)
        (ap m (plus-some ds table 2 0) ∙ holds.2.2.0) holds.2.2.1 (ap m (plus-some ds table 2 1) ∙ holds.2.2.2.0) holds.2.2.2.1

    table-so : seen_value choice own 16 (at field (Holds ds) Free Free Free) (Op op.Add (Op op.Sub class_of_method (Number 1)) (word (pos 8))) ≡ Ok table
    table-so =
        let a = at field (Holds ds) Free Free Free in
        let less : wrapping_sub w16 (vmt + 1) 1 ≡ vmt = omega (arith, vmt_small) in
        let before = op-so choice own 16 op.Sub class_of_method (Number 1) a (vmt + 1) 1 (class-so (vmt + 1) (Holds ds) Free (omega (arith, vmt_small)) has) refl in
        op-so choice own 16 op.Add (Op op.Sub class_of_method (Number 1)) (word (pos 8)) a (wrapping_sub w16 (vmt + 1) 1) entry before refl
        ∙ ap (λ n. let r : Found ℕ = Ok (wrapping_add w16 n entry) in r) less

    abbrev after_test : Code
    after_test = next_of tested

    rest-so : straight choice own 16 after_test led ≡ Ok (record { exit = Onward; there = found })
    rest-so =
        set-so choice own 16 (negsuc 1) (word (pos 6)) (next_of after_test) led (at field (Holds ds) Free Free Free) ds refl refl
        ∙ set-so choice own 16 (negsuc 3) (Op op.Add (Op op.Sub class_of_method (Number 1)) (word (pos 8))) (next_of (next_of after_test)) (at field (Holds ds) Free Free Free) (at field (Holds ds) (Holds table) Free Free) table table-so refl
        ∙ set-so choice own 16 (negsuc 7) (Word (Through (negsuc 3) 0)) (next_of (next_of (next_of after_test))) (at field (Holds ds) (Holds table) Free Free) (at field (Holds ds) (Holds table) Free (Holds (read_again method.offset))) (read_again method.offset) lower refl
        ∙ set-so choice own 16 (negsuc 5) (Word (Through (negsuc 3) 2)) End (at field (Holds ds) (Holds table) Free (Holds (read_again method.offset))) found (read_again method.segment) upper refl

    finds : Does program choice own sp method_code 0 64 begin Onward found
    finds =
        weaker-does program choice own sp method_code 0 (code_size method_code) 0 64 begin Onward found (omega arith) (omega arith)
        (straight-does program choice own sp 16 is_placed method_code begin Onward found
        (leads ∙ taken-so choice own 16 tested led (vmt + 1) (record { exit = Onward; there = found }) (class-so (vmt + 1) Free Free (omega (arith, vmt_small)) has) (λ z. omega (arith, z)) rest-so))

-- ---- the promise

pub finds-method : (program : FlatProgram) (choice : Choice) (unit : UnitCode) → StackFits program choice → IsHeld program (runtime_key method_number) unit method_routine → FindsMethod program choice
finds-method program choice unit fits held_so segment o c entry ds f s words stack =
    let key = runtime_key method_number in
    let room : activation_bytes method_routine ≤ f.sp = omega (arith, stack.room) in
    let args = segment ∷ o ∷ c ∷ entry ∷ ds ∷ [] in
    let own = frame_of key.unit unit method_routine f in
    let here = placed program choice key unit method_routine held_so fits args f s refl room stack.inside in
    let start = entered choice f.sp 8 args s in
    let m = memory_without choice f.sp s.cells in
    let begins = starts program choice key unit method_routine held_so fits args f s refl room stack.inside 5 words in
    let class_place = place_after (place segment o) c in (
      λ vmt method small class table.
          let has = bytes-inside choice f.sp s.cells class_place (word_bytes (vmt + 1)) class.off class.there in
          let holds = bytes-inside choice f.sp s.cells (place_after (place ds vmt) entry) (far_bytes method) table.off table.there in
          call-ends program choice key unit method_routine held_so fits args f s refl room stack.inside
          (λ address. ⊥) (λ after given. (given ≡ far_bytes method) × KeepsRest s after) 0 64 Onward (found program choice own f.sp here start segment o c entry ds m vmt method small has holds) (far_bytes method) tt
          (finds program choice own f.sp here start segment o c entry ds m vmt method small has holds _ begins)
          (pointer-again method)
          (λ x free. refl)
          (λ after left. (refl, record { flag = left.flag; input = left.input; out = left.out; err = left.err })),
      λ class.
          let has = bytes-inside choice f.sp s.cells class_place (word_bytes 0) class.off class.there in
          call-raises program choice key unit method_routine held_so fits args f s refl room stack.inside
          (λ after code. (code ≡ 210) × KeepsRest s after) 0 64 210 (led program choice own f.sp here start segment o c entry ds m)
          (refused program choice own f.sp here start segment o c entry ds m has _ begins)
          (λ after same. (refl, record { flag = same.0; input = same.1; out = same.2; err = same.3 })),
    )
