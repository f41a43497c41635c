-- The routine that writes a string.
use Rattle.std.proofs.Common.{◌≡◌, ℕ, ◌+◌, ◌<◌, ◌≤◌, List, [], ◌∷◌, ◌++◌, length, Ok, pos, negsuc, refl, sym, ap, subst, ◌∙◌, arith}
use Rattle.common_values.specs.integers.Words.{w16, wrapping_add, cast_signed}
use Rattle.common_values.specs.Written.{blanks_due, padded}
use Rattle.flat_code.specs.declared.memory.Cell.TheVariants.{Known}
use Rattle.flat_code.specs.Tree.{End, ◌then◌}
use Rattle.flat_code.specs.Memory.{Cells, address_of, place_after}
use Rattle.flat_code.specs.Program.{FlatProgram, Choice, UnitCode, text_unit, runtime_key}
use Rattle.flat_code.specs.Meaning.{Frame, State, activation_bytes, frame_of, stack_top}
use Rattle.flat_code.specs.Legal.{StackFits}
use Rattle.flat_code.specs.Gives.{AreWords, HasStack}
use Rattle.runtime_proofs.specs.routine_proofs.Activation.{Slot, Shut, Free, Holds, Activation, IsPlaced}
use Rattle.runtime_proofs.specs.routine_proofs.Straight.{Onward, straight, code_size}
use Rattle.runtime_proofs.specs.routine_proofs.Comes.{Does}
use Rattle.runtime_proofs.specs.routine_proofs.Entry.{entered, memory_without}
use Rattle.runtime_proofs.specs.routine_proofs.Specifications.{IsHeld}
use Rattle.runtime_proofs.proofs.routine_proofs.Replies.{next_of}
use Rattle.runtime_proofs.proofs.routine_proofs.Doing.{weaker-does, then-does, straight-does}
use Rattle.runtime_proofs.proofs.routine_proofs.Calls.{call-ends, placed, starts}
use Rattle.runtime_proofs.specs.strings_in_memory.Strings.{HasBytes, HasString, CanMove, place}
use Rattle.runtime_proofs.proofs.strings_in_memory.Cells.{byte-read, plus-none}
use Rattle.runtime_proofs.specs.string_loops.Pieces.{behind}
use Rattle.runtime_proofs.proofs.string_loops.Seen.{set-so}
use Rattle.runtime_proofs.proofs.string_loops.Bytes.{address-shift}
use Rattle.runtime_proofs.proofs.string_loops.Entry.{string-inside}
use Rattle.runtime_proofs.specs.text_memory.Data.{HasItem, HasText}
use Rattle.runtime_proofs.proofs.text_memory.Buffer.{item-inside, item-left}
use Rattle.rt_text.specs.write_text.Showing.{begin_item, set_due, print_text}
use Rattle.rt_text.specs.write_text.Routines.{begin_string, write_string_routine}
use Rattle.rt_text.specs.write_text.Specifications.{write_string_number, IsRoom, Writes, CanWrite, WritesString}
use Rattle.rt_text.proofs.write_text.Padded.{Writing, Showing, Shown, shows, begin-does}

module _ (program : FlatProgram) (choice : Choice) (own : Frame) (sp : ℕ) (is_placed : IsPlaced choice own sp 12) (e : Activation) (segment offset w : ℕ) where
  -- in the routine, once its words are there
  abbrev at : Writing
  at s f n d t l m o = record e { words = Holds segment ∷ Holds offset ∷ Holds w ∷ Shut ∷ Shut ∷ Shut ∷ Holds s ∷ Holds f ∷ Holds n ∷ Holds d ∷ Holds choice.data_segment ∷ Holds t ∷ Holds l ∷ []; memory = m; out = o }

  -- and while they come
  abbrev begun : Slot → Slot → Slot → Slot → Slot → Slot → Slot → Cells → List ℕ → Activation
  begun s f n d i t l m o = record e { words = Holds segment ∷ Holds offset ∷ Holds w ∷ Shut ∷ Shut ∷ Shut ∷ s ∷ f ∷ n ∷ d ∷ i ∷ t ∷ l ∷ []; memory = m; out = o }

  pub showing : Showing choice own 12 w at
  showing = record {
    width = λ s f n d t l m o. refl;
    segment = λ s f n d t l m o. refl;
    offset = λ s f n d t l m o. refl;
    count = λ s f n d t l m o. refl;
    due = λ s f n d t l m o. refl;
    with_due = λ s f n d t l m o v. refl;
    moving = λ s n d o. record {
      target = λ t f k m plus. refl;
      source = λ t f k m plus. refl;
      memory = λ t f k m. refl;
      to_word = λ t f k m. refl;
      from_word = λ t f k m. refl;
      left_word = λ t f k m. refl;
      with_to = λ t f k m v. refl;
      with_from = λ t f k m v. refl;
      with_left = λ t f k m v. refl;
      with_memory = λ t f k m c. refl;
    };
    memory = λ s f n d t l m o. refl;
    printed = λ s f n d t l m o more. refl;
  }

  -- the place and the length of the string
  string-does : (n : ℕ) (m : Cells) (o : List ℕ) → n < 256 → m (address_of (place segment offset) 0) ≡ Known n →
      Does program choice own sp begin_string 0 (code_size begin_string) (begun Free Free Free Free Free Free Free m o) Onward (begun (Holds segment) (Holds offset) (Holds n) Free Free Free Free m o)
  string-does n m o short has =
      let a = begun (Holds segment) (Holds offset) Free Free Free Free Free m o in
      let b = begun (Holds segment) (Holds offset) (Holds n) Free Free Free Free m o in
      straight-does program choice own sp 12 is_placed begin_string (begun Free Free Free Free Free Free Free m o) Onward b
      (set-so choice own 12 (negsuc 5) (behind (negsuc 3) 0) End a b n (byte-read m (place_after (place segment offset) 0) 0 n (ap m (plus-none segment offset 0) ∙ has) short) refl)

  module _ (is_text : own.unit ≡ text_unit) (item ahead : ℕ) (there : HasText program choice item ahead) (w_small : w < 65536) (text : List ℕ) (m : Cells) (buffer : HasItem choice item m) (has : HasString m (place segment offset) text)
      (apart : (i j : ℕ) → i < 512 → j < 1 + length text → address_of (place choice.data_segment item) i ≡ address_of (place segment offset) j → ⊥) where
    abbrev target : ℕ
    target = wrapping_add w16 item 255

    pub can : CanMove (place choice.data_segment target) (place segment offset) (1 + length text)
    can i j p q e = let short = has.short in apart (255 + i) j (omega (arith, p, q, short)) q (sym (address-shift choice.data_segment item 255 i) ∙ e)

    pub shown : (o : List ℕ) → (b : Shown program choice own sp 12 is_placed is_text item ahead there w at showing text segment offset m buffer has.short has.bytes can (blanks_due (cast_signed w16 w) (length text)) o) ×
        Does program choice own sp write_string_routine.body 512 8192 (begun Free Free Free Free Free Free Free m o) Onward (at segment b.f' (length text) b.d' b.t' b.l' b.memory (o ++ padded (cast_signed w16 w) text))
    shown o =
        let n = length text in
        let a0 = begun Free Free Free Free Free Free Free m o in
        let a1 = begun (Holds segment) (Holds offset) (Holds n) Free Free Free Free m o in
        let a2 = begun (Holds segment) (Holds offset) (Holds n) (Holds 0) Free Free (Holds n) m o in
        let a3 = begun (Holds segment) (Holds offset) (Holds n) (Holds 0) Free (Holds target) (Holds n) m o in
        let a4 = at segment offset n 0 target n m o in
        let first = string-does n m o has.short has.size in
        let second = begin-does program choice own sp 12 is_placed is_text item ahead there w at showing a1 a2 a3 a4 refl refl refl (record { flag = refl; input = refl; out = refl; err = refl }) in
        let third = shows program choice own sp 12 is_placed is_text item ahead there w at showing text segment offset m buffer has.short has.bytes can o w_small in
        let b = third.0 in
        let a5 = at segment b.f' n b.d' b.t' b.l' b.memory (o ++ padded (cast_signed w16 w) text) in
        let rest = then-does program choice own sp begin_item (set_due then print_text) 0 12 512 7812 a1 a4 Onward a5 second third.1 in (
          b,
          weaker-does program choice own sp write_string_routine.body (0 + (0 + 512)) (code_size begin_string + (12 + 7812)) 512 8192 a0 Onward a5 (omega arith) (omega arith)
              (then-does program choice own sp begin_string (begin_item then (set_due then print_text)) 0 (code_size begin_string) (0 + 512) (12 + 7812) a0 a1 Onward a5 first rest),
        )

-- ---- the promise

pub writes-string : (program : FlatProgram) (choice : Choice) (item ahead : ℕ) (unit : UnitCode) → StackFits program choice → HasText program choice item ahead → IsHeld program (runtime_key write_string_number) unit write_string_routine → WritesString program choice item
writes-string program choice item ahead unit fits there held_so segment offset width text f s words stack can =
    let key = runtime_key write_string_number in
    let room : activation_bytes write_string_routine ≤ f.sp = omega (arith, stack.room) in
    let args = segment ∷ offset ∷ width ∷ [] in
    let own = frame_of key.unit unit write_string_routine f in
    let here = placed program choice key unit write_string_routine held_so fits args f s refl room stack.inside in
    let start = entered choice f.sp 14 args s in
    let m = memory_without choice f.sp s.cells in
    let has = string-inside choice f.sp s.cells (place segment offset) text can.source_off can.source in
    let buffer = item-inside choice item f.sp (stack_top program) stack.inside there.item_off s.cells can.buffer in
    let done = shown program choice own f.sp here start segment offset width refl item ahead there words.1.1.0 text m buffer has can.apart s.out in
    let b = done.0 in
    call-ends program choice key unit write_string_routine held_so fits args f s refl room stack.inside (IsRoom choice item) (Writes choice item (padded (cast_signed w16 width) text) s) 512 8192 Onward
    (at program choice own f.sp here start segment offset width segment b.f' (length text) b.d' b.t' b.l' b.memory (s.out ++ padded (cast_signed w16 width) text)) [] tt
    (done.1 _ (starts program choice key unit write_string_routine held_so fits args f s refl room stack.inside 3 words))
    refl b.others
    (λ after left. record {
      nothing = refl;
      out = left.out;
      err = left.err;
      input = left.input;
      flag = left.flag;
      buffer = item-left choice item f.sp (stack_top program) stack.inside there.item_off b.memory after.cells left.cells b.buffer_is;
    })
