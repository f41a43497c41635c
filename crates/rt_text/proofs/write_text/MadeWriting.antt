-- The routines that write characters and Booleans.
use Rattle.std.proofs.Common.{◌≡◌, ℕ, zero, suc, ◌+◌, ◌<◌, ◌≤◌, inl, inr, false, List, [], ◌∷◌, ◌++◌, length, Ok, pos, negsuc, refl, sym, ap, subst, ◌∙◌, arith}
use Rattle.std.specs.Prelude.{codes, ◌==◌, not}
use Rattle.std.proofs.lemmas.Bool.{cases_lt}
use Rattle.std.proofs.lemmas.Bool.Decides.{nat_tests}
use Rattle.common_values.specs.integers.Words.{w16, wrapping_add, cast_signed, low_byte}
use Rattle.common_values.specs.Written.{blanks_due, padded, boolean_text}
use Rattle.flat_code.specs.Tree.{Number, Code, End, If, ◌then◌}
use Rattle.flat_code.specs.Memory.{Cells, Found, ◌>>=◌, place_after}
use Rattle.flat_code.specs.Program.{FlatProgram, Choice, UnitCode, text_unit, runtime_key}
use Rattle.flat_code.specs.Meaning.{Frame, State, activation_bytes, frame_of, stack_top}
use Rattle.flat_code.specs.Legal.{StackFits}
use Rattle.flat_code.specs.Gives.{AreWords, HasStack}
use Rattle.runtime_proofs.specs.routine_proofs.Activation.{Slot, Shut, Free, Holds, Activation, IsPlaced}
use Rattle.runtime_proofs.specs.routine_proofs.Straight.{Onward, seen_value, straight, code_size}
use Rattle.runtime_proofs.specs.routine_proofs.Comes.{Does}
use Rattle.runtime_proofs.specs.routine_proofs.Entry.{entered, memory_without}
use Rattle.runtime_proofs.specs.routine_proofs.Specifications.{IsHeld}
use Rattle.runtime_proofs.proofs.routine_proofs.Doing.{weaker-does, then-does, straight-does}
use Rattle.runtime_proofs.proofs.routine_proofs.Calls.{call-ends, placed, starts}
use Rattle.runtime_proofs.specs.strings_in_memory.Strings.{place}
use Rattle.runtime_proofs.specs.string_loops.Pieces.{word, set_word}
use Rattle.runtime_proofs.proofs.string_loops.Seen.{set-so}
use Rattle.runtime_proofs.specs.text_memory.Data.{HasItem, HasText}
use Rattle.runtime_proofs.specs.text_memory.Pieces.{item_at, item_offset, set_segment}
use Rattle.runtime_proofs.proofs.text_memory.Effects.{datum-place, segment-does, taken-does, other-does}
use Rattle.runtime_proofs.proofs.text_memory.Buffer.{item-inside, item-left}
use Rattle.rt_text.specs.write_text.Showing.{begin_item, set_due, print_text, show_text}
use Rattle.rt_text.specs.write_text.Routines.{set_item, set_items, begin_made, make_char, make_boolean, write_char_routine, write_boolean_routine}
use Rattle.rt_text.specs.write_text.Specifications.{write_char_number, write_boolean_number, IsRoom, Writes, WritesChar, WritesBoolean}
use Rattle.rt_text.proofs.write_text.Padded.{Writing, Showing, Shown, shows, begin-does, item-offset}
use Rattle.rt_text.proofs.write_text.MadeText.{Small, made_offset, base, item-so, items-so, made, end-reached, made-has, made-buffer, made-others, made-moves}

module _ (program : FlatProgram) (choice : Choice) (own : Frame) (sp : ℕ) (is_placed : IsPlaced choice own sp 10) (e : Activation) (value w : ℕ) where
  abbrev at : Writing
  at s f n d t l m o = record e { words = Holds value ∷ Holds w ∷ Shut ∷ Shut ∷ Shut ∷ Holds s ∷ Holds f ∷ Holds n ∷ Holds d ∷ Holds choice.data_segment ∷ Holds t ∷ Holds l ∷ []; memory = m; out = o }

  abbrev begun : Slot → Slot → Slot → Slot → Slot → Slot → Slot → Cells → List ℕ → Activation
  begun s f n d i t l m o = record e { words = Holds value ∷ Holds w ∷ Shut ∷ Shut ∷ Shut ∷ s ∷ f ∷ n ∷ d ∷ i ∷ t ∷ l ∷ []; memory = m; out = o }

  pub showing : Showing choice own 10 w at
  showing = record {
    width = λ s f n d t l m o. refl;
    segment = λ s f n d t l m o. refl;
    offset = λ s f n d t l m o. refl;
    count = λ s f n d t l m o. refl;
    due = λ s f n d t l m o. refl;
    with_due = λ s f n d t l m o v. refl;
    moving = λ s n d o. record {
      target = λ t f k m plus. refl;
      source = λ t f k m plus. refl;
      memory = λ t f k m. refl;
      to_word = λ t f k m. refl;
      from_word = λ t f k m. refl;
      left_word = λ t f k m. refl;
      with_to = λ t f k m v. refl;
      with_from = λ t f k m v. refl;
      with_left = λ t f k m v. refl;
      with_memory = λ t f k m c. refl;
    };
    memory = λ s f n d t l m o. refl;
    printed = λ s f n d t l m o more. refl;
  }

  module _ (is_text : own.unit ≡ text_unit) (item ahead : ℕ) (there : HasText program choice item ahead) (w_small : w < 65536) (m : Cells) (buffer : HasItem choice item m) (o : List ℕ) where
    abbrev target : ℕ
    target = wrapping_add w16 item 255

    abbrev before : Activation
    before = begun Free Free Free Free Free Free Free m o

    -- the words of a text that was made
    begin-made-does : (n : ℕ) (k : Cells) → ((a : Activation) → seen_value choice own 10 a (Number n) ≡ Ok n) →
        Does program choice own sp (begin_made n) 0 8 (begun Free Free Free Free Free Free Free k o) Onward (begun (Holds choice.data_segment) (Holds (made_offset item)) (Holds n) Free Free Free Free k o)
    begin-made-does n k known =
        let a0 = begun Free Free Free Free Free Free Free k o in
        let a1 = begun Free Free (Holds n) Free Free Free Free k o in
        let a2 = begun Free (Holds (made_offset item)) (Holds n) Free Free Free Free k o in
        let a3 = begun (Holds choice.data_segment) (Holds (made_offset item)) (Holds n) Free Free Free Free k o in
        let words = set_word (negsuc 5) (Number n) (set_word (negsuc 3) (item_offset 496) End) in
        weaker-does program choice own sp (begin_made n) 0 6 0 8 a0 Onward a3 (omega arith) (omega arith)
        (then-does program choice own sp words (set_segment (negsuc 1) End) 0 4 0 2 a0 a2 Onward a3
        (straight-does program choice own sp 10 is_placed words a0 Onward a2
        (set-so choice own 10 (negsuc 5) (Number n) (set_word (negsuc 3) (item_offset 496) End) a0 a1 n (known a0) refl
        ∙ set-so choice own 10 (negsuc 3) (item_offset 496) End a1 a2 (made_offset item) (item-offset program choice own sp 10 is_placed is_text item ahead there w at showing a1 496) refl))
        (segment-does program choice own sp 10 is_placed a2 a3 (negsuc 1) (item_at 0) (place_after (place choice.data_segment item) 0) (datum-place choice own 10 is_text a2 0 item 0 there.item_is) there.segment refl (record { flag = refl; input = refl; out = refl; err = refl })))

    module _ (bytes : List ℕ) (small : Small bytes) (few : length bytes ≤ 11) where
      abbrev pub k : Cells
      k = made program choice item ahead there bytes small few m buffer

      abbrev pub n : ℕ
      n = length bytes

      -- what is left to do once the text is made
      pub record MadeShown : Type 0 where
        pub f' : ℕ
        pub d' : ℕ
        pub t' : ℕ
        pub l' : ℕ
        pub memory : Cells
        pub does : Does program choice own sp show_text 512 7900 (begun (Holds choice.data_segment) (Holds (made_offset item)) (Holds n) Free Free Free Free k o) Onward (at choice.data_segment f' n d' t' l' memory (o ++ padded (cast_signed w16 w) bytes))
        pub buffer_is : HasItem choice item memory
        pub others : (x : ℕ) → (IsRoom choice item x → ⊥) → memory x ≡ m x

      pub made-shown : MadeShown
      made-shown =
          let ds = choice.data_segment in
          let off = made_offset item in
          let a1 = begun (Holds ds) (Holds off) (Holds n) Free Free Free Free k o in
          let a2 = begun (Holds ds) (Holds off) (Holds n) (Holds 0) Free Free (Holds n) k o in
          let a3 = begun (Holds ds) (Holds off) (Holds n) (Holds 0) Free (Holds target) (Holds n) k o in
          let a4 = at ds off n 0 target n k o in
          let second = begin-does program choice own sp 10 is_placed is_text item ahead there w at showing a1 a2 a3 a4 refl refl refl (record { flag = refl; input = refl; out = refl; err = refl }) in
          let third = shows program choice own sp 10 is_placed is_text item ahead there w at showing bytes ds off k (made-buffer program choice item ahead there bytes small few m buffer) (omega (arith, few)) (made-has program choice item ahead there bytes small few m buffer) (made-moves program choice item ahead there bytes small few m buffer) o w_small in
          let b = third.0 in
          let a5 = at ds b.f' n b.d' b.t' b.l' b.memory (o ++ padded (cast_signed w16 w) bytes) in
          record {
            f' = b.f';
            d' = b.d';
            t' = b.t';
            l' = b.l';
            memory = b.memory;
            does = weaker-does program choice own sp show_text (0 + 512) (12 + 7812) 512 7900 a1 Onward a5 (omega arith) (omega arith)
                (then-does program choice own sp begin_item (set_due then print_text) 0 12 512 7812 a1 a4 Onward a5 second third.1);
            buffer_is = b.buffer_is;
            others = λ x free. b.others x free ∙ made-others program choice item ahead there bytes small few m buffer x free;
          }

    -- ---- a character

    abbrev pub char_text : List ℕ
    char_text = low_byte value ∷ []

    pub char-small : Small char_text
    char-small = (omega arith, tt)

    pub char-shown : (b : MadeShown char_text char-small (omega arith)) × Does program choice own sp write_char_routine.body 512 8192 before Onward (at choice.data_segment b.f' 1 b.d' b.t' b.l' b.memory (o ++ padded (cast_signed w16 w) char_text))
    char-shown =
        let b = made-shown char_text char-small (omega arith) in
        let a1 = begun Free Free Free Free Free Free Free (k char_text char-small (omega arith)) o in
        let a2 = begun (Holds choice.data_segment) (Holds (made_offset item)) (Holds 1) Free Free Free Free (k char_text char-small (omega arith)) o in
        let a5 = at choice.data_segment b.f' 1 b.d' b.t' b.l' b.memory (o ++ padded (cast_signed w16 w) char_text) in
        let store = set_item 497 (word (pos 8)) End in
        let stored = straight-does program choice own sp 10 is_placed store before Onward a1
        (item-so program choice item ahead there own 10 is_text 1 (word (pos 8)) End before value (omega arith) refl (end-reached program choice item ahead there char_text char-small (omega arith) m buffer 1 (omega arith))) in
        let words = begin-made-does 1 (k char_text char-small (omega arith)) (λ a. refl) in
        let text = then-does program choice own sp store (begin_made 1) 0 2 0 8 before a1 Onward a2 stored words in (
          b,
          weaker-does program choice own sp write_char_routine.body (0 + 512) (2 + 8 + 7900) 512 8192 before Onward a5 (omega arith) (omega arith)
              (then-does program choice own sp make_char show_text 0 (2 + 8) 512 7900 before a2 Onward a5 text b.does),
        )

    -- ---- a Boolean

    -- a text of known bytes is made
    constant-does : (bytes : List ℕ) (small : Small bytes) (few : length bytes ≤ 11) → ((a : Activation) → seen_value choice own 10 a (Number (length bytes)) ≡ Ok (length bytes)) → code_size (set_items 497 bytes End) ≤ 16 →
        (set_items 497 bytes End) then (begin_made (length bytes)) ≡ set_items 497 bytes (begin_made (length bytes)) →
        Does program choice own sp (set_items 497 bytes (begin_made (length bytes))) 0 24 before Onward (begun (Holds choice.data_segment) (Holds (made_offset item)) (Holds (length bytes)) Free Free Free Free (k bytes small few) o)
    constant-does bytes small few known short split =
        let a1 = begun Free Free Free Free Free Free Free (k bytes small few) o in
        let a2 = begun (Holds choice.data_segment) (Holds (made_offset item)) (Holds (length bytes)) Free Free Free Free (k bytes small few) o in
        let stores = set_items 497 bytes End in
        let stored = straight-does program choice own sp 10 is_placed stores before Onward a1
        (items-so program choice item ahead there own 10 is_text bytes 1 End before small (omega (arith, few)) (end-reached program choice item ahead there bytes small few m buffer)) in
        subst (λ code. Does program choice own sp code 0 24 before Onward a2) split
        (weaker-does program choice own sp (stores then (begin_made (length bytes))) 0 (code_size stores + 8) 0 24 before Onward a2 (omega arith) (omega (arith, short))
        (then-does program choice own sp stores (begin_made (length bytes)) 0 (code_size stores) 0 8 before a1 Onward a2 stored (begin-made-does (length bytes) (k bytes small few) known)))

    pub record BooleanShown : Type 0 where
      pub text : List ℕ
      pub text_is : text ≡ boolean_text (not (value == 0))
      pub count : ℕ
      pub f' : ℕ
      pub d' : ℕ
      pub t' : ℕ
      pub l' : ℕ
      pub memory : Cells
      pub does : Does program choice own sp write_boolean_routine.body 512 8192 before Onward (at choice.data_segment f' count d' t' l' memory (o ++ padded (cast_signed w16 w) text))
      pub buffer_is : HasItem choice item memory
      pub others : (x : ℕ) → (IsRoom choice item x → ⊥) → memory x ≡ m x

    -- once a text is there
    boolean-made : (bytes : List ℕ) (small : Small bytes) (few : length bytes ≤ 11) → bytes ≡ boolean_text (not (value == 0)) →
        Does program choice own sp make_boolean 0 64 before Onward (begun (Holds choice.data_segment) (Holds (made_offset item)) (Holds (length bytes)) Free Free Free Free (k bytes small few) o) → BooleanShown
    boolean-made bytes small few is does =
        let b = made-shown bytes small few in
        let a2 = begun (Holds choice.data_segment) (Holds (made_offset item)) (Holds (length bytes)) Free Free Free Free (k bytes small few) o in
        let a5 = at choice.data_segment b.f' (length bytes) b.d' b.t' b.l' b.memory (o ++ padded (cast_signed w16 w) bytes) in
        record {
          text = bytes;
          text_is = is;
          count = length bytes;
          f' = b.f';
          d' = b.d';
          t' = b.t';
          l' = b.l';
          memory = b.memory;
          does = weaker-does program choice own sp write_boolean_routine.body (0 + 512) (64 + 7900) 512 8192 before Onward a5 (omega arith) (omega arith)
              (then-does program choice own sp make_boolean show_text 0 64 512 7900 before a2 Onward a5 does b.does);
          buffer_is = b.buffer_is;
          others = b.others;
        }

    abbrev true_code : Code
    true_code = set_items 497 (codes "TRUE") (begin_made 4)

    abbrev false_code : Code
    false_code = set_items 497 (codes "FALSE") (begin_made 5)

    true-small : Small (codes "TRUE")
    true-small = (omega arith, (omega arith, (omega arith, (omega arith, tt))))

    false-small : Small (codes "FALSE")
    false-small = (omega arith, (omega arith, (omega arith, (omega arith, (omega arith, tt)))))

    true-shown : 0 < value → BooleanShown
    true-shown some =
        let a2 = begun (Holds choice.data_segment) (Holds (made_offset item)) (Holds 4) Free Free Free Free (k (codes "TRUE") true-small (omega arith)) o in
        boolean-made (codes "TRUE") true-small (omega arith) (sym (ap (λ b. boolean_text (not b)) (not-zero value some)))
        (weaker-does program choice own sp make_boolean 0 (1 + 1 + 24) 0 64 before Onward a2 (omega arith) (omega arith)
        (taken-does program choice own sp 10 is_placed (word (pos 8)) true_code false_code value 0 24 before Onward a2 refl (λ z. omega (arith, z, some))
        (constant-does (codes "TRUE") true-small (omega arith) (λ a. refl) (omega arith) refl)))
      where
        not-zero : (v : ℕ) → 0 < v → (v == 0) ≡ false
        not-zero v h = grind (arith, nat_tests, h)

    false-shown : value ≡ 0 → BooleanShown
    false-shown none =
        let a2 = begun (Holds choice.data_segment) (Holds (made_offset item)) (Holds 5) Free Free Free Free (k (codes "FALSE") false-small (omega arith)) o in
        boolean-made (codes "FALSE") false-small (omega arith) (sym (ap (λ v. boolean_text (not (v == 0))) none))
        (weaker-does program choice own sp make_boolean 0 (1 + 1 + 24) 0 64 before Onward a2 (omega arith) (omega arith)
        (other-does program choice own sp 10 is_placed (word (pos 8)) true_code false_code value 0 24 before Onward a2 refl none
        (constant-does (codes "FALSE") false-small (omega arith) (λ a. refl) (omega arith) refl)))

    pub boolean-shown : BooleanShown
    boolean-shown = elim (cases_lt 0 value) [ inl some ↦ true-shown some | inr none ↦ false-shown (omega (arith, none)) ]

-- ---- the promises

module _ (program : FlatProgram) (choice : Choice) (item ahead : ℕ) (unit : UnitCode) (fits : StackFits program choice) (there : HasText program choice item ahead) where
  pub writes-char : IsHeld program (runtime_key write_char_number) unit write_char_routine → WritesChar program choice item
  writes-char held_so char width f s words stack buffer =
      let key = runtime_key write_char_number in
      let room : activation_bytes write_char_routine ≤ f.sp = omega (arith, stack.room) in
      let args = char ∷ width ∷ [] in
      let own = frame_of key.unit unit write_char_routine f in
      let here = placed program choice key unit write_char_routine held_so fits args f s refl room stack.inside in
      let start = entered choice f.sp 14 args s in
      let m = memory_without choice f.sp s.cells in
      let inside = item-inside choice item f.sp (stack_top program) stack.inside there.item_off s.cells buffer in
      let done = char-shown program choice own f.sp here start char width refl item ahead there words.1.0 m inside s.out in
      let b = done.0 in
      call-ends program choice key unit write_char_routine held_so fits args f s refl room stack.inside (IsRoom choice item) (Writes choice item (padded (cast_signed w16 width) (low_byte char ∷ [])) s) 512 8192 Onward
      (at program choice own f.sp here start char width choice.data_segment b.f' 1 b.d' b.t' b.l' b.memory (s.out ++ padded (cast_signed w16 width) (low_byte char ∷ []))) [] tt
      (done.1 _ (starts program choice key unit write_char_routine held_so fits args f s refl room stack.inside 2 words))
      refl b.others
      (λ after left. record {
        nothing = refl;
        out = left.out;
        err = left.err;
        input = left.input;
        flag = left.flag;
        buffer = item-left choice item f.sp (stack_top program) stack.inside there.item_off b.memory after.cells left.cells b.buffer_is;
      })

  pub writes-boolean : IsHeld program (runtime_key write_boolean_number) unit write_boolean_routine → WritesBoolean program choice item
  writes-boolean held_so value width f s words stack buffer =
      let key = runtime_key write_boolean_number in
      let room : activation_bytes write_boolean_routine ≤ f.sp = omega (arith, stack.room) in
      let args = value ∷ width ∷ [] in
      let own = frame_of key.unit unit write_boolean_routine f in
      let here = placed program choice key unit write_boolean_routine held_so fits args f s refl room stack.inside in
      let start = entered choice f.sp 14 args s in
      let m = memory_without choice f.sp s.cells in
      let inside = item-inside choice item f.sp (stack_top program) stack.inside there.item_off s.cells buffer in
      let b = boolean-shown program choice own f.sp here start value width refl item ahead there words.1.0 m inside s.out in
      call-ends program choice key unit write_boolean_routine held_so fits args f s refl room stack.inside (IsRoom choice item) (Writes choice item (padded (cast_signed w16 width) (boolean_text (not (value == 0)))) s) 512 8192 Onward
      (at program choice own f.sp here start value width choice.data_segment b.f' b.count b.d' b.t' b.l' b.memory (s.out ++ padded (cast_signed w16 width) b.text)) [] tt
      (b.does _ (starts program choice key unit write_boolean_routine held_so fits args f s refl room stack.inside 2 words))
      refl b.others
      (λ after left. record {
        nothing = refl;
        out = left.out ∙ ap (λ text. s.out ++ padded (cast_signed w16 width) text) b.text_is;
        err = left.err;
        input = left.input;
        flag = left.flag;
        buffer = item-left choice item f.sp (stack_top program) stack.inside there.item_off b.memory after.cells left.cells b.buffer_is;
      })
