-- The routine that writes an integer.
use Rattle.std.proofs.Common.{◌≡◌, ℕ, zero, suc, ◌+◌, ◌-◌, ◌*◌, ◌/◌, ◌%◌, ◌<◌, ◌≤◌, inl, inr, List, [], ◌∷◌, ◌++◌, length, decimal, Ok, ℤ, pos, negsuc, refl, sym, ap, subst, ◌∙◌, arith}
use Rattle.std.proofs.lemmas.List.{length-replicate}
use Rattle.common_values.specs.integers.Words.{w16, w32, wrapping_add, wrapping_sub, cast_signed, is_signed_less}
use Rattle.common_values.specs.Written.{blanks_due, padded, integer_text}
use Rattle.flat_code.specs.declared.tree.Address.TheVariants.{Through}
use Rattle.flat_code.specs.declared.tree.FlatOp.TheVariants as op
use Rattle.flat_code.specs.declared.memory.Place.{Place}
use Rattle.flat_code.specs.declared.memory.Cell.TheVariants.{Known, Outside}
use Rattle.flat_code.specs.Tree.{Number, Op, Code, End, Loop, ◌then◌}
use Rattle.flat_code.specs.Memory.{Cells, Found, ◌>>=◌, address_of, place_after, put}
use Rattle.flat_code.specs.Program.{FlatProgram, Choice, UnitCode, text_unit, runtime_key}
use Rattle.flat_code.specs.Meaning.{Frame, truth, activation_bytes, frame_of, stack_top}
use Rattle.flat_code.specs.Runtime.{long_word}
use Rattle.flat_code.specs.Legal.{StackFits}
use Rattle.runtime_proofs.specs.routine_proofs.Activation.{Slot, Shut, Free, Holds, Activation, IsPlaced}
use Rattle.runtime_proofs.specs.routine_proofs.Straight.{Exit, Onward, Came, continued, straight, code_size}
use Rattle.runtime_proofs.specs.routine_proofs.Comes.{Does}
use Rattle.runtime_proofs.specs.routine_proofs.Entry.{entered, memory_without}
use Rattle.runtime_proofs.specs.routine_proofs.Specifications.{IsHeld}
use Rattle.runtime_proofs.proofs.routine_proofs.Replies.{taken-so, other-so}
use Rattle.runtime_proofs.proofs.routine_proofs.Doing.{weaker-does, then-does, straight-does}
use Rattle.runtime_proofs.proofs.routine_proofs.Calls.{call-ends, placed, starts}
use Rattle.runtime_proofs.specs.strings_in_memory.Strings.{HasBytes, CanMove, place}
use Rattle.runtime_proofs.proofs.strings_in_memory.Cells.{store-so, bytes-kept}
use Rattle.runtime_proofs.specs.string_loops.Pieces.{word, set_word, lessen}
use Rattle.runtime_proofs.specs.string_loops.Laid.{laid_back}
use Rattle.runtime_proofs.proofs.string_loops.Seen.{op-so, set-so}
use Rattle.runtime_proofs.proofs.string_loops.BackwardLoop.{laid_back-other, laid_back-reached, laid_back-has}
use Rattle.runtime_proofs.proofs.string_loops.Bytes.{address-shift, bytes-unshift}
use Rattle.runtime_proofs.specs.text_memory.Data.{HasItem, HasText, blank_bytes, item_place}
use Rattle.runtime_proofs.specs.text_memory.Pieces.{item_at, item_offset, set_segment}
use Rattle.runtime_proofs.proofs.text_memory.Effects.{datum-place, segment-does}
use Rattle.runtime_proofs.proofs.text_memory.Buffer.{item-inside, item-left}
use Rattle.rt_text.specs.write_text.Showing.{begin_item, set_due, print_text, show_text}
use Rattle.rt_text.specs.write_text.Specifications.{IsRoom, Writes}
use Rattle.rt_text.proofs.write_text.Padded.{Writing, Showing, item-offset, Shown, shows, begin-does}
use Rattle.rt_text.proofs.write_text.MadeText.{Small}
use Rattle.rt_text.specs.write_numbers.Routines.{begin_words, begin_pointer, negate, take_magnitude, digit_round, give_sign, end_digits, make_digits, write_integer_routine}
use Rattle.rt_text.specs.write_numbers.Specifications.{write_integer_number, long_text, WritesInteger}
use Rattle.rt_text.proofs.write_numbers.Digits.{sign-decided, positive-text, negative_low, negative_high, magnitude, negative-text, small-at, tens}
use Rattle.rt_text.proofs.write_numbers.DigitLoop.{one-back, at-pointer, digits, Spelled, spelled}

module _ (program : FlatProgram) (choice : Choice) (own : Frame) (sp : ℕ) (is_placed : IsPlaced choice own sp 12) (is_text : own.unit ≡ text_unit) (item ahead : ℕ) (there : HasText program choice item ahead) (e : Activation) (w : ℕ) (w_small : w < 65536) (m : Cells) (has_item : HasItem choice item m) (o : List ℕ) where
  abbrev ds : ℕ
  ds = choice.data_segment

  abbrev buffer : Place
  buffer = place ds item

  abbrev Goes : Code → ℕ → ℕ → Activation → Exit → Activation → Type 0
  Goes code turns work a exit b = Does program choice own sp code turns work a exit b

  -- words, as they come
  abbrev words : ℕ → ℕ → Slot → Slot → Slot → Slot → Slot → Slot → Slot → Cells → Activation
  words l h s f n d i t g m = record e { words = Holds l ∷ Holds h ∷ Holds w ∷ Shut ∷ Shut ∷ Shut ∷ s ∷ f ∷ n ∷ d ∷ i ∷ t ∷ g ∷ []; memory = m; out = o }

  -- in the piece that shows a text, where nothing is left of the number
  abbrev pub shown_at : Writing
  shown_at s f n d t l k q = record e { words = Holds 0 ∷ Holds 0 ∷ Holds w ∷ Shut ∷ Shut ∷ Shut ∷ Holds s ∷ Holds f ∷ Holds n ∷ Holds d ∷ Holds choice.data_segment ∷ Holds t ∷ Holds l ∷ []; memory = k; out = q }

  showing : Showing choice own 12 w shown_at
  showing = record {
    width = λ s f n d t l k q. refl;
    segment = λ s f n d t l k q. refl;
    offset = λ s f n d t l k q. refl;
    count = λ s f n d t l k q. refl;
    due = λ s f n d t l k q. refl;
    with_due = λ s f n d t l k q v. refl;
    moving = λ s n d q. record {
      target = λ t f k m plus. refl;
      source = λ t f k m plus. refl;
      memory = λ t f k m. refl;
      to_word = λ t f k m. refl;
      from_word = λ t f k m. refl;
      left_word = λ t f k m. refl;
      with_to = λ t f k m v. refl;
      with_from = λ t f k m v. refl;
      with_left = λ t f k m v. refl;
      with_memory = λ t f k m c. refl;
    };
    memory = λ s f n d t l k q. refl;
    printed = λ s f n d t l k q more. refl;
  }

  abbrev last : ℕ
  last = wrapping_add w16 item 507

  -- ---- the beginning

  begins : (l h : ℕ) → Goes (begin_words then begin_pointer) 0 16 (words l h Free Free Free Free Free Free Free m) Onward (words l h (Holds ds) (Holds last) (Holds 0) (Holds 0) Free Free (Holds (truth (is_signed_less w16 h 0))) m)
  begins l h =
      let g = truth (is_signed_less w16 h 0) in
      let a0 = words l h Free Free Free Free Free Free Free m in
      let a1 = words l h Free Free (Holds 0) (Holds 0) Free Free (Holds g) m in
      let a2 = words l h Free (Holds last) (Holds 0) (Holds 0) Free Free (Holds g) m in
      let a3 = words l h (Holds ds) (Holds last) (Holds 0) (Holds 0) Free Free (Holds g) m in
      let pointer = set_word (negsuc 3) (item_offset 507) End in
      let offset = item-offset program choice own sp 12 is_placed is_text item ahead there w shown_at showing a1 507 in
      weaker-does program choice own sp (begin_words then begin_pointer) 0 (code_size begin_words + (2 + 2)) 0 16 a0 Onward a3 (omega arith) (omega arith)
      (then-does program choice own sp begin_words begin_pointer 0 (code_size begin_words) (0 + 0) (2 + 2) a0 a1 Onward a3
      (straight-does program choice own sp 12 is_placed begin_words a0 Onward a1 refl)
      (then-does program choice own sp pointer (set_segment (negsuc 1) End) 0 2 0 2 a1 a2 Onward a3
      (straight-does program choice own sp 12 is_placed pointer a1 Onward a2 (set-so choice own 12 (negsuc 3) (item_offset 507) End a1 a2 last offset refl))
      (segment-does program choice own sp 12 is_placed a2 a3 (negsuc 1) (item_at 0) (place_after (place ds item) 0) (datum-place choice own 12 is_text a2 0 item 0 there.item_is) there.segment refl (record { flag = refl; input = refl; out = refl; err = refl }))))

  -- ---- the text stands in the buffer

  reached : (j : ℕ) → j ≤ 507 → m (address_of buffer j) ≡ Outside → ⊥
  reached j h out = has_item.room j (omega (arith, h)) out

  module _ (text : List ℕ) (before : ℕ) (small : Small text) (few : length text ≤ 11) (ends : before + length text ≡ 507) where
    abbrev made : Cells
    made = laid_back m buffer (before + 1) text

    abbrev from : ℕ
    from = wrapping_add w16 item before

    ne-item : (i j : ℕ) → i < 512 → j < 512 → i < j → address_of buffer i ≡ address_of buffer j → ⊥
    ne-item i j p q h e = omega (arith, p, q, h, e)

    text-there : HasBytes made (place ds from) 1 text
    text-there = bytes-unshift made ds item before 1 (before + 1) text (omega arith) (laid_back-has m ds item (before + 1) text (omega (arith, ends)) (small-at text small))

    made-item : HasItem choice item made
    made-item = record {
      blanks = bytes-kept m made buffer 0 blank_bytes (λ k h. laid_back-other m buffer (before + 1) text (address_of buffer (0 + k))
          (λ i g e. let many = length-replicate {A = ℕ} 256 32 in ne-item (0 + k) (before + 1 + i) (omega (arith, h, many)) (omega (arith, g, ends)) (omega (arith, h, many, ends, few)) e)) has_item.blanks;
      room = λ i h. laid_back-reached m buffer (before + 1) text (address_of buffer i) (has_item.room i h);
    }

    made-others : (x : ℕ) → (IsRoom choice item x → ⊥) → made x ≡ m x
    made-others x free = laid_back-other m buffer (before + 1) text x (λ i g e. let same : before + 1 + i ≡ 256 + (before - 255 + i) = omega (arith, ends, few) in free (before - 255 + i, omega (arith, g, ends, few), e ∙ ap (address_of buffer) same))

    can : CanMove (place ds (wrapping_add w16 item 255)) (place ds from) (1 + length text)
    can i j p q e = ne-item (255 + i) (before + j) (omega (arith, p, q, few)) (omega (arith, q, ends)) (omega (arith, p, ends, few)) (sym (address-shift ds item 255 i) ∙ e ∙ address-shift ds item before j)

    -- it is written
    pub record Written : Type 0 where
      pub f' : ℕ
      pub d' : ℕ
      pub t' : ℕ
      pub l' : ℕ
      pub memory : Cells
      pub does : (x y g : ℕ) → Goes (end_digits then show_text) 512 7920 (words 0 0 (Holds ds) (Holds from) (Holds x) (Holds y) Free Free (Holds g) made) Onward (shown_at ds f' (length text) d' t' l' memory (o ++ padded (cast_signed w16 w) text))
      pub buffer_is : HasItem choice item memory
      pub others : (x : ℕ) → (IsRoom choice item x → ⊥) → memory x ≡ m x

    pub written : Written
    written =
        let n = length text in
        let target = wrapping_add w16 item 255 in
        let third = shows program choice own sp 12 is_placed is_text item ahead there w shown_at showing text ds from made made-item (omega (arith, few)) text-there can o w_small in
        let b = third.0 in
        let a5 = shown_at ds b.f' n b.d' b.t' b.l' b.memory (o ++ padded (cast_signed w16 w) text) in
        record {
          f' = b.f';
          d' = b.d';
          t' = b.t';
          l' = b.l';
          memory = b.memory;
          does = λ x y g.
              let a0 = words 0 0 (Holds ds) (Holds from) (Holds x) (Holds y) Free Free (Holds g) made in
              let a1 = words 0 0 (Holds ds) (Holds from) (Holds n) (Holds y) Free Free (Holds g) made in
              let a2 = words 0 0 (Holds ds) (Holds from) (Holds n) (Holds 0) Free Free (Holds n) made in
              let a3 = words 0 0 (Holds ds) (Holds from) (Holds n) (Holds 0) Free (Holds target) (Holds n) made in
              let a4 = shown_at ds from n 0 target n made o in
              let offset = item-offset program choice own sp 12 is_placed is_text item ahead there w shown_at showing a0 507 in
              let counted : wrapping_sub w16 last from ≡ n = omega (arith, ends, there.item_small) in
              let value = Op op.Sub (item_offset 507) (word (negsuc 3)) in
              let first = straight-does program choice own sp 12 is_placed end_digits a0 Onward a1
              (set-so choice own 12 (negsuc 5) value End a0 a1 n (op-so choice own 12 op.Sub (item_offset 507) (word (negsuc 3)) a0 last from offset refl ∙ ap (λ v. let r : Found ℕ = Ok v in r) counted) refl) in
              let second = begin-does program choice own sp 12 is_placed is_text item ahead there w shown_at showing a1 a2 a3 a4 refl refl refl (record { flag = refl; input = refl; out = refl; err = refl }) in
              let shown = then-does program choice own sp begin_item (set_due then print_text) 0 12 512 7812 a1 a4 Onward a5 second third.1 in
              weaker-does program choice own sp (end_digits then show_text) (0 + (0 + 512)) (4 + (12 + 7812)) 512 7920 a0 Onward a5 (omega arith) (omega arith)
              (then-does program choice own sp end_digits show_text 0 4 (0 + 512) (12 + 7812) a0 a1 Onward a5 first shown);
          buffer_is = b.buffer_is;
          others = λ x free. b.others x free ∙ made-others x free;
        }

  -- ---- the number

  pub record IntegerShown (l h : ℕ) : Type 0 where
    pub count : ℕ
    pub f' : ℕ
    pub d' : ℕ
    pub t' : ℕ
    pub l' : ℕ
    pub memory : Cells
    pub does : Goes write_integer_routine.body 544 9216 (words l h Free Free Free Free Free Free Free m) Onward (shown_at ds f' count d' t' l' memory (o ++ padded (cast_signed w16 w) (long_text l h)))
    pub buffer_is : HasItem choice item memory
    pub others : (x : ℕ) → (IsRoom choice item x → ⊥) → memory x ≡ m x

  abbrev loop : Code
  loop = Loop digit_round End

  -- the digits of a magnitude stand there, and then the sign
  abbrev after_loop : ℕ → ℕ → ℕ → ℕ → Cells → Activation
  after_loop f x y g k = words 0 0 (Holds ds) (Holds f) (Holds x) (Holds y) Free Free (Holds g) k

  all-in-turn : (a0 a1 a2 a3 a4 a5 : Activation) → Goes (begin_words then begin_pointer) 0 16 a0 Onward a1 → Goes take_magnitude 0 (code_size take_magnitude) a1 Onward a2 → Goes loop 10 660 a2 Onward a3 → Goes give_sign 0 (code_size give_sign) a3 Onward a4 → Goes (end_digits then show_text) 512 7920 a4 Onward a5 → Goes write_integer_routine.body 544 9216 a0 Onward a5
  all-in-turn a0 a1 a2 a3 a4 a5 first second third fourth fifth =
      let rest = then-does program choice own sp give_sign (end_digits then show_text) 0 (code_size give_sign) 512 7920 a3 a4 Onward a5 fourth fifth in
      let more = then-does program choice own sp loop (give_sign then (end_digits then show_text)) 10 660 (0 + 512) (code_size give_sign + 7920) a2 a3 Onward a5 third rest in
      let most = then-does program choice own sp take_magnitude (loop then (give_sign then (end_digits then show_text))) 0 (code_size take_magnitude) (10 + (0 + 512)) (660 + (code_size give_sign + 7920)) a1 a2 Onward a5 second more in
      weaker-does program choice own sp write_integer_routine.body (0 + (0 + (10 + (0 + 512)))) (16 + (code_size take_magnitude + (660 + (code_size give_sign + 7920)))) 544 9216 a0 Onward a5 (omega arith) (omega arith)
      (then-does program choice own sp (begin_words then begin_pointer) (take_magnitude then (loop then (give_sign then (end_digits then show_text)))) 0 16 (0 + (10 + (0 + 512))) (code_size take_magnitude + (660 + (code_size give_sign + 7920))) a0 a1 Onward a5 first most)

  positive : (l h : ℕ) → l < 65536 → h < 32768 → truth (is_signed_less w16 h 0) ≡ 0 → IntegerShown l h
  positive l h p q t =
      let n = l + 65536 * h in
      let r = spelled program choice own sp is_placed item e w 0 o 9 n l h 506 0 0 m refl (omega (arith, p, q)) p (omega (arith, p, q)) (omega arith) (λ j s. reached j (omega (arith, s))) in
      let starts = r.starts in
      let few = r.few in
      let v = written (decimal n) r.before r.small (omega (arith, few)) (omega (arith, starts)) in
      let a0 = words l h Free Free Free Free Free Free Free m in
      let a1 = words l h (Holds ds) (Holds last) (Holds 0) (Holds 0) Free Free (Holds 0) m in
      let a2 = after_loop (wrapping_add w16 item r.before) r.x' r.y' 0 (laid_back m buffer (r.before + 1) (decimal n)) in
      let a3 = shown_at ds v.f' (length (decimal n)) v.d' v.t' v.l' v.memory (o ++ padded (cast_signed w16 w) (decimal n)) in
      let first = subst (λ g. Goes (begin_words then begin_pointer) 0 16 a0 Onward (words l h (Holds ds) (Holds last) (Holds 0) (Holds 0) Free Free (Holds g) m)) t (begins l h) in
      let second = straight-does program choice own sp 12 is_placed take_magnitude a1 Onward a1 refl in
      let third = straight-does program choice own sp 12 is_placed give_sign a2 Onward a2 refl in
      record {
        count = length (decimal n);
        f' = v.f';
        d' = v.d';
        t' = v.t';
        l' = v.l';
        memory = v.memory;
        does = subst (λ s. Goes write_integer_routine.body 544 9216 a0 Onward (shown_at ds v.f' (length (decimal n)) v.d' v.t' v.l' v.memory (o ++ padded (cast_signed w16 w) s))) (positive-text l h p q)
            (all-in-turn a0 a1 a1 a2 a2 a3 first second (r.does) third (v.does r.x' r.y' 0));
        buffer_is = v.buffer_is;
        others = v.others;
      }

  -- the sign goes before the digits
  signed-so : (back x y : ℕ) (text : List ℕ) → back < 506 → straight choice own 12 give_sign (after_loop (wrapping_add w16 item (back + 1)) x y 1 (laid_back m buffer (back + 1 + 1) text)) ≡ Ok (record { exit = Onward; there = after_loop (wrapping_add w16 item back) x y 1 (laid_back m buffer (back + 1) (45 ∷ text)) })
  signed-so back x y text low =
      let k = laid_back m buffer (back + 1 + 1) text in
      let a = after_loop (wrapping_add w16 item (back + 1)) x y 1 k in
      let b = after_loop (wrapping_add w16 item back) x y 1 (laid_back m buffer (back + 1) (45 ∷ text)) in
      let before = lessen (negsuc 3) (Number 1) End in
      let place_is = at-pointer ds item (back + 1) in
      taken-so choice own 12 give_sign a 1 (record { exit = Onward; there = b }) refl (λ z. omega (arith, z))
      (ap (λ (r : Found Came). r >>= λ c. continued c.exit c.there (straight choice own 12 End))
      (store-so choice own 12 (Through (negsuc 3) 0) (Number 45) before a (place_after (place ds (wrapping_add w16 item (back + 1))) 0) 45 refl refl (λ out. laid_back-reached m buffer (back + 1 + 1) text (address_of buffer (back + 1)) (reached (back + 1) (omega (arith, low))) (ap k (sym place_is) ∙ out))
      ∙ ap (λ z. straight choice own 12 before (after_loop (wrapping_add w16 item (back + 1)) x y 1 (put k z (Known 45)))) place_is
      ∙ ap (λ f. straight choice own 12 End (after_loop f x y 1 (put k (address_of buffer (back + 1)) (Known 45)))) (one-back item back)))

  signed-does : (before back x y : ℕ) (text : List ℕ) → back + 1 ≡ before → before < 507 → Goes give_sign 0 (code_size give_sign) (after_loop (wrapping_add w16 item before) x y 1 (laid_back m buffer (before + 1) text)) Onward (after_loop (wrapping_add w16 item back) x y 1 (laid_back m buffer (back + 1) (45 ∷ text)))
  signed-does before back x y text is low =
      subst (λ j. Goes give_sign 0 (code_size give_sign) (after_loop (wrapping_add w16 item j) x y 1 (laid_back m buffer (j + 1) text)) Onward (after_loop (wrapping_add w16 item back) x y 1 (laid_back m buffer (back + 1) (45 ∷ text)))) is
      (straight-does program choice own sp 12 is_placed give_sign (after_loop (wrapping_add w16 item (back + 1)) x y 1 (laid_back m buffer (back + 1 + 1) text)) Onward (after_loop (wrapping_add w16 item back) x y 1 (laid_back m buffer (back + 1) (45 ∷ text))) (signed-so back x y text (omega (arith, is, low))))

  negative : (l h : ℕ) → l < 65536 → h < 65536 → 32768 ≤ h → truth (is_signed_less w16 h 0) ≡ 1 → IntegerShown l h
  negative l h p q low t =
      let l1 = negative_low l in
      let h1 = negative_high l h in
      let n = l1 + 65536 * h1 in
      let is = magnitude l h p q low in
      let bound : n < 4294967296 = omega (arith, is, low) in
      let r = spelled program choice own sp is_placed item e w 1 o 9 n l1 h1 506 0 0 m refl bound (omega arith) (omega (arith, bound)) (omega arith) (λ j s. reached j (omega (arith, s))) in
      let starts = r.starts in
      let few = r.few in
      let some = r.some in
      let back = r.before - 1 in
      let here : back + 1 ≡ r.before = omega (arith, starts, few) in
      let text = 45 ∷ decimal n in
      let v = written text back (omega arith, r.small) (omega (arith, few)) (omega (arith, starts, here)) in
      let k = laid_back m buffer (r.before + 1) (decimal n) in
      let a0 = words l h Free Free Free Free Free Free Free m in
      let a1 = words l h (Holds ds) (Holds last) (Holds 0) (Holds 0) Free Free (Holds 1) m in
      let a2 = words l1 h1 (Holds ds) (Holds last) (Holds 0) (Holds 0) Free Free (Holds 1) m in
      let a3 = after_loop (wrapping_add w16 item r.before) r.x' r.y' 1 k in
      let a4 = after_loop (wrapping_add w16 item back) r.x' r.y' 1 (laid_back m buffer (back + 1) text) in
      let a5 = shown_at ds v.f' (length text) v.d' v.t' v.l' v.memory (o ++ padded (cast_signed w16 w) text) in
      let first = subst (λ g. Goes (begin_words then begin_pointer) 0 16 a0 Onward (words l h (Holds ds) (Holds last) (Holds 0) (Holds 0) Free Free (Holds g) m)) t (begins l h) in
      let second = straight-does program choice own sp 12 is_placed take_magnitude a1 Onward a2 refl in
      record {
        count = length text;
        f' = v.f';
        d' = v.d';
        t' = v.t';
        l' = v.l';
        memory = v.memory;
        does = subst (λ s. Goes write_integer_routine.body 544 9216 a0 Onward (shown_at ds v.f' (length text) v.d' v.t' v.l' v.memory (o ++ padded (cast_signed w16 w) s))) (negative-text l h n p q low is)
            (all-in-turn a0 a1 a2 a3 a4 a5 first second r.does (signed-does r.before back r.x' r.y' (decimal n) here (omega (arith, starts, some))) (v.does r.x' r.y' 1));
        buffer_is = v.buffer_is;
        others = v.others;
      }

  pub integer-shown : (l h : ℕ) → l < 65536 → h < 65536 → IntegerShown l h
  integer-shown l h p q = elim (sign-decided h q) [ inl k ↦ positive l h p k.0 k.1 | inr k ↦ negative l h p q k.0 k.1 ]

-- ---- the promise

pub writes-integer : (program : FlatProgram) (choice : Choice) (item ahead : ℕ) (unit : UnitCode) → StackFits program choice → HasText program choice item ahead → IsHeld program (runtime_key write_integer_number) unit write_integer_routine → WritesInteger program choice item
writes-integer program choice item ahead unit fits there held_so low high width f s are stack buffer =
    let key = runtime_key write_integer_number in
    let room : activation_bytes write_integer_routine ≤ f.sp = omega (arith, stack.room) in
    let args = low ∷ high ∷ width ∷ [] in
    let own = frame_of key.unit unit write_integer_routine f in
    let here = placed program choice key unit write_integer_routine held_so fits args f s refl room stack.inside in
    let start = entered choice f.sp 14 args s in
    let m = memory_without choice f.sp s.cells in
    let inside = item-inside choice item f.sp (stack_top program) stack.inside there.item_off s.cells buffer in
    let b = integer-shown program choice own f.sp here refl item ahead there start width are.1.1.0 m inside s.out low high are.0 are.1.0 in
    call-ends program choice key unit write_integer_routine held_so fits args f s refl room stack.inside (IsRoom choice item) (Writes choice item (padded (cast_signed w16 width) (long_text low high)) s) 544 9216 Onward
    (shown_at program choice own f.sp here refl item ahead there start width are.1.1.0 m inside s.out choice.data_segment b.f' b.count b.d' b.t' b.l' b.memory (s.out ++ padded (cast_signed w16 width) (long_text low high))) [] tt
    (b.does _ (starts program choice key unit write_integer_routine held_so fits args f s refl room stack.inside 3 are))
    refl b.others
    (λ after left. record {
      nothing = refl;
      out = left.out;
      err = left.err;
      input = left.input;
      flag = left.flag;
      buffer = item-left choice item f.sp (stack_top program) stack.inside there.item_off b.memory after.cells left.cells b.buffer_is;
    })
