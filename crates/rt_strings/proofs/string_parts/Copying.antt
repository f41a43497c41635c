-- The routine that copies a piece of a string.
use Rattle.std.proofs.Common.{◌≡◌, ℕ, zero, suc, ◌+◌, ◌-◌, ◌*◌, ◌≤◌, ◌<◌, List, [], ◌∷◌, ◌++◌, length, take, drop, Ok, ℤ, pos, negsuc, refl, sym, ap, subst, ◌∙◌, arith, length-append}
use Rattle.std.specs.Prelude.{min}
use Rattle.std.proofs.lemmas.List.{length-take, length-drop, take_min, drop_min}
use Rattle.common_values.specs.integers.Words.{w16, wrapping_add, wrapping_sub, low_byte}
use Rattle.common_values.specs.Strings.{byte_count, bytes_before, copied, deleted}
use Rattle.flat_code.specs.declared.tree.Address.TheVariants.{Through}
use Rattle.flat_code.specs.declared.tree.FlatOp.TheVariants as op
use Rattle.flat_code.specs.declared.memory.Cell.TheVariants.{Known, Outside}
use Rattle.flat_code.specs.Tree.{Op, Code, End, Loop, ◌then◌}
use Rattle.flat_code.specs.Memory.{Cells, Found, address_of, place_after, put, laid}
use Rattle.flat_code.specs.Program.{FlatProgram, Choice, UnitCode, runtime_key}
use Rattle.flat_code.specs.Meaning.{Frame, State, activation_bytes, frame_of}
use Rattle.flat_code.specs.Legal.{StackFits}
use Rattle.flat_code.specs.Gives.{KeepsRest, AreWords, HasStack}
use Rattle.flat_code.proofs.Shut.{put_other}
use Rattle.runtime_proofs.specs.routine_proofs.Activation.{Slot, Shut, Free, Holds, Activation, IsPlaced}
use Rattle.runtime_proofs.specs.routine_proofs.Straight.{Exit, Onward, Came, straight, code_size}
use Rattle.runtime_proofs.specs.routine_proofs.Comes.{Does}
use Rattle.runtime_proofs.specs.routine_proofs.Entry.{entered, memory_without}
use Rattle.runtime_proofs.specs.routine_proofs.Specifications.{IsHeld}
use Rattle.runtime_proofs.proofs.routine_proofs.Replies.{next_of}
use Rattle.runtime_proofs.proofs.routine_proofs.Doing.{weaker-does, then-does, straight-does}
use Rattle.runtime_proofs.proofs.routine_proofs.Calls.{call-ends, placed, starts}
use Rattle.runtime_proofs.specs.strings_in_memory.Strings.{HasBytes, HasString, IsReached, IsIn, CanMove, place}
use Rattle.runtime_proofs.proofs.strings_in_memory.Cells.{put-same, byte-read, store-so, plus-none, apart-in, bytes-kept, bytes-front, bytes-small, laid-other, laid-has}
use Rattle.runtime_proofs.specs.string_loops.Pieces.{word, behind, place_before, count_behind}
use Rattle.runtime_proofs.specs.string_loops.Counts.{long_value}
use Rattle.runtime_proofs.proofs.string_loops.Seen.{set-so}
use Rattle.runtime_proofs.proofs.string_loops.Counts.{place_before-so, count_behind-so}
use Rattle.runtime_proofs.proofs.string_loops.ForwardLoop.{Moving, forward-does}
use Rattle.runtime_proofs.proofs.string_loops.BackwardLoop.{reached-still}
use Rattle.runtime_proofs.proofs.string_loops.Bytes.{address-shift, bytes-append, bytes-shift, bytes-unshift, bytes-behind}
use Rattle.runtime_proofs.proofs.string_loops.Entry.{string-inside, reached-inside, string-left}
use Rattle.rt_strings.specs.string_parts.Routines.{piece, copy_start, copy_bytes, copy_routine}
use Rattle.rt_strings.specs.string_parts.Specifications.{copy_number, CanCopy, Copies}

low-same : (b : ℕ) → b < 256 → low_byte b ≡ b
low-same b h = omega (arith, h)

-- ---- the piece, by numbers that lie in the text

module _ (text : List ℕ) (q k : ℕ) where
  abbrev pub before : ℕ
  before = min q (length text)

  abbrev pub count : ℕ
  count = min (length text - before) k

  abbrev pub piece_of : List ℕ
  piece_of = take count (drop before text)

  pub piece-size : length piece_of ≡ count
  piece-size = let h = length-take count (drop before text) in let g = length-drop before text in omega (arith, h, g)

  pub piece-is : take k (drop q text) ≡ piece_of
  piece-is =
      let g = length-drop before text in
      let same : min k (length (drop before text)) ≡ count = omega (arith, g) in
      ap (take k) (sym (drop_min q text)) ∙ sym (take_min k (drop before text)) ∙ ap (λ n. take n (drop before text)) same

module _ (program : FlatProgram) (choice : Choice) (own : Frame) (sp : ℕ) (is_placed : IsPlaced choice own sp 22) (e : Activation) (ts fs low high count_low count_high : ℕ) where
  -- in the routine: length, place and count, the two offsets, and memory
  abbrev at : Slot → Slot → Slot → ℕ → ℕ → Cells → Activation
  at len before count to from m = record e { words = Holds ts ∷ Holds to ∷ Holds fs ∷ Holds from ∷ Holds low ∷ Holds high ∷ Holds count_low ∷ Holds count_high ∷ Shut ∷ Shut ∷ Shut ∷ len ∷ before ∷ count ∷ []; memory = m }

  abbrev Goes : Code → Activation → Exit → Activation → Type 0
  Goes code a exit b = Does program choice own sp code 0 (code_size code) a exit b

  piece-does : (to from len : ℕ) (m : Cells) → low < 65536 → high < 65536 → count_low < 65536 → count_high < 65536 → len < 256 → m (address_of (place fs from) 0) ≡ Known len →
      (let b = min (bytes_before (long_value low high)) len in
      Goes piece (at Free Free Free to from m) Onward (at (Holds len) (Holds b) (Holds (min (len - b) (byte_count (long_value count_low count_high)))) to from m))
  piece-does to from len m p q r s short has =
      let c1 = next_of piece in
      let c2 = count_behind (negsuc 5) (negsuc 3) (pos 8) (pos 6) (negsuc 1) End in
      let b = min (bytes_before (long_value low high)) len in
      let s0 = at Free Free Free to from m in
      let s1 = at (Holds len) Free Free to from m in
      let s2 = at (Holds len) (Holds b) Free to from m in
      straight-does program choice own sp 22 is_placed piece s0 Onward _
      (set-so choice own 22 (negsuc 1) (behind (pos 14) 0) c1 s0 s1 len (byte-read m (place_after (place fs from) 0) 0 len (ap m (plus-none fs from 0) ∙ has) short) refl
      ∙ place_before-so choice own 22 (negsuc 3) (λ v. at (Holds len) (Holds v) Free to from m) (record { word_is = λ v. refl; with_word = λ v w. refl }) (pos 12) (pos 10) (negsuc 1) c2 s1 len low high short p q refl (λ v. refl) (λ v. refl) (λ v. refl)
      ∙ count_behind-so choice own 22 (negsuc 5) (λ v. at (Holds len) (Holds b) (Holds v) to from m) (record { word_is = λ v. refl; with_word = λ v w. refl }) (negsuc 3) (pos 8) (pos 6) (negsuc 1) End s2 len b count_low count_high short (omega arith) r s refl refl (λ v. refl) (λ v. refl) (λ v. refl))

  start-does : (len b n to from : ℕ) (m : Cells) → n < 256 → (m (address_of (place ts to) 0) ≡ Outside → ⊥) →
      Goes copy_start (at (Holds len) (Holds b) (Holds n) to from m) Onward (at (Holds len) (Holds b) (Holds n) to (wrapping_add w16 from b) (put m (address_of (place ts to) 0) (Known n)))
  start-does len b n to from m short reached =
      let s0 = at (Holds len) (Holds b) (Holds n) to from m in
      let same = plus-none ts to 0 in
      let c1 = next_of copy_start in
      straight-does program choice own sp 22 is_placed copy_start s0 Onward _
      (store-so choice own 22 (Through (pos 18) 0) (word (negsuc 5)) c1 s0 (place_after (place ts to) 0) n refl refl (λ out. reached (ap m (sym same) ∙ out))
      ∙ ap (λ x. straight choice own 22 c1 (at (Holds len) (Holds b) (Holds n) to from (put m x (Known (low_byte n))))) same
      ∙ ap (λ v. straight choice own 22 c1 (at (Holds len) (Holds b) (Holds n) to from (put m (address_of (place ts to) 0) (Known v)))) (low-same n short))

  moving : (len b : ℕ) → Moving choice own 22 (pos 18) (pos 14) (negsuc 5) ts fs (λ t f left m. at (Holds len) (Holds b) (Holds left) t f m)
  moving len b = record {
    target = λ t f k m plus. refl;
    source = λ t f k m plus. refl;
    memory = λ t f k m. refl;
    to_word = λ t f k m. refl;
    from_word = λ t f k m. refl;
    left_word = λ t f k m. refl;
    with_to = λ t f k m v. refl;
    with_from = λ t f k m v. refl;
    with_left = λ t f k m v. refl;
    with_memory = λ t f k m c. refl;
  }

  module _ (to from : ℕ) (m : Cells) (text : List ℕ) (are : (low < 65536) × (high < 65536) × (count_low < 65536) × (count_high < 65536)) (has : HasString m (place fs from) text) (reached : IsReached m (place ts to) 256) (can : CanMove (place ts to) (place fs from) 256) where
    abbrev q : ℕ
    q = bytes_before (long_value low high)

    abbrev k : ℕ
    k = byte_count (long_value count_low count_high)

    abbrev b : ℕ
    b = before text q k

    abbrev part : List ℕ
    part = piece_of text q k

    abbrev base : ℕ
    base = wrapping_add w16 from b

    -- memory once the length is stored, and in the end
    abbrev m1 : Cells
    m1 = put m (address_of (place ts to) 0) (Known (length part))

    abbrev m2 : Cells
    m2 = laid m1 (place ts to) 1 part

    fits : b + length part ≤ length text
    fits = let h = piece-size text q k in omega (arith, h)

    stands : HasBytes m1 (place fs base) 1 part
    stands =
        let f = fits in
        let short = has.short in
        bytes-kept m m1 (place fs base) 1 part (λ i g. put_other m (address_of (place ts to) 0) (Known (length part)) (address_of (place fs base) (1 + i)) (λ e. can 0 (b + (1 + i)) (omega arith) (omega (arith, g, f, short)) (sym e ∙ address-shift fs from b (1 + i))))
        (bytes-unshift m fs from b 1 (1 + b) part (omega arith) (bytes-front m (place fs from) (1 + b) (count text q k) (drop b text) (bytes-behind m (place fs from) 1 b text has.bytes)))

    -- from the first statement to the last
    all-does : (to' : ℕ) × (from' : ℕ) × Does program choice own sp copy_routine.body 256 8192 (at Free Free Free to from m) Onward (at (Holds (length text)) (Holds b) (Holds 0) to' from' m2)
    all-does =
        let f = fits in
        let short = has.short in
        let n = length part in
        let len = length text in
        let s0 = at Free Free Free to from m in
        let s1 = at (Holds len) (Holds b) (Holds n) to from m in
        let s2 = at (Holds len) (Holds b) (Holds n) to base m1 in
        let moved = forward-does program choice own sp 22 is_placed (pos 18) (pos 14) (negsuc 5) ts fs (λ t f left c. at (Holds len) (Holds b) (Holds left) t f c) (moving len b) part to base m1 (omega (arith, f, short)) stands
        (λ i g. reached-still m (address_of (place ts to) 0) n (address_of (place ts to) i) (reached i (omega (arith, g, f, short))))
        (λ i j p g e. can i (b + j) (omega (arith, p)) (omega (arith, g, f, short)) (e ∙ address-shift fs from b j)) in
        let s3 = at (Holds len) (Holds b) (Holds 0) moved.to moved.from m2 in
        let d1 = subst (λ x. Goes piece s0 Onward (at (Holds len) (Holds b) (Holds x) to from m)) (sym (piece-size text q k)) (piece-does to from len m are.0 are.1 are.2 are.3 short has.size) in
        let d2 = start-does len b n to from m (omega (arith, f, short)) (reached 0 (omega arith)) in
        let e2 = then-does program choice own sp copy_start copy_bytes 0 (code_size copy_start) (1 + n) (20 * (1 + n)) s1 s2 Onward s3 d2 moved.does in
        let e1 = then-does program choice own sp piece (copy_start then copy_bytes) 0 (code_size piece) (0 + (1 + n)) (code_size copy_start + 20 * (1 + n)) s0 s1 Onward s3 d1 e2 in
        (moved.to, moved.from, weaker-does program choice own sp copy_routine.body (0 + (0 + (1 + n))) (code_size piece + (code_size copy_start + 20 * (1 + n))) 256 8192 s0 Onward s3 (omega (arith, f, short)) (omega (arith, f, short)) e1)

    -- what memory holds in the end
    holds-piece : HasString m2 (place ts to) part
    holds-piece =
        let f = fits in
        let short = has.short in
        record {
          size = laid-other m1 (place ts to) 1 part (address_of (place ts to) 0) (λ i g e. apart-in ts to 0 (1 + i) (omega arith) (omega (arith, g, f, short)) e) ∙ put-same m (address_of (place ts to) 0) (Known (length part));
          short = omega (arith, f, short);
          bytes = laid-has m1 ts to 1 part (omega (arith, f, short)) (bytes-small m1 (place fs base) 1 part stands);
        }

    -- no other byte is changed
    others-stay : (x : ℕ) → (IsIn (place ts to) (1 + length part) x → ⊥) → m2 x ≡ m x
    others-stay x free =
        laid-other m1 (place ts to) 1 part x (λ i g e. free (1 + i, omega (arith, g), e))
        ∙ put_other m (address_of (place ts to) 0) (Known (length part)) x (λ e. free (0, omega arith, e))

-- ---- the promise

pub copies : (program : FlatProgram) (choice : Choice) (unit : UnitCode) → StackFits program choice → IsHeld program (runtime_key copy_number) unit copy_routine → Copies program choice
copies program choice unit fits held_so ts to fs from low high count_low count_high text f s words stack can =
    let key = runtime_key copy_number in
    let room : activation_bytes copy_routine ≤ f.sp = omega (arith, stack.room) in
    let args = ts ∷ to ∷ fs ∷ from ∷ low ∷ high ∷ count_low ∷ count_high ∷ [] in
    let own = frame_of key.unit unit copy_routine f in
    let here = placed program choice key unit copy_routine held_so fits args f s refl room stack.inside in
    let start = entered choice f.sp 6 args s in
    let m = memory_without choice f.sp s.cells in
    let are : (low < 65536) × (high < 65536) × (count_low < 65536) × (count_high < 65536) = (words.1.1.1.1.0, words.1.1.1.1.1.0, words.1.1.1.1.1.1.0, words.1.1.1.1.1.1.1.0) in
    let has = string-inside choice f.sp s.cells (place fs from) text can.source_off can.source in
    let reached = reached-inside choice f.sp s.cells (place ts to) 256 can.target_off can.target in
    let done = all-does program choice own f.sp here start ts fs low high count_low count_high to from m text are has reached can.onward in
    let both = holds-piece program choice own f.sp here start ts fs low high count_low count_high to from m text are has reached can.onward in
    let stay = others-stay program choice own f.sp here start ts fs low high count_low count_high to from m text are has reached can.onward in
    let is : copied text (long_value low high) (long_value count_low count_high) ≡ _ = piece-is text (bytes_before (long_value low high)) (byte_count (long_value count_low count_high)) in
    let short = both.short in
    call-ends program choice key unit copy_routine held_so fits args f s refl room stack.inside
    (IsIn (place ts to) (1 + length (copied text (long_value low high) (long_value count_low count_high)))) (λ after bytes. (bytes ≡ []) × HasString after.cells (place ts to) (copied text (long_value low high) (long_value count_low count_high)) × KeepsRest s after) 256 8192 Onward _ [] tt
    (done.2 _ (starts program choice key unit copy_routine held_so fits args f s refl room stack.inside 8 words))
    refl
    (λ x free. stay x (subst (λ text. IsIn (place ts to) (1 + length text) x → ⊥) is free))
    (λ after left. (
      refl,
      subst (HasString after.cells (place ts to)) (sym is) (string-left choice f.sp _ after.cells (place ts to) _ left.cells (λ i h. can.target_off i (omega (arith, h, short))) both),
      record { flag = left.flag; input = left.input; out = left.out; err = left.err },
    ))
