-- The routine that takes a piece out of a string.
use Rattle.std.proofs.Common.{◌≡◌, ℕ, zero, suc, ◌+◌, ◌-◌, ◌*◌, ◌≤◌, ◌<◌, List, [], ◌∷◌, ◌++◌, length, get_or, take, drop, Ok, ℤ, pos, negsuc, refl, sym, ap, subst, ◌∙◌, arith, length-append}
use Rattle.std.specs.Prelude.{min}
use Rattle.std.proofs.lemmas.List.{length-take, length-drop, take_min, drop_min}
use Rattle.common_values.specs.integers.Words.{w16, wrapping_add, wrapping_sub, low_byte}
use Rattle.common_values.specs.Strings.{byte_count, bytes_before, copied, deleted}
use Rattle.flat_code.specs.declared.tree.Address.TheVariants.{Through}
use Rattle.flat_code.specs.declared.tree.FlatOp.TheVariants as op
use Rattle.flat_code.specs.declared.memory.Cell.TheVariants.{Known, Outside}
use Rattle.flat_code.specs.Tree.{Op, Code, End, Loop, ◌then◌}
use Rattle.flat_code.specs.Memory.{Cells, Found, address_of, place_after, put, laid}
use Rattle.flat_code.specs.Program.{FlatProgram, Choice, UnitCode, runtime_key}
use Rattle.flat_code.specs.Meaning.{Frame, State, activation_bytes, frame_of}
use Rattle.flat_code.specs.Legal.{StackFits}
use Rattle.flat_code.specs.Gives.{KeepsRest, AreWords, HasStack}
use Rattle.flat_code.proofs.Shut.{put_other}
use Rattle.runtime_proofs.specs.routine_proofs.Activation.{Slot, Shut, Free, Holds, Activation, IsPlaced}
use Rattle.runtime_proofs.specs.routine_proofs.Straight.{Exit, Onward, Came, straight, code_size}
use Rattle.runtime_proofs.specs.routine_proofs.Comes.{Does}
use Rattle.runtime_proofs.specs.routine_proofs.Entry.{entered, memory_without}
use Rattle.runtime_proofs.specs.routine_proofs.Specifications.{IsHeld}
use Rattle.runtime_proofs.proofs.routine_proofs.Replies.{next_of}
use Rattle.runtime_proofs.proofs.routine_proofs.Doing.{weaker-does, then-does, straight-does}
use Rattle.runtime_proofs.proofs.routine_proofs.Calls.{call-ends, placed, starts}
use Rattle.runtime_proofs.specs.strings_in_memory.Strings.{HasBytes, HasString, IsReached, IsIn, CanMove, place}
use Rattle.runtime_proofs.proofs.strings_in_memory.Cells.{put-same, byte-read, store-so, plus-none, apart-in, bytes-kept, bytes-front, bytes-small, laid-other, laid-has}
use Rattle.runtime_proofs.specs.string_loops.Pieces.{word, behind, place_before, count_behind}
use Rattle.runtime_proofs.specs.string_loops.Counts.{long_value}
use Rattle.runtime_proofs.proofs.string_loops.Seen.{set-so}
use Rattle.runtime_proofs.proofs.string_loops.Counts.{place_before-so, count_behind-so}
use Rattle.runtime_proofs.proofs.string_loops.ForwardLoop.{Moving, forward-does}
use Rattle.runtime_proofs.proofs.string_loops.BackwardLoop.{reached-still}
use Rattle.runtime_proofs.proofs.string_loops.Bytes.{address-shift, bytes-append, bytes-shift, bytes-unshift, bytes-behind}
use Rattle.runtime_proofs.proofs.string_loops.Entry.{string-inside, reached-inside, string-left}
use Rattle.rt_strings.specs.string_parts.Routines.{piece, delete_start, delete_bytes, delete_routine}
use Rattle.rt_strings.specs.string_parts.Specifications.{delete_number, CanDelete, Deletes}

-- ---- what is left, by numbers that lie in the text

module _ (text : List ℕ) (q k : ℕ) where
  abbrev before : ℕ
  before = min q (length text)

  abbrev count : ℕ
  count = min (length text - before) k

  abbrev front : List ℕ
  front = take before text

  abbrev rest : List ℕ
  rest = drop count (drop before text)

  front-size : length front ≡ before
  front-size = let h = length-take before text in omega (arith, h)

  rest-size : length rest ≡ length text - before - count
  rest-size = let h = length-drop count (drop before text) in let g = length-drop before text in omega (arith, h, g)

  left-is : take q text ++ drop k (drop q text) ≡ front ++ rest
  left-is =
      let g = length-drop before text in
      let same : min k (length (drop before text)) ≡ count = omega (arith, g) in
      ap (λ (l : List ℕ). l ++ drop k (drop q text)) (sym (take_min q text))
      ∙ ap (λ (l : List ℕ). front ++ drop k l) (sym (drop_min q text))
      ∙ ap (λ (l : List ℕ). front ++ l) (sym (drop_min k (drop before text)) ∙ ap (λ n. drop n (drop before text)) same)

module _ (program : FlatProgram) (choice : Choice) (own : Frame) (sp : ℕ) (is_placed : IsPlaced choice own sp 18) (e : Activation) (ts low high count_low count_high : ℕ) where
  -- in the routine: length, place and count, a pointer, how many bytes are left, the offset, and memory
  abbrev at : Slot → Slot → Slot → Slot → Slot → Slot → ℕ → Cells → Activation
  at len before count segment offset left to m = record e { words = Holds ts ∷ Holds to ∷ Holds low ∷ Holds high ∷ Holds count_low ∷ Holds count_high ∷ Shut ∷ Shut ∷ Shut ∷ len ∷ before ∷ count ∷ segment ∷ offset ∷ left ∷ []; memory = m }

  abbrev Goes : Code → Activation → Exit → Activation → Type 0
  Goes code a exit b = Does program choice own sp code 0 (code_size code) a exit b

  piece-does : (to len : ℕ) (m : Cells) → low < 65536 → high < 65536 → count_low < 65536 → count_high < 65536 → len < 256 → m (address_of (place ts to) 0) ≡ Known len →
      (let b = min (bytes_before (long_value low high)) len in
      Goes piece (at Free Free Free Free Free Free to m) Onward (at (Holds len) (Holds b) (Holds (min (len - b) (byte_count (long_value count_low count_high)))) Free Free Free to m))
  piece-does to len m p q r s short has =
      let c1 = next_of piece in
      let c2 = count_behind (negsuc 5) (negsuc 3) (pos 8) (pos 6) (negsuc 1) End in
      let b = min (bytes_before (long_value low high)) len in
      let s0 = at Free Free Free Free Free Free to m in
      let s1 = at (Holds len) Free Free Free Free Free to m in
      let s2 = at (Holds len) (Holds b) Free Free Free Free to m in
      straight-does program choice own sp 18 is_placed piece s0 Onward _
      (set-so choice own 18 (negsuc 1) (behind (pos 14) 0) c1 s0 s1 len (byte-read m (place_after (place ts to) 0) 0 len (ap m (plus-none ts to 0) ∙ has) short) refl
      ∙ place_before-so choice own 18 (negsuc 3) (λ v. at (Holds len) (Holds v) Free Free Free Free to m) (record { word_is = λ v. refl; with_word = λ v w. refl }) (pos 12) (pos 10) (negsuc 1) c2 s1 len low high short p q refl (λ v. refl) (λ v. refl) (λ v. refl)
      ∙ count_behind-so choice own 18 (negsuc 5) (λ v. at (Holds len) (Holds b) (Holds v) Free Free Free to m) (record { word_is = λ v. refl; with_word = λ v w. refl }) (negsuc 3) (pos 8) (pos 6) (negsuc 1) End s2 len b count_low count_high short (omega arith) r s refl refl (λ v. refl) (λ v. refl) (λ v. refl))

  start-does : (len b n to : ℕ) (m : Cells) → len < 256 → b + n ≤ len → (m (address_of (place ts to) 0) ≡ Outside → ⊥) →
      (let base = wrapping_add w16 to b in
      Goes delete_start (at (Holds len) (Holds b) (Holds n) Free Free Free to m) Onward (at (Holds len) (Holds b) (Holds n) (Holds ts) (Holds (wrapping_add w16 base n)) (Holds (len - b - n)) base (put m (address_of (place ts to) 0) (Known (len - n)))))
  start-does len b n to m short fits reached =
      let s0 = at (Holds len) (Holds b) (Holds n) Free Free Free to m in
      let same = plus-none ts to 0 in
      let c1 = next_of delete_start in
      let size = wrapping_sub w16 len n in
      let left = wrapping_sub w16 (wrapping_sub w16 len b) n in
      let base = wrapping_add w16 to b in
      let exact : low_byte size ≡ len - n = omega (arith, short, fits) in
      let rest : left ≡ len - b - n = omega (arith, short, fits) in
      straight-does program choice own sp 18 is_placed delete_start s0 Onward _
      (store-so choice own 18 (Through (pos 14) 0) (Op op.Sub (word (negsuc 1)) (word (negsuc 5))) c1 s0 (place_after (place ts to) 0) size refl refl (λ out. reached (ap m (sym same) ∙ out))
      ∙ ap (λ x. straight choice own 18 c1 (at (Holds len) (Holds b) (Holds n) Free Free Free to (put m x (Known (low_byte size))))) same
      ∙ ap (λ v. straight choice own 18 c1 (at (Holds len) (Holds b) (Holds n) Free Free Free to (put m (address_of (place ts to) 0) (Known v)))) exact
      ∙ ap (λ v. let r : Found Came = Ok (record { exit = Onward; there = at (Holds len) (Holds b) (Holds n) (Holds ts) (Holds (wrapping_add w16 base n)) (Holds v) base (put m (address_of (place ts to) 0) (Known (len - n))) }) in r) rest)

  moving : (len b n : ℕ) → Moving choice own 18 (pos 14) (negsuc 9) (negsuc 11) ts ts (λ t f left m. at (Holds len) (Holds b) (Holds n) (Holds ts) (Holds f) (Holds left) t m)
  moving len b n = record {
    target = λ t f k m plus. refl;
    source = λ t f k m plus. refl;
    memory = λ t f k m. refl;
    to_word = λ t f k m. refl;
    from_word = λ t f k m. refl;
    left_word = λ t f k m. refl;
    with_to = λ t f k m v. refl;
    with_from = λ t f k m v. refl;
    with_left = λ t f k m v. refl;
    with_memory = λ t f k m c. refl;
  }

  module _ (to : ℕ) (m : Cells) (text : List ℕ) (are : (low < 65536) × (high < 65536) × (count_low < 65536) × (count_high < 65536)) (has : HasString m (place ts to) text) where
    abbrev q : ℕ
    q = bytes_before (long_value low high)

    abbrev k : ℕ
    k = byte_count (long_value count_low count_high)

    abbrev b : ℕ
    b = before text q k

    abbrev n : ℕ
    n = count text q k

    abbrev head : List ℕ
    head = front text q k

    abbrev tail : List ℕ
    tail = rest text q k

    abbrev base : ℕ
    base = wrapping_add w16 to b

    abbrev source : ℕ
    source = wrapping_add w16 base n

    -- memory once the length is stored, and in the end
    abbrev m1 : Cells
    m1 = put m (address_of (place ts to) 0) (Known (length text - n))

    abbrev m2 : Cells
    m2 = laid m1 (place ts base) 1 tail

    tail-size : length tail ≡ length text - b - n
    tail-size = rest-size text q k

    base-address : (i : ℕ) → address_of (place ts base) i ≡ address_of (place ts to) (b + i)
    base-address i = address-shift ts to b i

    source-address : (i : ℕ) → address_of (place ts source) i ≡ address_of (place ts to) (b + (n + i))
    source-address i = address-shift ts base n i ∙ base-address (n + i)

    stands : HasBytes m1 (place ts source) 1 tail
    stands =
        let f = tail-size in
        let short = has.short in
        bytes-kept m m1 (place ts source) 1 tail (λ i g. put_other m (address_of (place ts to) 0) (Known (length text - n)) (address_of (place ts source) (1 + i)) (λ e. apart-in ts to 0 (b + (n + (1 + i))) (omega arith) (omega (arith, g, f, short)) (sym e ∙ source-address (1 + i))))
        (bytes-unshift m ts base n 1 (1 + n) tail (omega arith)
        (bytes-behind m (place ts base) 1 n (drop b text)
        (bytes-unshift m ts to b 1 (1 + b) (drop b text) (omega arith) (bytes-behind m (place ts to) 1 b text has.bytes))))

    -- where the string stands can be reached
    reached : (i : ℕ) → i < 1 + length text → m (address_of (place ts to) i) ≡ Outside → ⊥
    reached zero h out = let r = sym has.size ∙ out in absurd (cc)
    reached (suc i) h out =
        let r = sym (known-byte m (place ts to) 1 text i (omega (arith, h)) has.bytes) ∙ (ap (λ j. m (address_of (place ts to) j)) (next i) ∙ out) in absurd (cc)
      where
        next : (i : ℕ) → 1 + i ≡ suc i
        next i = omega arith

        known-byte : (m : Cells) (p : _) (j : ℕ) (bytes : List ℕ) (i : ℕ) → i < length bytes → HasBytes m p j bytes → m (address_of p (j + i)) ≡ Known (get_or bytes i 0)
        known-byte m p j [] i h has = absurd (omega (arith, h))
        known-byte m p j (x ∷ bytes) zero h has = let e : j + 0 ≡ j = omega arith in ap (λ y. m (address_of p y)) e ∙ has.0
        known-byte m p j (x ∷ bytes) (suc i) h has = let e : j + suc i ≡ j + 1 + i = omega arith in ap (λ y. m (address_of p y)) e ∙ known-byte m p (j + 1) bytes i (omega (arith, h)) has.2

    -- from the first statement to the last
    all-does : (to' : ℕ) × (from' : ℕ) × Does program choice own sp delete_routine.body 256 8192 (at Free Free Free Free Free Free to m) Onward (at (Holds (length text)) (Holds b) (Holds n) (Holds ts) (Holds from') (Holds 0) to' m2)
    all-does =
        let f = tail-size in
        let short = has.short in
        let r = length tail in
        let len = length text in
        let s0 = at Free Free Free Free Free Free to m in
        let s1 = at (Holds len) (Holds b) (Holds n) Free Free Free to m in
        let s2 = at (Holds len) (Holds b) (Holds n) (Holds ts) (Holds source) (Holds r) base m1 in
        let moved = forward-does program choice own sp 18 is_placed (pos 14) (negsuc 9) (negsuc 11) ts ts (λ t f left c. at (Holds len) (Holds b) (Holds n) (Holds ts) (Holds f) (Holds left) t c) (moving len b n) tail base source m1 (omega (arith, f, short)) stands
        (λ i g out. reached-still m (address_of (place ts to) 0) (len - n) (address_of (place ts to) (b + i)) (reached (b + i) (omega (arith, g, f))) (ap m1 (sym (base-address i)) ∙ out))
        (λ i j p g e. by-places i j (omega (arith, p)) (omega (arith, g, f, short)) (sym (base-address i) ∙ e ∙ source-address j)) in
        let s3 = at (Holds len) (Holds b) (Holds n) (Holds ts) (Holds moved.from) (Holds 0) moved.to m2 in
        let d1 = piece-does to len m are.0 are.1 are.2 are.3 short has.size in
        let d2 = subst (λ x. Goes delete_start s1 Onward (at (Holds len) (Holds b) (Holds n) (Holds ts) (Holds source) (Holds x) base m1)) (sym f) (start-does len b n to m short (omega arith) (reached 0 (omega arith))) in
        let e2 = then-does program choice own sp delete_start delete_bytes 0 (code_size delete_start) (1 + r) (20 * (1 + r)) s1 s2 Onward s3 d2 moved.does in
        let e1 = then-does program choice own sp piece (delete_start then delete_bytes) 0 (code_size piece) (0 + (1 + r)) (code_size delete_start + 20 * (1 + r)) s0 s1 Onward s3 d1 e2 in
        (moved.to, moved.from, weaker-does program choice own sp delete_routine.body (0 + (0 + (1 + r))) (code_size piece + (code_size delete_start + 20 * (1 + r))) 256 8192 s0 Onward s3 (omega (arith, f, short)) (omega (arith, f, short)) e1)
      where
        by-places : (i j : ℕ) → i < j → b + (n + j) < 65536 → address_of (place ts to) (b + i) ≡ address_of (place ts to) (b + (n + j)) → ⊥
        by-places i j p g e = apart-in ts to (b + i) (b + (n + j)) (omega (arith, p)) g e

    whole-size : length (head ++ tail) ≡ length text - n
    whole-size =
        let f = tail-size in
        let x = front-size text q k in
        let all = length-append head tail in
        omega (arith, f, x, all)

    -- what memory holds in the end
    holds-rest : HasString m2 (place ts to) (head ++ tail)
    holds-rest =
        let f = tail-size in
        let short = has.short in
        let sum = whole-size in
        let x = front-size text q k in
        record {
          size = laid-other m1 (place ts base) 1 tail (address_of (place ts to) 0) (λ i g e. apart-in ts to 0 (b + (1 + i)) (omega arith) (omega (arith, g, f, short)) (e ∙ base-address (1 + i))) ∙ put-same m (address_of (place ts to) 0) (Known (length text - n)) ∙ ap Known (sym sum);
          short = omega (arith, sum, short);
          bytes = bytes-append m2 (place ts to) 1 (1 + b) head tail (omega (arith, x))
              (bytes-kept m m2 (place ts to) 1 head (λ i g.
              laid-other m1 (place ts base) 1 tail (address_of (place ts to) (1 + i)) (λ j l e. apart-in ts to (1 + i) (b + (1 + j)) (omega (arith, g, x)) (omega (arith, l, f, short)) (e ∙ base-address (1 + j)))
              ∙ put_other m (address_of (place ts to) 0) (Known (length text - n)) (address_of (place ts to) (1 + i)) (λ e. apart-in ts to 0 (1 + i) (omega arith) (omega (arith, g, x, short)) (sym e)))
              (bytes-front m (place ts to) 1 b text has.bytes))
              (bytes-shift m2 ts to b 1 (1 + b) tail (omega arith) (laid-has m1 ts base 1 tail (omega (arith, f, short)) (bytes-small m1 (place ts source) 1 tail stands)));
        }

    -- no other byte is changed
    others-stay : (x : ℕ) → (IsIn (place ts to) (1 + length (head ++ tail)) x → ⊥) → m2 x ≡ m x
    others-stay x free =
        let f = tail-size in
        let y = front-size text q k in
        let all = length-append head tail in
        laid-other m1 (place ts base) 1 tail x (λ i g e. free (b + (1 + i), omega (arith, g, y, all), e ∙ base-address (1 + i)))
        ∙ put_other m (address_of (place ts to) 0) (Known (length text - n)) x (λ e. free (0, omega arith, e))

-- ---- the promise

pub deletes : (program : FlatProgram) (choice : Choice) (unit : UnitCode) → StackFits program choice → IsHeld program (runtime_key delete_number) unit delete_routine → Deletes program choice
deletes program choice unit fits held_so ts to low high count_low count_high text f s words stack can =
    let key = runtime_key delete_number in
    let room : activation_bytes delete_routine ≤ f.sp = omega (arith, stack.room) in
    let args = ts ∷ to ∷ low ∷ high ∷ count_low ∷ count_high ∷ [] in
    let own = frame_of key.unit unit delete_routine f in
    let here = placed program choice key unit delete_routine held_so fits args f s refl room stack.inside in
    let start = entered choice f.sp 12 args s in
    let m = memory_without choice f.sp s.cells in
    let are : (low < 65536) × (high < 65536) × (count_low < 65536) × (count_high < 65536) = (words.1.1.0, words.1.1.1.0, words.1.1.1.1.0, words.1.1.1.1.1.0) in
    let has = string-inside choice f.sp s.cells (place ts to) text can.off can.source in
    let done = all-does program choice own f.sp here start ts low high count_low count_high to m text are has in
    let both = holds-rest program choice own f.sp here start ts low high count_low count_high to m text are has in
    let stay = others-stay program choice own f.sp here start ts low high count_low count_high to m text are has in
    let sum = whole-size program choice own f.sp here start ts low high count_low count_high to m text are has in
    let is : deleted text (long_value low high) (long_value count_low count_high) ≡ _ = left-is text (bytes_before (long_value low high)) (byte_count (long_value count_low count_high)) in
    call-ends program choice key unit delete_routine held_so fits args f s refl room stack.inside
    (IsIn (place ts to) (1 + length (deleted text (long_value low high) (long_value count_low count_high)))) (λ after bytes. (bytes ≡ []) × HasString after.cells (place ts to) (deleted text (long_value low high) (long_value count_low count_high)) × KeepsRest s after) 256 8192 Onward _ [] tt
    (done.2 _ (starts program choice key unit delete_routine held_so fits args f s refl room stack.inside 6 words))
    refl
    (λ x free. stay x (subst (λ text. IsIn (place ts to) (1 + length text) x → ⊥) is free))
    (λ after left. (
      refl,
      subst (HasString after.cells (place ts to)) (sym is) (string-left choice f.sp _ after.cells (place ts to) _ left.cells (λ i h. can.off i (omega (arith, h, sum))) both),
      record { flag = left.flag; input = left.input; out = left.out; err = left.err },
    ))
