-- The routine that puts one string behind another.
use Rattle.std.proofs.Common.{◌≡◌, ℕ, zero, suc, ◌+◌, ◌-◌, ◌*◌, ◌≤◌, ◌<◌, List, [], ◌∷◌, ◌++◌, length, take, Ok, pos, negsuc, refl, sym, ap, subst, ◌∙◌, arith, length-append}
use Rattle.std.specs.Prelude.{min}
use Rattle.std.proofs.lemmas.List.{length-take}
use Rattle.std.proofs.Math.Seq.{take-append-add}
use Rattle.common_values.specs.integers.Words.{w16, wrapping_add, wrapping_sub, low_byte}
use Rattle.common_values.specs.Strings.{joined}
use Rattle.flat_code.specs.declared.tree.Address.TheVariants.{Through}
use Rattle.flat_code.specs.declared.memory.Cell.TheVariants.{Known, Outside}
use Rattle.flat_code.specs.Tree.{Code, End, Loop, ◌then◌}
use Rattle.flat_code.specs.Memory.{Cells, Found, address_of, place_after, put, laid}
use Rattle.flat_code.specs.Program.{FlatProgram, Choice, UnitCode, runtime_key}
use Rattle.flat_code.specs.Meaning.{Frame, State, activation_bytes, frame_of}
use Rattle.flat_code.specs.Legal.{StackFits}
use Rattle.flat_code.specs.Gives.{KeepsRest, AreWords, HasStack}
use Rattle.flat_code.proofs.Shut.{put_other}
use Rattle.runtime_proofs.specs.routine_proofs.Activation.{Slot, Shut, Free, Holds, Activation, IsPlaced}
use Rattle.runtime_proofs.specs.routine_proofs.Straight.{Exit, Onward, Came, onward, straight, code_size}
use Rattle.runtime_proofs.specs.routine_proofs.Comes.{Does}
use Rattle.runtime_proofs.specs.routine_proofs.Entry.{entered, memory_without}
use Rattle.runtime_proofs.specs.routine_proofs.Specifications.{IsHeld}
use Rattle.runtime_proofs.proofs.routine_proofs.Replies.{next_of}
use Rattle.runtime_proofs.proofs.routine_proofs.Doing.{weaker-does, then-does, straight-does}
use Rattle.runtime_proofs.proofs.routine_proofs.Calls.{call-ends, placed, starts}
use Rattle.runtime_proofs.specs.strings_in_memory.Strings.{HasBytes, HasString, IsReached, IsIn, CanMove, place}
use Rattle.runtime_proofs.proofs.strings_in_memory.Cells.{put-same, byte-read, store-so, plus-none, apart-in, bytes-kept, bytes-front, bytes-small, laid-other, laid-has}
use Rattle.runtime_proofs.specs.string_loops.Pieces.{word, behind, forward_round, backward_round}
use Rattle.runtime_proofs.specs.string_loops.Laid.{laid_back}
use Rattle.runtime_proofs.proofs.string_loops.Seen.{set-so, lessen-so}
use Rattle.runtime_proofs.proofs.string_loops.Counts.{Varying, limit-so}
use Rattle.runtime_proofs.proofs.string_loops.ForwardLoop.{Moving, forward-does}
use Rattle.runtime_proofs.proofs.string_loops.BackwardLoop.{reached-still, laid_back-other, laid_back-reached, laid_back-has, backward-does}
use Rattle.runtime_proofs.proofs.string_loops.Bytes.{address-shift, bytes-append, bytes-shift, bytes-unshift}
use Rattle.runtime_proofs.proofs.string_loops.Entry.{string-inside, reached-inside, string-left}
use Rattle.rt_strings.specs.string_joins.Routines.{join_lengths, join_ends, join_second, join_whole, join_first, concat_routine}
use Rattle.rt_strings.specs.string_joins.Specifications.{concat_number, CanJoin, Joins}

low-same : (b : ℕ) → b < 256 → low_byte b ≡ b
low-same b h = omega (arith, h)

-- the second string as far as there is room behind the first
abbrev room_of : List ℕ → List ℕ → List ℕ
room_of a b = take (255 - length a) b

joined-is : (a b : List ℕ) → length a < 256 → joined a b ≡ a ++ room_of a b
joined-is a b h =
    let whole : 255 ≡ length a + (255 - length a) = omega (arith, h) in
    ap (λ k. take k (a ++ b)) whole ∙ take-append-add a b (255 - length a)

module _ (program : FlatProgram) (choice : Choice) (own : Frame) (sp : ℕ) (is_placed : IsPlaced choice own sp 18) (e : Activation) (ts fs bs : ℕ) where
  -- in the routine: three offsets, the first length, how many bytes are left, the whole length, and memory
  abbrev at : Slot → Slot → Slot → ℕ → ℕ → ℕ → Cells → Activation
  at n left total to first second m = record e { words = Holds ts ∷ Holds to ∷ Holds fs ∷ Holds first ∷ Holds bs ∷ Holds second ∷ Shut ∷ Shut ∷ Shut ∷ n ∷ left ∷ total ∷ []; memory = m }

  abbrev st : ℕ → ℕ → ℕ → ℕ → ℕ → ℕ → Cells → Activation
  st n left total to first second m = at (Holds n) (Holds left) (Holds total) to first second m

  abbrev Goes : Code → Activation → Exit → Activation → Type 0
  Goes code a exit b = Does program choice own sp code 0 (code_size code) a exit b

  lengths-does : (to first second n k : ℕ) (m : Cells) → n < 256 → k < 256 → m (address_of (place fs first) 0) ≡ Known n → m (address_of (place bs second) 0) ≡ Known k →
      Goes join_lengths (at Free Free Free to first second m) Onward (st n (min k (255 - n)) (n + min k (255 - n)) to first second m)
  lengths-does to first second n k m small short has also =
      let room = wrapping_sub w16 255 n in
      let left = min k room in
      let c1 = next_of join_lengths in
      let c2 = next_of c1 in
      let c3 = next_of c2 in
      let c4 = next_of c3 in
      let s0 = at Free Free Free to first second m in
      let s1 = at (Holds n) Free Free to first second m in
      let s2 = at (Holds n) (Holds k) Free to first second m in
      let s3 = st n k room to first second m in
      let s4 = st n left room to first second m in
      let exact : room ≡ 255 - n = omega (arith, small) in
      let sum : (x : ℕ) → x ≡ 255 - n → wrapping_add w16 n (min k x) ≡ n + min k (255 - n) = λ x same. omega (arith, same, small, short) in
      straight-does program choice own sp 18 is_placed join_lengths s0 Onward (st n (min k (255 - n)) (n + min k (255 - n)) to first second m)
      (set-so choice own 18 (negsuc 1) (behind (pos 10) 0) c1 s0 s1 n (byte-read m (place_after (place fs first) 0) 0 n (ap m (plus-none fs first 0) ∙ has) small) refl
      ∙ set-so choice own 18 (negsuc 3) (behind (pos 6) 0) c2 s1 s2 k (byte-read m (place_after (place bs second) 0) 0 k (ap m (plus-none bs second 0) ∙ also) short) refl
      ∙ limit-so choice own 18 (negsuc 3) (λ v. st n v room to first second m) (record { word_is = λ v. refl; with_word = λ v w. refl }) (negsuc 5) c4 k room (λ v. refl)
      ∙ ap (λ x. let r : Found Came = Ok (record { exit = Onward; there = st n (min k room) x to first second m }) in r) (sum room exact)
      ∙ ap (λ x. let r : Found Came = Ok (record { exit = Onward; there = st n (min k x) (n + min k (255 - n)) to first second m }) in r) exact)

  ends-does : (n left total to first second : ℕ) (m : Cells) → Goes join_ends (st n left total to first second m) Onward (st n left total (wrapping_add w16 (wrapping_add w16 to n) left) first (wrapping_add w16 second left) m)
  ends-does n left total to first second m = straight-does program choice own sp 18 is_placed join_ends (st n left total to first second m) Onward (st n left total (wrapping_add w16 (wrapping_add w16 to n) left) first (wrapping_add w16 second left) m) refl

  whole-does : (n total to first second : ℕ) (m : Cells) → to < 65536 → n < 256 → total < 256 → (m (address_of (place ts to) 0) ≡ Outside → ⊥) →
      Goes join_whole (st n 0 total (wrapping_add w16 (wrapping_add w16 to n) 0) first second m) Onward (st n n total to first second (put m (address_of (place ts to) 0) (Known total)))
  whole-does n total to first second m narrow small short reached =
      let there = wrapping_add w16 (wrapping_add w16 to n) 0 in
      let back : wrapping_sub w16 there n ≡ to = omega (arith, narrow, small) in
      let c1 = next_of join_whole in
      let c2 = next_of c1 in
      let s0 = st n 0 total there first second m in
      let s1 = st n 0 total to first second m in
      let same = plus-none ts to 0 in
      let k = put m (address_of (place ts to) 0) (Known total) in
      straight-does program choice own sp 18 is_placed join_whole s0 Onward (st n n total to first second k)
      (lessen-so choice own 18 (pos 14) (word (negsuc 1)) c1 s0 (st n 0 total (wrapping_sub w16 there n) first second m) there n refl refl refl
      ∙ ap (λ x. straight choice own 18 c1 (st n 0 total x first second m)) back
      ∙ store-so choice own 18 (Through (pos 14) 0) (word (negsuc 5)) c2 s1 (place_after (place ts to) 0) total refl refl (λ out. reached (ap m (sym same) ∙ out))
      ∙ ap (λ x. straight choice own 18 c2 (st n 0 total to first second (put m x (Known (low_byte total))))) same
      ∙ ap (λ b. straight choice own 18 c2 (st n 0 total to first second (put m (address_of (place ts to) 0) (Known b)))) (low-same total short))

  moving-back : (n total first : ℕ) → Moving choice own 18 (pos 14) (pos 6) (negsuc 3) ts bs (λ t f left m. st n left total t first f m)
  moving-back n total first = record {
    target = λ t f k m plus. refl;
    source = λ t f k m plus. refl;
    memory = λ t f k m. refl;
    to_word = λ t f k m. refl;
    from_word = λ t f k m. refl;
    left_word = λ t f k m. refl;
    with_to = λ t f k m v. refl;
    with_from = λ t f k m v. refl;
    with_left = λ t f k m v. refl;
    with_memory = λ t f k m c. refl;
  }

  moving-on : (n total second : ℕ) → Moving choice own 18 (pos 14) (pos 10) (negsuc 3) ts fs (λ t f left m. st n left total t f second m)
  moving-on n total second = record {
    target = λ t f k m plus. refl;
    source = λ t f k m plus. refl;
    memory = λ t f k m. refl;
    to_word = λ t f k m. refl;
    from_word = λ t f k m. refl;
    left_word = λ t f k m. refl;
    with_to = λ t f k m v. refl;
    with_from = λ t f k m v. refl;
    with_left = λ t f k m v. refl;
    with_memory = λ t f k m c. refl;
  }

  module _ (to first second : ℕ) (m : Cells) (a b : List ℕ) (word_to : to < 65536) (has : HasString m (place fs first) a) (also : HasString m (place bs second) b) (reached : IsReached m (place ts to) 256) (forth : CanMove (place ts to) (place fs first) 256) (aside : CanMove (place fs first) (place ts to) 256) (above : CanMove (place bs second) (place ts to) 256) where
    abbrev more : List ℕ
    more = room_of a b

    abbrev base : ℕ
    base = wrapping_add w16 to (length a)

    -- memory once the second string is moved, once the length is stored, and in the end
    abbrev m1 : Cells
    m1 = laid_back m (place ts base) 1 more

    abbrev m2 : Cells
    m2 = put m1 (address_of (place ts to) 0) (Known (length a + length more))

    abbrev m3 : Cells
    m3 = laid m2 (place ts to) 1 a

    more-size : length more ≡ min (length b) (255 - length a)
    more-size = let h = length-take (255 - length a) b in omega (arith, h)

    fits : length a + length more < 256
    fits = let h = more-size in let g = has.short in omega (arith, h, g)

    first-stays : HasBytes m2 (place fs first) 1 a
    first-stays = bytes-kept m m2 (place fs first) 1 a (λ k h.
        put_other m1 (address_of (place ts to) 0) (Known (length a + length more)) (address_of (place fs first) (1 + k)) (λ e. forth 0 (1 + k) (omega arith) (omega (arith, h, has.short)) (sym e))
        ∙ laid_back-other m (place ts base) 1 more (address_of (place fs first) (1 + k)) (λ j g e. aside (1 + k) (length a + (1 + j)) (omega (arith, h)) (omega (arith, g, fits)) (e ∙ address-shift ts to (length a) (1 + j)))) has.bytes

    reached-then : IsReached m2 (place ts to) 256
    reached-then i h = reached-still m1 (address_of (place ts to) 0) (length a + length more) (address_of (place ts to) i) (laid_back-reached m (place ts base) 1 more (address_of (place ts to) i) (reached i h))

    -- from the first statement to the last
    all-does : (to' : ℕ) × (first' : ℕ) × Does program choice own sp concat_routine.body 512 8192 (at Free Free Free to first second m) Onward (st (length a) 0 (length a + length more) to' first' (wrapping_add w16 second 0) m3)
    all-does =
        let n = length a in
        let k = length more in
        let total = n + k in
        let size = fits in
        let short = has.short in
        let s0 = at Free Free Free to first second m in
        let s1 = st n k total to first second m in
        let s2 = st n k total (wrapping_add w16 base k) first (wrapping_add w16 second k) m in
        let s3 = st n 0 total (wrapping_add w16 base 0) first (wrapping_add w16 second 0) m1 in
        let s4 = st n n total to first (wrapping_add w16 second 0) m2 in
        let moved = forward-does program choice own sp 18 is_placed (pos 14) (pos 10) (negsuc 3) ts fs (λ t f left c. st n left total t f (wrapping_add w16 second 0) c) (moving-on n total (wrapping_add w16 second 0)) a to first m2 (omega (arith, short)) first-stays
        (λ i h. reached-then i (omega (arith, h, short))) (λ i j p q. forth i j p (omega (arith, q, short))) in
        let s5 = st n 0 total moved.to moved.from (wrapping_add w16 second 0) m3 in
        let lengths = subst (λ x. Goes join_lengths s0 Onward (st n x (n + x) to first second m)) (sym more-size) (lengths-does to first second n (length b) m short also.short has.size also.size) in
        let back = backward-does program choice own sp 18 is_placed (pos 14) (pos 6) (negsuc 3) ts bs (λ t f left c. st n left total t first f c) (moving-back n total first) base second more m (omega (arith, size)) (bytes-front m (place bs second) 1 (255 - n) b also.bytes)
        (λ i h out. reached (n + i) (omega (arith, h, size)) (ap m (sym (address-shift ts to n i)) ∙ out))
        (λ i j p q e. above i (n + j) (omega (arith, p)) (omega (arith, q, size)) (e ∙ address-shift ts to n j)) in
        let whole = whole-does n total to first (wrapping_add w16 second 0) m1 word_to short size (laid_back-reached m (place ts base) 1 more (address_of (place ts to) 0) (reached 0 (omega arith))) in
        let d4 = then-does program choice own sp join_whole join_first 0 (code_size join_whole) (1 + n) (20 * (1 + n)) s3 s4 Onward s5 whole moved.does in
        let d3 = then-does program choice own sp join_second (join_whole then join_first) (1 + k) (20 * (1 + k)) (0 + (1 + n)) (code_size join_whole + 20 * (1 + n)) s2 s3 Onward s5 back d4 in
        let d2 = then-does program choice own sp join_ends (join_second then (join_whole then join_first)) 0 (code_size join_ends) (1 + k + (0 + (1 + n))) (20 * (1 + k) + (code_size join_whole + 20 * (1 + n))) s1 s2 Onward s5 (ends-does n k total to first second m) d3 in
        let d1 = then-does program choice own sp join_lengths (join_ends then (join_second then (join_whole then join_first))) 0 (code_size join_lengths) (0 + (1 + k + (0 + (1 + n)))) (code_size join_ends + (20 * (1 + k) + (code_size join_whole + 20 * (1 + n)))) s0 s1 Onward s5 lengths d2 in
        (moved.to, moved.from, weaker-does program choice own sp concat_routine.body (0 + (0 + (1 + k + (0 + (1 + n))))) (code_size join_lengths + (code_size join_ends + (20 * (1 + k) + (code_size join_whole + 20 * (1 + n))))) 512 8192 s0 Onward s5 (omega (arith, size)) (omega (arith, size)) d1)

    -- what memory holds in the end
    holds-both : HasString m3 (place ts to) (a ++ more)
    holds-both =
        let size = fits in
        let all = length-append a more in
        let n = length a in
        record {
          size = laid-other m2 (place ts to) 1 a (address_of (place ts to) 0) (λ k h e. apart-in ts to 0 (1 + k) (omega arith) (omega (arith, h, size)) e) ∙ put-same m1 (address_of (place ts to) 0) (Known (n + length more)) ∙ ap Known (sym all);
          short = omega (arith, size, all);
          bytes = bytes-append m3 (place ts to) 1 (1 + n) a more refl
              (laid-has m2 ts to 1 a (omega (arith, size)) (bytes-small m (place fs first) 1 a has.bytes))
              (bytes-kept m1 m3 (place ts to) (1 + n) more (λ k h.
              laid-other m2 (place ts to) 1 a (address_of (place ts to) (1 + n + k)) (λ j g e. apart-in ts to (1 + j) (1 + n + k) (omega (arith, g)) (omega (arith, h, size)) (sym e))
              ∙ put_other m1 (address_of (place ts to) 0) (Known (n + length more)) (address_of (place ts to) (1 + n + k)) (λ e. apart-in ts to 0 (1 + n + k) (omega arith) (omega (arith, h, size)) (sym e)))
              (bytes-shift m1 ts to n 1 (1 + n) more (omega arith)
              (laid_back-has m ts base 1 more (omega (arith, size)) (bytes-small m (place bs second) 1 more (bytes-front m (place bs second) 1 (255 - n) b also.bytes)))));
        }

    -- no other byte is changed
    others-stay : (x : ℕ) → (IsIn (place ts to) (1 + length (a ++ more)) x → ⊥) → m3 x ≡ m x
    others-stay x free =
        let all = length-append a more in
        let n = length a in
        laid-other m2 (place ts to) 1 a x (λ k h e. free (1 + k, omega (arith, h, all), e))
        ∙ put_other m1 (address_of (place ts to) 0) (Known (n + length more)) x (λ e. free (0, omega arith, e))
        ∙ laid_back-other m (place ts base) 1 more x (λ k h e. free (n + (1 + k), omega (arith, h, all), e ∙ address-shift ts to n (1 + k)))

-- ---- the promise

pub joins : (program : FlatProgram) (choice : Choice) (unit : UnitCode) → StackFits program choice → IsHeld program (runtime_key concat_number) unit concat_routine → Joins program choice
joins program choice unit fits held_so ts to fs first bs second a b f s words stack can =
    let key = runtime_key concat_number in
    let room : activation_bytes concat_routine ≤ f.sp = omega (arith, stack.room) in
    let args = ts ∷ to ∷ fs ∷ first ∷ bs ∷ second ∷ [] in
    let own = frame_of key.unit unit concat_routine f in
    let here = placed program choice key unit concat_routine held_so fits args f s refl room stack.inside in
    let start = entered choice f.sp 6 args s in
    let m = memory_without choice f.sp s.cells in
    let has = string-inside choice f.sp s.cells (place fs first) a can.first_off can.first_there in
    let also = string-inside choice f.sp s.cells (place bs second) b can.second_off can.second_there in
    let reached = reached-inside choice f.sp s.cells (place ts to) 256 can.target_off can.target in
    let done = all-does program choice own f.sp here start ts fs bs to first second m a b words.1.0 has also reached can.onward can.aside can.above in
    let both = holds-both program choice own f.sp here start ts fs bs to first second m a b words.1.0 has also reached can.onward can.aside can.above in
    let stay = others-stay program choice own f.sp here start ts fs bs to first second m a b words.1.0 has also reached can.onward can.aside can.above in
    let is = joined-is a b can.first_there.short in
    let short = both.short in
    call-ends program choice key unit concat_routine held_so fits args f s refl room stack.inside
    (IsIn (place ts to) (1 + length (joined a b))) (λ after bytes. (bytes ≡ []) × HasString after.cells (place ts to) (joined a b) × KeepsRest s after) 512 8192 Onward _ [] tt
    (done.2 _ (starts program choice key unit concat_routine held_so fits args f s refl room stack.inside 6 words))
    refl
    (λ x free. stay x (subst (λ text. IsIn (place ts to) (1 + length text) x → ⊥) is free))
    (λ after left. (
      refl,
      subst (HasString after.cells (place ts to)) (sym is) (string-left choice f.sp _ after.cells (place ts to) (a ++ room_of a b) left.cells (λ i h. can.target_off i (omega (arith, h, short))) both),
      record { flag = left.flag; input = left.input; out = left.out; err = left.err },
    ))
