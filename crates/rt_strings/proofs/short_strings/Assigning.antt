-- The routine that assigns a string.
use Rattle.std.proofs.Common.{◌≡◌, ℕ, suc, ◌+◌, ◌*◌, ◌≤◌, ◌<◌, ◌⊎◌, inl, inr, List, [], ◌∷◌, length, take, Ok, pos, negsuc, refl, sym, ap, subst, ◌∙◌, arith, ⊎_elim}
use Rattle.std.specs.Prelude.{nat_lt}
use Rattle.std.proofs.lemmas.Bool.{cases_eq}
use Rattle.std.proofs.lemmas.Bool.Decides.{nat_tests}
use Rattle.std.proofs.lemmas.List.{length-take}
use Rattle.common_values.specs.integers.Words.{w16, wrapping_add, wrapping_sub, low_byte}
use Rattle.common_values.specs.Strings.{cut}
use Rattle.flat_code.specs.declared.tree.Address.TheVariants.{Local, Through}
use Rattle.flat_code.specs.declared.memory.Cell.TheVariants.{Known, Outside}
use Rattle.flat_code.specs.Tree.{Byte, Code, End, Loop, ◌then◌}
use Rattle.flat_code.specs.Memory.{Cells, Found, ◌>>=◌, address_of, place_after, put, laid}
use Rattle.flat_code.specs.Program.{FlatProgram, Choice, UnitCode, runtime_key}
use Rattle.flat_code.specs.Meaning.{Frame, truth, activation_bytes, frame_of}
use Rattle.flat_code.specs.Legal.{StackFits}
use Rattle.flat_code.specs.Gives.{KeepsRest, IsBelow}
use Rattle.flat_code.proofs.Shut.{put_other, region_below, region_above}
use Rattle.flat_code.proofs.Stack.{not_below}
use Rattle.runtime_proofs.specs.routine_proofs.Activation.{Slot, Shut, Free, Holds, Activation, IsPlaced}
use Rattle.runtime_proofs.specs.routine_proofs.Straight.{Exit, Onward, Leaving, Came, continued, straight, code_size}
use Rattle.runtime_proofs.specs.routine_proofs.Comes.{Does}
use Rattle.runtime_proofs.specs.routine_proofs.Entry.{entered, memory_without}
use Rattle.runtime_proofs.specs.routine_proofs.Specifications.{IsHeld}
use Rattle.runtime_proofs.proofs.routine_proofs.Replies.{next_of, taken-so, other-so}
use Rattle.runtime_proofs.proofs.routine_proofs.Doing.{weaker-does, then-does, straight-does}
use Rattle.runtime_proofs.proofs.routine_proofs.Calls.{call-ends, placed, starts}
use Rattle.runtime_proofs.specs.strings_in_memory.Strings.{HasString, IsReached, IsIn, CanMove, place}
use Rattle.runtime_proofs.proofs.strings_in_memory.Cells.{put-same, byte-read, store-so, word-so, plus-none, plus-one, apart-in, bytes-kept, bytes-front, bytes-small, laid-other, laid-has}
use Rattle.runtime_proofs.proofs.strings_in_memory.Moves.{MovesByte, moves}
use Rattle.rt_strings.specs.short_strings.Routines.{count, take_length, cut_length, store_length, one_byte, move_byte, assign_routine}
use Rattle.rt_strings.specs.short_strings.Specifications.{assign_number, Assigns}

not_zero : (n : ℕ) → n ≡ 1 → n ≡ 0 → ⊥
not_zero n p q = omega (arith, p, q)

low-same : (b : ℕ) → b < 256 → low_byte b ≡ b
low-same b h = omega (arith, h)

-- what is known can be reached
reached-still : (m : Cells) (a b x : ℕ) → (m x ≡ Outside → ⊥) → put m a (Known b) x ≡ Outside → ⊥
reached-still m a b x h out = ⊎_elim
    (λ (e : x ≡ a). let k : Known b ≡ Outside = sym (put-same m a (Known b)) ∙ ap (put m a (Known b)) (sym e) ∙ out in absurd (cc))
    (λ ne. h (sym (put_other m a (Known b) x ne) ∙ out)) (cases_eq x a)

module _ (program : FlatProgram) (choice : Choice) (own : Frame) (sp : ℕ) (is_placed : IsPlaced choice own sp 16) (e : Activation) (ts size fs : ℕ) where
  -- in the routine: the two offsets, how many bytes are left, and memory
  abbrev at : Slot → ℕ → ℕ → Cells → Activation
  at left to from m = record e { words = Holds ts ∷ Holds to ∷ Holds size ∷ Holds fs ∷ Holds from ∷ Shut ∷ Shut ∷ Shut ∷ left ∷ []; memory = m }

  abbrev moving : ℕ → ℕ → ℕ → Cells → Activation
  moving to from left m = at (Holds left) to from m

  abbrev Goes : Code → Activation → Exit → Activation → Type 0
  Goes code a exit b = Does program choice own sp code 0 (code_size code) a exit b

  length-does : (to from n : ℕ) (m : Cells) → m (address_of (place fs from) 0) ≡ Known n → n < 256 → Goes take_length (at Free to from m) Onward (moving to from n m)
  length-does to from n m h small = straight-does program choice own sp 16 is_placed take_length (at Free to from m) Onward (moving to from n m)
      (word-so choice own 16 (Local (negsuc 1)) (Byte (Through (pos 6) 0)) End (at Free to from m) n (byte-read m (place_after (place fs from) 0) 0 n (ap m (plus-none fs from 0) ∙ h) small))

  cut-does : (to from n : ℕ) (m : Cells) (text : List ℕ) → length text ≡ n → Goes cut_length (moving to from n m) Onward (moving to from (length (take size text)) m)
  cut-does to from n m text h = elim (decided size n) [
    | inl k ↦ subst (λ x. Goes cut_length (moving to from n m) Onward (moving to from x m)) (omega (arith, length-take size text, h, k.0))
        (straight-does program choice own sp 16 is_placed cut_length (moving to from n m) Onward (moving to from size m) (taken-so choice own 16 cut_length (moving to from n m) (truth (nat_lt size n)) _ refl (not_zero _ k.1) refl))
    | inr k ↦ subst (λ x. Goes cut_length (moving to from n m) Onward (moving to from x m)) (omega (arith, length-take size text, h, k.0))
        (straight-does program choice own sp 16 is_placed cut_length (moving to from n m) Onward (moving to from n m) (other-so choice own 16 cut_length (moving to from n m) (truth (nat_lt size n)) _ refl k.1 refl))
  ]
    where
      decided : (m n : ℕ) → ((m < n) × (truth (nat_lt m n) ≡ 1)) ⊎ ((n ≤ m) × (truth (nat_lt m n) ≡ 0))
      decided m n = grind (arith, nat_tests)

  store-does : (to from n : ℕ) (m : Cells) → n < 256 → (m (address_of (place ts to) 0) ≡ Outside → ⊥) → Goes store_length (moving to from n m) Onward (moving to from n (put m (address_of (place ts to) 0) (Known n)))
  store-does to from n m small reached =
      let q = place_after (place ts to) 0 in
      let same = plus-none ts to 0 in
      straight-does program choice own sp 16 is_placed store_length (moving to from n m) Onward (moving to from n (put m (address_of (place ts to) 0) (Known n)))
      (store-so choice own 16 (Through (pos 12) 0) count End (moving to from n m) q n refl refl (λ out. reached (ap m (sym same) ∙ out))
      ∙ ap (λ x. let r : Found Came = Ok (record { exit = Onward; there = moving to from n (put m x (Known (low_byte n))) }) in r) same
      ∙ ap (λ b. let r : Found Came = Ok (record { exit = Onward; there = moving to from n (put m (address_of (place ts to) 0) (Known b)) }) in r) (low-same n small))

  moves-byte : MovesByte program choice own sp move_byte 18 ts fs moving
  moves-byte = record {
    round = λ to from left byte m short has small reached.
        let q = place_after (place ts to) 1 in
        let p = place_after (place fs from) 1 in
        let same = plus-one ts to 0 in
        let fewer : wrapping_sub w16 (suc left) 1 ≡ left = omega (arith, short) in
        let after = λ (x n b : ℕ). moving (wrapping_add w16 to 1) (wrapping_add w16 from 1) n (put m x (Known b)) in
        weaker-does program choice own sp move_byte 0 (code_size move_byte) 0 18 (moving to from (suc left) m) Onward (after (address_of (place ts to) 1) left byte) (omega arith) (omega arith)
        (straight-does program choice own sp 16 is_placed move_byte (moving to from (suc left) m) Onward (after (address_of (place ts to) 1) left byte)
        (taken-so choice own 16 move_byte (moving to from (suc left) m) (suc left) _ refl (λ z. omega (arith, z))
        (ap (λ (x : Found Came). x >>= λ c. continued c.exit c.there (straight choice own 16 End))
        (store-so choice own 16 (Through (pos 12) 1) (Byte (Through (pos 6) 1)) (next_of one_byte) (moving to from (suc left) m) q byte (byte-read m p 0 byte (ap m (plus-one fs from 0) ∙ has) small) refl (λ out. reached (ap m (sym same) ∙ out)))
        ∙ ap (λ x. let r : Found Came = Ok (record { exit = Onward; there = after x (wrapping_sub w16 (suc left) 1) (low_byte byte) }) in r) same
        ∙ ap (λ x. let r : Found Came = Ok (record { exit = Onward; there = after (address_of (place ts to) 1) x (low_byte byte) }) in r) fewer
        ∙ ap (λ x. let r : Found Came = Ok (record { exit = Onward; there = after (address_of (place ts to) 1) left x }) in r) (low-same byte small))));
    last = λ to from m. weaker-does program choice own sp move_byte 0 (code_size move_byte) 0 18 (moving to from 0 m) (Leaving 0) (moving to from 0 m) (omega arith) (omega arith)
        (straight-does program choice own sp 16 is_placed move_byte (moving to from 0 m) (Leaving 0) (moving to from 0 m) refl);
  }

  -- from the first statement to the last
  all-does : (to from : ℕ) (m : Cells) (text : List ℕ) → size < 256 → HasString m (place fs from) text → IsReached m (place ts to) (1 + size) → CanMove (place ts to) (place fs from) (1 + length (take size text)) →
      (to' : ℕ) × (from' : ℕ) × Does program choice own sp assign_routine.body 256 8192 (at Free to from m) Onward (moving to' from' 0 (laid (put m (address_of (place ts to) 0) (Known (length (take size text)))) (place ts to) 1 (take size text)))
  all-does to from m text small has reached apart =
      let front = take size text in
      let n = length front in
      let len = length-take size text in
      let few : n ≤ size = omega (arith, len) in
      let fewer : n ≤ length text = omega (arith, len) in
      let m1 = put m (address_of (place ts to) 0) (Known n) in
      let source = bytes-kept m m1 (place fs from) 1 front (λ k h. put_other m (address_of (place ts to) 0) (Known n) (address_of (place fs from) (1 + k)) (λ e. apart 0 (1 + k) (omega arith) (omega (arith, h)) (sym e))) (bytes-front m (place fs from) 1 size text has.bytes) in
      let target : IsReached m1 (place ts to) (1 + n) = λ i h. reached-still m (address_of (place ts to) 0) n (address_of (place ts to) i) (reached i (omega (arith, h, few))) in
      let moved = moves program choice own sp move_byte 18 ts fs moving moves-byte front to from m1 (omega (arith, few, small)) source target apart in
      let s0 = at Free to from m in
      let s1 = moving to from (length text) m in
      let s2 = moving to from n m in
      let s3 = moving to from n m1 in
      let s4 = moving moved.to moved.from 0 (laid m1 (place ts to) 1 front) in
      let d3 = then-does program choice own sp store_length (Loop move_byte End) 0 (code_size store_length) (1 + n) (20 * (1 + n)) s2 s3 Onward s4 (store-does to from n m (omega (arith, few, small)) (reached 0 (omega arith))) moved.does in
      let d2 = then-does program choice own sp cut_length (store_length then Loop move_byte End) 0 (code_size cut_length) (0 + (1 + n)) (code_size store_length + 20 * (1 + n)) s1 s2 Onward s4 (cut-does to from (length text) m text refl) d3 in
      let d1 = then-does program choice own sp take_length (cut_length then (store_length then Loop move_byte End)) 0 (code_size take_length) (0 + (0 + (1 + n))) (code_size cut_length + (code_size store_length + 20 * (1 + n))) s0 s1 Onward s4 (length-does to from (length text) m has.size has.short) d2 in
      (moved.to, moved.from, weaker-does program choice own sp assign_routine.body (0 + (0 + (0 + (1 + n)))) (code_size take_length + (code_size cut_length + (code_size store_length + 20 * (1 + n)))) 256 8192 s0 Onward s4 (omega (arith, few, small)) (omega (arith, few, small)) d1)

-- ---- the promise

pub assigns : (program : FlatProgram) (choice : Choice) (unit : UnitCode) → StackFits program choice → IsHeld program (runtime_key assign_number) unit assign_routine → Assigns program choice
assigns program choice unit fits held_so ts to size fs from text f s p q r t stack can =
    let room : activation_bytes assign_routine ≤ f.sp = omega (arith, stack.room) in
    let args = ts ∷ to ∷ size ∷ fs ∷ from ∷ [] in
    let own = frame_of (runtime_key assign_number).unit unit assign_routine f in
    let here = placed program choice (runtime_key assign_number) unit assign_routine held_so fits args f s refl room stack.inside in
    let m = memory_without choice f.sp s.cells in
    let front = take size text in
    let len = length-take size text in
    let few : length front ≤ size = omega (arith, len) in
    let fewer : length front ≤ length text = omega (arith, len) in
    let source : HasString m (place fs from) text = record {
      size = kept (address_of (place fs from) 0) (can.source_off 0 (omega arith)) ∙ can.source.size;
      short = can.source.short;
      bytes = bytes-kept s.cells m (place fs from) 1 text (λ k h. kept (address_of (place fs from) (1 + k)) (can.source_off (1 + k) (omega (arith, h)))) can.source.bytes;
    } in
    let target : IsReached m (place ts to) (1 + size) = λ i h out. can.target i h (sym (kept (address_of (place ts to) i) (can.target_off i h)) ∙ out) in
    let done = all-does program choice own f.sp here (entered choice f.sp 2 args s) ts size fs to from m text can.small source target can.apart in
    let m1 = put m (address_of (place ts to) 0) (Known (length front)) in
    call-ends program choice (runtime_key assign_number) unit assign_routine held_so fits args f s refl room stack.inside
    (IsIn (place ts to) (1 + length (cut size text))) (λ after bytes. (bytes ≡ []) × HasString after.cells (place ts to) (cut size text) × KeepsRest s after) 256 8192 Onward _ [] tt
    (done.2 _ (starts program choice (runtime_key assign_number) unit assign_routine held_so fits args f s refl room stack.inside 5 (p, (q, (omega (arith, can.small), (r, (t, tt)))))))
    refl
    (λ x free. laid-other m1 (place ts to) 1 front x (λ k h e. free (1 + k, omega (arith, h), e)) ∙ put_other m (address_of (place ts to) 0) (Known (length front)) x (λ e. free (0, omega arith, e)))
    (λ after left. (
      refl,
      record {
        size = left.cells (address_of (place ts to) 0) (can.target_off 0 (omega arith)) ∙ laid-other m1 (place ts to) 1 front (address_of (place ts to) 0) (λ k h e. apart-in ts to 0 (1 + k) (omega arith) (omega (arith, h, few, can.small)) e) ∙ put-same m (address_of (place ts to) 0) (Known (length front));
        short = omega (arith, few, can.small);
        bytes = bytes-kept (laid m1 (place ts to) 1 front) after.cells (place ts to) 1 front (λ k h. left.cells (address_of (place ts to) (1 + k)) (can.target_off (1 + k) (omega (arith, h, few))))
            (laid-has m1 ts to 1 front (omega (arith, few, can.small)) (bytes-small m (place fs from) 1 front (bytes-front m (place fs from) 1 size text source.bytes)));
      },
      record { flag = left.flag; input = left.input; out = left.out; err = left.err },
    ))
  where
    kept : (x : ℕ) → (IsBelow choice f.sp x → ⊥) → memory_without choice f.sp s.cells x ≡ s.cells x
    kept x free = by (not_below choice f.sp x free)
      where
        by : (x < 16 * choice.stack_segment) ⊎ (16 * choice.stack_segment + f.sp ≤ x) → memory_without choice f.sp s.cells x ≡ s.cells x
        by (inl h) = region_below s.cells choice.stack_segment 0 f.sp Outside x (omega (arith, h))
        by (inr h) = region_above s.cells choice.stack_segment 0 f.sp Outside x (omega (arith, h))
