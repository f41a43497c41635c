-- The routine that moves bytes.
use Rattle.std.proofs.Common.{◌≡◌, ℕ, suc, ◌+◌, ◌*◌, ◌≤◌, ◌<◌, List, [], ◌∷◌, length, Ok, pos, refl, sym, ap, subst, ◌∙◌, arith}
use Rattle.common_values.specs.integers.Words.{w16, wrapping_add, wrapping_sub, low_byte}
use Rattle.flat_code.specs.declared.memory.Cell.TheVariants.{Known, Outside}
use Rattle.flat_code.specs.declared.tree.Address.TheVariants.{Through}
use Rattle.flat_code.specs.Tree.{End}
use Rattle.flat_code.specs.Memory.{Cells, Found, ◌>>=◌, address_of, place_after, put, laid}
use Rattle.flat_code.specs.Program.{FlatProgram, Choice, UnitCode, runtime_key}
use Rattle.flat_code.specs.Meaning.{Frame, activation_bytes, frame_of}
use Rattle.flat_code.specs.Legal.{StackFits}
use Rattle.flat_code.specs.Gives.{KeepsRest}
use Rattle.flat_code.proofs.Shut.{put_other}
use Rattle.runtime_proofs.specs.routine_proofs.Activation.{Shut, Holds, Activation, IsPlaced}
use Rattle.runtime_proofs.specs.routine_proofs.Straight.{Onward, Leaving, Came, continued, straight, code_size}
use Rattle.runtime_proofs.specs.routine_proofs.Comes.{Does}
use Rattle.runtime_proofs.specs.routine_proofs.Entry.{entered, memory_without}
use Rattle.runtime_proofs.specs.routine_proofs.Specifications.{IsHeld}
use Rattle.runtime_proofs.proofs.routine_proofs.Replies.{next_of}
use Rattle.runtime_proofs.proofs.routine_proofs.Doing.{weaker-does, straight-does, round-does, leave-does}
use Rattle.runtime_proofs.proofs.routine_proofs.Calls.{call-ends, placed, starts}
use Rattle.runtime_proofs.specs.strings_in_memory.Strings.{HasBytes, IsReached, IsIn, CanMove, place}
use Rattle.runtime_proofs.proofs.strings_in_memory.Cells.{byte-read, store-so, after-one, plus-none, bytes-kept, bytes-further, bytes-small, laid-further, laid-other, laid-has}
use Rattle.runtime_proofs.specs.string_loops.Pieces.{behind}
use Rattle.runtime_proofs.proofs.string_loops.BackwardLoop.{reached-still}
use Rattle.runtime_proofs.proofs.string_loops.Entry.{reached-inside}
use Rattle.rt_strings.specs.memory.Routines.{move_step, move_round, move_routine}
use Rattle.rt_strings.specs.memory.Specifications.{move_number, MovesBytes}
use Rattle.rt_strings.proofs.memory.Words.{bytes-inside}

low-same : (b : ℕ) → b < 256 → low_byte b ≡ b
low-same b h = omega (arith, h)

module _ (program : FlatProgram) (choice : Choice) (own : Frame) (sp : ℕ) (is_placed : IsPlaced choice own sp 16) (e : Activation) (ts fs : ℕ) where
  -- in the routine: the offsets of both pointers, how many bytes are left, and memory
  abbrev at : ℕ → ℕ → ℕ → Cells → Activation
  at t k n m = record e { words = Holds ts ∷ Holds t ∷ Holds fs ∷ Holds k ∷ Holds n ∷ Shut ∷ Shut ∷ Shut ∷ []; memory = m }

  -- no byte is left
  end-round : (t k : ℕ) (m : Cells) → Does program choice own sp move_round 0 18 (at t k 0 m) (Leaving 0) (at t k 0 m)
  end-round t k m =
      let a = at t k 0 m in
      weaker-does program choice own sp move_round 0 (code_size move_round) 0 18 a (Leaving 0) a (omega arith) (omega arith) (straight-does program choice own sp 16 is_placed move_round a (Leaving 0) a refl)

  module _ (t k n byte : ℕ) (m : Cells) (short : n < 65535) (has : m (address_of (place fs k) 0) ≡ Known byte) (small : byte < 256) (reached : m (address_of (place ts t) 0) ≡ Outside → ⊥) where
    abbrev there : Activation
    there = at (wrapping_add w16 t 1) (wrapping_add w16 k 1) n (put m (address_of (place ts t) 0) (Known byte))

    move-so : straight choice own 16 move_step (at t k (suc n) m) ≡ Ok (record { exit = Onward; there = there })
    move-so =
        let fewer : wrapping_sub w16 (suc n) 1 ≡ n = omega (arith, short) in
        let here = plus-none ts t 0 in
        let ending = λ (x b v : ℕ). let r : Found Came = Ok (record { exit = Onward; there = at (wrapping_add w16 t 1) (wrapping_add w16 k 1) v (put m x (Known b)) }) in r in
        store-so choice own 16 (Through (pos 12) 0) (behind (pos 8) 0) (next_of move_step) (at t k (suc n) m) (place_after (place ts t) 0) byte (byte-read m (place_after (place fs k) 0) 0 byte (ap m (plus-none fs k 0) ∙ has) small) refl (λ out. reached (ap m (sym here) ∙ out))
        ∙ ap (λ x. ending x (low_byte byte) (wrapping_sub w16 (suc n) 1)) here
        ∙ ap (λ b. ending (address_of (place ts t) 0) b (wrapping_sub w16 (suc n) 1)) (low-same byte small)
        ∙ ap (λ v. ending (address_of (place ts t) 0) byte v) fewer

    next-round : Does program choice own sp move_round 0 18 (at t k (suc n) m) Onward there
    next-round =
        let a = at t k (suc n) m in
        weaker-does program choice own sp move_round 0 (code_size move_round) 0 18 a Onward there (omega arith) (omega arith)
        (straight-does program choice own sp 16 is_placed move_round a Onward there (ap (λ (found : Found Came). found >>= λ c. continued c.exit c.there (straight choice own 16 End)) move-so))

  record Moved (t k : ℕ) (bytes : List ℕ) (m : Cells) : Type 0 where
    t' : ℕ
    k' : ℕ
    does : Does program choice own sp move_routine.body (1 + length bytes) (20 * (1 + length bytes)) (at t k (length bytes) m) Onward (at t' k' 0 (laid m (place ts t) 0 bytes))

  moved : (bytes : List ℕ) (t k : ℕ) (m : Cells) → length bytes < 65536 → HasBytes m (place fs k) 0 bytes → IsReached m (place ts t) (length bytes) → CanMove (place ts t) (place fs k) (length bytes) → Moved t k bytes m
  moved [] t k m short has reached apart =
      let a = at t k 0 m in
      record { t' = t; k' = k; does = weaker-does program choice own sp move_routine.body (1 + 0) (2 + 18) 1 20 a Onward a (omega arith) (omega arith) (leave-does program choice own sp move_round 0 18 a (Leaving 0) Onward a refl (end-round t k m)) }
  moved (byte ∷ bytes) t k m short has reached apart =
      let t1 = wrapping_add w16 t 1 in
      let k1 = wrapping_add w16 k 1 in
      let n = length bytes in
      let m1 = put m (address_of (place ts t) 0) (Known byte) in
      let kept = bytes-kept m m1 (place fs k) 1 bytes (λ i h. put_other m (address_of (place ts t) 0) (Known byte) (address_of (place fs k) (1 + i)) (λ e. apart 0 (1 + i) (omega arith) (omega (arith, h)) (sym e))) has.2 in
      let more = moved bytes t1 k1 m1 (omega (arith, short)) (bytes-further m1 fs k 0 bytes kept)
      (λ i h. reached-still m (address_of (place ts t) 0) byte (address_of (place ts t1) i) (λ out. reached (i + 1) (omega (arith, h)) (ap m (sym (after-one ts t i)) ∙ out)))
      (λ i j p q e. apart (i + 1) (j + 1) (omega (arith, p)) (omega (arith, q)) (sym (after-one ts t i) ∙ e ∙ after-one fs k j)) in
      let a = at t k (suc n) m in
      let b = at t1 k1 n m1 in
      let c = at more.t' more.k' 0 (laid m (place ts t) 0 (byte ∷ bytes)) in
      let others = subst (λ (l : Cells). Does program choice own sp move_routine.body (1 + n) (20 * (1 + n)) b Onward (at more.t' more.k' 0 l)) (laid-further m1 ts t 0 bytes) more.does in
      record {
        t' = more.t';
        k' = more.k';
        does = weaker-does program choice own sp move_routine.body (1 + 0 + (1 + n)) (2 + 18 + 20 * (1 + n)) (1 + suc n) (20 * (1 + suc n)) a Onward c (omega arith) (omega arith)
            (round-does program choice own sp move_round 0 18 (1 + n) (20 * (1 + n)) a b Onward c (next-round t k n byte m (omega (arith, short)) has.0 has.1 (reached 0 (omega arith))) others);
      }

-- ---- the promise

pub moves-bytes : (program : FlatProgram) (choice : Choice) (unit : UnitCode) → StackFits program choice → IsHeld program (runtime_key move_number) unit move_routine → MovesBytes program choice
moves-bytes program choice unit fits held_so ts t fs k bytes f s words stack can =
    let key = runtime_key move_number in
    let room : activation_bytes move_routine ≤ f.sp = omega (arith, stack.room) in
    let args = ts ∷ t ∷ fs ∷ k ∷ length bytes ∷ [] in
    let own = frame_of key.unit unit move_routine f in
    let here = placed program choice key unit move_routine held_so fits args f s refl room stack.inside in
    let start = entered choice f.sp 0 args s in
    let m = memory_without choice f.sp s.cells in
    let p = place ts t in
    let short = words.1.1.1.1.0 in
    let has = bytes-inside choice f.sp s.cells (place fs k) bytes can.source.off can.source.there in
    let now = laid m p 0 bytes in
    let done = moved program choice own f.sp here start ts fs bytes t k m short has (reached-inside choice f.sp s.cells p (length bytes) can.target_off can.target) can.apart in
    call-ends program choice key unit move_routine held_so fits args f s refl room stack.inside
    (IsIn p (length bytes)) (λ after given. (given ≡ []) × HasBytes after.cells p 0 bytes × KeepsRest s after) (1 + length bytes) (20 * (1 + length bytes)) Onward
    (record start { words = Holds ts ∷ Holds done.t' ∷ Holds fs ∷ Holds done.k' ∷ Holds 0 ∷ Shut ∷ Shut ∷ Shut ∷ []; memory = now }) [] tt
    (done.does _ (starts program choice key unit move_routine held_so fits args f s refl room stack.inside 5 words))
    refl
    (λ x free. laid-other m p 0 bytes x (λ i h e. let same : 0 + i ≡ i = omega arith in free (i, h, e ∙ ap (address_of p) same)))
    (λ after left. (
      refl,
      bytes-kept now after.cells p 0 bytes (λ i h. left.cells (address_of p (0 + i)) (can.target_off (0 + i) (omega (arith, h)))) (laid-has m ts t 0 bytes (omega (arith, short)) (bytes-small m (place fs k) 0 bytes has)),
      record { flag = left.flag; input = left.input; out = left.out; err = left.err },
    ))
