-- The loop that clears bytes.
use Rattle.std.proofs.Common.{◌≡◌, ℕ, zero, suc, ◌+◌, ◌*◌, ◌≤◌, ◌<◌, List, [], ◌∷◌, length, get_or, Ok, pos, refl, sym, ap, subst, ◌∙◌, arith}
use Rattle.std.specs.Prelude.{replicate}
use Rattle.std.proofs.lemmas.List.{length-replicate}
use Rattle.common_values.specs.integers.Words.{w16, wrapping_add, wrapping_sub}
use Rattle.flat_code.specs.declared.memory.Cell.TheVariants.{Known, Outside}
use Rattle.flat_code.specs.declared.tree.Address.TheVariants.{Through}
use Rattle.flat_code.specs.Tree.{Number, End}
use Rattle.flat_code.specs.Memory.{Cells, Found, ◌>>=◌, address_of, place_after, put, laid}
use Rattle.flat_code.specs.Program.{FlatProgram, Choice, UnitCode, runtime_key}
use Rattle.flat_code.specs.Meaning.{Frame, activation_bytes, frame_of}
use Rattle.flat_code.specs.Legal.{StackFits}
use Rattle.runtime_proofs.specs.routine_proofs.Activation.{Shut, Holds, Activation, IsPlaced}
use Rattle.runtime_proofs.specs.routine_proofs.Straight.{Onward, Leaving, Came, continued, straight, code_size}
use Rattle.runtime_proofs.specs.routine_proofs.Comes.{Does}
use Rattle.runtime_proofs.specs.routine_proofs.Entry.{entered, memory_without}
use Rattle.runtime_proofs.specs.routine_proofs.Specifications.{IsHeld}
use Rattle.runtime_proofs.proofs.routine_proofs.Replies.{next_of}
use Rattle.runtime_proofs.proofs.routine_proofs.Doing.{weaker-does, straight-does, round-does, leave-does}
use Rattle.runtime_proofs.proofs.routine_proofs.Calls.{call-ends, placed, starts}
use Rattle.runtime_proofs.specs.strings_in_memory.Strings.{IsReached, place}
use Rattle.runtime_proofs.proofs.strings_in_memory.Cells.{store-so, after-one, plus-none, laid-further, laid-other, laid-has, bytes-kept}
use Rattle.runtime_proofs.proofs.string_loops.BackwardLoop.{reached-still}
use Rattle.runtime_proofs.proofs.string_loops.Entry.{reached-inside}
use Rattle.heap_runtime.specs.clear.Routines.{clear_step, clear_round, clear_routine}
use Rattle.heap_runtime.specs.clear.Specifications.{clear_number, IsCleared, Clears}

module _ (program : FlatProgram) (choice : Choice) (own : Frame) (sp : ℕ) (is_placed : IsPlaced choice own sp 12) (e : Activation) (s : ℕ) where
  -- in the routine: the offset of the next byte, how many are left, and memory
  abbrev at : ℕ → ℕ → Cells → Activation
  at k n m = record e { words = Holds s ∷ Holds k ∷ Holds n ∷ Shut ∷ Shut ∷ Shut ∷ []; memory = m }

  -- no byte is left
  end-round : (k : ℕ) (m : Cells) → Does program choice own sp clear_round 0 16 (at k 0 m) (Leaving 0) (at k 0 m)
  end-round k m =
      let a = at k 0 m in
      weaker-does program choice own sp clear_round 0 (code_size clear_round) 0 16 a (Leaving 0) a (omega arith) (omega arith) (straight-does program choice own sp 12 is_placed clear_round a (Leaving 0) a refl)

  module _ (k n : ℕ) (m : Cells) (short : n < 65535) (reached : m (address_of (place s k) 0) ≡ Outside → ⊥) where
    abbrev next_cells : Cells
    next_cells = put m (address_of (place s k) 0) (Known 0)

    clear-so : straight choice own 12 clear_step (at k (suc n) m) ≡ Ok (record { exit = Onward; there = at (wrapping_add w16 k 1) n next_cells })
    clear-so =
        let fewer : wrapping_sub w16 (suc n) 1 ≡ n = omega (arith, short) in
        let here = plus-none s k 0 in
        let ending = λ (x v : ℕ). let r : Found Came = Ok (record { exit = Onward; there = at (wrapping_add w16 k 1) v (put m x (Known 0)) }) in r in
        store-so choice own 12 (Through (pos 8) 0) (Number 0) (next_of clear_step) (at k (suc n) m) (place_after (place s k) 0) 0 refl refl (λ out. reached (ap m (sym here) ∙ out))
        ∙ ap (λ x. ending x (wrapping_sub w16 (suc n) 1)) here
        ∙ ap (λ v. ending (address_of (place s k) 0) v) fewer

    next-round : Does program choice own sp clear_round 0 16 (at k (suc n) m) Onward (at (wrapping_add w16 k 1) n next_cells)
    next-round =
        let a = at k (suc n) m in
        let b = at (wrapping_add w16 k 1) n next_cells in
        weaker-does program choice own sp clear_round 0 (code_size clear_round) 0 16 a Onward b (omega arith) (omega arith)
        (straight-does program choice own sp 12 is_placed clear_round a Onward b (ap (λ (found : Found Came). found >>= λ c. continued c.exit c.there (straight choice own 12 End)) clear-so))

  record Cleared (k n : ℕ) (m : Cells) : Type 0 where
    k' : ℕ
    does : Does program choice own sp clear_routine.body (1 + n) (18 * (1 + n)) (at k n m) Onward (at k' 0 (laid m (place s k) 0 (replicate n 0)))

  cleared : (n k : ℕ) (m : Cells) → n < 65536 → IsReached m (place s k) n → Cleared k n m
  cleared zero k m short reached =
      let a = at k 0 m in
      record { k' = k; does = weaker-does program choice own sp clear_routine.body (1 + 0) (2 + 16) 1 18 a Onward a (omega arith) (omega arith) (leave-does program choice own sp clear_round 0 16 a (Leaving 0) Onward a refl (end-round k m)) }
  cleared (suc n) k m short reached =
      let k1 = wrapping_add w16 k 1 in
      let m1 = put m (address_of (place s k) 0) (Known 0) in
      let more = cleared n k1 m1 (omega (arith, short)) (λ i h. reached-still m (address_of (place s k) 0) 0 (address_of (place s k1) i) (λ out. reached (i + 1) (omega (arith, h)) (ap m (sym (after-one s k i)) ∙ out))) in
      let a = at k (suc n) m in
      let b = at k1 n m1 in
      let c = at more.k' 0 (laid m (place s k) 0 (replicate (suc n) 0)) in
      let others = subst (λ (l : Cells). Does program choice own sp clear_routine.body (1 + n) (18 * (1 + n)) b Onward (at more.k' 0 l)) (laid-further m1 s k 0 (replicate n 0)) more.does in
      record {
        k' = more.k';
        does = weaker-does program choice own sp clear_routine.body (1 + 0 + (1 + n)) (2 + 16 + 18 * (1 + n)) (1 + suc n) (18 * (1 + suc n)) a Onward c (omega arith) (omega arith)
            (round-does program choice own sp clear_round 0 16 (1 + n) (18 * (1 + n)) a b Onward c (next-round k n m (omega (arith, short)) (reached 0 (omega arith))) others);
      }

small-zeros : (n i : ℕ) → get_or (replicate n 0) i 0 < 256
small-zeros zero i = omega arith
small-zeros (suc n) zero = omega arith
small-zeros (suc n) (suc i) = small-zeros n i

pub clears : (program : FlatProgram) (choice : Choice) (unit : UnitCode) → StackFits program choice → IsHeld program (runtime_key clear_number) unit clear_routine → Clears program choice
clears program choice unit fits held_so segment offset count f s are stack reached off =
    let key = runtime_key clear_number in
    let room : activation_bytes clear_routine ≤ f.sp = omega (arith, stack.room) in
    let args = segment ∷ offset ∷ count ∷ [] in
    let own = frame_of key.unit unit clear_routine f in
    let here = placed program choice key unit clear_routine held_so fits args f s refl room stack.inside in
    let start = entered choice f.sp 0 args s in
    let m = memory_without choice f.sp s.cells in
    let p = place segment offset in
    let short = are.1.1.0 in
    let bytes : List ℕ = replicate count 0 in
    let long : length bytes ≡ count = length-replicate count 0 in
    let now = laid m p 0 bytes in
    let c = cleared program choice own f.sp here start segment count offset m short (reached-inside choice f.sp s.cells p count off reached) in
    call-ends program choice key unit clear_routine held_so fits args f s refl room stack.inside (λ x. (i : ℕ) × (i < count) × (x ≡ address_of p i)) (IsCleared segment offset count s) (1 + count) (18 * (1 + count)) Onward
    (record start { words = Holds segment ∷ Holds c.k' ∷ Holds 0 ∷ Shut ∷ Shut ∷ Shut ∷ []; memory = now }) [] tt
    (c.does _ (starts program choice key unit clear_routine held_so fits args f s refl room stack.inside 3 are))
    refl
    (λ x free. laid-other m p 0 bytes x (λ k h e. let same : 0 + k ≡ k = omega arith in free (k, omega (arith, h, long), e ∙ ap (address_of p) same)))
    (λ after left. record {
      nothing = refl;
      zeros = bytes-kept now after.cells p 0 bytes (λ k h. left.cells (address_of p (0 + k)) (off (0 + k) (omega (arith, h, long)))) (laid-has m segment offset 0 bytes (omega (arith, short, long)) (λ k h. small-zeros count k));
      rest = record { flag = left.flag; input = left.input; out = left.out; err = left.err };
    })
