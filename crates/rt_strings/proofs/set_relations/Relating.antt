-- The routines that compare two sets.
use Rattle.std.proofs.Common.{◌≡◌, ℕ, zero, suc, ◌+◌, ◌*◌, ◌≤◌, ◌<◌, ◌⊎◌, inl, inr, Bool, true, false, ◌&&◌, List, [], ◌∷◌, Ok, refl, sym, ap, subst, ◌∙◌, arith}
use Rattle.std.specs.Prelude.{bit_and, ◌==◌}
use Rattle.common_values.specs.integers.Words.{w16, wrapping_add, wrapping_sub}
use Rattle.common_values.specs.Sets.{contains, is_subset, is_same, set_byte}
use Rattle.flat_code.specs.declared.tree.FlatOp.TheVariants as op
use Rattle.flat_code.specs.Tree.{Expr, Op, expr_size, Code, End, Loop}
use Rattle.flat_code.specs.Memory.{Cells, Found, ◌>>=◌, address_of, place_after, word_bytes}
use Rattle.flat_code.specs.Program.{FlatProgram, Choice, UnitCode, runtime_key}
use Rattle.flat_code.specs.Meaning.{Frame, truth, activation_bytes, frame_of}
use Rattle.flat_code.specs.Legal.{StackFits}
use Rattle.flat_code.specs.Gives.{KeepsRest}
use Rattle.runtime_proofs.specs.routine_proofs.Activation.{Slot, Shut, Free, Holds, Activation, IsPlaced}
use Rattle.runtime_proofs.specs.routine_proofs.Straight.{Exit, Onward, Leaving, Came, seen_value, continued, straight, code_size}
use Rattle.runtime_proofs.specs.routine_proofs.Comes.{Does}
use Rattle.runtime_proofs.specs.routine_proofs.Entry.{entered, memory_without}
use Rattle.runtime_proofs.specs.routine_proofs.Specifications.{IsHeld}
use Rattle.runtime_proofs.proofs.routine_proofs.Replies.{taken_of, taken-so, other-so}
use Rattle.runtime_proofs.proofs.routine_proofs.Doing.{weaker-does, then-does, straight-does, round-does, leave-does}
use Rattle.runtime_proofs.proofs.routine_proofs.Calls.{call-ends, placed, starts}
use Rattle.runtime_proofs.specs.strings_in_memory.Strings.{place}
use Rattle.runtime_proofs.proofs.strings_in_memory.Cells.{byte-read}
use Rattle.runtime_proofs.proofs.string_loops.Seen.{op-so}
use Rattle.runtime_proofs.proofs.string_loops.Entry.{kept}
use Rattle.rt_strings.specs.sets.Sets.{HasSet}
use Rattle.rt_strings.specs.set_relations.Routines.{left_byte, right_byte, relation_start, relation_round, relation_routine, same_test, subset_test}
use Rattle.rt_strings.specs.set_relations.Specifications.{same_number, subset_number, Relates, TellsSame, TellsSubset}
use Rattle.rt_strings.proofs.set_relations.Bits.{byte-small, all_pass, subset-is, same-is}

-- the byte at so many places behind a pointer
at-byte : (segment o i : ℕ) → address_of (place_after (place segment (wrapping_add w16 o i)) 0) 0 ≡ address_of (place segment o) i
at-byte segment o i = omega arith

one-on : (o i : ℕ) → wrapping_add w16 (wrapping_add w16 o i) 1 ≡ wrapping_add w16 o (suc i)
one-on o i = omega arith

true-bit : (b : Bool) → b ≡ true → truth b ≡ 0 → ⊥
true-bit true h e = omega (arith, e)
true-bit false h e = absurd cc

false-bit : (b : Bool) → b ≡ false → truth b ≡ 0
false-bit b h = ap truth h

is-true : (b : Bool) → (b ≡ true) ⊎ (b ≡ false)
is-true true = inl refl
is-true false = inr refl

module _ (program : FlatProgram) (choice : Choice) (own : Frame) (sp : ℕ) (is_placed : IsPlaced choice own sp 14) (e : Activation) (ls rs : ℕ) (m : Cells) where
  -- in the routine: the result, how many bytes are left, and the two offsets
  abbrev at : Slot → Slot → ℕ → ℕ → Activation
  at result left l r = record e { words = Holds ls ∷ Holds l ∷ Holds rs ∷ Holds r ∷ Shut ∷ Shut ∷ Shut ∷ result ∷ left ∷ []; memory = m }

  -- a test of two bytes
  record Tests (test : Expr) (h : ℕ → ℕ → Bool) : Type 0 where
    seen : (left l r x y : ℕ) → seen_value choice own 14 (at (Holds 1) (Holds left) l r) left_byte ≡ Ok x → seen_value choice own 14 (at (Holds 1) (Holds left) l r) right_byte ≡ Ok y → seen_value choice own 14 (at (Holds 1) (Holds left) l r) test ≡ Ok (truth (h x y))
    short : expr_size test ≤ 5

  module _ (test : Expr) (h : ℕ → ℕ → Bool) (tests : Tests test h) (left right : ℕ) (a b : List ℕ) (has : HasSet m (place ls left) a) (also : HasSet m (place rs right) b) where
    abbrev t : ℕ → Bool
    t k = h (set_byte a k) (set_byte b k)

    abbrev st : ℕ → ℕ → Activation
    st n i = at (Holds 1) (Holds n) (wrapping_add w16 left i) (wrapping_add w16 right i)

    abbrev failed : ℕ → ℕ → Activation
    failed n i = at (Holds 0) (Holds n) (wrapping_add w16 left i) (wrapping_add w16 right i)

    abbrev round : Code
    round = relation_round test

    abbrev loop : Code
    loop = Loop (relation_round test) End

    tested : (n i : ℕ) → i < 32 → seen_value choice own 14 (st n i) test ≡ Ok (truth (t i))
    tested n i p = tests.seen n (wrapping_add w16 left i) (wrapping_add w16 right i) (set_byte a i) (set_byte b i)
        (byte-read m (place_after (place ls (wrapping_add w16 left i)) 0) 0 (set_byte a i) (ap m (at-byte ls left i) ∙ has i p) (byte-small a i))
        (byte-read m (place_after (place rs (wrapping_add w16 right i)) 0) 0 (set_byte b i) (ap m (at-byte rs right i) ∙ also i p) (byte-small b i))

    by-test : (n i : ℕ) (exit : Exit) (c : Activation) → straight choice own 14 (taken_of round) (st (suc n) i) ≡ Ok (record { exit = exit; there = c }) → (let came : Came = record { exit = exit; there = c } in continued came.exit came.there (straight choice own 14 End) ≡ Ok came) → Does program choice own sp round 0 40 (st (suc n) i) exit c
    by-test n i exit c does on =
        let came : Came = record { exit = exit; there = c } in
        let size = tests.short in
        weaker-does program choice own sp round 0 (code_size round) 0 40 (st (suc n) i) exit c (omega arith) (omega (arith, size))
        (straight-does program choice own sp 14 is_placed round (st (suc n) i) exit c
        (taken-so choice own 14 round (st (suc n) i) (suc n) came refl (λ z. omega (arith, z))
        (ap (λ (found : Found Came). found >>= λ c. continued c.exit c.there (straight choice own 14 End)) does ∙ on)))

    pass-round : (n i : ℕ) → n < 65535 → i < 32 → t i ≡ true → Does program choice own sp round 0 40 (st (suc n) i) Onward (st n (suc i))
    pass-round n i short p is =
        let fewer : wrapping_sub w16 (suc n) 1 ≡ n = omega (arith, short) in
        let l = wrapping_add w16 left i in
        let r = wrapping_add w16 right i in
        let there = λ (v x y : ℕ). let w : Found Came = Ok (record { exit = Onward; there = at (Holds 1) (Holds v) x y }) in w in
        by-test n i Onward (st n (suc i))
        (taken-so choice own 14 (taken_of round) (st (suc n) i) (truth (t i)) (record { exit = Onward; there = st n (suc i) }) (tested (suc n) i p) (true-bit (t i) is)
        (ap (λ v. there v (wrapping_add w16 l 1) (wrapping_add w16 r 1)) fewer
        ∙ ap (λ v. there n v (wrapping_add w16 r 1)) (one-on left i)
        ∙ ap (λ v. there n (wrapping_add w16 left (suc i)) v) (one-on right i))) refl

    fail-round : (n i : ℕ) → i < 32 → t i ≡ false → Does program choice own sp round 0 40 (st (suc n) i) (Leaving 0) (failed (suc n) i)
    fail-round n i p is =
        by-test n i (Leaving 0) (failed (suc n) i)
        (other-so choice own 14 (taken_of round) (st (suc n) i) (truth (t i)) (record { exit = Leaving 0; there = failed (suc n) i }) (tested (suc n) i p) (false-bit (t i) is) refl) refl

    last-round : (i : ℕ) → Does program choice own sp loop 1 42 (st 0 i) Onward (st 0 i)
    last-round i =
        let size = tests.short in
        leave-does program choice own sp round 0 40 (st 0 i) (Leaving 0) Onward (st 0 i) refl
        (weaker-does program choice own sp round 0 (code_size round) 0 40 (st 0 i) (Leaving 0) (st 0 i) (omega arith) (omega (arith, size))
        (straight-does program choice own sp 14 is_placed round (st 0 i) (Leaving 0) (st 0 i)
        (other-so choice own 14 round (st 0 i) 0 (record { exit = Leaving 0; there = st 0 i }) refl refl refl)))

    -- where it stands in the end, with this result
    record Related (n i : ℕ) (passes : Bool) : Type 0 where
      n' : ℕ
      l' : ℕ
      r' : ℕ
      does : Does program choice own sp loop (1 + n) (42 * (1 + n)) (st n i) Onward (at (Holds (truth passes)) (Holds n') l' r')

    go-on : (n i : ℕ) → Does program choice own sp round 0 40 (st (suc n) i) Onward (st n (suc i)) → t i ≡ true → Related n (suc i) (all_pass t (suc i) n) → Related (suc n) i (all_pass t i (suc n))
    go-on n i first is more = record {
      n' = more.n';
      l' = more.l';
      r' = more.r';
      does = subst (λ p. Does program choice own sp loop (1 + suc n) (42 * (1 + suc n)) (st (suc n) i) Onward (at (Holds (truth p)) (Holds more.n') more.l' more.r')) (sym (ap (λ p. p && all_pass t (suc i) n) is))
          (weaker-does program choice own sp loop (1 + 0 + (1 + n)) (2 + 40 + 42 * (1 + n)) (1 + suc n) (42 * (1 + suc n)) (st (suc n) i) Onward (at (Holds (truth (all_pass t (suc i) n))) (Holds more.n') more.l' more.r') (omega arith) (omega arith)
          (round-does program choice own sp round 0 40 (1 + n) (42 * (1 + n)) (st (suc n) i) (st n (suc i)) Onward (at (Holds (truth (all_pass t (suc i) n))) (Holds more.n') more.l' more.r') first more.does));
    }

    stop : (n i : ℕ) → Does program choice own sp round 0 40 (st (suc n) i) (Leaving 0) (failed (suc n) i) → t i ≡ false → Related (suc n) i (all_pass t i (suc n))
    stop n i first is = record {
      n' = suc n;
      l' = wrapping_add w16 left i;
      r' = wrapping_add w16 right i;
      does = subst (λ p. Does program choice own sp loop (1 + suc n) (42 * (1 + suc n)) (st (suc n) i) Onward (at (Holds (truth p)) (Holds (suc n)) (wrapping_add w16 left i) (wrapping_add w16 right i))) (sym (ap (λ p. p && all_pass t (suc i) n) is))
          (weaker-does program choice own sp loop (1 + 0) (2 + 40) (1 + suc n) (42 * (1 + suc n)) (st (suc n) i) Onward (failed (suc n) i) (omega arith) (omega arith)
          (leave-does program choice own sp round 0 40 (st (suc n) i) (Leaving 0) Onward (failed (suc n) i) refl first));
    }

    rounds : (n i : ℕ) → i + n ≡ 32 → Related n i (all_pass t i n)
    rounds zero i p = record { n' = 0; l' = wrapping_add w16 left i; r' = wrapping_add w16 right i; does = last-round i }
    rounds (suc n) i p =
        let more = rounds n (suc i) (omega (arith, p)) in
        let inside : i < 32 = omega (arith, p) in
        let short : n < 65535 = omega (arith, p) in
        elim (is-true (t i)) [
          | inl is ↦ go-on n i (pass-round n i short inside is) is more
          | inr is ↦ stop n i (fail-round n i inside is) is
        ]

    record Answered : Type 0 where
      n' : ℕ
      l' : ℕ
      r' : ℕ
      does : Does program choice own sp (relation_routine test).body 64 2048 (at Free Free left right) Onward (at (Holds (truth (all_pass t 0 32))) (Holds n') l' r')

    answers : left < 65536 → right < 65536 → Answered
    answers p q =
        let more = rounds 32 0 refl in
        let e1 : wrapping_add w16 left 0 ≡ left = omega (arith, p) in
        let e2 : wrapping_add w16 right 0 ≡ right = omega (arith, q) in
        let end = at (Holds (truth (all_pass t 0 32))) (Holds more.n') more.l' more.r' in
        let d1 = subst (λ v. Does program choice own sp loop 33 1386 (at (Holds 1) (Holds 32) v (wrapping_add w16 right 0)) Onward end) e1 more.does in
        let d2 = subst (λ v. Does program choice own sp loop 33 1386 (at (Holds 1) (Holds 32) left v) Onward end) e2 d1 in
        record {
          n' = more.n';
          l' = more.l';
          r' = more.r';
          does = weaker-does program choice own sp (relation_routine test).body (0 + 33) (code_size relation_start + 1386) 64 2048 (at Free Free left right) Onward end (omega arith) (omega arith)
              (then-does program choice own sp relation_start loop 0 (code_size relation_start) 33 1386 (at Free Free left right) (at (Holds 1) (Holds 32) left right) Onward end
              (straight-does program choice own sp 14 is_placed relation_start (at Free Free left right) Onward (at (Holds 1) (Holds 32) left right) refl) d2);
        }

-- ---- the promises

module _ (program : FlatProgram) (choice : Choice) (unit : UnitCode) (fits : StackFits program choice) (number : ℕ) (test : Expr) (h : ℕ → ℕ → Bool) (relation : List ℕ → List ℕ → Bool) (held_so : IsHeld program (runtime_key number) unit (relation_routine test))
    (tests : (own : Frame) (sp : ℕ) (is_placed : IsPlaced choice own sp 14) (e : Activation) (ls rs : ℕ) (m : Cells) → Tests program choice own sp is_placed e ls rs m test h)
    (is : (a b : List ℕ) → ((e : ℕ) → contains a e ≡ true → e < 256) → ((e : ℕ) → contains b e ≡ true → e < 256) → all_pass (λ k. h (set_byte a k) (set_byte b k)) 0 32 ≡ relation a b) where
  relates : Relates program choice number relation
  relates ls left rs right a b f s words stack can also =
      let key = runtime_key number in
      let routine = relation_routine test in
      let room : activation_bytes routine ≤ f.sp = omega (arith, stack.room) in
      let args = ls ∷ left ∷ rs ∷ right ∷ [] in
      let own = frame_of key.unit unit routine f in
      let here = placed program choice key unit routine held_so fits args f s refl room stack.inside in
      let start = entered choice f.sp 4 args s in
      let m = memory_without choice f.sp s.cells in
      let has : HasSet m (place ls left) a = λ k p. kept choice f.sp s.cells (address_of (place ls left) k) (can.off k p) ∙ can.there k p in
      let has_too : HasSet m (place rs right) b = λ k p. kept choice f.sp s.cells (address_of (place rs right) k) (also.off k p) ∙ also.there k p in
      let done = answers program choice own f.sp here start ls rs m test h (tests own f.sp here start ls rs m) left right a b has has_too words.1.0 words.1.1.1.0 in
      call-ends program choice key unit routine held_so fits args f s refl room stack.inside
      (λ address. ⊥) (λ after bytes. (bytes ≡ word_bytes (truth (relation a b))) × KeepsRest s after) 64 2048 Onward _ (word_bytes (truth (all_pass (λ k. h (set_byte a k) (set_byte b k)) 0 32))) tt
      (done.does _ (starts program choice key unit routine held_so fits args f s refl room stack.inside 4 words))
      refl
      (λ x free. refl)
      (λ after ended. (ap (λ p. word_bytes (truth p)) (is a b can.small also.small), record { flag = ended.flag; input = ended.input; out = ended.out; err = ended.err }))

pub tells-same : (program : FlatProgram) (choice : Choice) (unit : UnitCode) → StackFits program choice → IsHeld program (runtime_key same_number) unit (relation_routine same_test) → TellsSame program choice
tells-same program choice unit fits held_so = relates program choice unit fits same_number same_test (λ x y. x == y) is_same held_so
    (λ own sp is_placed e ls rs m. record {
      seen = λ n l r x y p q. op-so choice own 14 op.Equal left_byte right_byte (at program choice own sp is_placed e ls rs m (Holds 1) (Holds n) l r) x y p q;
      short = omega arith;
    }) same-is

pub tells-subset : (program : FlatProgram) (choice : Choice) (unit : UnitCode) → StackFits program choice → IsHeld program (runtime_key subset_number) unit (relation_routine subset_test) → TellsSubset program choice
tells-subset program choice unit fits held_so = relates program choice unit fits subset_number subset_test (λ x y. bit_and x y == x) is_subset held_so
    (λ own sp is_placed e ls rs m. record {
      seen = λ n l r x y p q. op-so choice own 14 op.Equal (Op op.And left_byte right_byte) left_byte (at program choice own sp is_placed e ls rs m (Holds 1) (Holds n) l r) (bit_and x y) x (op-so choice own 14 op.And left_byte right_byte (at program choice own sp is_placed e ls rs m (Holds 1) (Holds n) l r) x y p q) p;
      short = omega arith;
    }) (λ a b small less. subset-is a b small)
