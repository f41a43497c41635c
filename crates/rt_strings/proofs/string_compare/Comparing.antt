-- The routine that compares two strings.
use Rattle.std.proofs.Common.{◌≡◌, ℕ, zero, suc, ◌+◌, ◌-◌, ◌*◌, ◌≤◌, ◌<◌, ◌⊎◌, inl, inr, Bool, true, false, List, [], ◌∷◌, length, Ok, pos, negsuc, refl, sym, ap, subst, ◌∙◌, arith, ⊎_elim}
use Rattle.std.specs.Prelude.{min, nat_lt, ◌==◌}
use Rattle.std.proofs.lemmas.Bool.{cases_eq}
use Rattle.std.proofs.lemmas.Bool.Decides.{nat_tests}
use Rattle.std.specs.declared.cmp.Ordering.{Ordering}
use Rattle.std.specs.declared.cmp.Ordering.TheVariants.{Less, Equal, Greater}
use Rattle.std.specs.Ordering.{nat_cmp, ordering_then}
use Rattle.common_values.specs.integers.Words.{w16, wrapping_add, wrapping_sub}
use Rattle.common_values.specs.Strings.{compared}
use Rattle.flat_code.specs.declared.memory.Cell.TheVariants.{Known}
use Rattle.flat_code.specs.declared.tree.FlatOp.TheVariants as op
use Rattle.flat_code.specs.Tree.{Expr, Number, Op, Code, End, Loop, ◌then◌}
use Rattle.flat_code.specs.Memory.{Cells, Found, ◌>>=◌, address_of, place_after, word_bytes}
use Rattle.flat_code.specs.Program.{FlatProgram, Choice, UnitCode, runtime_key}
use Rattle.flat_code.specs.Meaning.{Frame, State, truth, activation_bytes, frame_of}
use Rattle.flat_code.specs.Legal.{StackFits}
use Rattle.flat_code.specs.Gives.{KeepsRest}
use Rattle.runtime_proofs.specs.routine_proofs.Activation.{Slot, Shut, Free, Holds, Activation, IsPlaced}
use Rattle.runtime_proofs.specs.routine_proofs.Straight.{Exit, Onward, Leaving, Came, seen_value, continued, chosen_way, straight, code_size}
use Rattle.runtime_proofs.specs.routine_proofs.Comes.{Does}
use Rattle.runtime_proofs.specs.routine_proofs.Entry.{entered, memory_without}
use Rattle.runtime_proofs.specs.routine_proofs.Specifications.{IsHeld}
use Rattle.runtime_proofs.proofs.routine_proofs.Replies.{next_of, taken_of, other_of, taken-so, other-so}
use Rattle.runtime_proofs.proofs.routine_proofs.Doing.{weaker-does, then-does, straight-does, round-does, leave-does}
use Rattle.runtime_proofs.proofs.routine_proofs.Calls.{call-ends, placed, starts}
use Rattle.runtime_proofs.specs.strings_in_memory.Strings.{HasBytes, HasString, place}
use Rattle.runtime_proofs.proofs.strings_in_memory.Cells.{byte-read, plus-none, plus-one, bytes-further}
use Rattle.runtime_proofs.specs.string_loops.Pieces.{word, behind, leave}
use Rattle.runtime_proofs.proofs.string_loops.Seen.{op-so, set-so}
use Rattle.runtime_proofs.proofs.string_loops.Counts.{limit-so}
use Rattle.runtime_proofs.proofs.string_loops.Entry.{string-inside}
use Rattle.rt_strings.specs.string_compare.Routines.{order, compare_lengths, compare_step, compare_bytes, compare_round, compare_routine}
use Rattle.rt_strings.specs.string_compare.Specifications.{compare_number, order_word, ComparesStrings}

-- ---- orders

-- -1, 0 or 1, as a routine computes it
abbrev order_of : ℕ → ℕ → ℕ
order_of x y = wrapping_sub w16 (truth (nat_lt y x)) (truth (nat_lt x y))

order-is : (x y : ℕ) → order_of x y ≡ order_word (nat_cmp x y)
order-is x y = grind (arith, nat_tests)

order-below : (x y : ℕ) → x < y → order_of x y ≡ 65535
order-below x y h = grind (arith, nat_tests)

order-above : (x y : ℕ) → y < x → order_of x y ≡ 1
order-above x y h = grind (arith, nat_tests)

order-same : (x y : ℕ) → x ≡ y → order_of x y ≡ 0
order-same x y h = grind (arith, nat_tests)

compared-same : (x y : ℕ) (xs ys : List ℕ) → x ≡ y → compared xs ys ≡ compared (x ∷ xs) (y ∷ ys)
compared-same x y xs ys h =
    let same : nat_cmp x y ≡ Equal = equal-so x y h in
    ap (λ o. ordering_then o (compared xs ys)) (sym same)
  where
    equal-so : (x y : ℕ) → x ≡ y → nat_cmp x y ≡ Equal
    equal-so x y h = grind (arith, nat_tests)

compared-differ : (x y : ℕ) (xs ys : List ℕ) → (x ≡ y → ⊥) → order_of x y ≡ order_word (compared (x ∷ xs) (y ∷ ys))
compared-differ x y xs ys ne = by (nat_cmp x y) refl
  where
    not-equal : (x y : ℕ) → (x ≡ y → ⊥) → nat_cmp x y ≡ Equal → ⊥
    not-equal x y ne e = grind (arith, nat_tests)

    by : (o : Ordering) → nat_cmp x y ≡ o → order_of x y ≡ order_word (ordering_then (nat_cmp x y) (compared xs ys))
    by Less e = order-is x y ∙ ap order_word e ∙ sym (ap (λ o. order_word (ordering_then o (compared xs ys))) e)
    by Equal e = absurd (not-equal x y ne e)
    by Greater e = order-is x y ∙ ap order_word e ∙ sym (ap (λ o. order_word (ordering_then o (compared xs ys))) e)

bit-same : (x y : ℕ) → x ≡ y → truth (x == y) ≡ 1
bit-same x y h = grind (arith, nat_tests)

bit-differ : (x y : ℕ) → (x ≡ y → ⊥) → truth (x == y) ≡ 0
bit-differ x y h = grind (arith, nat_tests)

not_zero : (n : ℕ) → n ≡ 1 → n ≡ 0 → ⊥
not_zero n p q = omega (arith, p, q)

module _ (program : FlatProgram) (choice : Choice) (own : Frame) (sp : ℕ) (is_placed : IsPlaced choice own sp 14) (e : Activation) (ls rs : ℕ) (m : Cells) where
  -- in the routine: the two offsets, the result, the lengths, and how many bytes are left
  abbrev at : Slot → Slot → Slot → Slot → ℕ → ℕ → Activation
  at result first second left l r = record e { words = Holds ls ∷ Holds l ∷ Holds rs ∷ Holds r ∷ Shut ∷ Shut ∷ Shut ∷ result ∷ first ∷ second ∷ left ∷ []; memory = m }

  lengths-does : (l r n k : ℕ) → n < 256 → k < 256 → m (address_of (place ls l) 0) ≡ Known n → m (address_of (place rs r) 0) ≡ Known k →
      Does program choice own sp compare_lengths 0 (code_size compare_lengths) (at Free Free Free Free l r) Onward (at Free (Holds n) (Holds k) (Holds (min n k)) l r)
  lengths-does l r n k p q has also =
      let c1 = next_of compare_lengths in
      let c2 = next_of c1 in
      let c3 = next_of c2 in
      let s0 = at Free Free Free Free l r in
      let s1 = at Free (Holds n) Free Free l r in
      let s2 = at Free (Holds n) (Holds k) Free l r in
      let s3 = at Free (Holds n) (Holds k) (Holds n) l r in
      straight-does program choice own sp 14 is_placed compare_lengths s0 Onward _
      (set-so choice own 14 (negsuc 3) (behind (pos 10) 0) c1 s0 s1 n (byte-read m (place_after (place ls l) 0) 0 n (ap m (plus-none ls l 0) ∙ has) p) refl
      ∙ set-so choice own 14 (negsuc 5) (behind (pos 6) 0) c2 s1 s2 k (byte-read m (place_after (place rs r) 0) 0 k (ap m (plus-none rs r 0) ∙ also) q) refl
      ∙ set-so choice own 14 (negsuc 7) (word (negsuc 3)) c3 s2 s3 n refl refl
      ∙ limit-so choice own 14 (negsuc 7) (λ v. at Free (Holds n) (Holds k) (Holds v) l r) (record { word_is = λ v. refl; with_word = λ v w. refl }) (negsuc 5) End n k (λ v. refl))

  -- ---- one round

  module _ (n k : ℕ) where
    abbrev st : Slot → ℕ → ℕ → ℕ → Activation
    st result left l r = at result (Holds n) (Holds k) (Holds left) l r

    abbrev Round : Activation → Exit → Activation → Type 0
    Round a exit b = Does program choice own sp compare_round 0 40 a exit b

    last-round : (l r : ℕ) → Round (st Free 0 l r) (Leaving 0) (st (Holds (order_of n k)) 0 l r)
    last-round l r =
        let a = st Free 0 l r in
        let b = st (Holds (order_of n k)) 0 l r in
        weaker-does program choice own sp compare_round 0 (code_size compare_round) 0 40 a (Leaving 0) b (omega arith) (omega arith)
        (straight-does program choice own sp 14 is_placed compare_round a (Leaving 0) b (other-so choice own 14 compare_round a 0 (record { exit = Leaving 0; there = b }) refl refl refl))

    module _ (left l r x y : ℕ) (short : left < 65535) (has : m (address_of (place ls l) 1) ≡ Known x) (small : x < 256) (also : m (address_of (place rs r) 1) ≡ Known y) (less : y < 256) where
      first : (result : Slot) → seen_value choice own 14 (st result (suc left) l r) (behind (pos 10) 1) ≡ Ok x
      first result = byte-read m (place_after (place ls l) 1) 0 x (ap m (plus-one ls l 0) ∙ has) small

      second : (result : Slot) → seen_value choice own 14 (st result (suc left) l r) (behind (pos 6) 1) ≡ Ok y
      second result = byte-read m (place_after (place rs r) 1) 0 y (ap m (plus-one rs r 0) ∙ also) less

      test : seen_value choice own 14 (st Free (suc left) l r) (Op op.Equal (behind (pos 10) 1) (behind (pos 6) 1)) ≡ Ok (truth (x == y))
      test = op-so choice own 14 op.Equal (behind (pos 10) 1) (behind (pos 6) 1) (st Free (suc left) l r) x y (first Free) (second Free)

      order-seen : seen_value choice own 14 (st Free (suc left) l r) (order (behind (pos 10) 1) (behind (pos 6) 1)) ≡ Ok (order_of x y)
      order-seen =
          let a = st Free (suc left) l r in
          op-so choice own 14 op.Sub (Op op.Below (behind (pos 6) 1) (behind (pos 10) 1)) (Op op.Below (behind (pos 10) 1) (behind (pos 6) 1)) a (truth (nat_lt y x)) (truth (nat_lt x y))
          (op-so choice own 14 op.Below (behind (pos 6) 1) (behind (pos 10) 1) a y x (second Free) (first Free))
          (op-so choice own 14 op.Below (behind (pos 10) 1) (behind (pos 6) 1) a x y (first Free) (second Free))

      by-bytes : (exit : Exit) (b : Activation) → straight choice own 14 compare_bytes (st Free (suc left) l r) ≡ Ok (record { exit = exit; there = b }) → (let came : Came = record { exit = exit; there = b } in continued came.exit came.there (straight choice own 14 End) ≡ Ok came) → Round (st Free (suc left) l r) exit b
      by-bytes exit b does on =
          let a = st Free (suc left) l r in
          let came : Came = record { exit = exit; there = b } in
          weaker-does program choice own sp compare_round 0 (code_size compare_round) 0 40 a exit b (omega arith) (omega arith)
          (straight-does program choice own sp 14 is_placed compare_round a exit b
          (taken-so choice own 14 compare_round a (suc left) came refl (λ z. omega (arith, z))
          (ap (λ (found : Found Came). found >>= λ c. continued c.exit c.there (straight choice own 14 End)) does ∙ on)))

      same-round : x ≡ y → Round (st Free (suc left) l r) Onward (st Free left (wrapping_add w16 l 1) (wrapping_add w16 r 1))
      same-round same =
          let a = st Free (suc left) l r in
          let fewer : wrapping_sub w16 (suc left) 1 ≡ left = omega (arith, short) in
          let there = λ (v : ℕ). let r : Found Came = Ok (record { exit = Onward; there = st Free v (wrapping_add w16 l 1) (wrapping_add w16 r 1) }) in r in
          by-bytes Onward (st Free left (wrapping_add w16 l 1) (wrapping_add w16 r 1))
          (taken-so choice own 14 compare_bytes a (truth (x == y)) _ test (not_zero _ (bit-same x y same)) (ap there fewer)) refl

      other-round : (x ≡ y → ⊥) → Round (st Free (suc left) l r) (Leaving 0) (st (Holds (order_of x y)) (suc left) l r)
      other-round ne =
          let a = st Free (suc left) l r in
          let b = st (Holds (order_of x y)) (suc left) l r in
          by-bytes (Leaving 0) b
          (other-so choice own 14 compare_bytes a (truth (x == y)) (record { exit = Leaving 0; there = b }) test (bit-differ x y ne)
          (ap (λ (found : Found Came). found >>= λ c. continued c.exit c.there (straight choice own 14 End)) (set-so choice own 14 (negsuc 1) (order (behind (pos 10) 1) (behind (pos 6) 1)) leave a b (order_of x y) order-seen refl))) refl

    -- ---- all rounds

    abbrev rounds : Code
    rounds = Loop compare_round End

    -- where it stands in the end, with this result
    record Compared (count l r : ℕ) (o : Ordering) : Type 0 where
      l' : ℕ
      r' : ℕ
      left : ℕ
      does : Does program choice own sp rounds (1 + count) (42 * (1 + count)) (st Free count l r) Onward (st (Holds (order_word o)) left l' r')

    ended : (l r : ℕ) (o : Ordering) → order_of n k ≡ order_word o → Compared 0 l r o
    ended l r o e = record {
      l' = l;
      r' = r;
      left = 0;
      does = subst (λ v. Does program choice own sp rounds 1 42 (st Free 0 l r) Onward (st (Holds v) 0 l r)) e
          (leave-does program choice own sp compare_round 0 40 (st Free 0 l r) (Leaving 0) Onward (st (Holds (order_of n k)) 0 l r) refl (last-round l r));
    }

    all-rounds : (a b : List ℕ) (l r done count : ℕ) → n ≡ done + length a → k ≡ done + length b → n < 256 → count ≡ min (length a) (length b) → HasBytes m (place ls l) 1 a → HasBytes m (place rs r) 1 b → Compared count l r (compared a b)
    all-rounds [] [] l r done count p q s t has also = subst (λ c. Compared c l r Equal) (sym t) (ended l r Equal (order-same n k (omega (arith, p, q))))
    all-rounds [] (y ∷ b) l r done count p q s t has also = subst (λ c. Compared c l r Less) (omega (arith, t)) (ended l r Less (order-below n k (omega (arith, p, q))))
    all-rounds (x ∷ a) [] l r done count p q s t has also = subst (λ c. Compared c l r Greater) (omega (arith, t)) (ended l r Greater (order-above n k (omega (arith, p, q))))
    all-rounds (x ∷ a) (y ∷ b) l r done count p q s t has also =
        let more = all-rounds a b (wrapping_add w16 l 1) (wrapping_add w16 r 1) (suc done) (min (length a) (length b)) (omega (arith, p)) (omega (arith, q)) s refl (bytes-further m ls l 1 a has.2) (bytes-further m rs r 1 b also.2) in
        let now : suc (min (length a) (length b)) ≡ count = omega (arith, t) in
        let c = min (length a) (length b) in
        let short : c < 65535 = omega (arith, p, s) in
        subst (λ c. Compared c l r (compared (x ∷ a) (y ∷ b))) now
        (⊎_elim (λ same. go-on x y a b c l r (same-round c l r x y short has.0 has.1 also.0 also.1 same) same more)
        (λ ne. stop x y a b c l r (other-round c l r x y short has.0 has.1 also.0 also.1 ne) ne) (cases_eq x y))
      where
        go-on : (x y : ℕ) (a b : List ℕ) (c l r : ℕ) → Round (st Free (suc c) l r) Onward (st Free c (wrapping_add w16 l 1) (wrapping_add w16 r 1)) → x ≡ y → Compared c (wrapping_add w16 l 1) (wrapping_add w16 r 1) (compared a b) → Compared (suc c) l r (compared (x ∷ a) (y ∷ b))
        go-on x y a b c l r round same more =
            let end = st (Holds (order_word (compared a b))) more.left more.l' more.r' in
            record {
              l' = more.l';
              r' = more.r';
              left = more.left;
              does = subst (λ o. Does program choice own sp rounds (1 + suc c) (42 * (1 + suc c)) (st Free (suc c) l r) Onward (st (Holds (order_word o)) more.left more.l' more.r')) (compared-same x y a b same)
                  (weaker-does program choice own sp rounds (1 + 0 + (1 + c)) (2 + 40 + 42 * (1 + c)) (1 + suc c) (42 * (1 + suc c)) (st Free (suc c) l r) Onward end (omega arith) (omega arith)
                  (round-does program choice own sp compare_round 0 40 (1 + c) (42 * (1 + c)) (st Free (suc c) l r) (st Free c (wrapping_add w16 l 1) (wrapping_add w16 r 1)) Onward end round more.does));
            }

        stop : (x y : ℕ) (a b : List ℕ) (c l r : ℕ) → Round (st Free (suc c) l r) (Leaving 0) (st (Holds (order_of x y)) (suc c) l r) → (x ≡ y → ⊥) → Compared (suc c) l r (compared (x ∷ a) (y ∷ b))
        stop x y a b c l r round ne =
            let end = st (Holds (order_of x y)) (suc c) l r in
            record {
              l' = l;
              r' = r;
              left = suc c;
              does = subst (λ v. Does program choice own sp rounds (1 + suc c) (42 * (1 + suc c)) (st Free (suc c) l r) Onward (st (Holds v) (suc c) l r)) (compared-differ x y a b ne)
                  (weaker-does program choice own sp rounds (1 + 0) (2 + 40) (1 + suc c) (42 * (1 + suc c)) (st Free (suc c) l r) Onward end (omega arith) (omega arith)
                  (leave-does program choice own sp compare_round 0 40 (st Free (suc c) l r) (Leaving 0) Onward end refl round));
            }

  -- from the first statement to the last
  all-does : (l r : ℕ) (a b : List ℕ) → HasString m (place ls l) a → HasString m (place rs r) b →
      (left : ℕ) × (l' : ℕ) × (r' : ℕ) × Does program choice own sp compare_routine.body 256 12288 (at Free Free Free Free l r) Onward (at (Holds (order_word (compared a b))) (Holds (length a)) (Holds (length b)) (Holds left) l' r')
  all-does l r a b has also =
      let n = length a in
      let k = length b in
      let p = has.short in
      let q = also.short in
      let more = all-rounds n k a b l r 0 (min n k) (omega arith) (omega arith) p refl has.bytes also.bytes in
      let s0 = at Free Free Free Free l r in
      let s1 = at Free (Holds n) (Holds k) (Holds (min n k)) l r in
      let s2 = at (Holds (order_word (compared a b))) (Holds n) (Holds k) (Holds more.left) more.l' more.r' in (
        more.left,
        more.l',
        more.r',
        weaker-does program choice own sp compare_routine.body (0 + (1 + min n k)) (code_size compare_lengths + 42 * (1 + min n k)) 256 12288 s0 Onward s2 (omega (arith, p, q)) (omega (arith, p, q))
            (then-does program choice own sp compare_lengths (Loop compare_round End) 0 (code_size compare_lengths) (1 + min n k) (42 * (1 + min n k)) s0 s1 Onward s2 (lengths-does l r n k p q has.size also.size) more.does),
      )

-- ---- the promise

pub compares : (program : FlatProgram) (choice : Choice) (unit : UnitCode) → StackFits program choice → IsHeld program (runtime_key compare_number) unit compare_routine → ComparesStrings program choice
compares program choice unit fits held_so ls l rs r a b f s words stack can also =
    let key = runtime_key compare_number in
    let room : activation_bytes compare_routine ≤ f.sp = omega (arith, stack.room) in
    let args = ls ∷ l ∷ rs ∷ r ∷ [] in
    let own = frame_of key.unit unit compare_routine f in
    let here = placed program choice key unit compare_routine held_so fits args f s refl room stack.inside in
    let start = entered choice f.sp 8 args s in
    let m = memory_without choice f.sp s.cells in
    let done = all-does program choice own f.sp here start ls rs m l r a b (string-inside choice f.sp s.cells (place ls l) a can.off can.there) (string-inside choice f.sp s.cells (place rs r) b also.off also.there) in
    call-ends program choice key unit compare_routine held_so fits args f s refl room stack.inside
    (λ address. ⊥) (λ after bytes. (bytes ≡ word_bytes (order_word (compared a b))) × KeepsRest s after) 256 12288 Onward _ (word_bytes (order_word (compared a b))) tt
    (done.3 _ (starts program choice key unit compare_routine held_so fits args f s refl room stack.inside 4 words))
    refl
    (λ x free. refl)
    (λ after left. (refl, record { flag = left.flag; input = left.input; out = left.out; err = left.err }))
