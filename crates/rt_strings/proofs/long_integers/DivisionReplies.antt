-- The routines that divide.
use Rattle.std.proofs.Common.{◌≡◌, ℕ, ◌+◌, ◌-◌, ◌*◌, ◌/◌, ◌%◌, ◌<◌, ◌≤◌, ◌⊎◌, inl, inr, List, [], ◌∷◌, Ok, Err, Bool, false, pos, negsuc, refl, sym, ap, subst, ◌∙◌, arith, eq-eqb}
use Rattle.std.specs.Prelude.{nat_lt, ◌==◌, ◌&&◌, bit_and, bit_xor, if◌then◌else◌}
use Rattle.std.proofs.lemmas.Bool.Decides.{nat_tests}
use Rattle.common_values.specs.integers.Words.{w16, w32, wrapping_sub, is_signed_less, signed_quotient, signed_remainder}
use Rattle.flat_code.specs.declared.tree.FlatOp.TheVariants as op
use Rattle.flat_code.specs.Tree.{Expr, Op, Code, End, Loop, ◌then◌}
use Rattle.flat_code.specs.declared.tree.Address.TheVariants.{Local}
use Rattle.flat_code.specs.Memory.{Found, ◌>>=◌}
use Rattle.flat_code.specs.Program.{FlatProgram, Choice}
use Rattle.flat_code.specs.Meaning.{Frame, State, truth}
use Rattle.flat_code.specs.Gives.{AreWords}
use Rattle.flat_code.specs.Runtime.{long_bytes, quotient_of, remainder_of}
use Rattle.runtime_proofs.specs.routine_proofs.Activation.{Slot, Shut, Free, Holds, Activation, IsPlaced}
use Rattle.runtime_proofs.specs.routine_proofs.Straight.{Exit, Onward, Failing, with_word_at, seen_value, onward, continued, straight, code_size}
use Rattle.runtime_proofs.specs.routine_proofs.Comes.{Does}
use Rattle.runtime_proofs.specs.routine_proofs.Entry.{entered}
use Rattle.runtime_proofs.specs.routine_proofs.Specifications.{Answers, Fails, Replies}
use Rattle.runtime_proofs.proofs.routine_proofs.Replies.{taken-so, other-so, four-words}
use Rattle.runtime_proofs.proofs.routine_proofs.Doing.{weaker-does, then-does, skip-does, straight-does}
use Rattle.rt_strings.specs.long_integers.Routines.{routine_of, high_word, other_high_word}
use Rattle.rt_strings.specs.long_integers.Division.{is_negative, test_divisor, take_magnitude, keep_sign, begin_rounds, one_round, take_quotient, give_sign, division_code, quotient_routine, remainder_routine}
use Rattle.rt_strings.proofs.long_integers.Bytes.{long-bytes}
use Rattle.rt_strings.proofs.long_integers.WordReplies.{negated, both}
use Rattle.rt_strings.proofs.long_integers.LongDivision.{all-divided}
use Rattle.rt_strings.proofs.long_integers.Rounds.{dividing, long, rounds}
use Rattle.rt_strings.proofs.long_integers.Signs.{HasMagnitude, IsSigned, quotient-signed, remainder-signed, upper-negative}

abbrev negative : ℕ → ℕ
negative high = truth (is_signed_less w16 high 0)

-- two words
record TwoWords (P : ℕ → ℕ → Type 0) : Type 0 where
  low : ℕ
  high : ℕ
  low_word : low < 65536
  high_word : high < 65536
  holds : P low high

zero-test : (c d : ℕ) → c < 65536 → d < 65536 → ((long c d ≡ 0) × (bit_and (truth (c == 0)) (truth (d == 0)) ≡ 1)) ⊎ ((0 < long c d) × (bit_and (truth (c == 0)) (truth (d == 0)) ≡ 0))
zero-test c d p q = elim (decided c d p q) [ inl h ↦ inl (h.0, both (c == 0) (d == 0) ∙ h.1) | inr h ↦ inr (h.0, both (c == 0) (d == 0) ∙ h.1) ]
  where
    decided : (c d : ℕ) → c < 65536 → d < 65536 → ((long c d ≡ 0) × (truth ((c == 0) && (d == 0)) ≡ 1)) ⊎ ((0 < long c d) × (truth ((c == 0) && (d == 0)) ≡ 0))
    decided c d p q = grind (arith, nat_tests)

not_zero : (n : ℕ) → n ≡ 1 → n ≡ 0 → ⊥
not_zero n p q = omega (arith, p, q)

module _ (program : FlatProgram) (choice : Choice) (own : Frame) (sp : ℕ) (placed : IsPlaced choice own sp 14) (e : Activation) where
  abbrev opening : ℕ → ℕ → ℕ → ℕ → Slot → Slot → Slot → Slot → Activation
  opening a b c d high low sign left = record e { words = Holds a ∷ Holds b ∷ Holds c ∷ Holds d ∷ Shut ∷ Shut ∷ Shut ∷ high ∷ low ∷ sign ∷ left ∷ [] }

  abbrev Goes : Code → Activation → Exit → Activation → Type 0
  Goes code a exit b = Does program choice own sp code 0 (code_size code) a exit b

  zero-fails : (a b c d : ℕ) → bit_and (truth (c == 0)) (truth (d == 0)) ≡ 1 → Goes test_divisor (opening a b c d Free Free Free Free) (Failing 200) (opening a b c d Free Free Free Free)
  zero-fails a b c d h = straight-does program choice own sp 14 placed test_divisor (opening a b c d Free Free Free Free) (Failing 200) _
      (taken-so choice own 14 test_divisor (opening a b c d Free Free Free Free) (bit_and (truth (c == 0)) (truth (d == 0))) _ refl (not_zero _ h) refl)

  some-goes : (a b c d : ℕ) → bit_and (truth (c == 0)) (truth (d == 0)) ≡ 0 → Goes test_divisor (opening a b c d Free Free Free Free) Onward (opening a b c d Free Free Free Free)
  some-goes a b c d h = straight-does program choice own sp 14 placed test_divisor (opening a b c d Free Free Free Free) Onward _
      (other-so choice own 14 test_divisor (opening a b c d Free Free Free Free) (bit_and (truth (c == 0)) (truth (d == 0))) _ refl h refl)

  negated-words : (low high : ℕ) → low < 65536 → high < 65536 → 2147483648 ≤ long low high → long (wrapping_sub w16 0 low) (wrapping_sub w16 (wrapping_sub w16 0 high) (truth (nat_lt 0 low))) ≡ 4294967296 - long low high
  negated-words low high p q h = negated low high p q ∙ omega (arith, h)

  first-magnitude : (a b c d : ℕ) (high low sign left : Slot) → a < 65536 → b < 65536 → TwoWords (λ a' b'. HasMagnitude (long a b) (long a' b') (negative b) × Goes (take_magnitude (pos 12) (pos 10)) (opening a b c d high low sign left) Onward (opening a' b' c d high low sign left))
  first-magnitude a b c d high low sign left p q = elim (upper-negative a b p q) [
    | inl h ↦ record {
      low = a;
      high = b;
      low_word = p;
      high_word = q;
      holds = (
        inl (h.0, refl, h.1),
        straight-does program choice own sp 14 placed (take_magnitude (pos 12) (pos 10)) (opening a b c d high low sign left) Onward _
            (other-so choice own 14 (take_magnitude (pos 12) (pos 10)) (opening a b c d high low sign left) (negative b) _ refl h.1 refl),
      );
    }
    | inr h ↦ record {
      low = wrapping_sub w16 0 a;
      high = wrapping_sub w16 (wrapping_sub w16 0 b) (truth (nat_lt 0 a));
      low_word = omega arith;
      high_word = omega arith;
      holds = (
        inr (h.0, negated-words a b p q h.0, h.1),
        straight-does program choice own sp 14 placed (take_magnitude (pos 12) (pos 10)) (opening a b c d high low sign left) Onward _
            (taken-so choice own 14 (take_magnitude (pos 12) (pos 10)) (opening a b c d high low sign left) (negative b) _ refl (not_zero _ h.1) refl),
      );
    }
  ]

  second-magnitude : (a b c d : ℕ) (high low sign left : Slot) → c < 65536 → d < 65536 → TwoWords (λ c' d'. HasMagnitude (long c d) (long c' d') (negative d) × Goes (take_magnitude (pos 8) (pos 6)) (opening a b c d high low sign left) Onward (opening a b c' d' high low sign left))
  second-magnitude a b c d high low sign left p q = elim (upper-negative c d p q) [
    | inl h ↦ record {
      low = c;
      high = d;
      low_word = p;
      high_word = q;
      holds = (
        inl (h.0, refl, h.1),
        straight-does program choice own sp 14 placed (take_magnitude (pos 8) (pos 6)) (opening a b c d high low sign left) Onward _
            (other-so choice own 14 (take_magnitude (pos 8) (pos 6)) (opening a b c d high low sign left) (negative d) _ refl h.1 refl),
      );
    }
    | inr h ↦ record {
      low = wrapping_sub w16 0 c;
      high = wrapping_sub w16 (wrapping_sub w16 0 d) (truth (nat_lt 0 c));
      low_word = omega arith;
      high_word = omega arith;
      holds = (
        inr (h.0, negated-words c d p q h.0, h.1),
        straight-does program choice own sp 14 placed (take_magnitude (pos 8) (pos 6)) (opening a b c d high low sign left) Onward _
            (taken-so choice own 14 (take_magnitude (pos 8) (pos 6)) (opening a b c d high low sign left) (negative d) _ refl (not_zero _ h.1) refl),
      );
    }
  ]

  begins : (a b c d : ℕ) (sign : ℕ) → Goes begin_rounds (opening a b c d Free Free (Holds sign) Free) Onward (dividing e a b c d 0 0 (Holds sign) 32)
  begins a b c d sign = straight-does program choice own sp 14 placed begin_rounds (opening a b c d Free Free (Holds sign) Free) Onward _ refl

  -- the words of the result, with its sign
  signs : (a b c d low high sign x : ℕ) → low < 65536 → high < 65536 → IsSigned sign (long low high) x → TwoWords (λ low' high'. (long low' high' ≡ x) × Goes give_sign (dividing e a b c d low high (Holds sign) 0) Onward (dividing e a b c d low' high' (Holds sign) 0))
  signs a b c d low high sign x p q (inl h) = record {
    low = low;
    high = high;
    low_word = p;
    high_word = q;
    holds = (
      sym h.1,
      straight-does program choice own sp 14 placed give_sign (dividing e a b c d low high (Holds sign) 0) Onward _
          (other-so choice own 14 give_sign (dividing e a b c d low high (Holds sign) 0) sign _ refl h.0 refl),
    );
  }
  signs a b c d low high sign x p q (inr h) = record {
    low = wrapping_sub w16 0 low;
    high = wrapping_sub w16 (wrapping_sub w16 0 high) (truth (nat_lt 0 low));
    low_word = omega arith;
    high_word = omega arith;
    holds = (
      negated low high p q ∙ sym h.1,
      straight-does program choice own sp 14 placed give_sign (dividing e a b c d low high (Holds sign) 0) Onward _
          (taken-so choice own 14 give_sign (dividing e a b c d low high (Holds sign) 0) sign _ refl (not_zero _ h.0) refl),
    );
  }

  -- ---- from the first statement to the last

  -- with a sign that the first words give, and the words that the result is made of
  record Ending (sign : Expr) (last : Code) (a b c d : ℕ) (x : ℕ) : Type 0 where
    bit : ℕ
    bit_is : seen_value choice own 14 (opening a b c d Free Free Free Free) sign ≡ Ok bit
    takes : (m n : ℕ) → HasMagnitude (long a b) m (negative b) → HasMagnitude (long c d) n (negative d) → (qa qb c' d' low high : ℕ) → qa < 65536 → qb < 65536 → low < 65536 → high < 65536 → long qa qb ≡ m / n → long low high ≡ m % n →
        TwoWords (λ l h. IsSigned bit (long l h) x × Goes last (dividing e qa qb c' d' low high (Holds bit) 0) Onward (dividing e qa qb c' d' l h (Holds bit) 0))

  keeps : (sign : Expr) (a b c d bit : ℕ) → seen_value choice own 14 (opening a b c d Free Free Free Free) sign ≡ Ok bit → Goes (keep_sign sign) (opening a b c d Free Free Free Free) Onward (opening a b c d Free Free (Holds bit) Free)
  keeps sign a b c d bit h = straight-does program choice own sp 14 placed (keep_sign sign) (opening a b c d Free Free Free Free) Onward _
      (ap (λ (found : Found ℕ). (found >>= λ v. with_word_at choice own 14 (opening a b c d Free Free Free Free) (Local (negsuc 5)) v >>= λ b. onward b) >>= λ c. continued c.exit c.there (straight choice own 14 End)) h)

  record Final (sign : Expr) (last : Code) (a b c d x : ℕ) : Type 0 where
    qa : ℕ
    qb : ℕ
    c' : ℕ
    d' : ℕ
    bit : ℕ
    low : ℕ
    high : ℕ
    low_word : low < 65536
    high_word : high < 65536
    result : long low high ≡ x
    does : Does program choice own sp (division_code sign last) 64 4096 (opening a b c d Free Free Free Free) Onward (dividing e qa qb c' d' low high (Holds bit) 0)

  some-magnitude : (x m bit : ℕ) → 0 < x → x < 4294967296 → HasMagnitude x m bit → (0 < m) × (m ≤ 2147483648)
  some-magnitude x m bit p q (inl h) = (omega (arith, p, h), omega (arith, h))
  some-magnitude x m bit p q (inr h) = (omega (arith, q, h), omega (arith, h))

  divides : (sign : Expr) (last : Code) (a b c d x : ℕ) → a < 65536 → b < 65536 → c < 65536 → d < 65536 → 0 < long c d → bit_and (truth (c == 0)) (truth (d == 0)) ≡ 0 → code_size (keep_sign sign) ≤ 16 → code_size last ≤ 16 → Ending sign last a b c d x → Final sign last a b c d x
  divides sign last a b c d x p q r s some test small_sign small_last ending =
      let bit = ending.bit in
      let m = first-magnitude a b c d Free Free (Holds bit) Free p q in
      let n = second-magnitude m.low m.high c d Free Free (Holds bit) Free r s in
      let size = some-magnitude (long c d) (long n.low n.high) (negative d) some (omega (arith, r, s)) n.holds.0 in
      let turns = rounds program choice own sp placed e n.low n.high n.low_word n.high_word size.1 (Holds bit) 31 m.low m.high 0 0 1 (omega arith) m.low_word m.high_word (omega arith) (omega arith) size.0 refl in
      let parts = all-divided (long n.low n.high) (long m.low m.high) (long turns.a turns.b) (long turns.low turns.high) turns.divides in
      let taken = ending.takes (long m.low m.high) (long n.low n.high) m.holds.0 n.holds.0 turns.a turns.b n.low n.high turns.low turns.high turns.a_word turns.b_word turns.low_word turns.high_word parts.0 parts.1 in
      let given = signs turns.a turns.b n.low n.high taken.low taken.high bit x taken.low_word taken.high_word taken.holds.0 in
      let s0 = opening a b c d Free Free Free Free in
      let s1 = opening a b c d Free Free (Holds bit) Free in
      let s2 = opening m.low m.high c d Free Free (Holds bit) Free in
      let s3 = opening m.low m.high n.low n.high Free Free (Holds bit) Free in
      let s4 = dividing e m.low m.high n.low n.high 0 0 (Holds bit) 32 in
      let s5 = dividing e turns.a turns.b n.low n.high turns.low turns.high (Holds bit) 0 in
      let s6 = dividing e turns.a turns.b n.low n.high taken.low taken.high (Holds bit) 0 in
      let s7 = dividing e turns.a turns.b n.low n.high given.low given.high (Holds bit) 0 in
      let kept = keeps sign a b c d bit ending.bit_is in
      let does7 = then-does program choice own sp last give_sign 0 (code_size last) 0 (code_size give_sign) s5 s6 Onward s7 taken.holds.1 given.holds.1 in
      let does6 = then-does program choice own sp (Loop one_round End) (last then give_sign) 32 (66 * 32) 0 (code_size last + code_size give_sign) s4 s5 Onward s7 turns.does does7 in
      let does5 = then-does program choice own sp begin_rounds (Loop one_round End then (last then give_sign)) 0 (code_size begin_rounds) 32 (66 * 32 + (code_size last + code_size give_sign)) s3 s4 Onward s7 (begins m.low m.high n.low n.high bit) does6 in
      let does4 = then-does program choice own sp (take_magnitude (pos 8) (pos 6)) (begin_rounds then (Loop one_round End then (last then give_sign))) 0 (code_size (take_magnitude (pos 8) (pos 6))) 32 (code_size begin_rounds + (66 * 32 + (code_size last + code_size give_sign))) s2 s3 Onward s7 n.holds.1 does5 in
      let does3 = then-does program choice own sp (take_magnitude (pos 12) (pos 10)) (take_magnitude (pos 8) (pos 6) then (begin_rounds then (Loop one_round End then (last then give_sign)))) 0 (code_size (take_magnitude (pos 12) (pos 10))) 32 (code_size (take_magnitude (pos 8) (pos 6)) + (code_size begin_rounds + (66 * 32 + (code_size last + code_size give_sign)))) s1 s2 Onward s7 m.holds.1 does4 in
      let rest3 = take_magnitude (pos 12) (pos 10) then (take_magnitude (pos 8) (pos 6) then (begin_rounds then (Loop one_round End then (last then give_sign)))) in
      let work3 = code_size (take_magnitude (pos 12) (pos 10)) + (code_size (take_magnitude (pos 8) (pos 6)) + (code_size begin_rounds + (66 * 32 + (code_size last + code_size give_sign)))) in
      let does2 = then-does program choice own sp (keep_sign sign) rest3 0 (code_size (keep_sign sign)) 32 work3 s0 s1 Onward s7 kept does3 in
      let does1 = then-does program choice own sp test_divisor (keep_sign sign then rest3) 0 (code_size test_divisor) 32 (code_size (keep_sign sign) + work3) s0 s0 Onward s7 (some-goes a b c d test) does2 in
      record {
        qa = turns.a;
        qb = turns.b;
        c' = n.low;
        d' = n.high;
        bit = bit;
        low = given.low;
        high = given.high;
        low_word = given.low_word;
        high_word = given.high_word;
        result = given.holds.0;
        does = weaker-does program choice own sp (division_code sign last) 32 (code_size test_divisor + (code_size (keep_sign sign) + work3)) 64 4096 s0 Onward s7 (omega arith) (omega (arith, small_sign, small_last)) does1;
      }

-- ---- the routines

module _ (program : FlatProgram) (choice : Choice) (own : Frame) (sp : ℕ) (s : State) (placed : IsPlaced choice own sp 14) where
  abbrev start : ℕ → ℕ → ℕ → ℕ → Activation
  start a b c d = entered choice sp 8 (a ∷ b ∷ c ∷ d ∷ []) s

  quotient-ending : (a b c d : ℕ) → a < 65536 → b < 65536 → c < 65536 → d < 65536 → Ending program choice own sp placed (start a b c d) (Op op.Xor (is_negative high_word) (is_negative other_high_word)) take_quotient a b c d (signed_quotient w32 (long a b) (long c d))
  quotient-ending a b c d p q r t = record {
    bit = bit_xor (negative b) (negative d);
    bit_is = refl;
    takes = λ m n hm hn qa qb c' d' low high u v w z quotient rest. record {
      low = qa;
      high = qb;
      low_word = u;
      high_word = v;
      holds = (
        subst (λ k. IsSigned (bit_xor (negative b) (negative d)) k (signed_quotient w32 (long a b) (long c d))) (sym quotient) (quotient-signed (long a b) (long c d) (omega (arith, p, q)) (omega (arith, r, t)) m n (negative b) (negative d) hm hn),
        straight-does program choice own sp 14 placed take_quotient (dividing (start a b c d) qa qb c' d' low high (Holds (bit_xor (negative b) (negative d))) 0) Onward _ refl,
      );
    };
  }

  remainder-ending : (a b c d : ℕ) → a < 65536 → b < 65536 → c < 65536 → d < 65536 → Ending program choice own sp placed (start a b c d) (is_negative high_word) End a b c d (signed_remainder w32 (long a b) (long c d))
  remainder-ending a b c d p q r t = record {
    bit = negative b;
    bit_is = refl;
    takes = λ m n hm hn qa qb c' d' low high u v w z quotient rest. record {
      low = low;
      high = high;
      low_word = w;
      high_word = z;
      holds = (
        subst (λ k. IsSigned (negative b) k (signed_remainder w32 (long a b) (long c d))) (sym rest) (remainder-signed (long a b) (long c d) (omega (arith, p, q)) (omega (arith, r, t)) m n (negative b) (negative d) hm hn),
        straight-does program choice own sp 14 placed End (dividing (start a b c d) qa qb c' d' low high (Holds (negative b)) 0) Onward _ refl,
      );
    };
  }

  answers : (sign : Expr) (last : Code) (a b c d x : ℕ) → Final program choice own sp placed (start a b c d) sign last a b c d x → Answers program choice own sp (routine_of 8 8 (negsuc 3) 4 (division_code sign last)) 64 4096 (start a b c d) (long_bytes x)
  answers sign last a b c d x final = record {
    exit = Onward;
    ends = tt;
    there = dividing (start a b c d) final.qa final.qb final.c' final.d' final.low final.high (Holds final.bit) 0;
    does = final.does;
    given = long-bytes final.low final.high x final.low_word final.high_word final.result;
    keeps = record { memory = refl; flag = refl; input = refl; out = refl; err = refl };
  }

  fails : (sign : Expr) (last : Code) (a b c d : ℕ) → bit_and (truth (c == 0)) (truth (d == 0)) ≡ 1 → Fails program choice own sp (routine_of 8 8 (negsuc 3) 4 (division_code sign last)) 64 4096 (start a b c d) 200
  fails sign last a b c d h = record {
    there = start a b c d;
    does = weaker-does program choice own sp (division_code sign last) 0 (code_size test_divisor) 64 4096 (start a b c d) (Failing 200) (start a b c d) (omega arith) (omega arith)
        (skip-does program choice own sp test_divisor _ 0 (code_size test_divisor) (start a b c d) (Failing 200) (start a b c d) tt (zero-fails program choice own sp placed (start a b c d) a b c d h));
    keeps = record { memory = refl; flag = refl; input = refl; out = refl; err = refl };
  }

  replies-so : (sign : Expr) (last : Code) (a b c d x : ℕ) → a < 65536 → b < 65536 → c < 65536 → d < 65536 → code_size (keep_sign sign) ≤ 16 → code_size last ≤ 16 → Ending program choice own sp placed (start a b c d) sign last a b c d x →
      Replies program choice own sp (routine_of 8 8 (negsuc 3) 4 (division_code sign last)) 64 4096 (start a b c d) (if long c d == 0 then Err 200 else Ok (long_bytes x))
  replies-so sign last a b c d x p q r t m n ending = elim (zero-test c d r t) [
    | inl h ↦ subst (λ (k : Bool). Replies program choice own sp (routine_of 8 8 (negsuc 3) 4 (division_code sign last)) 64 4096 (start a b c d) (if k then Err 200 else Ok (long_bytes x))) (sym (eq-eqb (long c d) 0 h.0)) (fails sign last a b c d h.1)
    | inr h ↦ subst (λ (k : Bool). Replies program choice own sp (routine_of 8 8 (negsuc 3) 4 (division_code sign last)) 64 4096 (start a b c d) (if k then Err 200 else Ok (long_bytes x))) (sym (not-zero (long c d) h.0)) (answers sign last a b c d x (divides program choice own sp placed (start a b c d) sign last a b c d x p q r t h.0 h.1 m n ending))
  ]
    where
      not-zero : (k : ℕ) → 0 < k → (k == 0) ≡ false
      not-zero k h = grind (arith, nat_tests, h)

  pub quotient-replies : (args : List ℕ) → AreWords 4 args → Replies program choice own sp quotient_routine 64 4096 (entered choice sp 8 args s) (quotient_of args)
  quotient-replies = four-words (λ args. Replies program choice own sp quotient_routine 64 4096 (entered choice sp 8 args s) (quotient_of args)) (λ a b c d p q r t.
      replies-so (Op op.Xor (is_negative high_word) (is_negative other_high_word)) take_quotient a b c d (signed_quotient w32 (long a b) (long c d)) p q r t (omega arith) (omega arith) (quotient-ending a b c d p q r t))

  pub remainder-replies : (args : List ℕ) → AreWords 4 args → Replies program choice own sp remainder_routine 64 4096 (entered choice sp 8 args s) (remainder_of args)
  remainder-replies = four-words (λ args. Replies program choice own sp remainder_routine 64 4096 (entered choice sp 8 args s) (remainder_of args)) (λ a b c d p q r t.
      replies-so (is_negative high_word) End a b c d (signed_remainder w32 (long a b) (long c d)) p q r t (omega arith) (omega arith) (remainder-ending a b c d p q r t))
