-- The routines that shift LongInts.
use Rattle.std.proofs.Common.{◌≡◌, ℕ, zero, suc, ◌+◌, ◌-◌, ◌*◌, ◌/◌, ◌%◌, ◌^◌, ◌<◌, ◌≤◌, ◌⊎◌, inl, inr, List, [], ◌∷◌, refl, sym, ap, ◌∙◌, arith}
use Rattle.std.specs.Prelude.{nat_lt, bit_and}
use Rattle.std.proofs.lemmas.Bool.Decides.{nat_tests}
use Rattle.std.proofs.Math.Nat.{div-div-eq-div-mul, div-le_self}
use Rattle.std.proofs.lemmas.Nat.{and_mask, pow-add}
use Rattle.common_values.specs.integers.Words.{w16, w32, wrapping_add, wrapping_sub, shifted_left, shifted_right, low_byte}
use Rattle.flat_code.specs.Meaning.{Frame, State, truth}
use Rattle.flat_code.specs.Program.{FlatProgram, Choice}
use Rattle.flat_code.specs.Gives.{AreWords}
use Rattle.runtime_proofs.specs.routine_proofs.Activation.{Shut, Free, Holds, Activation, IsPlaced}
use Rattle.runtime_proofs.specs.routine_proofs.Straight.{Onward}
use Rattle.runtime_proofs.specs.routine_proofs.Entry.{entered}
use Rattle.runtime_proofs.specs.routine_proofs.Specifications.{Replies}
use Rattle.runtime_proofs.proofs.routine_proofs.Replies.{answers-straight, next_of, taken-so, other-so, three-words}
use Rattle.rt_strings.specs.long_integers.Routines.{left_shift_routine, right_shift_routine}
use Rattle.rt_strings.specs.long_integers.Numbers.{left_shift_of, right_shift_of}
use Rattle.rt_strings.proofs.long_integers.Bytes.{long-bytes}

-- each number below 16
below-16 : (P : ℕ → Type 0) → P 0 → P 1 → P 2 → P 3 → P 4 → P 5 → P 6 → P 7 → P 8 → P 9 → P 10 → P 11 → P 12 → P 13 → P 14 → P 15 → (k : ℕ) → k < 16 → P k
below-16 P p0 p1 p2 p3 p4 p5 p6 p7 p8 p9 p10 p11 p12 p13 p14 p15 zero h = p0
below-16 P p0 p1 p2 p3 p4 p5 p6 p7 p8 p9 p10 p11 p12 p13 p14 p15 (suc zero) h = p1
below-16 P p0 p1 p2 p3 p4 p5 p6 p7 p8 p9 p10 p11 p12 p13 p14 p15 (suc (suc zero)) h = p2
below-16 P p0 p1 p2 p3 p4 p5 p6 p7 p8 p9 p10 p11 p12 p13 p14 p15 (suc (suc (suc zero))) h = p3
below-16 P p0 p1 p2 p3 p4 p5 p6 p7 p8 p9 p10 p11 p12 p13 p14 p15 (suc (suc (suc (suc zero)))) h = p4
below-16 P p0 p1 p2 p3 p4 p5 p6 p7 p8 p9 p10 p11 p12 p13 p14 p15 (suc (suc (suc (suc (suc zero))))) h = p5
below-16 P p0 p1 p2 p3 p4 p5 p6 p7 p8 p9 p10 p11 p12 p13 p14 p15 (suc (suc (suc (suc (suc (suc zero)))))) h = p6
below-16 P p0 p1 p2 p3 p4 p5 p6 p7 p8 p9 p10 p11 p12 p13 p14 p15 (suc (suc (suc (suc (suc (suc (suc zero))))))) h = p7
below-16 P p0 p1 p2 p3 p4 p5 p6 p7 p8 p9 p10 p11 p12 p13 p14 p15 (suc (suc (suc (suc (suc (suc (suc (suc zero)))))))) h = p8
below-16 P p0 p1 p2 p3 p4 p5 p6 p7 p8 p9 p10 p11 p12 p13 p14 p15 (suc (suc (suc (suc (suc (suc (suc (suc (suc zero))))))))) h = p9
below-16 P p0 p1 p2 p3 p4 p5 p6 p7 p8 p9 p10 p11 p12 p13 p14 p15 (suc (suc (suc (suc (suc (suc (suc (suc (suc (suc zero)))))))))) h = p10
below-16 P p0 p1 p2 p3 p4 p5 p6 p7 p8 p9 p10 p11 p12 p13 p14 p15 (suc (suc (suc (suc (suc (suc (suc (suc (suc (suc (suc zero))))))))))) h = p11
below-16 P p0 p1 p2 p3 p4 p5 p6 p7 p8 p9 p10 p11 p12 p13 p14 p15 (suc (suc (suc (suc (suc (suc (suc (suc (suc (suc (suc (suc zero)))))))))))) h = p12
below-16 P p0 p1 p2 p3 p4 p5 p6 p7 p8 p9 p10 p11 p12 p13 p14 p15 (suc (suc (suc (suc (suc (suc (suc (suc (suc (suc (suc (suc (suc zero))))))))))))) h = p13
below-16 P p0 p1 p2 p3 p4 p5 p6 p7 p8 p9 p10 p11 p12 p13 p14 p15 (suc (suc (suc (suc (suc (suc (suc (suc (suc (suc (suc (suc (suc (suc zero)))))))))))))) h = p14
below-16 P p0 p1 p2 p3 p4 p5 p6 p7 p8 p9 p10 p11 p12 p13 p14 p15 (suc (suc (suc (suc (suc (suc (suc (suc (suc (suc (suc (suc (suc (suc (suc zero))))))))))))))) h = p15
below-16 P p0 p1 p2 p3 p4 p5 p6 p7 p8 p9 p10 p11 p12 p13 p14 p15 (suc (suc (suc (suc (suc (suc (suc (suc (suc (suc (suc (suc (suc (suc (suc (suc k)))))))))))))))) h = absurd (omega (arith, h))

-- ---- fewer than 16 places

abbrev left_low : ℕ → ℕ → ℕ
left_low a k = shifted_left w16 a (low_byte k)

abbrev left_high : ℕ → ℕ → ℕ → ℕ
left_high a b k = wrapping_add w16 (shifted_left w16 b (low_byte k)) (shifted_right a (low_byte (wrapping_sub w16 16 k)))

few-left : (a b : ℕ) → a < 65536 → b < 65536 → (k : ℕ) → k < 16 → left_low a k + 65536 * left_high a b k ≡ shifted_left w32 (a + 65536 * b) k
few-left a b p q = below-16 (λ k. left_low a k + 65536 * left_high a b k ≡ shifted_left w32 (a + 65536 * b) k)
    (omega (arith, p, q)) (omega (arith, p, q)) (omega (arith, p, q)) (omega (arith, p, q)) (omega (arith, p, q)) (omega (arith, p, q)) (omega (arith, p, q)) (omega (arith, p, q)) (omega (arith, p, q)) (omega (arith, p, q)) (omega (arith, p, q)) (omega (arith, p, q)) (omega (arith, p, q)) (omega (arith, p, q)) (omega (arith, p, q)) (omega (arith, p, q))

abbrev right_low : ℕ → ℕ → ℕ → ℕ
right_low a b k = wrapping_add w16 (shifted_right a (low_byte k)) (shifted_left w16 b (low_byte (wrapping_sub w16 16 k)))

abbrev right_high : ℕ → ℕ → ℕ
right_high b k = shifted_right b (low_byte k)

few-right : (a b : ℕ) → a < 65536 → b < 65536 → (k : ℕ) → k < 16 → right_low a b k + 65536 * right_high b k ≡ shifted_right (a + 65536 * b) k
few-right a b p q = below-16 (λ k. right_low a b k + 65536 * right_high b k ≡ shifted_right (a + 65536 * b) k)
    (omega (arith, p, q)) (omega (arith, p, q)) (omega (arith, p, q)) (omega (arith, p, q)) (omega (arith, p, q)) (omega (arith, p, q)) (omega (arith, p, q)) (omega (arith, p, q)) (omega (arith, p, q)) (omega (arith, p, q)) (omega (arith, p, q)) (omega (arith, p, q)) (omega (arith, p, q)) (omega (arith, p, q)) (omega (arith, p, q)) (omega (arith, p, q))

-- ---- 16 places and more

powers : (k : ℕ) → 16 ≤ k → 2 ^ k ≡ 65536 * 2 ^ (k - 16)
powers k h = let e : k ≡ 16 + (k - 16) = omega (arith, h) in ap (λ n. 2 ^ n) e ∙ pow-add 2 16 (k - 16)

less : (k : ℕ) → 16 ≤ k → k < 256 → low_byte (wrapping_sub w16 k 16) ≡ k - 16
less k h l = omega arith

many-left : (a b k : ℕ) → 16 ≤ k → k < 256 → 0 + 65536 * shifted_left w16 a (low_byte (wrapping_sub w16 k 16)) ≡ shifted_left w32 (a + 65536 * b) k
many-left a b k h l =
    ap (λ n. 0 + 65536 * shifted_left w16 a n) (less k h l)
    ∙ moved (2 ^ (k - 16))
    ∙ ap (λ n. (a + 65536 * b) * n % 4294967296) (sym (powers k h))
  where
    moved : (p : ℕ) → 0 + 65536 * (a * p % 65536) ≡ (a + 65536 * b) * (65536 * p) % 4294967296
    moved p = omega arith

many-right : (a b k : ℕ) → a < 65536 → 16 ≤ k → k < 256 → shifted_right b (low_byte (wrapping_sub w16 k 16)) + 65536 * 0 ≡ shifted_right (a + 65536 * b) k
many-right a b k p h l =
    ap (λ n. shifted_right b n + 65536 * 0) (less k h l)
    ∙ moved (2 ^ (k - 16))
    ∙ ap (λ n. (a + 65536 * b) / n) (sym (powers k h))
  where
    upper : (a + 65536 * b) / 65536 ≡ b
    upper = omega (arith, p)

    moved : (p : ℕ) → b / p + 65536 * 0 ≡ (a + 65536 * b) / (65536 * p)
    moved p = let e : b / p + 65536 * 0 ≡ b / p = omega arith in e ∙ ap (λ n. n / p) (sym upper) ∙ div-div-eq-div-mul (a + 65536 * b) 65536 p

-- ---- the routines

mask : (c : ℕ) → bit_and c 255 ≡ low_byte c
mask c = and_mask c 8

mask-small : (c : ℕ) → bit_and c 255 < 256
mask-small c = let e = mask c in omega (arith, e)

few-or-many : (k : ℕ) → ((k < 16) × (truth (nat_lt k 16) ≡ 1)) ⊎ ((16 ≤ k) × (truth (nat_lt k 16) ≡ 0))
few-or-many k = grind (arith, nat_tests)

not_zero : (n : ℕ) → n ≡ 1 → n ≡ 0 → ⊥
not_zero n p q = omega (arith, p, q)

module _ (program : FlatProgram) (choice : Choice) (own : Frame) (sp : ℕ) (s : State) (placed : IsPlaced choice own sp 12) where
  abbrev start : ℕ → ℕ → ℕ → Activation
  start a b c = entered choice sp 4 (a ∷ b ∷ c ∷ []) s

  -- once the count is below 256
  abbrev masked : ℕ → ℕ → ℕ → Activation
  masked a b c = record (start a b c) { words = Holds a ∷ Holds b ∷ Holds (bit_and c 255) ∷ Shut ∷ Shut ∷ Shut ∷ Free ∷ Free ∷ [] }

  pub left-replies : (args : List ℕ) → AreWords 3 args → Replies program choice own sp left_shift_routine 0 128 (entered choice sp 4 args s) (left_shift_of args)
  left-replies = three-words (λ args. Replies program choice own sp left_shift_routine 0 128 (entered choice sp 4 args s) (left_shift_of args)) (λ a b c p q r.
      elim (few-or-many (bit_and c 255)) [
        | inl h ↦ answers-straight program choice own sp left_shift_routine 0 128 (start a b c) Onward _ _ placed
            (taken-so choice own 12 (next_of left_shift_routine.body) (masked a b c) (truth (nat_lt (bit_and c 255) 16)) _ refl (not_zero _ h.1) refl) tt
            (long-bytes (left_low a (bit_and c 255)) (left_high a b (bit_and c 255)) _ (omega arith) (omega arith) (few-left a b p q (bit_and c 255) h.0 ∙ ap (shifted_left w32 (a + 65536 * b)) (mask c)))
            (record { memory = refl; flag = refl; input = refl; out = refl; err = refl }) (omega arith)
        | inr h ↦ answers-straight program choice own sp left_shift_routine 0 128 (start a b c) Onward _ _ placed
            (other-so choice own 12 (next_of left_shift_routine.body) (masked a b c) (truth (nat_lt (bit_and c 255) 16)) _ refl h.1 refl) tt
            (long-bytes 0 (shifted_left w16 a (low_byte (wrapping_sub w16 (bit_and c 255) 16))) _ (omega arith) (omega arith) (many-left a b (bit_and c 255) h.0 (mask-small c) ∙ ap (shifted_left w32 (a + 65536 * b)) (mask c)))
            (record { memory = refl; flag = refl; input = refl; out = refl; err = refl }) (omega arith)
      ])

  right-small : (a k : ℕ) → a < 65536 → shifted_right a k < 65536
  right-small a k p = omega (arith, p, div-le_self a (2 ^ k))

  pub right-replies : (args : List ℕ) → AreWords 3 args → Replies program choice own sp right_shift_routine 0 128 (entered choice sp 4 args s) (right_shift_of args)
  right-replies = three-words (λ args. Replies program choice own sp right_shift_routine 0 128 (entered choice sp 4 args s) (right_shift_of args)) (λ a b c p q r.
      elim (few-or-many (bit_and c 255)) [
        | inl h ↦ answers-straight program choice own sp right_shift_routine 0 128 (start a b c) Onward _ _ placed
            (taken-so choice own 12 (next_of right_shift_routine.body) (masked a b c) (truth (nat_lt (bit_and c 255) 16)) _ refl (not_zero _ h.1) refl) tt
            (long-bytes (right_low a b (bit_and c 255)) (right_high b (bit_and c 255)) _ (omega arith) (right-small b (low_byte (bit_and c 255)) q) (few-right a b p q (bit_and c 255) h.0 ∙ ap (shifted_right (a + 65536 * b)) (mask c)))
            (record { memory = refl; flag = refl; input = refl; out = refl; err = refl }) (omega arith)
        | inr h ↦ answers-straight program choice own sp right_shift_routine 0 128 (start a b c) Onward _ _ placed
            (other-so choice own 12 (next_of right_shift_routine.body) (masked a b c) (truth (nat_lt (bit_and c 255) 16)) _ refl h.1 refl) tt
            (long-bytes (shifted_right b (low_byte (wrapping_sub w16 (bit_and c 255) 16))) 0 _ (right-small b (low_byte (wrapping_sub w16 (bit_and c 255) 16)) q) (omega arith) (many-right a b (bit_and c 255) p h.0 (mask-small c) ∙ ap (shifted_right (a + 65536 * b)) (mask c)))
            (record { memory = refl; flag = refl; input = refl; out = refl; err = refl }) (omega arith)
      ])
