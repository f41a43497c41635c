-- Words that become the least of some.
use Rattle.std.proofs.Common.{◌≡◌, ℕ, zero, suc, ◌+◌, ◌-◌, ◌*◌, ◌<◌, ◌≤◌, ◌⊎◌, inl, inr, Ok, ℤ, pos, negsuc, refl, sym, ap, ◌∙◌, arith}
use Rattle.std.specs.Prelude.{min, nat_lt}
use Rattle.std.proofs.lemmas.Bool.Decides.{nat_tests}
use Rattle.std.proofs.lemmas.Int.{ints}
use Rattle.common_values.specs.integers.Words.{w16, w32, wrapping_add, wrapping_sub, cast_signed, is_signed_less}
use Rattle.common_values.specs.Strings.{byte_count, bytes_before}
use Rattle.flat_code.specs.declared.tree.Address.TheVariants.{Local}
use Rattle.flat_code.specs.declared.tree.FlatOp.TheVariants as op
use Rattle.flat_code.specs.Tree.{Expr, Number, Op, Code, End, If}
use Rattle.flat_code.specs.Memory.{Found, ◌>>=◌}
use Rattle.flat_code.specs.Program.{Choice}
use Rattle.flat_code.specs.Meaning.{Frame, truth}
use Rattle.runtime_proofs.specs.routine_proofs.Activation.{Activation}
use Rattle.runtime_proofs.specs.routine_proofs.Straight.{Came, seen_value, with_word_at, continued, chosen_way, straight}
use Rattle.runtime_proofs.specs.string_loops.Pieces.{word, set_word, lessen, limit, limit_count, place_before, count_behind}
use Rattle.runtime_proofs.specs.string_loops.Counts.{long_value}
use Rattle.runtime_proofs.proofs.string_loops.Seen.{op-so, set-so, lessen-so}

-- ---- numbers

pub decided : (m n : ℕ) → ((m < n) × (truth (nat_lt m n) ≡ 1)) ⊎ ((n ≤ m) × (truth (nat_lt m n) ≡ 0))
decided m n = grind (arith, nat_tests)

sign-decided : (h : ℕ) → h < 65536 → ((h < 32768) × (truth (is_signed_less w16 h 0) ≡ 0)) ⊎ ((32768 ≤ h) × (truth (is_signed_less w16 h 0) ≡ 1))
sign-decided h p = grind (arith, nat_tests, ints)

signed-so : (x : ℕ) → x < 2147483648 → cast_signed w32 x ≡ pos x
signed-so x h = grind (arith, nat_tests, ints)

signed-negative : (x n : ℕ) → 2147483648 ≤ x → x < 4294967296 → 4294967296 - x ≡ suc n → cast_signed w32 x ≡ negsuc n
signed-negative x n h l e = grind (arith, nat_tests, ints)

pub count-positive : (low high : ℕ) → low < 65536 → high < 32768 → byte_count (long_value low high) ≡ low + 65536 * high
count-positive low high p q = ap byte_count (signed-so (low + 65536 * high) (omega (arith, p, q)))

pub count-negative : (low high : ℕ) → low < 65536 → high < 65536 → 32768 ≤ high → byte_count (long_value low high) ≡ 0
count-negative low high p q r = ap byte_count (signed-negative (low + 65536 * high) (4294967296 - (low + 65536 * high) - 1) (omega (arith, r)) (omega (arith, p, q)) (omega (arith, p, q)))

pub before-count : (v : ℤ) → bytes_before v ≡ byte_count v - 1
before-count (pos n) = refl
before-count (negsuc n) = refl

min-left : (x y : ℕ) → x ≤ y → x ≡ min x y
min-left x y h = omega (arith, h)

min-right : (x y : ℕ) → y ≤ x → y ≡ min x y
min-right x y h = omega (arith, h)

-- ---- tests that stand first

module _ (choice : Choice) (own : Frame) (above : ℕ) where
  pub choose-so : (test : Expr) (taken other next : Code) (a : Activation) (v : ℕ) → seen_value choice own above a test ≡ Ok v → straight choice own above (If test taken other next) a ≡ (chosen_way v (straight choice own above taken a) (straight choice own above other a) >>= λ c. continued c.exit c.there (straight choice own above next))
  choose-so test taken other next a v e = ap (λ (found : Found ℕ). found >>= λ v. chosen_way v (straight choice own above taken a) (straight choice own above other a) >>= λ c. continued c.exit c.there (straight choice own above next)) e

  -- what the test comes to
  pub way-so : (v w : ℕ) (taken other : Found Came) (next : Code) → v ≡ w → (chosen_way v taken other >>= λ c. continued c.exit c.there (straight choice own above next)) ≡ (chosen_way w taken other >>= λ c. continued c.exit c.there (straight choice own above next))
  way-so v w taken other next e = ap (λ v. chosen_way v taken other >>= λ c. continued c.exit c.there (straight choice own above next)) e

-- activations that differ in one word
pub record Varying (choice : Choice) (own : Frame) (above : ℕ) (at : ℤ) (st : ℕ → Activation) : Type 0 where
  pub word_is : (v : ℕ) → seen_value choice own above (st v) (word at) ≡ Ok v
  pub with_word : (v w : ℕ) → with_word_at choice own above (st v) (Local at) w ≡ Ok (st w)

module _ (choice : Choice) (own : Frame) (above : ℕ) (at : ℤ) (st : ℕ → Activation) (varying : Varying choice own above at st) where
  pub limit-so : (other : ℤ) (next : Code) (x y : ℕ) → ((v : ℕ) → seen_value choice own above (st v) (word other) ≡ Ok y) → straight choice own above (limit at other next) (st x) ≡ straight choice own above next (st (min x y))
  limit-so other next x y e =
      let test = Op op.Below (word other) (word at) in
      let taken = set_word at (word other) End in
      choose-so choice own above test taken End next (st x) (truth (nat_lt y x)) (op-so choice own above op.Below (word other) (word at) (st x) y x (e x) (varying.word_is x))
      ∙ elim (decided y x) [
        | inl h ↦ way-so choice own above (truth (nat_lt y x)) 1 (straight choice own above taken (st x)) (straight choice own above End (st x)) next h.1
            ∙ ap (λ (found : Found Came). found >>= λ c. continued c.exit c.there (straight choice own above next)) (set-so choice own above at (word other) End (st x) (st y) y (e x) (varying.with_word x y))
            ∙ ap (λ v. straight choice own above next (st v)) (min-right x y (omega (arith, h.0)))
        | inr h ↦ way-so choice own above (truth (nat_lt y x)) 0 (straight choice own above taken (st x)) (straight choice own above End (st x)) next h.1
            ∙ ap (λ v. straight choice own above next (st v)) (min-left x y h.0)
      ]

  pub limit_count-so : (low high : ℤ) (next : Code) (x l h : ℕ) → x < 65536 → l < 65536 → h < 65536 → ((v : ℕ) → seen_value choice own above (st v) (word low) ≡ Ok l) → ((v : ℕ) → seen_value choice own above (st v) (word high) ≡ Ok h) →
      straight choice own above (limit_count at low high next) (st x) ≡ straight choice own above next (st (min x (byte_count (long_value l h))))
  limit_count-so low high next x l h p q r e g =
      let test = Op op.Less (word high) (Number 0) in
      let taken = set_word at (Number 0) End in
      let other = If (word high) End (limit at low End) End in
      choose-so choice own above test taken other next (st x) (truth (is_signed_less w16 h 0)) (op-so choice own above op.Less (word high) (Number 0) (st x) h 0 (g x) refl)
      ∙ elim (sign-decided h r) [
        | inl k ↦ way-so choice own above (truth (is_signed_less w16 h 0)) 0 (straight choice own above taken (st x)) (straight choice own above other (st x)) next k.1
            ∙ ap (λ (found : Found Came). found >>= λ c. continued c.exit c.there (straight choice own above next)) (low-so h refl k.0)
        | inr k ↦ way-so choice own above (truth (is_signed_less w16 h 0)) 1 (straight choice own above taken (st x)) (straight choice own above other (st x)) next k.1
            ∙ ap (λ (found : Found Came). found >>= λ c. continued c.exit c.there (straight choice own above next)) (set-so choice own above at (Number 0) End (st x) (st 0) 0 refl (varying.with_word x 0))
            ∙ ap (λ v. straight choice own above next (st v)) (min-right x 0 (omega arith) ∙ ap (min x) (sym (count-negative l h q r k.0)))
      ]
    where
      low-so : (n : ℕ) → h ≡ n → h < 32768 → straight choice own above (If (word high) End (limit at low End) End) (st x) ≡ straight choice own above End (st (min x (byte_count (long_value l h))))
      low-so zero k small =
          let count : byte_count (long_value l h) ≡ l = count-positive l h q small ∙ omega (arith, k) in
          choose-so choice own above (word high) End (limit at low End) End (st x) h (g x)
          ∙ way-so choice own above h 0 (straight choice own above End (st x)) (straight choice own above (limit at low End) (st x)) End k
          ∙ ap (λ (found : Found Came). found >>= λ c. continued c.exit c.there (straight choice own above End)) (limit-so low End x l e)
          ∙ ap (λ v. straight choice own above End (st (min x v))) (sym count)
      low-so (suc n) k small =
          let count = count-positive l h q small in
          choose-so choice own above (word high) End (limit at low End) End (st x) h (g x)
          ∙ way-so choice own above h (suc n) (straight choice own above End (st x)) (straight choice own above (limit at low End) (st x)) End k
          ∙ ap (λ v. straight choice own above End (st v)) (min-left x (byte_count (long_value l h)) (omega (arith, count, k, p)))

  one-less-so : (next : Code) (x : ℕ) → x < 65536 → straight choice own above (If (word at) (lessen at (Number 1) End) End next) (st x) ≡ straight choice own above next (st (x - 1))
  one-less-so next zero p =
      choose-so choice own above (word at) (lessen at (Number 1) End) End next (st 0) 0 (varying.word_is 0)
  one-less-so next (suc n) p =
      let fewer : wrapping_sub w16 (suc n) 1 ≡ suc n - 1 = omega (arith, p) in
      choose-so choice own above (word at) (lessen at (Number 1) End) End next (st (suc n)) (suc n) (varying.word_is (suc n))
      ∙ ap (λ (found : Found Came). found >>= λ c. continued c.exit c.there (straight choice own above next)) (lessen-so choice own above at (Number 1) End (st (suc n)) (st (wrapping_sub w16 (suc n) 1)) (suc n) 1 (varying.word_is (suc n)) refl (varying.with_word (suc n) (wrapping_sub w16 (suc n) 1)))
      ∙ ap (λ v. straight choice own above next (st v)) fewer

  pub place_before-so : (low high len : ℤ) (next : Code) (start : Activation) (L l h : ℕ) → L < 256 → l < 65536 → h < 65536 → seen_value choice own above start (word len) ≡ Ok L → ((v : ℕ) → with_word_at choice own above start (Local at) v ≡ Ok (st v)) →
      ((v : ℕ) → seen_value choice own above (st v) (word low) ≡ Ok l) → ((v : ℕ) → seen_value choice own above (st v) (word high) ≡ Ok h) →
      straight choice own above (place_before at low high len next) start ≡ straight choice own above next (st (min (bytes_before (long_value l h)) L))
  place_before-so low high len next start L l h p q r e put f g =
      let most = wrapping_add w16 L 1 in
      let count = byte_count (long_value l h) in
      let less = If (word at) (lessen at (Number 1) End) End next in
      set-so choice own above at (Op op.Add (word len) (Number 1)) (limit_count at low high less) start (st most) most (op-so choice own above op.Add (word len) (Number 1) start L 1 e refl) (put most)
      ∙ limit_count-so low high less most l h (omega (arith, p)) q r f g
      ∙ one-less-so next (min most count) (omega (arith, p))
      ∙ ap (λ v. straight choice own above next (st v)) (omega (arith, p, before-count (long_value l h)))

  pub count_behind-so : (before low high len : ℤ) (next : Code) (start : Activation) (L b l h : ℕ) → L < 256 → b ≤ L → l < 65536 → h < 65536 → seen_value choice own above start (word len) ≡ Ok L → seen_value choice own above start (word before) ≡ Ok b → ((v : ℕ) → with_word_at choice own above start (Local at) v ≡ Ok (st v)) →
      ((v : ℕ) → seen_value choice own above (st v) (word low) ≡ Ok l) → ((v : ℕ) → seen_value choice own above (st v) (word high) ≡ Ok h) →
      straight choice own above (count_behind at before low high len next) start ≡ straight choice own above next (st (min (L - b) (byte_count (long_value l h))))
  count_behind-so before low high len next start L b l h p s q r e d put f g =
      let most = wrapping_sub w16 L b in
      let exact : most ≡ L - b = omega (arith, p, s) in
      set-so choice own above at (Op op.Sub (word len) (word before)) (limit_count at low high next) start (st most) most (op-so choice own above op.Sub (word len) (word before) start L b e d) (put most)
      ∙ limit_count-so low high next most l h (omega (arith, p, s)) q r f g
      ∙ ap (λ v. straight choice own above next (st (min v (byte_count (long_value l h))))) exact
