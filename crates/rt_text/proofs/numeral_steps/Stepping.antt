-- One step of a numeral does what `next_stage` says.
use Rattle.std.proofs.Common.{◌≡◌, ℕ, ◌+◌, ◌*◌, ◌/◌, ◌%◌, ◌<◌, ◌≤◌, Bool, true, false, cond, List, [], ◌∷◌, ◌++◌, length, Option, Some, None, Ok, refl, sym, ap, subst, ◌∙◌, arith}
use Rattle.std.specs.Prelude.{nat_lt, nat_le, ◌==◌, ◌&&◌, ◌||◌, bit_and, bit_or}
use Rattle.std.specs.Char.{digit_value}
use Rattle.std.proofs.lemmas.Bool.{ltb-true}
use Rattle.std.proofs.lemmas.Bool.Decides.{nat_tests}
use Rattle.common_values.specs.declared.numerals.Stage.{Stage}
use Rattle.common_values.specs.declared.numerals.Stage.TheVariants as stages
use Rattle.common_values.specs.Numerals.{radix_of, greatest_magnitude, with_digit, after_sign, next_stage}
use Rattle.flat_code.specs.Tree.{Expr, Code, End, If}
use Rattle.flat_code.specs.Memory.{Found, ◌>>=◌}
use Rattle.flat_code.specs.Program.{Choice}
use Rattle.flat_code.specs.Meaning.{Frame, truth}
use Rattle.runtime_proofs.specs.routine_proofs.Activation.{Slot, Holds, Activation}
use Rattle.runtime_proofs.specs.routine_proofs.Straight.{Onward, Came, seen_value, continued, straight}
use Rattle.runtime_proofs.proofs.routine_proofs.Replies.{test_of, taken_of, other_of, next_of, taken-so, other-so}
use Rattle.rt_text.specs.numeral_steps.Stages.{numeral_words, stage_words, IsAt, at_stage, at_none}
use Rattle.rt_text.specs.numeral_steps.Step.{stop, take_digit, digit_step, dollar_step, numeral_step}
use Rattle.rt_text.specs.numeral_steps.Specifications.{Steps, StepsOn}
use Rattle.rt_text.proofs.numeral_steps.Widening.{straight-widens}
use Rattle.rt_text.proofs.numeral_steps.Digits.{and-bits, or-bits, digit_word, is-digit-so, digit-worth, low_grown, high_grown, grown, too-much, fits-so}

-- the same of any code, in an activation that has these words alone
pub record Goes (code : Code) (byte : ℕ) (o : Option Stage) (before : List Slot) : Type 0 where
  pub words : List Slot
  pub is_at : IsAt byte o words
  pub does : (choice : Choice) (own : Frame) (e : Activation) → straight choice own 0 code (record e { words = before }) ≡ Ok (record { exit = Onward; there = record e { words = words } })

-- ---- tests

abbrev Sees : Expr → List Slot → ℕ → Type 0
Sees test before v = (choice : Choice) (own : Frame) (e : Activation) → seen_value choice own 0 (record e { words = before }) test ≡ Ok v

taken-goes : (test : Expr) (taken other : Code) (byte : ℕ) (o : Option Stage) (before : List Slot) (v : ℕ) → (v ≡ 0 → ⊥) → Sees test before v → Goes taken byte o before → Goes (If test taken other End) byte o before
taken-goes test taken other byte o before v some sees goes = record {
  words = goes.words;
  is_at = goes.is_at;
  does = λ choice own e. taken-so choice own 0 (If test taken other End) (record e { words = before }) v (record { exit = Onward; there = record e { words = goes.words } }) (sees choice own e) some
      (ap (λ (x : Found Came). x >>= λ c. continued c.exit c.there (straight choice own 0 End)) (goes.does choice own e));
}

other-goes : (test : Expr) (taken other : Code) (byte : ℕ) (o : Option Stage) (before : List Slot) (v : ℕ) → v ≡ 0 → Sees test before v → Goes other byte o before → Goes (If test taken other End) byte o before
other-goes test taken other byte o before v none sees goes = record {
  words = goes.words;
  is_at = goes.is_at;
  does = λ choice own e. other-so choice own 0 (If test taken other End) (record e { words = before }) v (record { exit = Onward; there = record e { words = goes.words } }) (sees choice own e) none
      (ap (λ (x : Found Came). x >>= λ c. continued c.exit c.there (straight choice own 0 End)) (goes.does choice own e));
}

-- by a test of two parts
both-set : (p q : Bool) (b : Bool) → (p && q) ≡ b → bit_and (truth p) (truth q) ≡ truth b
both-set p q b e = and-bits p q ∙ ap truth e

not-zero : (v : ℕ) → v ≡ truth true → v ≡ 0 → ⊥
not-zero v e z = omega (arith, e, z)

-- ---- a digit

module _ (k : ℕ) (n x : Bool) (m byte digit : ℕ) (small : byte < 256) where
  abbrev r : ℕ
  r = radix_of x

  abbrev v : ℕ
  v = digit_value byte

  abbrev t : ℕ
  t = m * r + v

  abbrev d : ℕ
  d = digit_word byte

  abbrev before : List Slot
  before = numeral_words byte k (truth n) r (m / 65536) (m % 65536) digit

  -- once it is known what the byte is worth
  abbrev known : List Slot
  known = numeral_words byte k (truth n) r (m / 65536) (m % 65536) d

  -- the digit is taken
  abbrev taken_words : ℕ → List Slot
  taken_words stage = numeral_words byte stage (truth n) r (t / 65536) (t % 65536) d

  -- the step comes to its test
  from-known : (o : Option Stage) → Goes (next_of digit_step) byte o known → Goes digit_step byte o before
  from-known o goes = record { words = goes.words; is_at = goes.is_at; does = λ choice own e. goes.does choice own e }

  none-so : (nat_lt v r && nat_le t (greatest_magnitude n)) ≡ false → with_digit n x m byte ≡ None
  none-so e = ap (λ b. cond b (Some (stages.Digits n x t)) None) e

  some-so : (nat_lt v r && nat_le t (greatest_magnitude n)) ≡ true → with_digit n x m byte ≡ Some (stages.Digits n x t)
  some-so e = ap (λ b. cond b (Some (stages.Digits n x t)) None) e

  stops : Goes stop byte None known
  stops = record { words = numeral_words byte 4 (truth n) r (m / 65536) (m % 65536) d; is_at = at_none (truth n) r (m / 65536) (m % 65536) d; does = λ choice own e. refl }

  test-is : (b : Bool) → (nat_lt d r && nat_lt (m / 65536) 3277) ≡ b → bit_and (truth (nat_lt d r)) (truth (nat_lt (m / 65536) 3277)) ≡ truth b
  test-is b e = both-set (nat_lt d r) (nat_lt (m / 65536) 3277) b e

  -- the digit doesn't come in question
  refused : (nat_lt d r && nat_lt (m / 65536) 3277) ≡ false → (nat_lt v r && nat_le t (greatest_magnitude n)) ≡ false → Goes digit_step byte (with_digit n x m byte) before
  refused e f =
      from-known (with_digit n x m byte)
      (subst (λ o. Goes (next_of digit_step) byte o known) (sym (none-so f))
      (other-goes (test_of (next_of digit_step)) take_digit stop byte None known (bit_and (truth (nat_lt d r)) (truth (nat_lt (m / 65536) 3277))) (test-is false e) (λ choice own e. refl) stops))

  -- it comes in question
  module _ (is_digit : nat_lt d r ≡ true) (is_low : nat_lt (m / 65536) 3277 ≡ true) where
    worth_is : d ≡ v
    worth_is = digit-worth byte x small (ltb-true v r (sym (is-digit-so byte x small) ∙ is_digit))

    low_is : low_grown (m % 65536) r d ≡ t % 65536
    low_is = (grown x m d (ltb-true (m / 65536) 3277 is_low) (ltb-true d r is_digit)).0 ∙ ap (λ w. (m * r + w) % 65536) worth_is

    high_is : high_grown (m / 65536) (m % 65536) r d ≡ t / 65536
    high_is = (grown x m d (ltb-true (m / 65536) 3277 is_low) (ltb-true d r is_digit)).1 ∙ ap (λ w. (m * r + w) / 65536) worth_is

    -- the words of the magnitude are those of t
    grows : (choice : Choice) (own : Frame) (e : Activation) → straight choice own 0 take_digit (record e { words = known }) ≡ straight choice own 0 (next_of (next_of take_digit)) (record e { words = taken_words k })
    grows choice own e =
        let first : straight choice own 0 take_digit (record e { words = known }) ≡ straight choice own 0 (next_of (next_of take_digit)) (record e { words = numeral_words byte k (truth n) r (high_grown (m / 65536) (m % 65536) r d) (low_grown (m % 65536) r d) d }) = refl in
        first
        ∙ ap (λ h. straight choice own 0 (next_of (next_of take_digit)) (record e { words = numeral_words byte k (truth n) r h (low_grown (m % 65536) r d) d })) high_is
        ∙ ap (λ l. straight choice own 0 (next_of (next_of take_digit)) (record e { words = numeral_words byte k (truth n) r (t / 65536) l d })) low_is

    abbrev bound : ℕ
    bound = bit_or (truth (nat_lt (t / 65536) 32768)) (bit_and (bit_and (truth (t / 65536 == 32768)) (truth (t % 65536 == 0))) (truth n))

    question : (nat_lt d r && nat_lt (m / 65536) 3277) ≡ true
    question = ap (λ b. b && nat_lt (m / 65536) 3277) is_digit ∙ is_low

    by-taken : (o : Option Stage) → Goes take_digit byte o known → Goes digit_step byte o before
    by-taken o goes =
        from-known o
        (taken-goes (test_of (next_of digit_step)) take_digit stop byte o known (bit_and (truth (nat_lt d r)) (truth (nat_lt (m / 65536) 3277))) (not-zero (bit_and (truth (nat_lt d r)) (truth (nat_lt (m / 65536) 3277))) (test-is true question)) (λ choice own e. refl) goes)

    by-grown : (o : Option Stage) → Goes (next_of (next_of take_digit)) byte o (taken_words k) → Goes take_digit byte o known
    by-grown o goes = record { words = goes.words; is_at = goes.is_at; does = λ choice own e. grows choice own e ∙ goes.does choice own e }

    accepted : nat_le t (greatest_magnitude n) ≡ true → Goes digit_step byte (with_digit n x m byte) before
    accepted f =
        let fine : (nat_lt v r && nat_le t (greatest_magnitude n)) ≡ true = ap (λ b. b && nat_le t (greatest_magnitude n)) (sym (is-digit-so byte x small) ∙ is_digit) ∙ f in
        let goes : Goes (taken_of (next_of (next_of take_digit))) byte (Some (stages.Digits n x t)) (taken_words k) =
        record { words = taken_words 3; is_at = at_stage (stages.Digits n x t) d; does = λ choice own e. refl } in
        subst (λ o. Goes digit_step byte o before) (sym (some-so fine))
        (by-taken (Some (stages.Digits n x t))
        (by-grown (Some (stages.Digits n x t))
        (taken-goes (test_of (next_of (next_of take_digit))) (taken_of (next_of (next_of take_digit))) stop byte (Some (stages.Digits n x t)) (taken_words k) bound (not-zero bound (fits-so n t ∙ ap truth f)) (λ choice own e. refl) goes)))

    passed : nat_le t (greatest_magnitude n) ≡ false → Goes digit_step byte (with_digit n x m byte) before
    passed f =
        let fault : (nat_lt v r && nat_le t (greatest_magnitude n)) ≡ false = ap (λ b. b && nat_le t (greatest_magnitude n)) (sym (is-digit-so byte x small) ∙ is_digit) ∙ f in
        let goes : Goes stop byte None (taken_words k) = record { words = taken_words 4; is_at = at_none (truth n) r (t / 65536) (t % 65536) d; does = λ choice own e. refl } in
        subst (λ o. Goes digit_step byte o before) (sym (none-so fault))
        (by-taken None
        (by-grown None
        (other-goes (test_of (next_of (next_of take_digit))) (taken_of (next_of (next_of take_digit))) stop byte None (taken_words k) bound (fits-so n t ∙ ap truth f) (λ choice own e. refl) goes)))

  pub digit-goes : Goes digit_step byte (with_digit n x m byte) before
  digit-goes = by (nat_lt d r) (nat_lt (m / 65536) 3277) (nat_le t (greatest_magnitude n)) refl refl refl
    where
      no-digit : nat_lt d r ≡ false → (nat_lt v r && nat_le t (greatest_magnitude n)) ≡ false
      no-digit e = ap (λ b. b && nat_le t (greatest_magnitude n)) (sym (is-digit-so byte x small) ∙ e)

      not-low : nat_lt (m / 65536) 3277 ≡ false → 3277 ≤ m / 65536
      not-low e = at-least (m / 65536) e
        where
          at-least : (h : ℕ) → nat_lt h 3277 ≡ false → 3277 ≤ h
          at-least h e = grind (arith, nat_tests, e)

      no-room : nat_lt (m / 65536) 3277 ≡ false → (nat_lt v r && nat_le t (greatest_magnitude n)) ≡ false
      no-room e = ap (λ b. nat_lt v r && b) (too-much n x m v (not-low e)) ∙ and-false (nat_lt v r)
        where
          and-false : (b : Bool) → (b && false) ≡ false
          and-false true = refl
          and-false false = refl

      first-false : (b : Bool) → nat_lt d r ≡ false → (nat_lt d r && b) ≡ false
      first-false b e = ap (λ a. a && b) e

      second-false : (a b : Bool) → b ≡ false → (a && b) ≡ false
      second-false true b e = e
      second-false false b e = refl

      by : (a b c : Bool) → nat_lt d r ≡ a → nat_lt (m / 65536) 3277 ≡ b → nat_le t (greatest_magnitude n) ≡ c → Goes digit_step byte (with_digit n x m byte) before
      by false b c p q s = refused (first-false (nat_lt (m / 65536) 3277) p) (no-digit p)
      by true false c p q s = refused (second-false (nat_lt d r) (nat_lt (m / 65536) 3277) q) (no-room q)
      by true true true p q s = accepted p q s
      by true true false p q s = passed p q s

-- ---- what may come before the digits

abbrev dollar_test : Expr
dollar_test = test_of dollar_step

-- behind a `$` or a digit there is no other one
past-dollar : (k : ℕ) (n x : Bool) (m byte digit : ℕ) (o : Option Stage) → nat_lt k 2 ≡ false → (let before = numeral_words byte k (truth n) (radix_of x) (m / 65536) (m % 65536) digit in Goes digit_step byte o before → Goes dollar_step byte o before)
past-dollar k n x m byte digit o e goes =
    other-goes dollar_test (taken_of dollar_step) digit_step byte o (numeral_words byte k (truth n) (radix_of x) (m / 65536) (m % 65536) digit) (bit_and (truth (nat_lt k 2)) (truth (byte == 36)))
    (both-set (nat_lt k 2) (byte == 36) false (ap (λ b. b && (byte == 36)) e)) (λ choice own e. refl) goes

module _ (k : ℕ) (n : Bool) (byte digit : ℕ) (small : byte < 256) (is_low : nat_lt k 2 ≡ true) where
  abbrev unsigned : List Slot
  unsigned = numeral_words byte k (truth n) 10 0 0 digit

  abbrev dollar_bit : ℕ
  dollar_bit = bit_and (truth (nat_lt k 2)) (truth (byte == 36))

  dollar-is : (b : Bool) → (byte == 36) ≡ b → dollar_bit ≡ truth b
  dollar-is b p = both-set (nat_lt k 2) (byte == 36) b (ap (λ a. a && (byte == 36)) is_low ∙ p)

  dollar-goes : Goes dollar_step byte (after_sign n byte) unsigned
  dollar-goes = by (byte == 36) refl
    where
      by : (b : Bool) → (byte == 36) ≡ b → Goes dollar_step byte (after_sign n byte) unsigned
      by true p =
          let goes : Goes (taken_of dollar_step) byte (Some (stages.Dollar n)) unsigned = record { words = stage_words byte (stages.Dollar n) digit; is_at = at_stage (stages.Dollar n) digit; does = λ choice own e. refl } in
          subst (λ b. Goes dollar_step byte (cond b (Some (stages.Dollar n)) (with_digit n false 0 byte)) unsigned) (sym p)
          (taken-goes dollar_test (taken_of dollar_step) digit_step byte (Some (stages.Dollar n)) unsigned dollar_bit (not-zero dollar_bit (dollar-is true p)) (λ choice own e. refl) goes)
      by false p =
          subst (λ b. Goes dollar_step byte (cond b (Some (stages.Dollar n)) (with_digit n false 0 byte)) unsigned) (sym p)
          (other-goes dollar_test (taken_of dollar_step) digit_step byte (with_digit n false 0 byte) unsigned dollar_bit (dollar-is false p) (λ choice own e. refl) (digit-goes k n false 0 byte digit small))

-- ---- a sign

abbrev sign_test : Expr
sign_test = test_of numeral_step

abbrev sign_bit : ℕ → ℕ → ℕ
sign_bit k byte = bit_and (truth (k == 0)) (bit_or (truth (byte == 43)) (truth (byte == 45)))

sign-is : (k byte : ℕ) (b : Bool) → ((k == 0) && ((byte == 43) || (byte == 45))) ≡ b → sign_bit k byte ≡ truth b
sign-is k byte b e = ap (λ v. bit_and (truth (k == 0)) v) (or-bits (byte == 43) (byte == 45)) ∙ both-set (k == 0) ((byte == 43) || (byte == 45)) b e

past-sign : (k s r h l byte digit : ℕ) (o : Option Stage) → (k == 0) ≡ false → Goes dollar_step byte o (numeral_words byte k s r h l digit) → Goes numeral_step byte o (numeral_words byte k s r h l digit)
past-sign k s r h l byte digit o e goes =
    other-goes sign_test (taken_of numeral_step) dollar_step byte o (numeral_words byte k s r h l digit) (sign_bit k byte) (sign-is k byte false (ap (λ b. b && ((byte == 43) || (byte == 45))) e)) (λ choice own e. refl) goes

module _ (byte digit : ℕ) (small : byte < 256) where
  abbrev at_start : List Slot
  at_start = stage_words byte stages.Start digit

  -- what `next_stage` says, by its two tests
  abbrev next_by : Bool → Bool → Option Stage
  next_by a b = cond a (Some (stages.Signed false)) (cond b (Some (stages.Signed true)) (after_sign false byte))

  set-sign : (a b : Bool) → (byte == 43) ≡ a → (byte == 45) ≡ b → (a || b) ≡ true → Goes (taken_of numeral_step) byte (Some (stages.Signed b)) at_start → Goes numeral_step byte (Some (stages.Signed b)) at_start
  set-sign a b p q t goes =
      taken-goes sign_test (taken_of numeral_step) dollar_step byte (Some (stages.Signed b)) at_start (sign_bit 0 byte) (not-zero (sign_bit 0 byte) (sign-is 0 byte true (ap (λ c. c || (byte == 45)) p ∙ ap (λ c. a || c) q ∙ t))) (λ choice own e. refl) goes

  signed : (b : Bool) → (byte == 45) ≡ b → Goes (taken_of numeral_step) byte (Some (stages.Signed b)) at_start
  signed b q = record {
    words = stage_words byte (stages.Signed b) digit;
    is_at = at_stage (stages.Signed b) digit;
    does = λ choice own e. ap (λ c. let r : Found Came = Ok (record { exit = Onward; there = record e { words = numeral_words byte 1 (truth c) 10 0 0 digit } }) in r) q;
  }

  never-both : (b : ℕ) → (b == 43) ≡ true → (b == 45) ≡ false
  never-both b p = grind (arith, nat_tests, p)

  start-goes : Goes numeral_step byte (next_stage stages.Start byte) at_start
  start-goes = by (byte == 43) (byte == 45) refl refl
    where
      by : (a b : Bool) → (byte == 43) ≡ a → (byte == 45) ≡ b → Goes numeral_step byte (next_by (byte == 43) (byte == 45)) at_start
      by true b p q = subst (λ a. Goes numeral_step byte (next_by a (byte == 45)) at_start) (sym p) (set-sign true false p (never-both byte p) refl (signed false (never-both byte p)))
      by false true p q =
          subst (λ a. Goes numeral_step byte (next_by a (byte == 45)) at_start) (sym p)
          (subst (λ b. Goes numeral_step byte (next_by false b) at_start) (sym q) (set-sign false true p q refl (signed true q)))
      by false false p q =
          subst (λ a. Goes numeral_step byte (next_by a (byte == 45)) at_start) (sym p)
          (subst (λ b. Goes numeral_step byte (next_by false b) at_start) (sym q)
          (other-goes sign_test (taken_of numeral_step) dollar_step byte (after_sign false byte) at_start (sign_bit 0 byte) (sign-is 0 byte false (ap (λ c. c || (byte == 45)) p ∙ q)) (λ choice own e. refl) (dollar-goes 0 false byte digit small refl)))

-- ---- each stage

stage-goes : (stage : Stage) (byte digit : ℕ) → byte < 256 → Goes numeral_step byte (next_stage stage byte) (stage_words byte stage digit)
stage-goes stages.Start byte digit small = start-goes byte digit small
stage-goes (stages.Signed n) byte digit small = past-sign 1 (truth n) 10 0 0 byte digit (after_sign n byte) refl (dollar-goes 1 n byte digit small refl)
stage-goes (stages.Dollar n) byte digit small =
    past-sign 2 (truth n) 16 0 0 byte digit (with_digit n true 0 byte) refl (past-dollar 2 n true 0 byte digit (with_digit n true 0 byte) refl (digit-goes 2 n true 0 byte digit small))
stage-goes (stages.Digits n x m) byte digit small =
    past-sign 3 (truth n) (radix_of x) (m / 65536) (m % 65536) byte digit (with_digit n x m byte) refl (past-dollar 3 n x m byte digit (with_digit n x m byte) refl (digit-goes 3 n x m byte digit small))

pub steps-on : StepsOn
steps-on stage byte digit small =
    let goes = stage-goes stage byte digit small in
    record {
      words = goes.words;
      is_at = goes.is_at;
      does = λ choice own front back e. straight-widens choice own front back numeral_step (record e { words = stage_words byte stage digit }) (record { exit = Onward; there = record e { words = goes.words } }) refl (goes.does choice own e);
    }
