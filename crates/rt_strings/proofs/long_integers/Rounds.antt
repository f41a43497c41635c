-- The rounds of a division.
use Rattle.std.proofs.Common.{◌≡◌, ℕ, zero, suc, ◌+◌, ◌-◌, ◌*◌, ◌/◌, ◌%◌, ◌<◌, ◌≤◌, ◌⊎◌, inl, inr, [], ◌∷◌, Bool, true, false, refl, sym, ap, subst, ◌∙◌, arith}
use Rattle.std.specs.Prelude.{nat_lt, ◌==◌, ◌&&◌, ◌||◌, bit_and, bit_or}
use Rattle.std.proofs.lemmas.Bool.Decides.{nat_tests}
use Rattle.common_values.specs.integers.Words.{w16, wrapping_add, wrapping_sub}
use Rattle.flat_code.specs.Tree.{Code, End, Loop, ◌then◌}
use Rattle.flat_code.specs.Meaning.{Frame, truth}
use Rattle.flat_code.specs.Program.{FlatProgram, Choice}
use Rattle.runtime_proofs.specs.routine_proofs.Activation.{Slot, Shut, Holds, Activation, IsPlaced}
use Rattle.runtime_proofs.specs.routine_proofs.Straight.{Exit, Onward, Leaving, code_size}
use Rattle.runtime_proofs.specs.routine_proofs.Comes.{Does}
use Rattle.runtime_proofs.proofs.routine_proofs.Replies.{taken-so, other-so, next_of}
use Rattle.runtime_proofs.proofs.routine_proofs.Doing.{weaker-does, then-does, round-does, leave-does, straight-does}
use Rattle.rt_strings.specs.long_integers.Division.{shift_in, take_off, count_down, one_round}
use Rattle.rt_strings.proofs.long_integers.LongDivision.{Divides, Round, nothing-divided, one-round}
use Rattle.rt_strings.proofs.long_integers.WordReplies.{subtracted}

-- an activation in the rounds: dividend, divisor, rest, sign, and how many rounds are left
abbrev pub dividing : Activation → ℕ → ℕ → ℕ → ℕ → ℕ → ℕ → Slot → ℕ → Activation
dividing e a b c d low high sign left =
    record e { words = Holds a ∷ Holds b ∷ Holds c ∷ Holds d ∷ Shut ∷ Shut ∷ Shut ∷ Holds high ∷ Holds low ∷ sign ∷ Holds left ∷ [] }

abbrev pub long : ℕ → ℕ → ℕ
long low high = low + 65536 * high

-- ---- words and numbers

abbrev twice_low : ℕ → ℕ
twice_low low = wrapping_add w16 low low

abbrev twice_high : ℕ → ℕ → ℕ
twice_high upper lower = wrapping_add w16 (wrapping_add w16 upper upper) (lower / 32768)

-- n's top bit goes into r
shifted-n : (a b : ℕ) → a < 65536 → b < 65536 → long (twice_low a) (twice_high b a) ≡ 2 * (long a b % 2147483648)
shifted-n a b p q = omega arith

shifted-r : (b low high : ℕ) → b < 65536 → low < 65536 → high < 65536 → long low high < 2147483648 → long (twice_high low b) (twice_high high low) ≡ 2 * long low high + b / 32768
shifted-r b low high p q r s = omega arith

below_word : ℕ → ℕ → ℕ → ℕ → ℕ
below_word low high c d = bit_or (truth (nat_lt high d)) (bit_and (truth (high == d)) (truth (nat_lt low c)))

one-bit : (p q r : Bool) → bit_or (truth p) (bit_and (truth q) (truth r)) ≡ truth (p || (q && r))
one-bit true true true = refl
one-bit true true false = refl
one-bit true false true = refl
one-bit true false false = refl
one-bit false true true = refl
one-bit false true false = refl
one-bit false false true = refl
one-bit false false false = refl

compared : (low high c d : ℕ) → low < 65536 → c < 65536 → (nat_lt high d || ((high == d) && nat_lt low c)) ≡ nat_lt (long low high) (long c d)
compared low high c d p q = grind (arith, nat_tests)

fits-or-not : (low high c d : ℕ) → low < 65536 → c < 65536 → ((long low high < long c d) × (below_word low high c d ≡ 1)) ⊎ ((long c d ≤ long low high) × (below_word low high c d ≡ 0))
unfolding below_word
fits-or-not low high c d p q =
    let e = one-bit (nat_lt high d) (high == d) (nat_lt low c) ∙ ap truth (compared low high c d p q) in
    elim (decided (long low high) (long c d)) [ inl h ↦ inl (h.0, e ∙ h.1) | inr h ↦ inr (h.0, e ∙ h.1) ]
  where
    decided : (m n : ℕ) → ((m < n) × (truth (nat_lt m n) ≡ 1)) ⊎ ((n ≤ m) × (truth (nat_lt m n) ≡ 0))
    decided m n = grind (arith, nat_tests)

-- ---- one round

-- so many times 2
abbrev pub twos : ℕ → ℕ
twos zero = 1
twos (suc k) = 2 * twos k

not_zero : (n : ℕ) → n ≡ 1 → n ≡ 0 → ⊥
not_zero n p q = omega (arith, p, q)

-- after a round: the words of n and r
pub record Turned (m n r : ℕ) : Type 0 where
  pub a : ℕ
  pub b : ℕ
  pub low : ℕ
  pub high : ℕ
  pub a_word : a < 65536
  pub b_word : b < 65536
  pub low_word : low < 65536
  pub high_word : high < 65536
  pub round : Round m n r (long a b) (long low high)
  pub less : long low high < m

module _ (program : FlatProgram) (choice : Choice) (own : Frame) (sp : ℕ) (placed : IsPlaced choice own sp 14) (e : Activation) (c d : ℕ) (c_word : c < 65536) (d_word : d < 65536) (small : long c d ≤ 2147483648) (sign : Slot) where
  abbrev at : ℕ → ℕ → ℕ → ℕ → ℕ → Activation
  at a b low high left = dividing e a b c d low high sign left

  abbrev Goes : Code → ℕ → Activation → Exit → Activation → Type 0
  Goes code work a exit b = Does program choice own sp code 0 work a exit b

  shift-does : (a b low high left : ℕ) → Goes shift_in (code_size shift_in) (at a b low high left) Onward (at (twice_low a) (twice_high b a) (twice_high low b) (twice_high high low) left)
  shift-does a b low high left = straight-does program choice own sp 14 placed shift_in (at a b low high left) Onward _ refl

  stay-does : (a b low high left : ℕ) → below_word low high c d ≡ 1 → Goes take_off (code_size take_off) (at a b low high left) Onward (at a b low high left)
  unfolding below_word
  stay-does a b low high left h = straight-does program choice own sp 14 placed take_off (at a b low high left) Onward (at a b low high left)
      (taken-so choice own 14 take_off (at a b low high left) (below_word low high c d) _ refl (not_zero _ h) refl)

  off-does : (a b low high left : ℕ) → below_word low high c d ≡ 0 → Goes take_off (code_size take_off) (at a b low high left) Onward (at (wrapping_add w16 a 1) b (wrapping_sub w16 low c) (wrapping_sub w16 (wrapping_sub w16 high d) (truth (nat_lt low c))) left)
  unfolding below_word
  off-does a b low high left h = straight-does program choice own sp 14 placed take_off (at a b low high left) Onward _
      (other-so choice own 14 take_off (at a b low high left) (below_word low high c d) _ refl h refl)

  -- the last one
  last-does : (a b low high : ℕ) → Goes count_down (code_size count_down) (at a b low high 1) (Leaving 0) (at a b low high 0)
  last-does a b low high = straight-does program choice own sp 14 placed count_down (at a b low high 1) (Leaving 0) (at a b low high 0) refl

  -- another one follows
  next-does : (a b low high left : ℕ) → left < 65535 → Goes count_down (code_size count_down) (at a b low high (suc (suc left))) Onward (at a b low high (suc left))
  next-does a b low high left h =
      let same : wrapping_sub w16 (suc (suc left)) 1 ≡ suc left = omega (arith, h) in
      subst (λ n. Goes count_down (code_size count_down) (at a b low high (suc (suc left))) Onward (at a b low high n)) same
      (straight-does program choice own sp 14 placed count_down (at a b low high (suc (suc left))) Onward (at a b low high (wrapping_sub w16 (suc (suc left)) 1))
      (taken-so choice own 14 (next_of count_down) (at a b low high (wrapping_sub w16 (suc (suc left)) 1)) (wrapping_sub w16 (suc (suc left)) 1) _ refl (λ z. omega (arith, same, z)) refl))

  abbrev shifted : ℕ → ℕ → ℕ → ℕ → ℕ → Activation
  shifted a b low high left = at (twice_low a) (twice_high b a) (twice_high low b) (twice_high high low) left

  -- what the bit brings
  turn : (a b low high left : ℕ) → a < 65536 → b < 65536 → low < 65536 → high < 65536 → long low high < long c d → (t : Turned (long c d) (long a b) (long low high)) × Goes take_off (code_size take_off) (shifted a b low high left) Onward (at t.a t.b t.low t.high left)
  turn a b low high left p q r s less =
      let n = shifted-n a b p q in
      let m = shifted-r b low high q r s (omega (arith, less, small)) in
      let top : b / 32768 < 2 = omega (arith, q) in
      let whole : long a b ≡ 2147483648 * (b / 32768) + long a b % 2147483648 = omega (arith, p, q) in
      elim (fits-or-not (twice_high low b) (twice_high high low) c d (omega arith) c_word) [
        | inl h ↦ (
          record {
            a = twice_low a;
            b = twice_high b a;
            low = twice_high low b;
            high = twice_high high low;
            a_word = omega arith;
            b_word = omega arith;
            low_word = omega arith;
            high_word = omega arith;
            round = record { top = b / 32768; bit = 0; off = 0; left = long a b % 2147483648; top_is = a_bit (b / 32768) top; bit_is = inl (refl, refl); taken = whole; small = omega arith; shifted = omega (arith, n); rest = omega (arith, m) };
            less = h.0;
          },
          stay-does (twice_low a) (twice_high b a) (twice_high low b) (twice_high high low) left h.1,
        )
        | inr h ↦
            let diff = subtracted (twice_high low b) (twice_high high low) c d (omega arith) (omega arith) c_word d_word in (
              record {
                a = wrapping_add w16 (twice_low a) 1;
                b = twice_high b a;
                low = wrapping_sub w16 (twice_high low b) c;
                high = wrapping_sub w16 (wrapping_sub w16 (twice_high high low) d) (truth (nat_lt (twice_high low b) c));
                a_word = omega arith;
                b_word = omega arith;
                low_word = omega arith;
                high_word = omega arith;
                round = record { top = b / 32768; bit = 1; off = long c d; left = long a b % 2147483648; top_is = a_bit (b / 32768) top; bit_is = inr (refl, refl); taken = whole; small = omega arith; shifted = omega (arith, n, odd a p); rest = subtracts (long (twice_high low b) (twice_high high low)) (2 * long low high + b / 32768) _ m diff h.0 (omega (arith, less, small, top)) };
                less = taken_less (long (twice_high low b) (twice_high high low)) (2 * long low high + b / 32768) _ m diff h.0 (omega (arith, less, top)) (omega (arith, less, small, top));
              },
              off-does (twice_low a) (twice_high b a) (twice_high low b) (twice_high high low) left h.1,
            )
      ]
    where
      a_bit : (n : ℕ) → n < 2 → (n ≡ 0) ⊎ (n ≡ 1)
      a_bit n h = grind (arith, h)

      odd : (a : ℕ) → a < 65536 → wrapping_add w16 (twice_low a) 1 ≡ twice_low a + 1
      odd a h = omega (arith, h)

      subtracts : (x y z : ℕ) → x ≡ y → z ≡ (x + (4294967296 - long c d)) % 4294967296 → long c d ≤ x → y < 4294967296 → y ≡ long c d + z
      subtracts x y z e f g l = omega (arith, e, f, g, l)

      taken_less : (x y z : ℕ) → x ≡ y → z ≡ (x + (4294967296 - long c d)) % 4294967296 → long c d ≤ x → y < 2 * long c d → y < 4294967296 → z < long c d
      taken_less x y z e f g l u = omega (arith, e, f, g, l, u)

  -- ---- all rounds

  abbrev turned : {n r : ℕ} → Turned (long c d) n r → ℕ → Activation
  turned t left = at t.a t.b t.low t.high left

  last-round : (a b low high : ℕ) → (t : Turned (long c d) (long a b) (long low high)) → Goes take_off (code_size take_off) (shifted a b low high 1) Onward (turned t 1) → Goes one_round 64 (at a b low high 1) (Leaving 0) (turned t 0)
  last-round a b low high t does =
      weaker-does program choice own sp one_round 0 _ 0 64 (at a b low high 1) (Leaving 0) (turned t 0) (omega arith) (omega arith)
      (then-does program choice own sp shift_in (take_off then count_down) 0 (code_size shift_in) 0 _ (at a b low high 1) (shifted a b low high 1) (Leaving 0) (turned t 0) (shift-does a b low high 1)
      (then-does program choice own sp take_off count_down 0 (code_size take_off) 0 (code_size count_down) (shifted a b low high 1) (turned t 1) (Leaving 0) (turned t 0) does (last-does t.a t.b t.low t.high)))

  next-round : (a b low high left : ℕ) → left < 65535 → (t : Turned (long c d) (long a b) (long low high)) → Goes take_off (code_size take_off) (shifted a b low high (suc (suc left))) Onward (turned t (suc (suc left))) → Goes one_round 64 (at a b low high (suc (suc left))) Onward (turned t (suc left))
  next-round a b low high left h t does =
      weaker-does program choice own sp one_round 0 _ 0 64 (at a b low high (suc (suc left))) Onward (turned t (suc left)) (omega arith) (omega arith)
      (then-does program choice own sp shift_in (take_off then count_down) 0 (code_size shift_in) 0 _ (at a b low high (suc (suc left))) (shifted a b low high (suc (suc left))) Onward (turned t (suc left)) (shift-does a b low high (suc (suc left)))
      (then-does program choice own sp take_off count_down 0 (code_size take_off) 0 (code_size count_down) (shifted a b low high (suc (suc left))) (turned t (suc (suc left))) Onward (turned t (suc left)) does (next-does t.a t.b t.low t.high left h)))

  -- the words in the end, with what the rounds came to
  pub record Divided (power weight n r turns work : ℕ) (start : Activation) : Type 0 where
    pub a : ℕ
    pub b : ℕ
    pub low : ℕ
    pub high : ℕ
    pub a_word : a < 65536
    pub b_word : b < 65536
    pub low_word : low < 65536
    pub high_word : high < 65536
    pub divides : Divides power weight (long c d) n r (long a b) (long low high)
    pub does : Does program choice own sp (Loop one_round End) turns work start Onward (at a b low high 0)

  pub rounds : (left a b low high weight : ℕ) → left < 65535 → a < 65536 → b < 65536 → low < 65536 → high < 65536 → long low high < long c d → twos (suc left) * weight ≡ 4294967296 → Divided (twos (suc left)) weight (long a b) (long low high) (suc left) (66 * suc left) (at a b low high (suc left))
  rounds zero a b low high weight h p q r s less whole =
      let t = turn a b low high 1 p q r s less in
      let w : 2 * weight ≡ 4294967296 = omega (arith, whole) in
      record {
        a = t.0.a;
        b = t.0.b;
        low = t.0.low;
        high = t.0.high;
        a_word = t.0.a_word;
        b_word = t.0.b_word;
        low_word = t.0.low_word;
        high_word = t.0.high_word;
        divides = one-round 1 weight (long c d) (long a b) (long low high) (long t.0.a t.0.b) (long t.0.low t.0.high) (long t.0.a t.0.b) (long t.0.low t.0.high) (omega (arith, w)) t.0.round
            (subst (λ k. Divides 1 k (long c d) (long t.0.a t.0.b) (long t.0.low t.0.high) (long t.0.a t.0.b) (long t.0.low t.0.high)) (sym w) (nothing-divided (long c d) (long t.0.a t.0.b) (long t.0.low t.0.high) (omega (arith, t.0.a_word, t.0.b_word)) t.0.less));
        does = leave-does program choice own sp one_round 0 64 (at a b low high 1) (Leaving 0) Onward (turned t.0 0) refl (last-round a b low high t.0 t.1);
      }
  rounds (suc left) a b low high weight h p q r s less whole =
      let t = turn a b low high (suc (suc left)) p q r s less in
      let w : twos (suc left) * (2 * weight) ≡ 4294967296 = omega (arith, whole) in
      let rest = rounds left t.0.a t.0.b t.0.low t.0.high (2 * weight) (omega (arith, h)) t.0.a_word t.0.b_word t.0.low_word t.0.high_word t.0.less w in
      record {
        a = rest.a;
        b = rest.b;
        low = rest.low;
        high = rest.high;
        a_word = rest.a_word;
        b_word = rest.b_word;
        low_word = rest.low_word;
        high_word = rest.high_word;
        divides = one-round (twos (suc left)) weight (long c d) (long a b) (long low high) (long t.0.a t.0.b) (long t.0.low t.0.high) (long rest.a rest.b) (long rest.low rest.high) w t.0.round rest.divides;
        does = weaker-does program choice own sp (Loop one_round End) _ _ (suc (suc left)) (66 * suc (suc left)) (at a b low high (suc (suc left))) Onward (at rest.a rest.b rest.low rest.high 0) (omega arith) (omega arith)
            (round-does program choice own sp one_round 0 64 (suc left) (66 * suc left) (at a b low high (suc (suc left))) (turned t.0 (suc left)) Onward (at rest.a rest.b rest.low rest.high 0) (next-round a b low high left (omega (arith, h)) t.0 t.1) rest.does);
      }
