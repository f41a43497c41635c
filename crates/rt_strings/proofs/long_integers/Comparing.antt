-- LongInts are compared by their words.
use Rattle.std.proofs.Common.{◌≡◌, ℕ, ◌+◌, ◌*◌, ◌<◌, Bool, true, false, refl, ap, ◌∙◌, arith}
use Rattle.std.specs.Prelude.{nat_lt, ◌==◌, ◌&&◌, ◌||◌, bit_and, bit_or}
use Rattle.std.proofs.lemmas.Bool.Decides.{nat_tests}
use Rattle.std.proofs.lemmas.Int.{ints}
use Rattle.common_values.specs.integers.Words.{w16, w32, is_signed_less}
use Rattle.flat_code.specs.Meaning.{truth}
use Rattle.flat_code.specs.Runtime.{long_word}

abbrev pub less_word : ℕ → ℕ → ℕ → ℕ → ℕ
less_word a b c d = bit_or (truth (is_signed_less w16 b d)) (bit_and (truth (b == d)) (truth (nat_lt a c)))

one-bit : (p q r : Bool) → bit_or (truth p) (bit_and (truth q) (truth r)) ≡ truth (p || (q && r))
one-bit true true true = refl
one-bit true true false = refl
one-bit true false true = refl
one-bit true false false = refl
one-bit false true true = refl
one-bit false true false = refl
one-bit false false true = refl
one-bit false false false = refl

compared : (a b c d : ℕ) → a < 65536 → b < 65536 → c < 65536 → d < 65536 → (is_signed_less w16 b d || ((b == d) && nat_lt a c)) ≡ is_signed_less w32 (a + 65536 * b) (c + 65536 * d)
compared a b c d p q r s = grind (arith, ints, nat_tests)

pub less-is : (a b c d : ℕ) → a < 65536 → b < 65536 → c < 65536 → d < 65536 → less_word a b c d ≡ truth (is_signed_less w32 (long_word a b) (long_word c d))
less-is a b c d p q r s = one-bit (is_signed_less w16 b d) (b == d) (nat_lt a c) ∙ ap truth (compared a b c d p q r s)

pub either-bit : (p q : Bool) → bit_or (truth p) (truth q) ≡ truth (p || q)
either-bit true true = refl
either-bit true false = refl
either-bit false true = refl
either-bit false false = refl
