-- The bytes of LongInts from their words.
use Rattle.std.proofs.Common.{◌≡◌, ℕ, ◌+◌, ◌*◌, ◌/◌, ◌%◌, ◌<◌, [], ◌∷◌, Ok, List, arith}
use Rattle.common_values.specs.integers.Words.{low_byte, high_byte}
use Rattle.flat_code.specs.Memory.{Found}
use Rattle.flat_code.specs.Meaning.{number_bytes}

-- two words make a number
pub long-bytes : (a b n : ℕ) → a < 65536 → b < 65536 → a + 65536 * b ≡ n → (let r : Found (List ℕ) = Ok (low_byte a ∷ high_byte a ∷ low_byte b ∷ high_byte b ∷ []) in r ≡ Ok (number_bytes 4 n))
long-bytes a b n p q e =
    let e0 : n % 256 ≡ a % 256 = omega arith in
    let e1 : n / 256 % 256 ≡ a / 256 % 256 = omega arith in
    let e2 : n / 256 / 256 % 256 ≡ b % 256 = omega arith in
    let e3 : n / 256 / 256 / 256 % 256 ≡ b / 256 % 256 = omega arith in
    cc
