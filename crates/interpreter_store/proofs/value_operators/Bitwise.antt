-- Operators bit by bit stay within the words that they are given.
use Rattle.std.proofs.Common.{◌≡◌, ℕ, ◌^◌, ◌<◌, ap}
use Rattle.std.specs.Prelude.{ℤ, pos, bit_and, bit_or, bit_xor}
use Rattle.std.specs.Int.Bits.{and_lt}
use Rattle.std.proofs.lemmas.Nat.{or_lt, xor_lt}
use Rattle.std.proofs.Math.Nat.{mod-eq_of_lt}
use Rattle.common_values.specs.integers.Words.{bits, word_of}
use Rattle.common_values.proofs.integers.WordLaws.{word_of-word}
use Rattle.common_values.specs.declared.ordinals.IntegerType.{IntegerType}
use Rattle.common_values.specs.Ordinals.{width_of, meant_by, kept}
use Rattle.common_values.specs.Bits.{conjunction, disjunction, exclusive_disjunction}
use Rattle.tp_meaning.specs.Operators.{bitwise}

-- a word of the type means what is kept of it
kept_word : (kind : IntegerType) (n : ℕ) → n < 2 ^ bits (width_of kind) → kept kind (pos n) ≡ meant_by kind n
kept_word kind n h = ap (meant_by kind) (mod-eq_of_lt h)

pub conjunction_is : (kind : IntegerType) (a b : ℤ) → conjunction kind a b ≡ bitwise bit_and kind a b
conjunction_is kind a b =
    let w = width_of kind in
    kept_word kind (bit_and (word_of w a) (word_of w b)) (and_lt (bits w) (word_of w a) (word_of w b) (word_of-word w a) (word_of-word w b))

pub disjunction_is : (kind : IntegerType) (a b : ℤ) → disjunction kind a b ≡ bitwise bit_or kind a b
disjunction_is kind a b =
    let w = width_of kind in
    kept_word kind (bit_or (word_of w a) (word_of w b)) (or_lt (bits w) (word_of w a) (word_of w b) (word_of-word w a) (word_of-word w b))

pub exclusive_is : (kind : IntegerType) (a b : ℤ) → exclusive_disjunction kind a b ≡ bitwise bit_xor kind a b
exclusive_is kind a b =
    let w = width_of kind in
    kept_word kind (bit_xor (word_of w a) (word_of w b)) (xor_lt (bits w) (word_of w a) (word_of w b) (word_of-word w a) (word_of-word w b))
