-- What an ordinal keeps of a number is a number that its bytes hold.
use Rattle.std.proofs.Common.{◌≡◌, ℕ, ◌≤◌, ◌^◌, Bool, true, false, refl, arith, IsTrue}
use Rattle.std.specs.Prelude.{ℤ, pos, negsuc, ◌≤ℤ◌, int_le, ◌&&◌, bit_and, bit_or, bit_xor}
use Rattle.std.proofs.lemmas.Int.{ints}
use Rattle.std.proofs.lemmas.Nat.{or_of_8, or_of_16, or_of_32, xor_of_8, xor_of_16, xor_of_32, and_le_l}
use Rattle.std.proofs.Math.Nat.{div-le_self}
use Rattle.std.specs.Int.RustNames.{FitsSigned}
use Rattle.tp_meaning.specs.common_values.integers.Words.{w8, w16, w32, IsWord, word_of, cast_signed, shifted_right}
use Rattle.tp_meaning.proofs.common_values_proofs.integers.WordLaws.{word_of-word, signed-fits}
use Rattle.tp_meaning.specs.type_layout.declared.definitions.Host.{Host}
use Rattle.tp_meaning.specs.type_layout.declared.definitions.Host.TheVariants as host
use Rattle.tp_meaning.specs.type_layout.Storage.{least_of, greatest_of, holds}
use Rattle.tp_meaning.specs.common_values.declared.ordinals.IntegerType.{IntegerType}
use Rattle.tp_meaning.specs.common_values.declared.ordinals.IntegerType.TheVariants as integer
use Rattle.tp_meaning.specs.common_values.Ordinals.{width_of, IsValueOf, meant_by}
use Rattle.tp_meaning.proofs.common_values_proofs.OrdinalLemmas.{storage_laws}
use Rattle.tp_meaning.specs.typed_tree.type_fits.Fits.{held_as}
use Rattle.tp_meaning.specs.Shapes.{stored_among, kept_as}

le_true : (m n : ℤ) → m ≤ℤ n → int_le m n ≡ true
le_true m n h = grind (arith, ints)

both_true : (x y : Bool) → x ≡ true → y ≡ true → IsTrue (x && y)
both_true true true p q = refl
both_true false y p q = absurd cc
both_true true false p q = absurd cc

pub is_held : (h : Host) (z : ℤ) → least_of h ≤ℤ z → z ≤ℤ greatest_of h → IsTrue (holds h z z)
is_held h z low high = both_true (int_le (least_of h) z) (int_le z (greatest_of h)) (le_true (least_of h) z low) (le_true z (greatest_of h) high)

-- a value of the integers that store a host is one that its bytes hold
value_held : (h : Host) (z : ℤ) → IsValueOf (stored_among h) z → IsTrue (holds (held_as h) z z)
value_held host.ShortInt z is = is_held host.ShortInt z is.0 is.1
value_held host.Byte z is = is_held host.Byte z is.0 is.1
value_held host.Integer z is = is_held host.Integer z is.0 is.1
value_held host.Word z is = is_held host.Word z is.0 is.1
value_held host.LongInt z is = is_held host.LongInt z is.0 is.1
value_held host.Char z is = is_held host.Char z is.0 is.1
value_held host.Boolean z is = is_held host.Byte z is.0 is.1
value_held host.Enumeration z is = is_held host.Enumeration z is.0 is.1

pub kept_held : (h : Host) (z : ℤ) → IsTrue (holds (held_as h) (kept_as h z) (kept_as h z))
kept_held h z = let laws = storage_laws (stored_among h) in value_held h (kept_as h z) (laws.within z)

within_8 : (z : ℤ) → FitsSigned w8 z → (negsuc 127 ≤ℤ z) × (z ≤ℤ pos 127)
within_8 z h = (omega (arith, ints), omega (arith, ints))

within_16 : (z : ℤ) → FitsSigned w16 z → (negsuc 32767 ≤ℤ z) × (z ≤ℤ pos 32767)
within_16 z h = (omega (arith, ints), omega (arith, ints))

within_32 : (z : ℤ) → FitsSigned w32 z → (negsuc 2147483647 ≤ℤ z) × (z ≤ℤ pos 2147483647)
within_32 z h = (omega (arith, ints), omega (arith, ints))

meant_within : (type : IntegerType) (n : ℕ) → IsWord (width_of type) n → IsValueOf type (meant_by type n)
meant_within integer.ShortInt n h = within_8 (cast_signed w8 n) (signed-fits w8 n h)
meant_within integer.Byte n h = (omega (arith, ints), omega (arith, ints))
meant_within integer.Integer n h = within_16 (cast_signed w16 n) (signed-fits w16 n h)
meant_within integer.Word n h = (omega (arith, ints), omega (arith, ints))
meant_within integer.LongInt n h = within_32 (cast_signed w32 n) (signed-fits w32 n h)

pub meant_held : (h : Host) (n : ℕ) → IsWord (width_of (stored_among h)) n → IsTrue (holds (held_as h) (meant_by (stored_among h) n) (meant_by (stored_among h) n))
meant_held h n is = value_held h (meant_by (stored_among h) n) (meant_within (stored_among h) n is)

-- ---- words

pub and_word : (t : IntegerType) (a b : ℕ) → IsWord (width_of t) a → IsWord (width_of t) (bit_and a b)
and_word t a b h = omega (arith, h, and_le_l a b)

pub or_word : (t : IntegerType) (a b : ℕ) → IsWord (width_of t) a → IsWord (width_of t) b → IsWord (width_of t) (bit_or a b)
or_word integer.ShortInt a b h g = or_of_8 a b h g
or_word integer.Byte a b h g = or_of_8 a b h g
or_word integer.Integer a b h g = or_of_16 a b h g
or_word integer.Word a b h g = or_of_16 a b h g
or_word integer.LongInt a b h g = or_of_32 a b h g

pub xor_word : (t : IntegerType) (a b : ℕ) → IsWord (width_of t) a → IsWord (width_of t) b → IsWord (width_of t) (bit_xor a b)
xor_word integer.ShortInt a b h g = xor_of_8 a b h g
xor_word integer.Byte a b h g = xor_of_8 a b h g
xor_word integer.Integer a b h g = xor_of_16 a b h g
xor_word integer.Word a b h g = xor_of_16 a b h g
xor_word integer.LongInt a b h g = xor_of_32 a b h g

pub shifted_word : (t : IntegerType) (a k : ℕ) → IsWord (width_of t) a → IsWord (width_of t) (shifted_right a k)
shifted_word t a k h = omega (arith, h, div-le_self a (2 ^ k))

pub number_word : (t : IntegerType) (z : ℤ) → IsWord (width_of t) (word_of (width_of t) z)
number_word t z = word_of-word (width_of t) z
