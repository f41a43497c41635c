-- What holds of the bits of integers.
use Rattle.std.specs.Prelude.{◌≡◌, ℕ, ◌+◌, ◌-◌, ◌*◌, ◌%◌, ◌<◌, min, max, ℤ, pos, negsuc, ◌*ℤ◌, ◌-ℤ◌}
use Rattle.std.specs.Int.{bit_at}
use Rattle.std.specs.Int.RustNames.{unsigned_abs}
use Rattle.common_values.specs.integers.Words.{bits}
use Rattle.common_values.specs.declared.ordinals.IntegerType.{IntegerType}
use Rattle.common_values.specs.declared.ordinals.IntegerType.TheVariants.{Word}
use Rattle.common_values.specs.Ordinals.{width_of, IsValueOf}
use Rattle.common_values.specs.Bits.{stored, conjunction, disjunction, exclusive_disjunction, complement, hi, lo, swapped, absolute, squared}

-- each operator bit by bit, and as a number where nothing wraps
pub record BitLaws (type : IntegerType) : Type 0 where
  -- a bit is set where both have it
  pub both : (a b : ℤ) (i : ℕ) → i < bits (width_of type) → bit_at (stored type (conjunction type a b)) i ≡ min (bit_at (stored type a) i) (bit_at (stored type b) i)
  -- where one has it at least
  pub either : (a b : ℤ) (i : ℕ) → i < bits (width_of type) → bit_at (stored type (disjunction type a b)) i ≡ max (bit_at (stored type a) i) (bit_at (stored type b) i)
  -- where just one has it
  pub one : (a b : ℤ) (i : ℕ) → i < bits (width_of type) → bit_at (stored type (exclusive_disjunction type a b)) i ≡ (bit_at (stored type a) i + bit_at (stored type b) i) % 2
  -- where it isn't set
  pub other : (a : ℤ) (i : ℕ) → i < bits (width_of type) → bit_at (stored type (complement type a)) i ≡ 1 - bit_at (stored type a) i
  pub negated : (a : ℤ) → IsValueOf type (negsuc 0 -ℤ a) → complement type a ≡ negsuc 0 -ℤ a
  pub magnitude : (a : ℤ) → IsValueOf type (pos (unsigned_abs a)) → absolute type a ≡ pos (unsigned_abs a)
  pub square : (a : ℤ) → IsValueOf type (a *ℤ a) → squared type a ≡ a *ℤ a

-- the two bytes of a word
pub record ByteLaws : Type 0 where
  pub whole : (n : ℕ) → n < 65536 → lo (pos n) + 256 * hi (pos n) ≡ n
  pub high : (n : ℕ) → n < 65536 → hi (swapped Word (pos n)) ≡ lo (pos n)
  pub low : (n : ℕ) → n < 65536 → lo (swapped Word (pos n)) ≡ hi (pos n)
  pub twice : (n : ℕ) → n < 65536 → swapped Word (swapped Word (pos n)) ≡ pos n
