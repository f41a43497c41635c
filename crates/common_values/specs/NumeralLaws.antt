-- What holds of numerals, of their decimal texts, and of Val.
use Rattle.std.specs.Prelude.{◌≡◌, ℕ, ◌+◌, ◌-◌, ◌<◌, ◌≤◌, ℤ, List, length, take, Ok, Err}
use Rattle.std.specs.Int.{w32}
use Rattle.std.specs.Int.RustNames.{FitsSigned}
use Rattle.common_values.specs.Numerals.{IsNumeral, IsPrefix, IsValText, IsValPrefix, numeral_of, val_of}
use Rattle.common_values.specs.Written.{integer_text}

-- the place is that of the first byte by which no text of a kind goes on, or stands behind the text
pub record IsFault (CanGoOn : List ℕ → Type 0) (text : List ℕ) (place : ℕ) : Type 0 where
  pub positive : 0 < place
  pub within : place ≤ length text + 1
  pub front : CanGoOn (take (place - 1) text)
  pub stops : place ≤ length text → ¬ CanGoOn (take place text)

pub record ReadingLaws : Type 0 where
  pub value : (text : List ℕ) (z : ℤ) → numeral_of text ≡ Ok z → IsNumeral text z
  pub read : (text : List ℕ) (z : ℤ) → IsNumeral text z → numeral_of text ≡ Ok z
  pub fault : (text : List ℕ) (place : ℕ) → numeral_of text ≡ Err place → IsFault IsPrefix text place
  -- a text has one value at most
  pub one : (text : List ℕ) (y z : ℤ) → IsNumeral text y → IsNumeral text z → y ≡ z
  -- what is written is read, as that value and no other
  pub written : (z : ℤ) → FitsSigned w32 z → IsNumeral (integer_text z) z

pub record ValLaws : Type 0 where
  pub value : (text : List ℕ) → (val_of text).1 ≡ 0 → IsValText text (val_of text).0
  pub read : (text : List ℕ) (z : ℤ) → IsValText text z → val_of text ≡ (z, 0)
  pub fault : (text : List ℕ) → 0 < (val_of text).1 → IsFault IsValPrefix text (val_of text).1
