-- What holds of written text.
use Rattle.std.specs.Prelude.{◌≡◌, ℕ, ◌≤◌, max, ℤ, List, length}
use Rattle.common_values.specs.Strings.{byte_count}
use Rattle.common_values.specs.Written.{padded, str_text}

pub record FieldLaws : Type 0 where
  pub len : (width : ℤ) (text : List ℕ) → length (padded width text) ≡ max (byte_count width) (length text)
  -- a text as wide as its field, or wider, is not changed
  pub whole : (width : ℤ) (text : List ℕ) → byte_count width ≤ length text → padded width text ≡ text
  pub size : (room : ℕ) (width : ℤ) (text : List ℕ) → length (str_text room width text) ≤ room
