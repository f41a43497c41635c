-- Numerals: an optional sign, and then decimal digits, or `$` and hexadecimal digits.
use Rattle.std.specs.Prelude.{◌≡◌, ℕ, ◌+◌, ◌*◌, ◌<◌, ◌≤◌, ◌==◌, nat_lt, nat_le, Bool, true, false, cond, ◌&&◌, ◌||◌, ℤ, pos, neg_ℤ, List, [], ◌∷◌, ◌++◌, length, drop, Option, Some, None, Result, Ok, Err}
use Rattle.std.specs.Char.{digit_value}
use Rattle.std.specs.Int.{w32}
use Rattle.std.specs.Int.RustNames.{FitsSigned}
use Rattle.std.specs.List.{AllByRecursion, prefix_len}
use Rattle.std.specs.Option.{ok_or, option_map_or}
use Rattle.std.specs.Str.Parse.{digits_value, AllDigits}
use Rattle.common_values.specs.declared.numerals.Stage.{Stage}
use Rattle.common_values.specs.declared.numerals.Stage.TheVariants as stages

-- ---- what a numeral is

pub data Sign : Type 0 where
  none : Sign
  plus : Sign
  minus : Sign

pub record Numeral : Type 0 where
  pub sign : Sign
  pub is_hexadecimal : Bool
  pub digits : List ℕ

abbrev pub sign_bytes : Sign → List ℕ
sign_bytes none = []
sign_bytes plus = 43 ∷ []
sign_bytes minus = 45 ∷ []

abbrev pub is_minus : Sign → Bool
is_minus minus = true
is_minus s = false

abbrev pub dollar_bytes : Bool → List ℕ
dollar_bytes true = 36 ∷ []
dollar_bytes false = []

abbrev pub radix_of : Bool → ℕ
radix_of true = 16
radix_of false = 10

abbrev pub spelling : Numeral → List ℕ
spelling n = sign_bytes n.sign ++ (dollar_bytes n.is_hexadecimal ++ n.digits)

-- a number of this magnitude, with a minus or not
abbrev pub signed : Bool → ℕ → ℤ
signed true magnitude = neg_ℤ (pos magnitude)
signed false magnitude = pos magnitude

abbrev pub value_of : Numeral → ℤ
value_of n = signed (is_minus n.sign) (digits_value (radix_of n.is_hexadecimal) n.digits)

-- The text is a numeral of this value. As written, with its sign, the value lies in LongInt.
pub record IsNumeral (text : List ℕ) (value : ℤ) : Type 0 where
  pub numeral : Numeral
  pub digits : AllDigits (radix_of numeral.is_hexadecimal) numeral.digits
  pub some : 0 < length numeral.digits
  pub spelled : text ≡ spelling numeral
  pub is : value_of numeral ≡ value
  pub fits : FitsSigned w32 value

-- some numeral goes on from the front
pub record IsPrefix (front : List ℕ) : Type 0 where
  pub rest : List ℕ
  pub value : ℤ
  pub whole : IsNumeral (front ++ rest) value

-- ---- reading a numeral byte by byte

-- the greatest magnitude that LongInt has with a minus, and without
abbrev pub greatest_magnitude : Bool → ℕ
greatest_magnitude true = 2147483648
greatest_magnitude false = 2147483647

abbrev pub with_digit : Bool → Bool → ℕ → ℕ → Option Stage
with_digit is_negative is_hexadecimal magnitude byte =
    cond (nat_lt (digit_value byte) (radix_of is_hexadecimal) && nat_le (magnitude * radix_of is_hexadecimal + digit_value byte) (greatest_magnitude is_negative))
    (Some (stages.Digits is_negative is_hexadecimal (magnitude * radix_of is_hexadecimal + digit_value byte))) None

abbrev pub after_sign : Bool → ℕ → Option Stage
after_sign is_negative byte = cond (byte == 36) (Some (stages.Dollar is_negative)) (with_digit is_negative false 0 byte)

-- where a numeral stands once it goes on with a byte, or None where none does
abbrev pub next_stage : Stage → ℕ → Option Stage
next_stage stages.Start byte = cond (byte == 43) (Some (stages.Signed false)) (cond (byte == 45) (Some (stages.Signed true)) (after_sign false byte))
next_stage (stages.Signed is_negative) byte = after_sign is_negative byte
next_stage (stages.Dollar is_negative) byte = with_digit is_negative true 0 byte
next_stage (stages.Digits is_negative is_hexadecimal magnitude) byte = with_digit is_negative is_hexadecimal magnitude byte

-- the value of a text that ends in a stage, where that is a numeral
abbrev pub value_at : Stage → Option ℤ
value_at (stages.Digits is_negative is_hexadecimal magnitude) = Some (signed is_negative magnitude)
value_at stage = None

abbrev pub IsBounded : Stage → Type 0
IsBounded (stages.Digits is_negative is_hexadecimal magnitude) = magnitude ≤ greatest_magnitude is_negative
IsBounded stage = Unit {0}

-- the value, or the place of the first byte by which no numeral goes on, or the place behind the text
abbrev pub numeral_from : Stage → ℕ → List ℕ → Result ℤ ℕ
numeral_from stage place [] = ok_or (value_at stage) place
numeral_from stage place (byte ∷ text) = option_map_or (λ next. numeral_from next (place + 1) text) (next_stage stage byte) (Err place)

unfoldable pub numeral_of : List ℕ → Result ℤ ℕ
numeral_of text = numeral_from stages.Start 1 text

-- ---- Val: any blanks and tabs before the numeral

abbrev pub is_gap_byte : ℕ → Bool
is_gap_byte byte = (byte == 32) || (byte == 9)

abbrev pub gap_length : List ℕ → ℕ
gap_length text = prefix_len is_gap_byte text

-- the value and the code
abbrev pub val_by : ℕ → Result ℤ ℕ → ℤ × ℕ
val_by gap (Ok value) = (value, 0)
val_by gap (Err place) = (pos 0, gap + place)

abbrev pub val_of : List ℕ → ℤ × ℕ
val_of text = val_by (gap_length text) (numeral_of (drop (gap_length text) text))

abbrev pub AllGap : List ℕ → Type 0
AllGap bytes = AllByRecursion (λ byte. is_gap_byte byte ≡ true) bytes

-- the text is what Val takes for this value
pub record IsValText (text : List ℕ) (value : ℤ) : Type 0 where
  pub gap : List ℕ
  pub rest : List ℕ
  pub blank : AllGap gap
  pub parts : text ≡ gap ++ rest
  pub numeral : IsNumeral rest value

pub record IsValPrefix (front : List ℕ) : Type 0 where
  pub rest : List ℕ
  pub value : ℤ
  pub whole : IsValText (front ++ rest) value
