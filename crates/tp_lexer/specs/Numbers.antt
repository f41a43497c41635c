-- The values of numbers.
use Rattle.std.specs.Prelude.{ℕ, ◌+◌, ◌*◌, ◌-◌, ◌&&◌, nat_lt, nat_le, ◌==◌, if◌then◌else◌, List, [], ◌∷◌, length, drop, slice_index, Option, Some, None}
use Rattle.std.specs.Option.{option_and_then}
use Rattle.std.specs.Char.{is_ascii_digit, is_ascii_hexdigit, to_ascii_uppercase}

-- what a decimal or hexadecimal digit stands for
abbrev pub digit_value : ℕ → ℕ
digit_value c = if is_ascii_digit c then c - 48 else to_ascii_uppercase c - 55

-- a number with one more digit: None where that is no digit of the base or the number passes the limit
abbrev pub extended : ℕ → ℕ → ℕ → ℕ → Option ℕ
extended base limit n c =
    if is_ascii_hexdigit c && nat_lt (digit_value c) base && nat_le (n * base + digit_value c) limit
    then Some (n * base + digit_value c) else None

-- the value of digits behind a number
abbrev pub value_from : ℕ → ℕ → ℕ → List ℕ → Option ℕ
value_from base limit n [] = Some n
value_from base limit n (c ∷ cs) = option_and_then (λ more. value_from base limit more cs) (extended base limit n c)

-- decimal digits, up to 2147483647
abbrev pub decimal_of : List ℕ → Option ℕ
decimal_of digits = if nat_lt 0 (length digits) then value_from 10 2147483647 0 digits else None

-- one to eight hexadecimal digits
abbrev pub hexadecimal_of : List ℕ → Option ℕ
hexadecimal_of digits = if nat_lt 0 (length digits) && nat_le (length digits) 8
    then value_from 16 4294967295 0 digits else None

-- a whole number, hexadecimal where a `$` leads
abbrev pub number_of : List ℕ → Option ℕ
number_of bytes = if slice_index bytes 0 == 36 then hexadecimal_of (drop 1 bytes) else decimal_of bytes
