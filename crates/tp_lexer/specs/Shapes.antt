-- How far what stands at the front of a text goes.
use Rattle.std.specs.Prelude.{ℕ, ◌+◌, not, ◌&&◌, ◌||◌, ◌==◌, nat_lt, if◌then◌else◌, List, [], ◌∷◌, length, drop, slice_index, Option, Some, None}
use Rattle.std.specs.List.{prefix_len}
use Rattle.std.specs.Option.{option_map_or}
use Rattle.std.specs.Char.{is_ascii_digit, is_ascii_hexdigit}
use Rattle.tp_lexer.specs.declared.shape.Shape.{Shape}
use Rattle.tp_lexer.specs.declared.shape.Shape.TheVariants as s
use Rattle.tp_lexer.specs.declared.shape.Extent.{Extent}
use Rattle.tp_lexer.specs.declared.constant.Part.{Part}
use Rattle.tp_lexer.specs.declared.constant.Part.TheVariants as p

abbrev pub extent : Shape → ℕ → Extent
extent shape n = record { shape = shape; length = n }

-- `.` and digits
abbrev pub fraction_len : List ℕ → ℕ
fraction_len bytes = if slice_index bytes 0 == 46 && is_ascii_digit (slice_index bytes 1)
    then 1 + prefix_len is_ascii_digit (drop 1 bytes) else 0

abbrev pub sign_len : List ℕ → ℕ
sign_len bytes = if slice_index bytes 0 == 43 || slice_index bytes 0 == 45 then 1 else 0

-- `E`, maybe a sign, and digits
abbrev pub exponent_len : List ℕ → ℕ
exponent_len bytes =
    let sign = sign_len (drop 1 bytes) in
    let digits = prefix_len is_ascii_digit (drop (1 + sign) bytes) in
    if (slice_index bytes 0 == 69 || slice_index bytes 0 == 101) && nat_lt 0 digits
    then 1 + sign + digits else 0

-- a number in decimal digits; with a fraction or an exponent it is real
abbrev pub number_extent : List ℕ → Extent
number_extent bytes =
    let digits = prefix_len is_ascii_digit bytes in
    let fraction = fraction_len (drop digits bytes) in
    let exponent = exponent_len (drop fraction (drop digits bytes)) in
    if fraction + exponent == 0 then extent s.Decimal digits
    else extent s.Real (digits + fraction + exponent)

-- the bytes before the first `*)`, or all of them where there is none
abbrev pub star_len : List ℕ → ℕ
star_len [] = 0
star_len (c ∷ cs) = if c == 42 && slice_index cs 0 == 41 then 0 else 1 + star_len cs

-- a comment whose opener and closer have this many bytes, and its body that many; it is open where nothing follows the body
abbrev pub comment_extent : ℕ → ℕ → List ℕ → Extent
comment_extent bracket body bytes = if nat_lt (bracket + body) (length bytes)
    then extent s.Comment (bracket + body + bracket) else extent s.OpenComment (length bytes)

abbrev pub brace_extent : List ℕ → Extent
brace_extent bytes = comment_extent 1 (prefix_len (λ c. not (c == 125)) (drop 1 bytes)) bytes

abbrev pub star_extent : List ℕ → Extent
star_extent bytes = comment_extent 2 (star_len (drop 2 bytes)) bytes

-- a part of a string constant begins
abbrev pub opens : ℕ → Option Part
opens c = if c == 39 then Some p.Inside else (if c == 35 then Some p.Code else None)

-- where in a string constant one more byte leads, if it belongs to it
abbrev pub next_part : Part → ℕ → Option Part
next_part p.Start c = opens c
next_part p.Inside c = if c == 39 then Some p.Closed
    else (if c == 10 || c == 13 then None else Some p.Inside)
next_part p.Closed c = opens c
next_part p.Code c = if c == 36 then Some p.Dollar
    else (if is_ascii_digit c then Some p.Decimal else opens c)
next_part p.Dollar c = if is_ascii_hexdigit c then Some p.Hexadecimal else opens c
next_part p.Decimal c = if is_ascii_digit c then Some p.Decimal else opens c
next_part p.Hexadecimal c = if is_ascii_hexdigit c then Some p.Hexadecimal else opens c

abbrev pub constant_of : Part → ℕ → Extent
constant_of p.Inside n = extent s.OpenConstant n
constant_of part n = extent s.Constant n

-- the rest of a string constant of which n bytes are passed
abbrev pub constant_from : ℕ → Part → List ℕ → Extent
constant_from n part [] = constant_of part n
constant_from n part (c ∷ cs) = option_map_or (λ next. constant_from (n + 1) next cs) (next_part part c) (constant_of part n)
