-- What a string constant holds.
use Rattle.std.specs.Prelude.{ℕ, ◌+◌, ◌*◌, ◌==◌, ◌||◌, nat_le, min, if◌then◌else◌, List, [], ◌∷◌, ◌++◌, take, Option, Some, None, unwrap_or}
use Rattle.std.specs.Option.{option_and_then}
use Rattle.std.specs.Char.{is_ascii_digit, is_ascii_hexdigit}
use Rattle.tp_lexer.specs.declared.constant.Part.{Part}
use Rattle.tp_lexer.specs.declared.constant.Part.TheVariants as p
use Rattle.tp_lexer.specs.declared.constant.Added.{Added}
use Rattle.tp_lexer.specs.declared.constant.Added.TheVariants as g
use Rattle.tp_lexer.specs.Numbers.{digit_value}
use Rattle.tp_lexer.specs.Shapes.{next_part}

-- the byte of a finished character code, which is at most 255
abbrev pub byte_of : ℕ → Added
byte_of code = if nat_le code 255 then g.Byte code else g.BadCode

-- what the constant holds besides, as it ends or its next part begins
abbrev pub finished : Part → ℕ → Added
finished p.Code code = g.BadCode
finished p.Dollar code = g.BadCode
finished p.Decimal code = byte_of code
finished p.Hexadecimal code = byte_of code
finished part code = g.Nothing

-- what one more byte adds
abbrev pub gives : Part → ℕ → ℕ → Added
gives p.Inside code c = if c == 39 then g.Nothing else g.Byte c
gives p.Closed code c = if c == 39 then g.Byte 39 else g.Nothing
gives p.Code code c = if c == 36 || is_ascii_digit c then g.Nothing else g.BadCode
gives p.Dollar code c = if is_ascii_hexdigit c then g.Nothing else g.BadCode
gives p.Decimal code c = if is_ascii_digit c then g.Nothing else byte_of code
gives p.Hexadecimal code c = if is_ascii_hexdigit c then g.Nothing else byte_of code
gives part code c = g.Nothing

-- the character code so far, after one more byte that led to this part; all codes above 255 are one
abbrev pub code_after : Part → ℕ → ℕ → ℕ
code_after p.Decimal code c = min 256 (code * 10 + digit_value c)
code_after p.Hexadecimal code c = min 256 (code * 16 + digit_value c)
code_after part code c = 0

-- only the first 255 bytes count
abbrev pub kept : List ℕ → ℕ → List ℕ
kept text c = take 255 (text ++ c ∷ [])

abbrev pub joined : List ℕ → Added → Option (List ℕ)
joined text g.Nothing = Some text
joined text (g.Byte c) = Some (kept text c)
joined text g.BadCode = None

-- the rest of a constant, of which the text is what it holds so far
abbrev pub content_from : Part → ℕ → List ℕ → List ℕ → Option (List ℕ)
content_from part code text [] = joined text (finished part code)
content_from part code text (c ∷ cs) =
    let next = unwrap_or (next_part part c) p.Start in
    option_and_then (λ more. content_from next (code_after next code c) more cs) (joined text (gives part code c))

-- what a string constant holds: None where a character code has no digits or passes 255
abbrev pub content_of : List ℕ → Option (List ℕ)
content_of bytes = content_from p.Start 0 [] bytes
