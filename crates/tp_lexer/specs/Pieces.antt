-- What stands at the front of a text, and what it stands for.
use Rattle.std.specs.Prelude.{ℕ, ◌+◌, ◌-◌, Bool, ◌&&◌, ◌||◌, ◌==◌, nat_lt, if◌then◌else◌, List, length, take, drop, slice_index, is_some, Option, Some, None}
use Rattle.std.specs.List.{prefix_len}
use Rattle.std.specs.Int.{w32, cast_signed}
use Rattle.std.specs.Char.{is_ascii_digit, is_ascii_hexdigit}
use Rattle.tp_lexer.specs.Characters.{is_letter, is_word_byte, is_blank}
use Rattle.tp_lexer.specs.Shapes.{extent, number_extent, constant_from, brace_extent, star_extent}
use Rattle.tp_lexer.specs.Symbols.{symbol_of}
use Rattle.tp_lexer.specs.Words.{name_of, word_of}
use Rattle.tp_lexer.specs.Numbers.{number_of}
use Rattle.tp_lexer.specs.Contents.{content_of}
use Rattle.tp_lexer.specs.Directives.{word_at, keyword_of, directive_piece}
use Rattle.tp_lexer.specs.declared.constant.Part.TheVariants as c
use Rattle.tp_lexer.specs.declared.shape.Shape.{Shape}
use Rattle.tp_lexer.specs.declared.shape.Shape.TheVariants as s
use Rattle.tp_lexer.specs.declared.shape.Extent.{Extent}
use Rattle.tp_lexer.specs.declared.symbol.Symbol.{Symbol}
use Rattle.tp_lexer.specs.declared.token.TokenKind.TheVariants as t
use Rattle.tp_lexer.specs.declared.directive.Keyword.{Keyword}
use Rattle.tp_lexer.specs.declared.directive.Keyword.TheVariants as k
use Rattle.tp_lexer.specs.declared.piece.Fault.TheVariants as f
use Rattle.tp_lexer.specs.declared.piece.Piece.{Piece}
use Rattle.tp_lexer.specs.declared.piece.Piece.TheVariants as p
use Rattle.tp_lexer.specs.declared.piece.Passed.{Passed}
use Rattle.tp_lexer.specs.declared.piece.Passed.TheVariants as q

-- a symbol of two bytes, else one of one byte
abbrev pub symbol_extent : List ℕ → Extent
symbol_extent bytes = if nat_lt 1 (length bytes) && is_some (symbol_of (take 2 bytes)) then extent s.Symbol 2
    else (if is_some (symbol_of (take 1 bytes)) then extent s.Symbol 1 else extent s.Other 1)

-- `(*` stands there
abbrev pub opens_star : List ℕ → Bool
opens_star bytes = slice_index bytes 0 == 40 && slice_index bytes 1 == 42

-- the shape and the length of what stands at the front of text that is read
abbrev pub shape_at : List ℕ → Extent
shape_at bytes =
    if is_blank (slice_index bytes 0) then extent s.Blank 1
    else (if is_letter (slice_index bytes 0) then extent s.Word (prefix_len is_word_byte bytes)
    else (if is_ascii_digit (slice_index bytes 0) then number_extent bytes
    else (if slice_index bytes 0 == 36 then extent s.Hexadecimal (1 + prefix_len is_ascii_hexdigit (drop 1 bytes))
    else (if slice_index bytes 0 == 39 || slice_index bytes 0 == 35 then constant_from 0 c.Start bytes
    else (if slice_index bytes 0 == 123 then brace_extent bytes
    else (if opens_star bytes then star_extent bytes
    else symbol_extent bytes))))))

-- the same in text that a condition skips, where only comments are known
abbrev pub passed_at : List ℕ → Extent
passed_at bytes =
    if slice_index bytes 0 == 123 then brace_extent bytes
    else (if opens_star bytes then star_extent bytes else extent s.Other 1)

abbrev pub symbol_piece : Option Symbol → Piece
symbol_piece None = p.Fault f.BadCharacter
symbol_piece (Some symbol) = p.Token (t.Symbol symbol)

abbrev pub number_piece : Option ℕ → Piece
number_piece None = p.Fault f.BadNumber
number_piece (Some n) = p.Token (t.Number (cast_signed w32 n))

abbrev pub constant_piece : Option (List ℕ) → Piece
constant_piece None = p.Fault f.BadNumber
constant_piece (Some text) = p.Token (t.Chars text)

-- each word has a name
abbrev pub word_piece : Option (List ℕ) → Piece
word_piece None = p.Fault f.BadCharacter
word_piece (Some name) = p.Token (word_of name)

-- how many bytes open a comment, and as many close it
abbrev pub bracket_len : List ℕ → ℕ
bracket_len comment = if slice_index comment 0 == 123 then 1 else 2

-- what stands between the brackets
abbrev pub body_of : List ℕ → List ℕ
body_of comment = take (length comment - bracket_len comment - bracket_len comment) (drop (bracket_len comment) comment)

abbrev pub comment_piece : List ℕ → Piece
comment_piece body = if slice_index body 0 == 36 then directive_piece (drop 1 body) else p.Gap

-- what bytes of a shape stand for
abbrev pub piece_of : Shape → List ℕ → Piece
piece_of s.Blank bytes = p.Gap
piece_of s.Word bytes = word_piece (name_of bytes)
piece_of s.Decimal bytes = number_piece (number_of bytes)
piece_of s.Real bytes = p.Token t.Real
piece_of s.Hexadecimal bytes = number_piece (number_of bytes)
piece_of s.Constant bytes = constant_piece (content_of bytes)
piece_of s.OpenConstant bytes = p.Fault f.OpenString
piece_of s.Comment bytes = comment_piece (body_of bytes)
piece_of s.OpenComment bytes = p.Fault f.OpenComment
piece_of s.Symbol bytes = symbol_piece (symbol_of bytes)
piece_of s.Other bytes = p.Fault f.BadCharacter

-- what a directive means where text is skipped
abbrev pub passed_keyword : Option Keyword → Passed
passed_keyword (Some k.IfDefined) = q.Opens
passed_keyword (Some k.IfUndefined) = q.Opens
passed_keyword (Some k.IfOption) = q.Opens
passed_keyword (Some k.Else) = q.Else
passed_keyword (Some k.EndIf) = q.EndIf
passed_keyword keyword = q.Nothing

abbrev pub passed_comment : List ℕ → Passed
passed_comment body = if slice_index body 0 == 36 then passed_keyword (keyword_of (word_at (drop 1 body))) else q.Nothing

-- what bytes of a shape mean in text that is skipped
abbrev pub passed_of : Shape → List ℕ → Passed
passed_of s.Comment bytes = passed_comment (body_of bytes)
passed_of s.OpenComment bytes = q.OpenComment
passed_of shape bytes = q.Nothing
