-- Reading. The input is the list of the bytes behind all that was read. Eof is at byte 26 or where the list is empty; no read goes past it, so Eof stays.
use Rattle.std.specs.Prelude.{ℕ, min, ◌==◌, Bool, true, cond, not, ◌||◌, ℤ, pos, List, [], ◌∷◌, take, drop, Option, Some}
use Rattle.std.specs.List.{prefix_len}
use Rattle.std.specs.Result.{result_ok}
use Rattle.common_values.specs.Numerals.{is_gap_byte, numeral_of}

abbrev pub eof_byte : ℕ
eof_byte = 26

abbrev pub ends_line : ℕ → Bool
ends_line byte = (byte == 13) || (byte == 10)

abbrev pub is_eof : List ℕ → Bool
is_eof [] = true
is_eof (byte ∷ rest) = byte == eof_byte

abbrev pub is_eoln : List ℕ → Bool
is_eoln [] = true
is_eoln (byte ∷ rest) = ends_line byte || (byte == eof_byte)

-- ---- a Char: the next byte, also at the end of a line, and byte 26 at Eof

abbrev pub char_read : List ℕ → ℕ × List ℕ
char_read [] = (eof_byte, [])
char_read (byte ∷ rest) = cond (byte == eof_byte) (eof_byte, byte ∷ rest) (byte, rest)

-- ---- a string: up to the end of the line, or its size

abbrev pub is_text_byte : ℕ → Bool
is_text_byte byte = not (ends_line byte || (byte == eof_byte))

abbrev pub string_length : ℕ → List ℕ → ℕ
string_length size input = min size (prefix_len is_text_byte input)

abbrev pub string_read : ℕ → List ℕ → List ℕ × List ℕ
string_read size input = (take (string_length size input) input, drop (string_length size input) input)

-- ---- a number: the word behind blanks, tabs and line ends

abbrev pub is_separator : ℕ → Bool
is_separator byte = is_gap_byte byte || ends_line byte

abbrev pub is_word_byte : ℕ → Bool
is_word_byte byte = not (is_separator byte || (byte == eof_byte))

abbrev pub after_separators : List ℕ → List ℕ
after_separators input = drop (prefix_len is_separator input) input

-- the number that a word stands for: at Eof there is no word, and the number is 0; None is error 106
abbrev pub number_of : List ℕ → Option ℤ
number_of [] = Some (pos 0)
number_of (byte ∷ word) = result_ok (numeral_of (byte ∷ word))

abbrev pub word_length : List ℕ → ℕ
word_length input = prefix_len is_word_byte input

abbrev pub word_read : List ℕ → List ℕ × List ℕ
word_read input = (take (word_length input) input, drop (word_length input) input)

abbrev pub number_read : List ℕ → Option ℤ × List ℕ
number_read input = (number_of (word_read (after_separators input)).0, (word_read (after_separators input)).1)

-- ---- ReadLn: behind the next 13 10, lone 13 or lone 10, or at Eof

abbrev pub after_13 : List ℕ → List ℕ
after_13 [] = []
after_13 (byte ∷ rest) = cond (byte == 10) rest (byte ∷ rest)

abbrev pub after_line : List ℕ → List ℕ
after_line [] = []
after_line (byte ∷ rest) = cond (byte == eof_byte) (byte ∷ rest) (cond (byte == 13) (after_13 rest) (cond (byte == 10) rest (after_line rest)))
