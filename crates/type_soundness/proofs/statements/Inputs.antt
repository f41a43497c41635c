-- What is read from an input of bytes.
use Rattle.std.proofs.Common.{ℕ, ◌<◌, ◌==◌, Bool, true, false, cond, List, [], ◌∷◌, arith}
use Rattle.std.specs.Prelude.{All}
use Rattle.std.specs.List.{prefix_len}
use Rattle.std.proofs.lemmas.List.Elements.{All-nil, All-head, All-tail, All-take, All-drop}
use Rattle.program_typing.specs.common_values.Input.{eof_byte, is_separator, char_read, string_length, string_read, after_separators, word_length, number_read, after_13, after_line}

abbrev pub IsByte : ℕ → Type 0
IsByte byte = byte < 256

abbrev pub AreBytes : List ℕ → Type 0
AreBytes input = All IsByte input

abbrev CharRead : ℕ × List ℕ → Type 0
CharRead r = IsByte r.0 × AreBytes r.1

char_if : (t : Bool) (a b : ℕ × List ℕ) → CharRead a → CharRead b → CharRead (cond t a b)
char_if true a b p q = p
char_if false a b p q = q

pub char_bytes : (input : List ℕ) → AreBytes input → IsByte (char_read input).0 × AreBytes (char_read input).1
char_bytes [] h = (omega arith, All-nil IsByte)
char_bytes (byte ∷ rest) h = char_if (byte == eof_byte) (eof_byte, byte ∷ rest) (byte, rest) (omega arith, h) (All-head IsByte byte rest h, All-tail IsByte byte rest h)

pub string_bytes : (size : ℕ) (input : List ℕ) → AreBytes input → AreBytes (string_read size input).0 × AreBytes (string_read size input).1
string_bytes size input h = (All-take IsByte (string_length size input) input h, All-drop IsByte (string_length size input) input h)

pub number_bytes : (input : List ℕ) → AreBytes input → AreBytes (number_read input).1
number_bytes input h = All-drop IsByte (word_length (after_separators input)) (after_separators input) (All-drop IsByte (prefix_len is_separator input) input h)

bytes_if : (t : Bool) (a b : List ℕ) → AreBytes a → AreBytes b → AreBytes (cond t a b)
bytes_if true a b p q = p
bytes_if false a b p q = q

after_13_bytes : (input : List ℕ) → AreBytes input → AreBytes (after_13 input)
after_13_bytes [] h = h
after_13_bytes (byte ∷ rest) h = bytes_if (byte == 10) rest (byte ∷ rest) (All-tail IsByte byte rest h) h

pub line_bytes : (input : List ℕ) → AreBytes input → AreBytes (after_line input)
line_bytes [] h = h
line_bytes (byte ∷ rest) h =
    let tail = All-tail IsByte byte rest h in
    bytes_if (byte == eof_byte) (byte ∷ rest) (cond (byte == 13) (after_13 rest) (cond (byte == 10) rest (after_line rest))) h
    (bytes_if (byte == 13) (after_13 rest) (cond (byte == 10) rest (after_line rest)) (after_13_bytes rest tail) (bytes_if (byte == 10) rest (after_line rest) tail (line_bytes rest tail)))
