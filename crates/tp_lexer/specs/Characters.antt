-- The classes of bytes that tokens are made of.
use Rattle.std.specs.Prelude.{ℕ, Bool, ◌||◌, ◌==◌}
use Rattle.std.specs.Char.{is_ascii_alphabetic, is_ascii_digit}

-- A-Z, a-z and the underscore
abbrev pub is_letter : ℕ → Bool
is_letter c = is_ascii_alphabetic c || c == 95

-- what may stand in a word after its first letter
abbrev pub is_word_byte : ℕ → Bool
is_word_byte c = is_letter c || is_ascii_digit c

-- the space, the tab, and the bytes that end lines and pages
abbrev pub is_blank : ℕ → Bool
is_blank c = c == 32 || c == 9 || c == 10 || c == 12 || c == 13
