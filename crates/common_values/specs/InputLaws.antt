-- What holds of reading.
use Rattle.std.specs.Prelude.{◌≡◌, ◌≢◌, ℕ, ◌≤◌, true, false, ◌⊎◌, ℤ, pos, List, [], ◌∷◌, ◌++◌, length, Option, Some}
use Rattle.std.specs.List.{AllByRecursion}
use Rattle.common_values.specs.Input.{eof_byte, is_eof, is_eoln, is_text_byte, is_separator, is_word_byte, number_of, char_read, string_read, number_read, after_line}

-- at Eof nothing is taken, so it is Eof from there on
pub record EofLaws (input : List ℕ) : Type 0 where
  pub char : char_read input ≡ (eof_byte, input)
  pub string : (size : ℕ) → string_read size input ≡ ([], input)
  pub number : number_read input ≡ (Some (pos 0), input)
  pub line : after_line input ≡ input

-- a Char read takes one byte
pub record TakesChar (input : List ℕ) (byte : ℕ) (rest : List ℕ) : Type 0 where
  pub parts : input ≡ byte ∷ rest
  pub is : byte ≢ eof_byte

-- a string has no line end, and ends at one or has its size
pub record TakesString (size : ℕ) (input text rest : List ℕ) : Type 0 where
  pub parts : input ≡ text ++ rest
  pub bytes : AllByRecursion (λ b. is_text_byte b ≡ true) text
  pub room : length text ≤ size
  pub ends : (length text ≡ size) ⊎ (is_eoln rest ≡ true)

-- a word ends at a separator or at Eof
abbrev pub EndsWord : List ℕ → Type 0
EndsWord [] = Unit {0}
EndsWord (b ∷ rest) = is_word_byte b ≡ false

pub record TakesNumber (input : List ℕ) (number : Option ℤ) (rest : List ℕ) : Type 0 where
  pub gap : List ℕ
  pub word : List ℕ
  pub parts : input ≡ gap ++ (word ++ rest)
  pub separators : AllByRecursion (λ b. is_separator b ≡ true) gap
  pub bytes : AllByRecursion (λ b. is_word_byte b ≡ true) word
  pub ends : EndsWord rest
  pub is : number ≡ number_of word
  -- only Eof leaves no word
  pub some : word ≡ [] → is_eof rest ≡ true

abbrev pub NoLineFeed : List ℕ → Type 0
NoLineFeed [] = Unit {0}
NoLineFeed (b ∷ rest) = b ≢ 10

-- what ends a line before the rest
pub data EndsLine : List ℕ → List ℕ → Type 0 where
  both : (rest : List ℕ) → EndsLine (13 ∷ 10 ∷ []) rest
  lone_13 : (rest : List ℕ) → NoLineFeed rest → EndsLine (13 ∷ []) rest
  lone_10 : (rest : List ℕ) → EndsLine (10 ∷ []) rest
  at_eof : (rest : List ℕ) → is_eof rest ≡ true → EndsLine [] rest

pub record TakesLine (input rest : List ℕ) : Type 0 where
  pub line : List ℕ
  pub ending : List ℕ
  pub parts : input ≡ line ++ (ending ++ rest)
  pub bytes : AllByRecursion (λ b. is_text_byte b ≡ true) line
  pub ends : EndsLine ending rest

pub record TakingLaws : Type 0 where
  pub char : (input : List ℕ) → is_eof input ≡ false → TakesChar input (char_read input).0 (char_read input).1
  pub string : (size : ℕ) (input : List ℕ) → TakesString size input (string_read size input).0 (string_read size input).1
  pub number : (input : List ℕ) → TakesNumber input (number_read input).0 (number_read input).1
  pub line : (input : List ℕ) → TakesLine input (after_line input)
