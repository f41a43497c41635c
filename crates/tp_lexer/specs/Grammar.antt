-- What a text is made of: tokens, blanks and comments, each by its shape. The grammar knows no reader.
use Rattle.std.specs.Prelude.{◌≡◌, ◌<◌, ◌⊎◌, ℕ, Bool, true, false, not, ◌&&◌, ◌||◌, ◌==◌, List, [], ◌∷◌, ◌++◌, length, is_some, IsTrue}
use Rattle.std.specs.List.{concat, list_all}
use Rattle.std.specs.Char.{is_ascii_digit, is_ascii_hexdigit}
use Rattle.tp_lexer.specs.Characters.{is_letter, is_word_byte, is_blank}
use Rattle.tp_lexer.specs.Symbols.{symbol_of}
use Rattle.tp_lexer.specs.declared.shape.Shape.{Shape}
use Rattle.tp_lexer.specs.declared.shape.Shape.TheVariants as s

pub record IsBlank (bytes : List ℕ) : Type 0 where
  pub byte : ℕ
  pub spelled : bytes ≡ byte ∷ []
  pub separates : IsTrue (is_blank byte)

-- a letter, and letters and digits behind it
pub record IsWord (bytes : List ℕ) : Type 0 where
  pub first : ℕ
  pub more : List ℕ
  pub spelled : bytes ≡ first ∷ more
  pub begins : IsTrue (is_letter first)
  pub goes_on : IsTrue (list_all is_word_byte more)

-- decimal digits, one at least
pub record AreDigits (bytes : List ℕ) : Type 0 where
  pub some : 0 < length bytes
  pub each : IsTrue (list_all is_ascii_digit bytes)

-- `.` and digits
pub record IsFraction (bytes : List ℕ) : Type 0 where
  pub digits : List ℕ
  pub spelled : bytes ≡ 46 ∷ digits
  pub are_digits : AreDigits digits

-- a sign, or nothing
abbrev pub is_sign : List ℕ → Bool
is_sign [] = true
is_sign (c ∷ []) = c == 43 || c == 45
is_sign bytes = false

-- `E`, maybe a sign, and digits
pub record IsExponent (bytes : List ℕ) : Type 0 where
  pub letter : ℕ
  pub sign : List ℕ
  pub digits : List ℕ
  pub spelled : bytes ≡ letter ∷ (sign ++ digits)
  pub is_e : IsTrue (letter == 69 || letter == 101)
  pub signed : IsTrue (is_sign sign)
  pub are_digits : AreDigits digits

-- digits with a fraction, an exponent, or both
pub record IsReal (bytes : List ℕ) : Type 0 where
  pub digits : List ℕ
  pub fraction : List ℕ
  pub exponent : List ℕ
  pub spelled : bytes ≡ digits ++ (fraction ++ exponent)
  pub are_digits : AreDigits digits
  pub fractional : (fraction ≡ []) ⊎ IsFraction fraction
  pub scaled : (exponent ≡ []) ⊎ IsExponent exponent
  pub some : 0 < length (fraction ++ exponent)

-- `$` and hexadecimal digits
pub record IsHexadecimal (bytes : List ℕ) : Type 0 where
  pub digits : List ℕ
  pub spelled : bytes ≡ 36 ∷ digits
  pub each : IsTrue (list_all is_ascii_hexdigit digits)

-- what may stand between two quotes: no quote, and no end of a line
abbrev pub is_quotable : ℕ → Bool
is_quotable c = not (c == 39) && not (c == 10 || c == 13)

-- text between quotes; a quote in it is written twice, which ends one such part and begins the next
pub record IsQuoted (bytes : List ℕ) : Type 0 where
  pub text : List ℕ
  pub spelled : bytes ≡ 39 ∷ (text ++ 39 ∷ [])
  pub each : IsTrue (list_all is_quotable text)

-- `#` and decimal digits, or `#$` and hexadecimal ones
abbrev pub IsCode : List ℕ → Type 0
IsCode bytes =
    ((digits : List ℕ) × (bytes ≡ 35 ∷ digits) × IsTrue (list_all is_ascii_digit digits))
    ⊎ ((digits : List ℕ) × (bytes ≡ 35 ∷ 36 ∷ digits) × IsTrue (list_all is_ascii_hexdigit digits))

abbrev pub AreParts : List (List ℕ) → Type 0
AreParts [] = Unit {0}
AreParts (part ∷ parts) = (IsQuoted part ⊎ IsCode part) × AreParts parts

-- parts side by side, one at least
pub record IsConstant (bytes : List ℕ) : Type 0 where
  pub part : List ℕ
  pub parts : List (List ℕ)
  pub spelled : bytes ≡ part ++ concat parts
  pub is_part : IsQuoted part ⊎ IsCode part
  pub are_parts : AreParts parts

-- the same, or nothing, and then a quote and text that no quote ends
pub record IsOpenConstant (bytes : List ℕ) : Type 0 where
  pub parts : List (List ℕ)
  pub text : List ℕ
  pub spelled : bytes ≡ concat parts ++ 39 ∷ text
  pub are_parts : AreParts parts
  pub each : IsTrue (list_all is_quotable text)

-- no closing brace stands there
abbrev pub has_no_brace : List ℕ → Bool
has_no_brace bytes = list_all (λ c. not (c == 125)) bytes

-- no `*)` stands there
abbrev pub HasNoStar : List ℕ → Type 0
HasNoStar bytes = (front back : List ℕ) → bytes ≡ front ++ 42 ∷ 41 ∷ back → ⊥

-- a comment, closed by its own closer
abbrev pub IsComment : List ℕ → Type 0
IsComment bytes =
    ((body : List ℕ) × (bytes ≡ 123 ∷ (body ++ 125 ∷ [])) × IsTrue (has_no_brace body))
    ⊎ ((body : List ℕ) × (bytes ≡ 40 ∷ 42 ∷ (body ++ 42 ∷ 41 ∷ [])) × HasNoStar body)

abbrev pub IsOpenComment : List ℕ → Type 0
IsOpenComment bytes =
    ((body : List ℕ) × (bytes ≡ 123 ∷ body) × IsTrue (has_no_brace body))
    ⊎ ((body : List ℕ) × (bytes ≡ 40 ∷ 42 ∷ body) × HasNoStar body)

-- what text that is read is made of; a byte that begins none of these is of the shape Other
abbrev pub IsRead : Shape → List ℕ → Type 0
IsRead s.Blank bytes = IsBlank bytes
IsRead s.Word bytes = IsWord bytes
IsRead s.Decimal bytes = AreDigits bytes
IsRead s.Real bytes = IsReal bytes
IsRead s.Hexadecimal bytes = IsHexadecimal bytes
IsRead s.Constant bytes = IsConstant bytes
IsRead s.OpenConstant bytes = IsOpenConstant bytes
IsRead s.Comment bytes = IsComment bytes
IsRead s.OpenComment bytes = IsOpenComment bytes
IsRead s.Symbol bytes = IsTrue (is_some (symbol_of bytes))
IsRead s.Other bytes = ⊥

-- text that a condition skips is made of comments alone
abbrev pub IsSkipped : Shape → List ℕ → Type 0
IsSkipped s.Comment bytes = IsComment bytes
IsSkipped s.OpenComment bytes = IsOpenComment bytes
IsSkipped shape bytes = ⊥

abbrev pub HasShape : Bool → Shape → List ℕ → Type 0
HasShape true shape bytes = IsRead shape bytes
HasShape false shape bytes = IsSkipped shape bytes

-- no front of the text that stands in the grammar is longer, and none of this length has another shape
abbrev pub IsLongest : Bool → Shape → ℕ → List ℕ → Type 0
IsLongest is_live shape n bytes =
    (other : Shape) (front back : List ℕ) → bytes ≡ front ++ back → HasShape is_live other front
    → (length front < n) ⊎ ((length front ≡ n) × (other ≡ shape))

-- this spelling is what is taken where the rest stands behind it: the longest front in the grammar, or a byte that begins none
abbrev pub Takes : Bool → Shape → List ℕ → List ℕ → Type 0
Takes is_live s.Other spelling rest =
    (length spelling ≡ 1) × ((other : Shape) (front back : List ℕ) → spelling ++ rest ≡ front ++ back → HasShape is_live other front → ⊥)
Takes is_live shape spelling rest = HasShape is_live shape spelling × IsLongest is_live shape (length spelling) (spelling ++ rest)
