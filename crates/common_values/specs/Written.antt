-- The text that Write and Str make of their items.
use Rattle.std.specs.Prelude.{ℕ, ◌-◌, Bool, true, false, ℤ, List, [], ◌∷◌, ◌++◌, length, replicate, codes}
use Rattle.std.specs.Fmt.{decimal, signed_decimal}
use Rattle.common_values.specs.Strings.{cut, byte_count}

abbrev pub blank : ℕ
blank = 32

-- how many blanks stand before a text of this length in a field of a width
abbrev pub blanks_due : ℤ → ℕ → ℕ
blanks_due width len = byte_count width - len

-- a text at the right end of a field; a text that is wider than its field is written whole
abbrev pub padded : ℤ → List ℕ → List ℕ
padded width text = replicate (blanks_due width (length text)) blank ++ text

abbrev pub integer_text : ℤ → List ℕ
integer_text value = signed_decimal value

abbrev pub boolean_text : Bool → List ℕ
boolean_text true = codes "TRUE"
boolean_text false = codes "FALSE"

abbrev pub line_end : List ℕ
line_end = 13 ∷ 10 ∷ []

-- what Str gives a variable of a size
abbrev pub str_text : ℕ → ℤ → List ℕ → List ℕ
str_text size width text = cut size (padded width text)

-- what a program that ends with an error writes
abbrev pub error_text : ℕ → List ℕ
error_text number = codes "Runtime error " ++ (decimal number ++ line_end)
