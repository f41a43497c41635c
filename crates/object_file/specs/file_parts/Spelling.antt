-- The bytes of the parts of a file. Numbers stand with their low byte first.
use Rattle.std.specs.Prelude.{ℕ, ◌+◌, ◌<◌, ◌^◌, ℤ, Bool, true, false, List, [], ◌∷◌, ◌++◌, length, Option, Some, None, IfSome, FitsSigned}
use Rattle.std.specs.List.{flat_map}
use Rattle.std.specs.Int.{w16, w32, to_le_bytes, cast_unsigned}

abbrev pub word_text : ℕ → List ℕ
word_text word = to_le_bytes w16 word

abbrev pub long_text : ℕ → List ℕ
long_text number = to_le_bytes w32 number

-- a signed number, in two's complement
abbrev pub signed_text : ℤ → List ℕ
signed_text number = long_text (cast_unsigned w32 number)

abbrev pub truth_text : Bool → List ℕ
truth_text false = 0 ∷ []
truth_text true = 1 ∷ []

-- a name: its length in a byte, and its bytes
abbrev pub name_text : List ℕ → List ℕ
name_text name = length name ∷ name

-- a number that may be absent: 0, or one more than the number
abbrev pub option_text : Option ℕ → List ℕ
option_text None = long_text 0
option_text (Some number) = long_text (number + 1)

-- bytes behind their count
abbrev pub bytes_text : List ℕ → List ℕ
bytes_text bytes = long_text (length bytes) ++ bytes

-- a list: its count, and its items one after another
abbrev pub list_text : {A : Type 0} → (A → List ℕ) → List A → List ℕ
list_text text items = long_text (length items) ++ flat_map text items

-- Each item of a list fits what the items before it left behind.
abbrev pub FitInTurn : {S A : Type 0} → (S → A → Type 0) → (S → A → S) → S → List A → Type 0
FitInTurn Fits next state [] = Unit {0}
FitInTurn Fits next state (item ∷ items) = Fits state item × FitInTurn Fits next (next state item) items

-- each item of a list by itself
abbrev pub FitEach : {A : Type 0} → (A → Type 0) → List A → Type 0
FitEach Fits items = FitInTurn (λ (_ : Unit {0}) item. Fits item) (λ state _. state) tt items

-- what a number of four bytes can be
abbrev pub IsLong : ℕ → Type 0
IsLong number = number < 2 ^ 32

abbrev pub IsSigned : ℤ → Type 0
IsSigned number = FitsSigned w32 number

abbrev pub IsLongOption : Option ℕ → Type 0
IsLongOption number = IfSome number (λ n. n + 1 < 2 ^ 32)

-- a list whose items can be counted, each fitting in its turn
abbrev pub IsList : {S A : Type 0} → (S → A → Type 0) → (S → A → S) → S → List A → Type 0
IsList Fits next state items = IsLong (length items) × FitInTurn Fits next state items
