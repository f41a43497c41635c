-- What the routines compute from the words of LongInts, each the lower word first, and the numbers by which programs call them.
use Rattle.std.specs.Prelude.{ℕ, ◌==◌, if◌then◌else◌, ◌||◌, Bool, not, List, [], ◌∷◌, Result, Ok, Err}
use Rattle.common_values.specs.integers.Words.{w32, wrapping_add, wrapping_sub, is_signed_less, shifted_left, shifted_right, low_byte}
use Rattle.flat_code.specs.Memory.{word_bytes}
use Rattle.flat_code.specs.Meaning.{truth}
use Rattle.flat_code.specs.Runtime.{long_word, long_bytes, from_two}

abbrev pub sum_number : ℕ
sum_number = 517

abbrev pub difference_number : ℕ
difference_number = 518

abbrev pub equal_number : ℕ
equal_number = 519

abbrev pub left_shift_number : ℕ
left_shift_number = 520

abbrev pub right_shift_number : ℕ
right_shift_number = 521

abbrev pub range_number : ℕ
range_number = 522

abbrev pub between_number : ℕ
between_number = 542

abbrev pub sum_of : List ℕ → Result (List ℕ) ℕ
sum_of = from_two (λ x y. Ok (long_bytes (wrapping_add w32 x y)))

abbrev pub difference_of : List ℕ → Result (List ℕ) ℕ
difference_of = from_two (λ x y. Ok (long_bytes (wrapping_sub w32 x y)))

-- a word that is 1 where they are equal, else 0
abbrev pub equal_of : List ℕ → Result (List ℕ) ℕ
equal_of = from_two (λ x y. Ok (word_bytes (truth (x == y))))

-- a LongInt and a word, which counts modulo 256
abbrev pub shift_of : (ℕ → ℕ → ℕ) → List ℕ → Result (List ℕ) ℕ
shift_of f (low ∷ high ∷ count ∷ []) = Ok (long_bytes (f (long_word low high) (low_byte count)))
shift_of f words = Ok []

abbrev pub left_shift_of : List ℕ → Result (List ℕ) ℕ
left_shift_of = shift_of (shifted_left w32)

abbrev pub right_shift_of : List ℕ → Result (List ℕ) ℕ
right_shift_of = shift_of shifted_right

-- the value itself where it lies in the range, else error 201
abbrev pub in_range : ℕ → ℕ → ℕ → Result (List ℕ) ℕ
in_range value lowest greatest = if is_signed_less w32 value lowest || is_signed_less w32 greatest value then Err 201 else Ok (long_bytes value)

-- a value, the lowest one and the greatest one
abbrev pub range_of : List ℕ → Result (List ℕ) ℕ
range_of (a ∷ b ∷ c ∷ d ∷ e ∷ f ∷ []) = in_range (long_word a b) (long_word c d) (long_word e f)
range_of words = Ok []

abbrev pub is_between : ℕ → ℕ → ℕ → Bool
is_between value lowest greatest = not (is_signed_less w32 value lowest || is_signed_less w32 greatest value)

-- a word that is 1 where the value lies in the range, else 0
abbrev pub between_of : List ℕ → Result (List ℕ) ℕ
between_of (a ∷ b ∷ c ∷ d ∷ e ∷ f ∷ []) = Ok (word_bytes (truth (is_between (long_word a b) (long_word c d) (long_word e f))))
between_of words = Ok []
