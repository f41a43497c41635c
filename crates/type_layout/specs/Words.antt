-- The names of a program, as lists of bytes.
use Rattle.std.specs.Prelude.{ℕ, Bool, not, ◌&&◌, ◌||◌, ◌==◌, nat_le, nat_lt, IsTrue, List, length, slice_index, nat_eq, take, map}
use Rattle.std.specs.List.{list_all}
use Rattle.std.specs.Char.{to_ascii_uppercase}
use Rattle.std.specs.Cmp.Lexicographic.{pointwise}

-- A-Z
abbrev pub is_upper : ℕ → Bool
is_upper c = nat_le 65 c && nat_le c 90

-- 0-9
abbrev pub is_digit : ℕ → Bool
is_digit c = nat_le 48 c && nat_le c 57

-- what stands in a name: A-Z, the underscore and 0-9
abbrev pub is_name_byte : ℕ → Bool
is_name_byte c = is_upper c || c == 95 || is_digit c

-- 1 to 63 bytes
abbrev pub has_name_length : List ℕ → Bool
has_name_length bytes = nat_lt 0 (length bytes) && nat_le (length bytes) 63

-- a name in upper case, whose first byte is no digit
abbrev pub is_name : List ℕ → Bool
is_name bytes = has_name_length bytes && not (is_digit (slice_index bytes 0))
    && list_all is_name_byte bytes

abbrev pub IsName : List ℕ → Type 0
IsName bytes = IsTrue (is_name bytes)

-- the first 63 bytes of a word, in upper case
abbrev pub spelled_by : List ℕ → List ℕ
spelled_by word = map to_ascii_uppercase (take 63 word)

-- how names, file names and bytes are compared; a map's keys are found by it
abbrev pub same_bytes : List ℕ → List ℕ → Bool
same_bytes = pointwise nat_eq
