-- Strings: lists of at most 255 bytes. The places of a string count from 1.
use Rattle.std.specs.Prelude.{ℕ, ◌+◌, ◌-◌, cond, ℤ, pos, negsuc, List, [], ◌∷◌, ◌++◌, length, take, drop, nat_eq}
use Rattle.std.specs.declared.cmp.Ordering.{Ordering}
use Rattle.std.specs.Char.{to_ascii_uppercase}
use Rattle.std.specs.Ordering.{nat_cmp}
use Rattle.std.specs.Cmp.Lexicographic.{slice_cmp}
use Rattle.std.specs.List.{starts_with}

-- the most bytes that a string holds
abbrev pub longest : ℕ
longest = 255

-- what a variable of a size keeps of a text
abbrev pub cut : ℕ → List ℕ → List ℕ
cut size text = take size text

-- a negative number of bytes counts as none
abbrev pub byte_count : ℤ → ℕ
byte_count (pos n) = n
byte_count (negsuc n) = 0

-- how many bytes stand before a place; a place below 1 counts as 1
abbrev pub bytes_before : ℤ → ℕ
bytes_before (pos n) = n - 1
bytes_before (negsuc n) = 0

-- at most so many bytes from a place on
abbrev pub copied : List ℕ → ℤ → ℤ → List ℕ
copied text place count = take (byte_count count) (drop (bytes_before place) text)

-- the text without those bytes
abbrev pub deleted : List ℕ → ℤ → ℤ → List ℕ
deleted text place count = take (bytes_before place) text ++ drop (byte_count count) (drop (bytes_before place) text)

-- The text with a part put before a place, or behind its end where the place lies farther. It is cut as a string, and then to the room of its variable.
abbrev pub inserted : List ℕ → List ℕ → ℤ → ℕ → List ℕ
inserted part text place room = cut room (cut longest (take (bytes_before place) text ++ part ++ drop (bytes_before place) text))

-- one string behind another
abbrev pub joined : List ℕ → List ℕ → List ℕ
joined first second = cut longest (first ++ second)

-- the first place at which the part stands in a text whose first byte has this place, or 0
abbrev pub place_from : ℕ → List ℕ → List ℕ → ℕ
place_from place part [] = 0
place_from place part (b ∷ text) = cond (starts_with nat_eq (b ∷ text) part) place (place_from (place + 1) part text)

-- the first place at which the part stands in the text; 0 where it doesn't, or is empty
abbrev pub position_of : List ℕ → List ℕ → ℕ
position_of [] text = 0
position_of (b ∷ part) text = place_from 1 (b ∷ part) text

-- by the first bytes that differ; a string is less than each that goes on from it
abbrev pub compared : List ℕ → List ℕ → Ordering
compared left right = slice_cmp nat_cmp left right

-- the upper-case letter of a byte from `a` to `z`; any other byte stays
abbrev pub upper : ℕ → ℕ
upper byte = to_ascii_uppercase byte

-- The bytes of a string variable are its length and so many bytes of text; what stands behind these is not shown.
abbrev pub shown : List ℕ → List ℕ
shown [] = []
shown (n ∷ bytes) = take n bytes

-- a variable's bytes once a text that has room there is assigned: what stands behind the text stays
abbrev pub written_over : List ℕ → List ℕ → List ℕ
written_over old text = length text ∷ (text ++ drop (1 + length text) old)
