-- Sets of ordinals from 0 to 255, as lists of their elements. The order of a list means nothing.
use Rattle.std.specs.Prelude.{ℕ, zero, suc, ◌+◌, ◌-◌, ◌*◌, ◌/◌, ◌%◌, ◌^◌, ◌==◌, nat_lt, nat_le, Bool, false, cond, not, ◌&&◌, ℤ, pos, negsuc, List, ◌++◌, map, filter}
use Rattle.std.specs.List.{list_any, list_all, range_with_len}

abbrev pub contains : List ℕ → ℕ → Bool
contains set element = list_any (λ e. e == element) set

-- the operator `in`, for any integer
abbrev pub is_member : List ℕ → ℤ → Bool
is_member set (pos n) = nat_lt n 256 && contains set n
is_member set (negsuc n) = false

abbrev pub union : List ℕ → List ℕ → List ℕ
union left right = left ++ filter (λ e. not (contains left e)) right

abbrev pub difference : List ℕ → List ℕ → List ℕ
difference left right = filter (λ e. not (contains right e)) left

abbrev pub intersection : List ℕ → List ℕ → List ℕ
intersection left right = filter (λ e. contains right e) left

abbrev pub is_subset : List ℕ → List ℕ → Bool
is_subset left right = list_all (λ e. contains right e) left

abbrev pub is_same : List ℕ → List ℕ → Bool
is_same left right = is_subset left right && is_subset right left

-- the ordinals from low to high; none where low is above high
abbrev pub ordinals_between : ℕ → ℕ → List ℕ
ordinals_between low high = range_with_len low (high + 1 - low)

-- a constructor's set once it has named the ordinals from low to high too
abbrev pub with_range : List ℕ → ℕ → ℕ → List ℕ
with_range set low high = union set (ordinals_between low high)

-- ---- sets in memory: element e is bit e mod 8 of byte e div 8, and a set type has the bytes of its bounds and between

abbrev pub byte_of : ℕ → ℕ
byte_of element = element / 8

abbrev pub bit_of : ℕ → ℕ
bit_of element = element % 8

-- how many bytes a set over low to high takes
abbrev pub set_size : ℕ → ℕ → ℕ
set_size low high = byte_of high - byte_of low + 1

-- a set over low to high has a byte for the element
abbrev pub has_byte : ℕ → ℕ → ℕ → Bool
has_byte low high element = nat_le (byte_of low) (byte_of element) && nat_le (byte_of element) (byte_of high)

-- what a set over low to high keeps of a set that is assigned to it
abbrev pub assigned : ℕ → ℕ → List ℕ → List ℕ
assigned low high set = filter (λ e. has_byte low high e) set

abbrev pub weight_if : Bool → ℕ → ℕ
weight_if there bit = cond there (2 ^ bit) 0

-- the lowest bits of one byte
unfoldable pub low_bits : List ℕ → ℕ → ℕ → ℕ
low_bits set byte zero = 0
low_bits set byte (suc n) = low_bits set byte n + weight_if (contains set (8 * byte + n)) n

-- the byte that holds the elements from 8 * byte on
abbrev pub set_byte : List ℕ → ℕ → ℕ
set_byte set byte = low_bits set byte 8

-- the bytes of a set over low to high
abbrev pub set_bytes : ℕ → ℕ → List ℕ → List ℕ
set_bytes low high set = map (set_byte set) (range_with_len (byte_of low) (set_size low high))
