-- How ordinals and sets are stored.
use Rattle.std.specs.Prelude.{ℕ, ◌+◌, ◌-◌, ◌/◌, ℤ, pos, negsuc, ◌-ℤ◌, int_le, unsigned_abs, Bool, ◌&&◌, cond}
use Rattle.type_layout.specs.declared.definitions.Host.{Host}
use Rattle.type_layout.specs.declared.definitions.Host.TheVariants.{ShortInt, Byte, Integer, Word, LongInt, Char, Boolean, Enumeration}

-- the least value of a host
abbrev pub least_of : Host → ℤ
least_of ShortInt = negsuc 127
least_of Integer = negsuc 32767
least_of LongInt = negsuc 2147483647
least_of Byte = pos 0
least_of Word = pos 0
least_of Char = pos 0
least_of Boolean = pos 0
least_of Enumeration = pos 0

-- the greatest value of a host; an enumeration has at most 256 values
abbrev pub greatest_of : Host → ℤ
greatest_of ShortInt = pos 127
greatest_of Byte = pos 255
greatest_of Integer = pos 32767
greatest_of Word = pos 65535
greatest_of LongInt = pos 2147483647
greatest_of Char = pos 255
greatest_of Boolean = pos 1
greatest_of Enumeration = pos 255

-- the bytes of a value that is stored as this host
abbrev pub width_of : Host → ℕ
width_of ShortInt = 1
width_of Byte = 1
width_of Integer = 2
width_of Word = 2
width_of LongInt = 4
width_of Char = 1
width_of Boolean = 1
width_of Enumeration = 1

abbrev pub holds : Host → ℤ → ℤ → Bool
holds host low high = int_le (least_of host) low && int_le high (greatest_of host)

-- the first of ShortInt, Byte, Integer, Word and LongInt that holds both bounds
abbrev pub integer_storage : ℤ → ℤ → Host
integer_storage low high =
    cond (holds ShortInt low high) ShortInt
    (cond (holds Byte low high) Byte
    (cond (holds Integer low high) Integer
    (cond (holds Word low high) Word LongInt)))

-- what a subrange low..high of the host is stored as
abbrev pub storage_of : Host → ℤ → ℤ → Host
storage_of ShortInt low high = integer_storage low high
storage_of Byte low high = integer_storage low high
storage_of Integer low high = integer_storage low high
storage_of Word low high = integer_storage low high
storage_of LongInt low high = integer_storage low high
storage_of Char low high = Char
storage_of Boolean low high = Boolean
storage_of Enumeration low high = Enumeration

-- how many values lie in low..high
abbrev pub count_between : ℤ → ℤ → ℕ
count_between low high = unsigned_abs (high -ℤ low) + 1

-- the bytes of a set of low..high, of which byte k has the elements from 8 * k on
abbrev pub set_bytes : ℤ → ℤ → ℕ
set_bytes low high = unsigned_abs high / 8 - unsigned_abs low / 8 + 1
