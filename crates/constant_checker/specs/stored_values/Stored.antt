-- The bytes of ordinals and strings, as variables hold them; those of sets are `values`'.
use Rattle.std.specs.Prelude.{ℕ, ◌-◌, ℤ, List, ◌∷◌, ◌++◌, length, take, replicate}
use Rattle.std.specs.Int.{w32, cast_unsigned, to_le_bytes}
use Rattle.type_layout.specs.declared.definitions.Host.{Host}
use Rattle.type_layout.specs.Storage.{width_of}

-- the low bytes of a number in two's complement, the lowest first
abbrev pub ordinal_bytes : Host → ℤ → List ℕ
ordinal_bytes host n = take (width_of host) (to_le_bytes w32 (cast_unsigned w32 n))

-- a length, a text, and zeros up to the size of the type
abbrev pub string_bytes : ℕ → List ℕ → List ℕ
string_bytes max text = length text ∷ text ++ replicate (max - length text) 0
