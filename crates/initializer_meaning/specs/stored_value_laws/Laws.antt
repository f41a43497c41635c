-- What is written for a variable is what the meaning reads, whatever lies behind it.
use Rattle.std.specs.Prelude.{◌≡◌, ◌≤◌, ℕ, ◌+◌, ◌&&◌, ℤ, pos, true, List, ◌++◌, length, map}
use Rattle.type_layout.specs.declared.definitions.Host.{Host}
use Rattle.type_layout.specs.declared.definitions.Host.TheVariants as host
use Rattle.type_layout.specs.Storage.{holds}
use Rattle.common_values.specs.Sets.{contains, has_byte, set_bytes}
use Rattle.tp_meaning.specs.Trees.{Tree, Ordinal, Elements, holding, chain}
use Rattle.tp_meaning.specs.Shapes.{read_ordinal, read_many, read_set}
use Rattle.constant_checker.specs.stored_values.Stored.{ordinal_bytes, string_bytes}

-- the cell of a byte of a string
abbrev pub byte_cell : ℕ → Tree
byte_cell byte = holding (Ordinal (pos byte))

-- The meaning reads the bytes of a set as one whose elements are those of the set that was written, as far as the type has bytes
-- for them.
pub record IsReadBack (low high : ℕ) (set : List ℕ) : Type 0 where
  pub read : List ℕ
  pub is : (rest : List ℕ) → read_set (pos low) (pos high) (set_bytes low high set ++ rest) ≡ (holding (Elements read), rest)
  pub same : (e : ℕ) → contains read e ≡ (contains set e && has_byte low high e)

pub record AreReadBack : Type 0 where
  -- an ordinal of the host
  pub ordinals : (one : Host) (n : ℤ) (rest : List ℕ) → holds one n n ≡ true → read_ordinal one (ordinal_bytes one n ++ rest) ≡ (holding (Ordinal n), rest)
  -- a string, byte by byte: its length, its text, zeros
  pub strings : (max : ℕ) (text rest : List ℕ) → length text ≤ max
      → read_many (max + 1) (read_ordinal host.Char) (string_bytes max text ++ rest) ≡ (chain (map byte_cell (string_bytes max text)), rest)
  -- an array of Char, byte by byte
  pub chars : (n : ℕ) (text rest : List ℕ) → length text ≡ n → read_many n (read_ordinal host.Char) (text ++ rest) ≡ (chain (map byte_cell text), rest)
  pub sets : (low high : ℕ) (set : List ℕ) → low ≤ high → IsReadBack low high set
