-- Sets in memory: 32 bytes, of which byte k holds the elements from 8 * k on.
use Rattle.std.specs.Prelude.{◌≡◌, ℕ, zero, suc, ◌+◌, ◌<◌, List}
use Rattle.common_values.specs.Sets.{set_byte}
use Rattle.flat_code.specs.declared.memory.Place.{Place}
use Rattle.flat_code.specs.declared.memory.Cell.TheVariants.{Known}
use Rattle.flat_code.specs.Memory.{Cells, address_of, put}

-- a set stands at a place
abbrev pub HasSet : Cells → Place → List ℕ → Type 0
HasSet m p set = (k : ℕ) → k < 32 → m (address_of p k) ≡ Known (set_byte set k)

-- so many bytes were stored behind a place, byte k by its number
abbrev pub filled : Cells → Place → (ℕ → ℕ) → ℕ → Cells
filled m p f zero = m
filled m p f (suc i) = put (filled m p f i) (address_of p i) (Known (f i))
