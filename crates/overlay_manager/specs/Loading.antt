-- Which overlays a service loads, and what loading leaves as it was.
use Rattle.std.specs.Prelude.{◌≡◌, ◌≢◌, ℕ, ◌+◌, ◌*◌, ◌<◌, ◌≤◌, ◌⊎◌, ◌==◌, ◌&&◌, not, Bool, IsTrue, if◌then◌else◌, List, [], ◌∷◌, length, slice_index, slice_get, Some}
use Rattle.cpu_8086.specs.Memory.{address}
use Rattle.overlay_file.specs.declared.overlay.OvrEntry.{OvrEntry}
use Rattle.return_repair.specs.declared.table.Loaded.{Loaded}
use Rattle.return_repair.specs.Follows.{overlay_at}
use Rattle.overlay_manager.specs.Code.{fixups_at, with_code}

-- An overlay is loaded where it is to stand at a segment at which it did not stand.
abbrev pub is_moved : Loaded → Loaded → Bool
is_moved was now = not (now.load == 0) && not (now.load == was.load)

-- one overlay, which stood by one entry of a table and stands by another
abbrev pub with_load : List ℕ → OvrEntry → Loaded → Loaded → List ℕ → List ℕ
with_load bytes entry was now memory = if is_moved was now then with_code memory now.load entry bytes else memory

-- The memory once the overlays are loaded that stand elsewhere by the new table, by the bytes of the file.
abbrev pub with_loads : List ℕ → List OvrEntry → List Loaded → List Loaded → List ℕ → List ℕ
with_loads bytes [] old new memory = memory
with_loads bytes (entry ∷ entries) [] new memory = memory
with_loads bytes (entry ∷ entries) (was ∷ old) [] memory = memory
with_loads bytes (entry ∷ entries) (was ∷ old) (now ∷ new) memory =
    with_loads bytes entries old new (with_load bytes entry was now memory)

-- how many those are
abbrev pub load_count : List Loaded → List Loaded → ℕ
load_count [] new = 0
load_count (was ∷ old) [] = 0
load_count (was ∷ old) (now ∷ new) = (if is_moved was now then 1 else 0) + load_count old new

-- the file has the code of an overlay and its fixups
abbrev pub IsWhole : List ℕ → OvrEntry → Type 0
IsWhole bytes entry = fixups_at entry + 2 * entry.fixups ≤ length bytes

-- it ends before them
abbrev pub IsShort : List ℕ → OvrEntry → Type 0
IsShort bytes entry = length bytes < fixups_at entry + 2 * entry.fixups

-- Of memory only bytes differ whose addresses lie from one on and below another.
pub record OnlyWithin (low high : ℕ) (memory after : List ℕ) : Type 0 where
  pub size : length after ≡ length memory
  pub others : (at : ℕ) → (at < low) ⊎ (high ≤ at) → slice_index after at ≡ slice_index memory at

-- the code of an overlay at a segment lies within these addresses
pub record LiesWithin (low high : ℕ) (segment size : ℕ) : Type 0 where
  pub above : low ≤ 16 * segment
  pub below : 16 * segment + size ≤ high
  pub inside : high ≤ 1048576

-- An address at which no code stands that has this size, from a segment's begin on. Offsets and addresses wrap.
abbrev pub IsOffCode : ℕ → ℕ → ℕ → Type 0
IsOffCode segment size at = (k : ℕ) → k < size → at ≢ address segment k

-- an address at which no code comes to stand that is loaded
abbrev pub IsOffLoads : List OvrEntry → List Loaded → List Loaded → ℕ → Type 0
IsOffLoads entries old new at =
    (v : ℕ) (entry : OvrEntry) → slice_get entries v ≡ Some entry → IsTrue (is_moved (overlay_at old v) (overlay_at new v)) → IsOffCode (overlay_at new v).load entry.size at
