-- Bytes and strings in memory, at places that routines are handed.
use Rattle.std.specs.Prelude.{◌≡◌, ℕ, ◌+◌, ◌<◌, List, [], ◌∷◌, length}
use Rattle.flat_code.specs.declared.memory.Place.{Place}
use Rattle.flat_code.specs.declared.memory.Cell.TheVariants.{Known, Outside}
use Rattle.flat_code.specs.Memory.{Cells, address_of}
use Rattle.flat_code.specs.Program.{Choice}
use Rattle.flat_code.specs.Gives.{IsBelow}

-- these bytes stand from the i-th on behind a place
abbrev pub HasBytes : Cells → Place → ℕ → List ℕ → Type 0
HasBytes m p i [] = Unit {0}
HasBytes m p i (byte ∷ bytes) = (m (address_of p i) ≡ Known byte) × (byte < 256) × HasBytes m p (i + 1) bytes

-- a string: its length, and then its bytes
pub record HasString (m : Cells) (p : Place) (text : List ℕ) : Type 0 where
  pub size : m (address_of p 0) ≡ Known (length text)
  pub short : length text < 256
  pub bytes : HasBytes m p 1 text

-- so many bytes of a place can be reached
abbrev pub IsReached : Cells → Place → ℕ → Type 0
IsReached m p count = (i : ℕ) → i < count → m (address_of p i) ≡ Outside → ⊥

-- none of so many bytes of a place lies in the stack below an offset
abbrev pub IsOffStack : Choice → ℕ → Place → ℕ → Type 0
IsOffStack choice sp p count = (i : ℕ) → i < count → IsBelow choice sp (address_of p i) → ⊥

-- one of so many bytes of a place
abbrev pub IsIn : Place → ℕ → ℕ → Type 0
IsIn p count x = (i : ℕ) × (i < count) × (x ≡ address_of p i)

-- bytes can be moved from one place to another, the first one first: none of those that are moved later is overwritten
abbrev pub CanMove : Place → Place → ℕ → Type 0
CanMove to from count = (i j : ℕ) → i < j → j < count → address_of to i ≡ address_of from j → ⊥

abbrev pub place : ℕ → ℕ → Place
place segment offset = record { segment = segment; offset = offset }
