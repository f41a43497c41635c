-- An activation as its own routine sees it: the words of its part of the stack, by their order, and everything else.
use Rattle.std.specs.Prelude.{◌≡◌, ℕ, ◌+◌, ◌-◌, ◌*◌, ◌/◌, ◌≤◌, ◌<◌, ◌==◌, Bool, List, length, ℤ, pos, negsuc, slice_index_or}
use Rattle.flat_code.specs.declared.memory.Cell.TheVariants.{Known, Outside}
use Rattle.flat_code.specs.Memory.{Cells}
use Rattle.flat_code.specs.Program.{Choice}
use Rattle.flat_code.specs.Meaning.{Frame, State}
use Rattle.flat_code.specs.Gives.{IsBelow}
use Rattle.common_values.specs.integers.Words.{low_byte, high_byte}

-- a word of the stack: it can't be reached, nothing was stored there yet, or it holds a value
pub data Slot : Type 0 where
  Shut : Slot
  Free : Slot
  Holds : (value : ℕ) → Slot

-- the words from the caller's SP downwards, and memory without the stack below that SP
pub record Activation : Type 0 where
  pub words : List Slot
  pub memory : Cells
  pub flag : Bool
  pub input : List ℕ
  pub out : List ℕ
  pub err : List ℕ

abbrev pub slot_no : Activation → ℕ → Slot
slot_no a i = slice_index_or a.words i Shut

-- ---- which word lies so far from BP, where so many bytes lie between BP and the caller's SP

abbrev pub index_of : ℕ → ℤ → ℕ
index_of above (pos d) = (above - (d + 2)) / 2
index_of above (negsuc d) = (above + d - 1) / 2

-- one begins there
abbrev pub is_index : ℕ → ℤ → Bool
is_index above (pos d) = 2 * ((above - (d + 2)) / 2) + 2 + d == above
is_index above (negsuc d) = 2 * ((above + d - 1) / 2) + 1 == above + d

-- ---- a state of the machine that is seen so

-- the bytes of a word from an address on
pub record HoldsWord (m : Cells) (x value : ℕ) : Type 0 where
  pub low : m x ≡ Known (low_byte value)
  pub high : m (x + 1) ≡ Known (high_byte value)
  pub small : value < 65536

abbrev pub HoldsSlot : Cells → ℕ → Slot → Type 0
HoldsSlot m x Shut = Unit {0}
HoldsSlot m x Free = (m x ≡ Outside → ⊥) × (m (x + 1) ≡ Outside → ⊥)
HoldsSlot m x (Holds value) = HoldsWord m x value

abbrev pub word_address : Choice → ℕ → ℕ → ℕ
word_address choice sp i = 16 * choice.stack_segment + (sp - 2 * (i + 1))

-- these cells, where the caller's SP is so
pub record Shows (choice : Choice) (sp : ℕ) (a : Activation) (m : Cells) : Type 0 where
  pub fits : 2 * length a.words ≤ sp
  pub words : (i : ℕ) → i < length a.words → HoldsSlot m (word_address choice sp i) (slot_no a i)
  pub outside : (x : ℕ) → (IsBelow choice sp x → ⊥) → m x ≡ a.memory x
  pub below : (x : ℕ) → IsBelow choice sp x → a.memory x ≡ Outside

pub record IsSeen (choice : Choice) (sp : ℕ) (a : Activation) (s : State) : Type 0 where
  pub cells : Shows choice sp a s.cells
  pub flag : s.flag ≡ a.flag
  pub input : s.input ≡ a.input
  pub out : s.out ≡ a.out
  pub err : s.err ≡ a.err

-- the stack lies inside a segment and memory, with so many bytes between BP and the caller's SP
pub record IsPlaced (choice : Choice) (own : Frame) (sp above : ℕ) : Type 0 where
  pub bp : own.bp + above ≡ sp
  pub small : sp ≤ 65520
  pub inside : 16 * choice.stack_segment + sp ≤ 1048576
