-- The heap in memory: the runtime's words in the data segment, and the links in free blocks.
use Rattle.std.specs.Prelude.{◌≡◌, ℕ, suc, ◌+◌, ◌*◌, ◌/◌, ◌%◌, ◌≤◌, ◌<◌, ◌⊎◌, List, [], ◌∷◌, Some, slice_get}
use Rattle.flat_code.specs.declared.memory.Place.{Place}
use Rattle.flat_code.specs.declared.memory.Cell.TheVariants.{Outside}
use Rattle.flat_code.specs.Memory.{Cells}
use Rattle.flat_code.specs.Program.{Key, Datum, UnitCode, FlatProgram, Choice, overlay_unit, heap_segment_key, heap_bytes_key}
use Rattle.flat_code.specs.Meaning.{stack_top}
use Rattle.flat_code.specs.Legal.{Mention, ToDatum, IsApart}
use Rattle.runtime_proofs.specs.routine_proofs.Activation.{HoldsWord}
use Rattle.common_values.specs.declared.blocks.Row.{Row}
use Rattle.heap_runtime.specs.heap.Heap.{FreeList, Heap, free_blocks, IsSound, Counts}

-- two words of the runtime: how much was cut off, and the first block of the first free list, counted from 1
abbrev pub heap_state_key : Key
heap_state_key = record { unit = overlay_unit; number = 4 }

-- ---- blocks

abbrev pub block_address : Choice → ℕ → ℕ
block_address choice b = 16 * choice.heap_segment + 8 * b

-- a pointer to a block has offset 0 or 8
abbrev pub block_place : Choice → ℕ → Place
block_place choice b = record { segment = choice.heap_segment + b / 2; offset = 8 * (b % 2) }

-- ---- free lists

-- a link at an address leads to the first of these blocks, the link in this one to the next, and so on; the last one is nil
abbrev pub HasLinks : Choice → Cells → ℕ → List ℕ → Type 0
HasLinks choice m x [] = HoldsWord m x 0 × HoldsWord m (x + 2) 0
HasLinks choice m x (b ∷ others) = HoldsWord m x (8 * (b % 2)) × HoldsWord m (x + 2) (choice.heap_segment + b / 2) × HasLinks choice m (block_address choice b) others

-- a word at an address names the first block of the first list, counted from 1; in the first block of a list the link stands first, then the word that names the next list, and then the size; the last such word is 0
abbrev pub HasLists : Choice → Cells → ℕ → List FreeList → Type 0
HasLists choice m x [] = HoldsWord m x 0
HasLists choice m x (l ∷ lists) = HoldsWord m x (suc l.first) × HasLinks choice m (block_address choice l.first) l.others × HoldsWord m (block_address choice l.first + 6) l.size × HasLists choice m (block_address choice l.first + 4) lists

-- ---- where the runtime's words lie

-- they lie in the data segment, which keeps apart from heap and stack
pub record HeapPlaces (program : FlatProgram) (choice : Choice) : Type 0 where
  pub segment_at : ℕ
  pub bytes_at : ℕ
  pub state_at : ℕ
  pub segment_is : choice.datum heap_segment_key ≡ Some segment_at
  pub bytes_is : choice.datum heap_bytes_key ≡ Some bytes_at
  pub state_is : choice.datum heap_state_key ≡ Some state_at
  pub data_bytes : ℕ
  pub segment_in : segment_at + 2 ≤ data_bytes
  pub bytes_in : bytes_at + 4 ≤ data_bytes
  pub state_in : state_at + 4 ≤ data_bytes
  pub small : data_bytes ≤ 65520
  pub data_end : 16 * choice.data_segment + data_bytes ≤ 1048576
  pub segment_apart : IsApart segment_at 2 state_at 4
  pub bytes_apart : IsApart bytes_at 4 state_at 4
  pub data_heap : IsApart (16 * choice.data_segment) data_bytes (16 * choice.heap_segment) program.heap
  pub data_stack : IsApart (16 * choice.data_segment) data_bytes (16 * choice.stack_segment) (stack_top program)
  pub stack_heap : IsApart (16 * choice.stack_segment) (stack_top program) (16 * choice.heap_segment) program.heap
  pub heap_first : 0 < choice.heap_segment
  pub heap_end : 16 * choice.heap_segment + program.heap ≤ 1048576
  pub heap_small : program.heap ≤ 196608

-- ---- a heap that stands in memory

pub record HoldsHeap (program : FlatProgram) (choice : Choice) (places : HeapPlaces program choice) (m : Cells) (h : Heap) : Type 0 where
  pub segment : HoldsWord m (16 * choice.data_segment + places.segment_at) choice.heap_segment
  pub low : HoldsWord m (16 * choice.data_segment + places.bytes_at) (program.heap % 65536)
  pub high : HoldsWord m (16 * choice.data_segment + places.bytes_at + 2) (program.heap / 65536)
  pub cut : HoldsWord m (16 * choice.data_segment + places.state_at) h.cut
  pub lists : HasLists choice m (16 * choice.data_segment + places.state_at + 2) h.lists
  pub reached : (k : ℕ) → k < program.heap → m (16 * choice.heap_segment + k) ≡ Outside → ⊥
  pub inside : 8 * h.cut ≤ program.heap

-- with its rows in the sum of blocks
pub record HeapStands (program : FlatProgram) (choice : Choice) (places : HeapPlaces program choice) (m : Cells) (h : Heap) (rows : List Row) : Type 0 where
  pub holds : HoldsHeap program choice places m h
  pub sound : IsSound h
  pub counts : Counts h rows

-- ---- what New and Dispose may change

abbrev pub IsAmong : ℕ → List ℕ → Type 0
IsAmong b [] = ⊥
IsAmong b (c ∷ blocks) = (b ≡ c) ⊎ IsAmong b blocks

-- the two words, and the first eight bytes of free blocks
abbrev pub IsAllocators : (program : FlatProgram) (choice : Choice) → HeapPlaces program choice → List FreeList → ℕ → Type 0
IsAllocators program choice places lists x =
    ((16 * choice.data_segment + places.state_at ≤ x) × (x < 16 * choice.data_segment + places.state_at + 4))
    ⊎ ((b : ℕ) × IsAmong b (free_blocks lists) × (block_address choice b ≤ x) × (x < block_address choice b + 8))

-- ---- the runtime's data, and the heap before the first New

-- the unit OVERLAY has the three data with their sizes
pub record HoldsHeapData (program : FlatProgram) : Type 0 where
  pub unit : UnitCode
  pub is_there : program.unit overlay_unit ≡ Some unit
  pub segment : Datum
  pub segment_there : slice_get unit.globals 1 ≡ Some segment
  pub segment_size : segment.size ≡ 2
  pub bytes : Datum
  pub bytes_there : slice_get unit.globals 2 ≡ Some bytes
  pub bytes_size : bytes.size ≡ 4
  pub state : Datum
  pub state_there : slice_get unit.globals 4 ≡ Some state
  pub state_size : state.size ≡ 4

pub record ReachesHeapData (R : Mention → Type 0) : Type 0 where
  pub segment : R (ToDatum heap_segment_key)
  pub bytes : R (ToDatum heap_bytes_key)
  pub state : R (ToDatum heap_state_key)

-- the heap's segment and bytes, and zeros
pub record HeapBegins (program : FlatProgram) (choice : Choice) (places : HeapPlaces program choice) (m : Cells) : Type 0 where
  pub segment : HoldsWord m (16 * choice.data_segment + places.segment_at) choice.heap_segment
  pub low : HoldsWord m (16 * choice.data_segment + places.bytes_at) (program.heap % 65536)
  pub high : HoldsWord m (16 * choice.data_segment + places.bytes_at + 2) (program.heap / 65536)
  pub cut : HoldsWord m (16 * choice.data_segment + places.state_at) 0
  pub first : HoldsWord m (16 * choice.data_segment + places.state_at + 2) 0
  pub reached : (k : ℕ) → k < program.heap → m (16 * choice.heap_segment + k) ≡ Outside → ⊥

-- the runtime's words and those of free blocks are the same, and the heap can still be reached
pub record IsSameHeap (program : FlatProgram) (choice : Choice) (places : HeapPlaces program choice) (m n : Cells) (h : Heap) : Type 0 where
  pub allocators : (x : ℕ) → IsAllocators program choice places h.lists x → n x ≡ m x
  pub segment : (x : ℕ) → 16 * choice.data_segment + places.segment_at ≤ x → x < 16 * choice.data_segment + places.segment_at + 2 → n x ≡ m x
  pub bytes : (x : ℕ) → 16 * choice.data_segment + places.bytes_at ≤ x → x < 16 * choice.data_segment + places.bytes_at + 4 → n x ≡ m x
  pub reached : (k : ℕ) → k < program.heap → n (16 * choice.heap_segment + k) ≡ Outside → ⊥
