-- What the runtime promises of New and Dispose.
use Rattle.std.specs.Prelude.{◌≡◌, ℕ, ◌+◌, ◌*◌, ◌/◌, ◌%◌, ◌≤◌, ◌<◌, List, [], ◌∷◌, length}
use Rattle.std.specs.List.{Contains}
use Rattle.common_values.specs.declared.blocks.Row.{Row}
use Rattle.common_values.specs.Blocks.{rounded, block_sum, with_block, without_block}
use Rattle.flat_code.specs.Memory.{far_bytes}
use Rattle.flat_code.specs.Program.{FlatProgram, Choice, runtime_key}
use Rattle.flat_code.specs.Meaning.{Frame, State}
use Rattle.flat_code.specs.Gives.{KeepsRest, HasStack, Ends, Raises}
use Rattle.heap_runtime.specs.heap.Heap.{Heap, eights, made, new_block, disposed}
use Rattle.heap_runtime.specs.heap.HeapMemory.{block_place, HeapPlaces, HeapStands, IsAllocators}

abbrev pub new_number : ℕ
new_number = 771

abbrev pub dispose_number : ℕ
dispose_number = 772

-- how many turns and how much work a call takes at most, where there are so many free lists
abbrev pub heap_turns : Heap → ℕ
heap_turns h = 1 + length h.lists

abbrev pub heap_cost : Heap → ℕ
heap_cost h = 160 + 40 * length h.lists

-- New of a size: where the sum of blocks with the new one is in the heap, its pointer; else error 203
abbrev pub Makes : FlatProgram → Choice → Type 0
Makes program choice =
    (places : HeapPlaces program choice) (size : ℕ) (h : Heap) (rows : List Row) (f : Frame) (s : State) → size < 65536 → HasStack program 64 f → HeapStands program choice places s.cells h rows →
    (block_sum (with_block (rounded size) rows) ≤ program.heap →
    Ends program choice (runtime_key new_number) (IsAllocators program choice places h.lists)
    (λ after bytes. (bytes ≡ far_bytes (block_place choice (new_block (eights size) h))) × HeapStands program choice places after.cells (made (eights size) h) (with_block (rounded size) rows) × KeepsRest s after)
    (heap_turns h) (heap_cost h) (size ∷ []) f s)
    × (program.heap < block_sum (with_block (rounded size) rows) →
    Raises program choice (runtime_key new_number) (λ after code. (code ≡ 203) × KeepsRest s after) (heap_turns h) (heap_cost h) (size ∷ []) f s)

-- Dispose of a block that lives, by a pointer to it and its size, and of nil, which is error 204
abbrev pub Disposes : FlatProgram → Choice → Type 0
Disposes program choice =
    (places : HeapPlaces program choice) (size : ℕ) (h : Heap) (rows : List Row) (f : Frame) (s : State) → size < 65536 → HasStack program 64 f → HeapStands program choice places s.cells h rows →
    ((b : ℕ) → Contains h.live (record { at = b; size = eights size }) →
    Ends program choice (runtime_key dispose_number) (IsAllocators program choice places (disposed (record { at = b; size = eights size }) h).lists)
    (λ after bytes. (bytes ≡ []) × HeapStands program choice places after.cells (disposed (record { at = b; size = eights size }) h) (without_block (rounded size) rows) × KeepsRest s after)
    (heap_turns h) (heap_cost h) ((choice.heap_segment + b / 2) ∷ (8 * (b % 2)) ∷ size ∷ []) f s)
    × Raises program choice (runtime_key dispose_number) (λ after code. (code ≡ 204) × KeepsRest s after) (heap_turns h) (heap_cost h) (0 ∷ 0 ∷ size ∷ []) f s
