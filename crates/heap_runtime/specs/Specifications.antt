-- What the runtime promises of its routines on overlays and the heap, all of them.
use Rattle.std.specs.Prelude.{ℕ, ◌≤◌, ◌<◌, List, length, slice_index_or}
use Rattle.flat_code.specs.Program.{FlatProgram, Choice, ovr_name_key}
use Rattle.flat_code.specs.Meaning.{start_cells}
use Rattle.flat_code.specs.Legal.{Mention, ToDatum}
use Rattle.heap_runtime.specs.overlay.Data.{ovr_result_key, HasName}
use Rattle.heap_runtime.specs.overlay.Specifications.{Installs, SetsBuffer, ClearsBuffer}
use Rattle.heap_runtime.specs.heap.HeapMemory.{HeapPlaces, HeapBegins}
use Rattle.heap_runtime.specs.heap.Specifications.{Makes, Disposes}
use Rattle.heap_runtime.specs.clear.Specifications.{Clears}

pub record HeapWorks (program : FlatProgram) (choice : Choice) (result name : ℕ) : Type 0 where
  pub init : Installs program choice result name
  pub set_buffer : SetsBuffer program choice result
  pub clear_buffer : ClearsBuffer program choice result
  pub new : Makes program choice
  pub dispose : Disposes program choice
  pub clear : Clears program choice

-- two data that the routines on overlays use, beside those of the heap
pub record ReachesOverlay (R : Mention → Type 0) : Type 0 where
  pub result : R (ToDatum ovr_result_key)
  pub name : R (ToDatum ovr_name_key)

-- bytes that have room in the name of the overlay file
pub record IsFileName (name : List ℕ) : Type 0 where
  pub fits : length name ≤ 80
  pub small : (k : ℕ) → k < length name → slice_index_or name k 0 < 256

-- As a program starts its heap is empty, and the name of its overlay file is there.
pub record StartsHeap (program : FlatProgram) (choice : Choice) (places : HeapPlaces program choice) (result name : ℕ) : Type 0 where
  pub heap : HeapBegins program choice places (start_cells program choice)
  pub file : HasName program choice result name (start_cells program choice)
