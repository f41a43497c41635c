-- The routines on overlays and the heap, as they stand in the unit.
use Rattle.std.proofs.Common.{ℕ, refl, sym}
use Rattle.flat_code.specs.Program.{FlatProgram, Choice}
use Rattle.flat_code.specs.Legal.{StackFits}
use Rattle.heap_runtime.specs.overlay.Data.{HasOverlay}
use Rattle.heap_runtime.proofs.overlay.Installing.{installs}
use Rattle.heap_runtime.proofs.overlay.Clearing.{sets-buffer, clears-buffer}
use Rattle.heap_runtime.proofs.heap.Making.{makes}
use Rattle.heap_runtime.proofs.heap.Disposing.{disposes}
use Rattle.heap_runtime.proofs.clear.Clearing.{clears}
use Rattle.heap_runtime.specs.Unit.{heap_code, HoldsHeapUnit}
use Rattle.heap_runtime.specs.Specifications.{HeapWorks}

pub heap-works : (program : FlatProgram) (choice : Choice) (result name : ℕ) → StackFits program choice → HoldsHeapUnit program → HasOverlay program choice result name → HeapWorks program choice result name
heap-works program choice result name fits holds there = record {
  init = installs program choice result name heap_code fits there (record { unit_is = sym holds.is_there; routine_is = refl; resident = holds.resident; untested = refl; far = refl; locals = refl });
  set_buffer = sets-buffer program choice result name heap_code fits there (record { unit_is = sym holds.is_there; routine_is = refl; resident = holds.resident; untested = refl; far = refl; locals = refl });
  clear_buffer = clears-buffer program choice result name heap_code fits there (record { unit_is = sym holds.is_there; routine_is = refl; resident = holds.resident; untested = refl; far = refl; locals = refl });
  new = makes program choice heap_code fits (record { unit_is = sym holds.is_there; routine_is = refl; resident = holds.resident; untested = refl; far = refl; locals = refl });
  dispose = disposes program choice heap_code fits (record { unit_is = sym holds.is_there; routine_is = refl; resident = holds.resident; untested = refl; far = refl; locals = refl });
  clear = clears program choice heap_code fits (record { unit_is = sym holds.is_there; routine_is = refl; resident = holds.resident; untested = refl; far = refl; locals = refl });
}
