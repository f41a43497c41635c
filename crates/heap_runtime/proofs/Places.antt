-- Where the data of the unit lie, by a legal choice.
use Rattle.std.proofs.Common.{◌≡◌, ℕ, ◌+◌, ◌*◌, ◌≤◌, inl, inr, Option, Some, None, refl, arith}
use Rattle.std.specs.Prelude.{IsSome}
use Rattle.flat_code.specs.Memory.{address_of}
use Rattle.flat_code.specs.Program.{FlatProgram, Choice, ovr_name_key}
use Rattle.flat_code.specs.Meaning.{stack_top}
use Rattle.flat_code.specs.Legal.{Mention, ToDatum, TakesData, IsLegal}
use Rattle.runtime_proofs.specs.strings_in_memory.Strings.{IsOffStack, place}
use Rattle.heap_runtime.specs.overlay.Data.{ovr_result_key, ovr_result_datum, ovr_name_datum, HasOverlay}
use Rattle.heap_runtime.specs.heap.HeapMemory.{HeapPlaces, HoldsHeapData, ReachesHeapData}
use Rattle.heap_runtime.proofs.heap.Places.{places-of}
use Rattle.heap_runtime.specs.scratch.Data.{scratch_key, scratch_datum, HasScratch}
use Rattle.heap_runtime.specs.Unit.{heap_code, heap_segment_datum, heap_bytes_datum, heap_state_datum, HoldsHeapUnit}
use Rattle.heap_runtime.specs.Specifications.{ReachesOverlay}

module _ (program : FlatProgram) (choice : Choice) (R : Mention → Type 0) (legal : IsLegal program choice R) (holds : HoldsHeapUnit program) where
  some-offset : (o : Option ℕ) → IsSome o → (offset : ℕ) × (o ≡ Some offset)
  some-offset None h = absurd cc
  some-offset (Some offset) h = (offset, refl)

  off-stack : (offset size : ℕ) → offset + size ≤ legal.data_bytes → IsOffStack choice (stack_top program) (place choice.data_segment offset) size
  off-stack offset size within i h below =
      let at : address_of (place choice.data_segment offset) i ≡ 16 * choice.data_segment + (offset + i) = omega (arith, within, h, legal.data_small, legal.data_end) in
      elim legal.data_stack [
        | inl low ↦ omega (arith, below.0, at, low, within, h)
        | inr high ↦ omega (arith, below.1, at, high)
      ]

  pub has-overlay : ReachesOverlay R → (result : ℕ) × (name : ℕ) × HasOverlay program choice result name
  has-overlay reaches =
      let one = some-offset (choice.datum ovr_result_key) ((legal.datum ovr_result_key).1 reaches.result) in
      let two = some-offset (choice.datum ovr_name_key) ((legal.datum ovr_name_key).1 reaches.name) in
      let result = one.0 in
      let name = two.0 in
      let takes_result : TakesData program choice (ToDatum ovr_result_key) result 2 = (heap_code, ovr_result_datum, holds.is_there, refl, one.1, refl) in
      let takes_name : TakesData program choice (ToDatum ovr_name_key) name 81 = (heap_code, ovr_name_datum, holds.is_there, refl, two.1, refl) in
      let in_result = legal.inside (ToDatum ovr_result_key) result 2 takes_result in
      let in_name = legal.inside (ToDatum ovr_name_key) name 81 takes_name in (
        result,
        name,
        record {
          result_is = one.1;
          name_is = two.1;
          result_small = omega (arith, in_result, legal.data_small);
          name_small = omega (arith, in_name, legal.data_small);
          segment = omega (arith, in_result, legal.data_end);
          result_off = off-stack result 2 in_result;
          name_off = off-stack name 81 in_name;
        },
      )

  -- the heap's data stand in the unit
  pub heap-data : HoldsHeapData program
  heap-data = record {
    unit = heap_code;
    is_there = holds.is_there;
    segment = heap_segment_datum;
    segment_there = refl;
    segment_size = refl;
    bytes = heap_bytes_datum;
    bytes_there = refl;
    bytes_size = refl;
    state = heap_state_datum;
    state_there = refl;
    state_size = refl;
  }

  pub heap-places : ReachesHeapData R → program.heap ≤ 196608 → HeapPlaces program choice
  heap-places reaches small = places-of program choice R legal heap-data reaches small

  pub has-scratch : R (ToDatum scratch_key) → (scratch : ℕ) × HasScratch program choice scratch
  has-scratch reaches =
      let one = some-offset (choice.datum scratch_key) ((legal.datum scratch_key).1 reaches) in
      let scratch = one.0 in
      let takes : TakesData program choice (ToDatum scratch_key) scratch 8 = (heap_code, scratch_datum, holds.is_there, refl, one.1, refl) in
      let within = legal.inside (ToDatum scratch_key) scratch 8 takes in (
        scratch,
        record { scratch_is = one.1; scratch_small = omega (arith, within, legal.data_small); scratch_off = off-stack scratch 8 within },
      )
