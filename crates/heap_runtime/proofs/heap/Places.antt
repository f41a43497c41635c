-- The places of the heap's words in a legal choice, and when a heap stands.
use Rattle.std.proofs.Common.{◌≡◌, ℕ, ◌+◌, ◌*◌, ◌≤◌, inl, inr, true, false, cond, List, [], Option, Some, None, refl, sym, ap, arith}
use Rattle.std.specs.Prelude.{IsSome, nat_lt}
use Rattle.std.proofs.lemmas.Bool.Decides.{nat_tests}
use Rattle.common_values.specs.declared.blocks.Row.{Row}
use Rattle.flat_code.specs.Memory.{Cells}
use Rattle.flat_code.specs.Program.{FlatProgram, Choice, heap_segment_key, heap_bytes_key}
use Rattle.flat_code.specs.Legal.{Mention, ToDatum, IsLegal}
use Rattle.heap_runtime.specs.heap.Heap.{Heap, empty_heap}
use Rattle.heap_runtime.specs.heap.HeapMemory.{heap_state_key, HeapPlaces, HeapStands, HoldsHeapData, ReachesHeapData, HeapBegins, IsSameHeap}
use Rattle.heap_runtime.proofs.heap.Links.{word-same, lists-kept}

some-of : (o : Option ℕ) → IsSome o → (x : ℕ) × (o ≡ Some x)
some-of None h = absurd (let e : false ≡ true = h in absurd cc)
some-of (Some x) h = (x, refl)

abbrev number-of : Mention → ℕ
number-of (ToDatum key) = key.number
number-of other = 0

pub places-of : (program : FlatProgram) (choice : Choice) (R : Mention → Type 0) → IsLegal program choice R → HoldsHeapData program → ReachesHeapData R → program.heap ≤ 196608 → HeapPlaces program choice
places-of program choice R legal held reaches small =
    let s = some-of (choice.datum heap_segment_key) ((legal.datum heap_segment_key).1 reaches.segment) in
    let b = some-of (choice.datum heap_bytes_key) ((legal.datum heap_bytes_key).1 reaches.bytes) in
    let t = some-of (choice.datum heap_state_key) ((legal.datum heap_state_key).1 reaches.state) in
    record {
      segment_at = s.0;
      bytes_at = b.0;
      state_at = t.0;
      segment_is = s.1;
      bytes_is = b.1;
      state_is = t.1;
      data_bytes = legal.data_bytes;
      segment_in = legal.inside (ToDatum heap_segment_key) s.0 2 (held.unit, held.segment, held.is_there, held.segment_there, s.1, sym held.segment_size);
      bytes_in = legal.inside (ToDatum heap_bytes_key) b.0 4 (held.unit, held.bytes, held.is_there, held.bytes_there, b.1, sym held.bytes_size);
      state_in = legal.inside (ToDatum heap_state_key) t.0 4 (held.unit, held.state, held.is_there, held.state_there, t.1, sym held.state_size);
      small = legal.data_small;
      data_end = legal.data_end;
      segment_apart = legal.apart (ToDatum heap_segment_key) (ToDatum heap_state_key) s.0 2 t.0 4 (λ e. omega (arith, ap number-of e)) (held.unit, held.segment, held.is_there, held.segment_there, s.1, sym held.segment_size) (held.unit, held.state, held.is_there, held.state_there, t.1, sym held.state_size);
      bytes_apart = legal.apart (ToDatum heap_bytes_key) (ToDatum heap_state_key) b.0 4 t.0 4 (λ e. omega (arith, ap number-of e)) (held.unit, held.bytes, held.is_there, held.bytes_there, b.1, sym held.bytes_size) (held.unit, held.state, held.is_there, held.state_there, t.1, sym held.state_size);
      data_heap = legal.data_heap;
      data_stack = legal.data_stack;
      stack_heap = legal.stack_heap;
      heap_first = legal.heap_first;
      heap_end = legal.heap_end;
      heap_small = small;
    }

none-below : (k : ℕ) → 0 + 0 ≡ cond (nat_lt k 0) 1 0
none-below k = grind (arith, nat_tests)

pub begins : (program : FlatProgram) (choice : Choice) (places : HeapPlaces program choice) (m : Cells) → HeapBegins program choice places m → HeapStands program choice places m empty_heap []
begins program choice places m begin = record {
  holds = record {
    segment = begin.segment;
    low = begin.low;
    high = begin.high;
    cut = begin.cut;
    lists = begin.first;
    reached = begin.reached;
    inside = omega arith;
  };
  sound = record { parts = none-below; blocks = tt; sizes = tt; once = tt; own = tt };
  counts = record { live = λ size. refl; most = λ size. omega arith; counted = tt; sum = omega arith };
}

pub stays : (program : FlatProgram) (choice : Choice) (places : HeapPlaces program choice) (m n : Cells) (h : Heap) (rows : List Row) → IsSameHeap program choice places m n h → HeapStands program choice places m h rows → HeapStands program choice places n h rows
stays program choice places m n h rows same stands =
    let holds = stands.holds in
    record {
      holds = record {
        segment = word-same m n _ _ same.segment holds.segment;
        low = word-same m n _ _ (λ y p q. same.bytes y p (omega (arith, q))) holds.low;
        high = word-same m n _ _ (λ y p q. same.bytes y (omega (arith, p)) (omega (arith, q))) holds.high;
        cut = word-same m n _ _ (λ y p q. same.allocators y (inl (p, omega (arith, q)))) holds.cut;
        lists = lists-kept choice m n (16 * choice.data_segment + places.state_at + 2) h.lists (λ y p q. same.allocators y (inl (omega (arith, p), omega (arith, q)))) (λ b y among p q. same.allocators y (inr (b, among, p, q))) holds.lists;
        reached = same.reached;
        inside = holds.inside;
      };
      sound = stands.sound;
      counts = stands.counts;
    }
