-- New keeps its promise: it gives a free block or cuts one off, or fails where no room is left.
use Rattle.std.proofs.Common.{◌≡◌, ◌≢◌, ℕ, zero, suc, ◌+◌, ◌*◌, ◌/◌, ◌%◌, ◌≤◌, ◌<◌, ◌⊎◌, inl, inr, List, [], ◌∷◌, ◌++◌, length, Option, Some, refl, sym, ap, subst, ◌∙◌, arith, ⊎_elim}
use Rattle.std.specs.List.{AllByRecursion}
use Rattle.common_values.specs.declared.blocks.Row.{Row}
use Rattle.common_values.specs.Blocks.{rounded, block_sum, with_block}
use Rattle.flat_code.specs.Memory.{Cells, far_bytes}
use Rattle.flat_code.specs.Program.{FlatProgram, Choice, UnitCode, runtime_key}
use Rattle.flat_code.specs.Meaning.{Frame, State, activation_bytes, stack_top, frame_of}
use Rattle.flat_code.specs.Legal.{StackFits}
use Rattle.flat_code.specs.Gives.{KeepsRest, HasStack, IsBelow, AreWords, Ends, Raises}
use Rattle.flat_code.proofs.Stack.{with_word}
use Rattle.runtime_proofs.specs.routine_proofs.Activation.{Slot, Free, Holds, Activation, IsPlaced}
use Rattle.runtime_proofs.specs.routine_proofs.Straight.{Exit, Onward, Failing}
use Rattle.runtime_proofs.specs.routine_proofs.Comes.{Does}
use Rattle.runtime_proofs.specs.routine_proofs.Entry.{entered, memory_without}
use Rattle.runtime_proofs.specs.routine_proofs.Specifications.{IsHeld}
use Rattle.runtime_proofs.proofs.routine_proofs.Doing.{weaker-does, then-does}
use Rattle.runtime_proofs.proofs.routine_proofs.Calls.{call-ends, call-raises, placed, starts}
use Rattle.runtime_proofs.proofs.string_loops.Entry.{kept}
use Rattle.heap_runtime.specs.heap.Heap.{FreeList, Heap, eights, block_from, given, made, made_by, new_block, block_by, free_blocks}
use Rattle.heap_runtime.specs.heap.HeapMemory.{block_address, block_place, HeapPlaces, HoldsHeap, HeapStands, IsAmong, IsAllocators}
use Rattle.heap_runtime.specs.heap.Routines.{new_end, find_list, new_routine}
use Rattle.heap_runtime.specs.heap.Specifications.{new_number, heap_turns, heap_cost, Makes}
use Rattle.heap_runtime.proofs.heap.Lists.{given-among}
use Rattle.heap_runtime.proofs.heap.Sound.{made-sound, made-counts, sum-given, sum-none, free-inside}
use Rattle.heap_runtime.proofs.heap.Links.{head_of, from_found, before_found, spot, found-among, found-once, before-among, given-found, given-nothing}
use Rattle.heap_runtime.proofs.heap.Finding.{AreInside, PointsTo, FoundList, finds}
use Rattle.heap_runtime.proofs.heap.Holding.{unwritten, link_low, link_high, IsPart, holds-same, second-holds, last-holds, cut-holds}
use Rattle.heap_runtime.proofs.heap.Taking.{decide-off, st, at, finding, second-does, takes-first, takes-behind, ends-last, full-does, room-does}

module _ (program : FlatProgram) (choice : Choice) (unit : UnitCode) (fits : StackFits program choice) (held_so : IsHeld program (runtime_key new_number) unit new_routine)
    (places : HeapPlaces program choice) (size : ℕ) (h : Heap) (rows : List Row) (f : Frame) (s : State) (small : size < 65536) (stack : HasStack program 64 f) (stands : HeapStands program choice places s.cells h rows) where
  abbrev n : ℕ
  n = eights size

  abbrev m : Cells
  m = memory_without choice f.sp s.cells

  abbrev start : Activation
  start = entered choice f.sp 14 (size ∷ []) s

  abbrev own : Frame
  own = frame_of (runtime_key new_number).unit unit new_routine f

  room : activation_bytes new_routine ≤ f.sp
  room = omega (arith, stack.room)

  words : AreWords 1 (size ∷ [])
  words = (small, tt)

  here : IsPlaced choice own f.sp 8
  here = placed program choice (runtime_key new_number) unit new_routine held_so fits (size ∷ []) f s refl room stack.inside

  free_in : (b : ℕ) → IsAmong b (free_blocks h.lists) → b < h.cut
  free_in b among = free-inside b h stands.sound among

  -- no part of the heap is in the stack
  off : (y : ℕ) → IsPart program choice places y → IsBelow choice f.sp y → ⊥
  off y (inl part) below = ⊎_elim (λ (e : 16 * choice.data_segment + places.data_bytes ≤ 16 * choice.stack_segment). omega (arith, e, part.1, below.0)) (λ (e : 16 * choice.stack_segment + stack_top program ≤ 16 * choice.data_segment). omega (arith, e, part.0, below.1, stack.inside)) places.data_stack
  off y (inr part) below = ⊎_elim (λ (e : 16 * choice.stack_segment + stack_top program ≤ 16 * choice.heap_segment). omega (arith, e, part.0, below.1, stack.inside)) (λ (e : 16 * choice.heap_segment + program.heap ≤ 16 * choice.stack_segment). omega (arith, e, part.1, below.0)) places.stack_heap

  holds : HoldsHeap program choice places m h
  holds = holds-same program choice places s.cells m h free_in (λ y part. kept choice f.sp s.cells y (off y part)) stands.holds

  in_memory : AreInside choice (free_blocks h.lists)
  in_memory b among = let i = free_in b among in let r = holds.inside in let l = places.heap_end in let t = places.heap_small in (omega arith, omega arith)

  some : 0 < n
  some = omega arith

  few : n < 16384
  few = omega (arith, small)

  found_list : FoundList program choice own f.sp 8 here refl places size (at program choice own f.sp here refl places start size) (finding program choice own f.sp here refl places start size) m holds.segment start h.lists
  found_list = finds program choice own f.sp 8 here refl places size (at program choice own f.sp here refl places start size) (finding program choice own f.sp here refl places start size) m holds.segment start h.lists small refl holds.lists in_memory

  -- a pointer to the block, and a heap that holds
  ended : (q r : Slot) (b c p : ℕ) (m' : Cells) → Does program choice own f.sp new_routine.body (heap_turns h) (heap_cost h) start Onward (st program choice own f.sp here refl places start size q r (choice.heap_segment + b / 2) (8 * (b % 2)) n c p m') →
      HoldsHeap program choice places m' (made n h) → new_block n h ≡ b → ((x : ℕ) → (IsAllocators program choice places h.lists x → ⊥) → m' x ≡ m x) →
      Ends program choice (runtime_key new_number) (IsAllocators program choice places h.lists)
      (λ after bytes. (bytes ≡ far_bytes (block_place choice (new_block n h))) × HeapStands program choice places after.cells (made n h) (with_block (rounded size) rows) × KeepsRest s after)
      (heap_turns h) (heap_cost h) (size ∷ []) f s
  ended q r b c p m' does holds' is keeps =
      let sound' = made-sound n h some stands.sound in
      call-ends program choice (runtime_key new_number) unit new_routine held_so fits (size ∷ []) f s refl room stack.inside
      (IsAllocators program choice places h.lists)
      (λ after bytes. (bytes ≡ far_bytes (block_place choice (new_block n h))) × HeapStands program choice places after.cells (made n h) (with_block (rounded size) rows) × KeepsRest s after)
      (heap_turns h) (heap_cost h) Onward (st program choice own f.sp here refl places start size q r (choice.heap_segment + b / 2) (8 * (b % 2)) n c p m') (far_bytes (block_place choice b)) tt
      (does _ (starts program choice (runtime_key new_number) unit new_routine held_so fits (size ∷ []) f s refl room stack.inside 1 words))
      refl keeps
      (λ after left. (
        ap (λ k. far_bytes (block_place choice k)) (sym is),
        record {
          holds = holds-same program choice places m' after.cells (made n h) (λ k among. free-inside k (made n h) sound' among) (λ y part. left.cells y (off y part)) holds';
          sound = sound';
          counts = made-counts n h rows stands.counts;
        },
        record { flag = left.flag; input = left.input; out = left.out; err = left.err },
      ))

  -- from the search to the end
  whole : (before : Activation) (exit : Exit) (there : Activation) → Does program choice own f.sp find_list (1 + length h.lists) (84 + 40 * length h.lists) start Onward before → Does program choice own f.sp new_end 0 76 before exit there → Does program choice own f.sp new_routine.body (heap_turns h) (heap_cost h) start exit there
  whole before exit there first last =
      weaker-does program choice own f.sp new_routine.body (1 + length h.lists + 0) (84 + 40 * length h.lists + 76) (heap_turns h) (heap_cost h) start exit there (omega arith) (omega arith)
      (then-does program choice own f.sp find_list new_end (1 + length h.lists) (84 + 40 * length h.lists) 0 76 start before exit there first last)

  abbrev Promise : Type 0
  Promise =
      (block_sum (with_block (rounded size) rows) ≤ program.heap →
      Ends program choice (runtime_key new_number) (IsAllocators program choice places h.lists)
      (λ after bytes. (bytes ≡ far_bytes (block_place choice (new_block n h))) × HeapStands program choice places after.cells (made n h) (with_block (rounded size) rows) × KeepsRest s after)
      (heap_turns h) (heap_cost h) (size ∷ []) f s)
      × (program.heap < block_sum (with_block (rounded size) rows) →
      Raises program choice (runtime_key new_number) (λ after code. (code ≡ 203) × KeepsRest s after) (heap_turns h) (heap_cost h) (size ∷ []) f s)

  -- a free block was given, so the sum is what it was
  with-given : (b : ℕ) → given n h.lists ≡ Some b → Ends program choice (runtime_key new_number) (IsAllocators program choice places h.lists)
      (λ after bytes. (bytes ≡ far_bytes (block_place choice (new_block n h))) × HeapStands program choice places after.cells (made n h) (with_block (rounded size) rows) × KeepsRest s after)
      (heap_turns h) (heap_cost h) (size ∷ []) f s → Promise
  with-given b is ends = (λ fits. ends, λ full. absurd (let g = sum-given n b h rows stands.counts is in let r = stands.holds.inside in omega (arith, full)))

  -- where the search stopped
  found-at : (l : FreeList) (rest : List FreeList) → from_found n h.lists ≡ l ∷ rest → Does program choice own f.sp find_list (1 + length h.lists) (84 + 40 * length h.lists) start Onward (at program choice own f.sp here refl places start size (choice.heap_segment + l.first / 2) (8 * (l.first % 2)) n (suc l.first) (before_found n 0 h.lists) m)
  found-at l rest e =
      let to = λ (s o c : ℕ). at program choice own f.sp here refl places start size s o n c (before_found n 0 h.lists) m in
      let points = subst (λ (ls : List FreeList). PointsTo choice ls found_list.s' found_list.o') e found_list.points in
      let d1 = subst (λ (ls : List FreeList). Does program choice own f.sp find_list (1 + length h.lists) (84 + 40 * length h.lists) start Onward (to found_list.s' found_list.o' (head_of ls))) e found_list.does in
      let d2 = subst (λ v. Does program choice own f.sp find_list (1 + length h.lists) (84 + 40 * length h.lists) start Onward (to v found_list.o' (suc l.first))) points.0 d1 in
      subst (λ v. Does program choice own f.sp find_list (1 + length h.lists) (84 + 40 * length h.lists) start Onward (to (choice.heap_segment + l.first / 2) v (suc l.first))) points.1 d2

  not-found : from_found n h.lists ≡ [] → Does program choice own f.sp find_list (1 + length h.lists) (84 + 40 * length h.lists) start Onward (at program choice own f.sp here refl places start size found_list.s' found_list.o' n 0 (before_found n 0 h.lists) m)
  not-found e = subst (λ (ls : List FreeList). Does program choice own f.sp find_list (1 + length h.lists) (84 + 40 * length h.lists) start Onward (at program choice own f.sp here refl places start size found_list.s' found_list.o' n (head_of ls) (before_found n 0 h.lists) m)) e found_list.does

  -- of several blocks the second one
  by-second : (l : FreeList) (rest : List FreeList) → from_found n h.lists ≡ l ∷ rest → (b : ℕ) (bs : List ℕ) → l.others ≡ b ∷ bs → Promise
  by-second l rest e b bs others =
      let is : given n h.lists ≡ Some b = given-found n h.lists l rest e ∙ ap (λ (os : List ℕ). Some (block_from l.first os)) others in
      let b_in = free_in b (given-among n b h.lists is) in
      let differs : b ≢ l.first = (subst (λ (os : List ℕ). AllByRecursion (λ c. c ≢ l.first) (os ++ free_blocks rest)) others (found-once n h.lists l rest e stands.sound.once).0).0 in
      let p = before_found n 0 h.lists in
      let among = found-among n h.lists l rest e in
      let m1 = with_word m (block_address choice l.first) (link_low bs) in
      let m2 = with_word m1 (block_address choice l.first + 2) (link_high choice bs) in
      with-given b is
      (ended (Holds (choice.heap_segment + b / 2)) (Holds (8 * (b % 2))) b (suc l.first) p m2
      (whole _ Onward _ (found-at l rest e) (second-does program choice own f.sp here refl places start size m h holds stands.sound n p l rest e b bs others b_in differs))
      (subst (λ (o : Option ℕ). HoldsHeap program choice places m2 (made_by o n h)) (sym is) (second-holds program choice places m h holds free_in stands.sound.once n l rest e b bs others (record { at = b; size = n } ∷ h.live)))
      (ap (λ (o : Option ℕ). block_by o h) is)
      (λ x free.
      let a = block_address choice l.first in
      let aside = decide-off a 4 x (λ low high. free (inr (l.first, among, low, omega (arith, high)))) in
      unwritten m1 (a + 2) (link_high choice bs) x (⊎_elim (λ (z : x < a). inl (omega (arith, z))) (λ (z : a + 4 ≤ x). inr (omega (arith, z))) aside)
      ∙ unwritten m a (link_low bs) x (⊎_elim (λ (z : x < a). inl z) (λ (z : a + 4 ≤ x). inr (omega (arith, z))) aside)))

  -- or the only one
  by-last : (l : FreeList) (rest : List FreeList) → from_found n h.lists ≡ l ∷ rest → l.others ≡ [] → Promise
  by-last l rest e alone = with-given l.first is (by (before_found n 0 h.lists) refl)
    where
      is : given n h.lists ≡ Some l.first
      is = given-found n h.lists l rest e ∙ ap (λ (os : List ℕ). Some (block_from l.first os)) alone

      p : ℕ
      p = before_found n 0 h.lists

      directory : ℕ
      directory = 16 * choice.data_segment + places.state_at + 2

      holds_last : (q : ℕ) → before_found n 0 h.lists ≡ q → HoldsHeap program choice places (with_word m (spot choice (16 * choice.data_segment + places.state_at + 2) q) (head_of rest)) (made n h)
      holds_last q same = subst (λ (o : Option ℕ). HoldsHeap program choice places (with_word m (spot choice (16 * choice.data_segment + places.state_at + 2) q) (head_of rest)) (made_by o n h)) (sym is)
          (subst (λ k. HoldsHeap program choice places (with_word m (spot choice (16 * choice.data_segment + places.state_at + 2) k) (head_of rest)) (made_by (Some l.first) n h)) same
          (last-holds program choice places m h holds free_in stands.sound.once n l rest e alone (record { at = l.first; size = n } ∷ h.live)))

      by : (q : ℕ) → before_found n 0 h.lists ≡ q → Ends program choice (runtime_key new_number) (IsAllocators program choice places h.lists)
          (λ after bytes. (bytes ≡ far_bytes (block_place choice (new_block n h))) × HeapStands program choice places after.cells (made n h) (with_block (rounded size) rows) × KeepsRest s after)
          (heap_turns h) (heap_cost h) (size ∷ []) f s
      by zero same =
          let m1 = with_word m (16 * choice.data_segment + places.state_at + 2) (head_of rest) in
          ended Free Free l.first (suc l.first) (before_found n 0 h.lists) m1
          (whole _ Onward _ (found-at l rest e) (ends-last program choice own f.sp here refl places start size m h holds stands.sound n (before_found n 0 h.lists) l rest e alone (at program choice own f.sp here refl places start size (choice.heap_segment + l.first / 2) (8 * (l.first % 2)) n (suc l.first) (before_found n 0 h.lists) m1)
          (takes-first program choice own f.sp here refl places start size m h holds stands.sound n (before_found n 0 h.lists) l rest e alone same)))
          (holds_last 0 same) (ap (λ (o : Option ℕ). block_by o h) is)
          (λ x free. unwritten m (16 * choice.data_segment + places.state_at + 2) (head_of rest) x (decide-off (16 * choice.data_segment + places.state_at + 2) 2 x (λ low high. free (inl (omega (arith, low), omega (arith, high))))))
      by (suc c) same =
          let among = before-among n h.lists c same in
          let c_in = free_in c among in
          let a = block_address choice c in
          let m1 = with_word m (block_address choice c + 4) (head_of rest) in
          ended (Holds (choice.heap_segment + c / 2)) (Holds (8 * (c % 2))) l.first (suc l.first) (before_found n 0 h.lists) m1
          (whole _ Onward _ (found-at l rest e) (ends-last program choice own f.sp here refl places start size m h holds stands.sound n (before_found n 0 h.lists) l rest e alone (st program choice own f.sp here refl places start size (Holds (choice.heap_segment + c / 2)) (Holds (8 * (c % 2))) (choice.heap_segment + l.first / 2) (8 * (l.first % 2)) n (suc l.first) (before_found n 0 h.lists) m1)
          (takes-behind program choice own f.sp here refl places start size m h holds stands.sound n (before_found n 0 h.lists) l rest e alone c c_in same)))
          (holds_last (suc c) same) (ap (λ (o : Option ℕ). block_by o h) is)
          (λ x free. unwritten m (block_address choice c + 4) (head_of rest) x (decide-off (block_address choice c + 4) 2 x (λ low high. free (inr (c, among, omega (arith, low), omega (arith, high))))))

  -- no block of that size is free
  by-none : from_found n h.lists ≡ [] → Promise
  by-none e =
      let is = given-nothing n h.lists e in
      let sum = sum-none n h rows stands.counts is in
      let p = before_found n 0 h.lists in
      let m1 = with_word m (16 * choice.data_segment + places.state_at) (h.cut + n) in (
        (λ fits_in.
            let room_in : 8 * h.cut + 8 * n ≤ program.heap = omega (arith, sum, fits_in) in
            ended Free Free h.cut (suc h.cut) p m1
            (whole _ Onward _ (not-found e) (room-does program choice own f.sp here refl places start size m h holds stands.sound n p found_list.s' found_list.o' some few room_in))
            (subst (λ (o : Option ℕ). HoldsHeap program choice places m1 (made_by o n h)) (sym is) (cut-holds program choice places m h holds free_in n room_in (record { at = h.cut; size = n } ∷ h.live)))
            (ap (λ (o : Option ℕ). block_by o h) is)
            (λ x free. unwritten m (16 * choice.data_segment + places.state_at) (h.cut + n) x (decide-off (16 * choice.data_segment + places.state_at) 2 x (λ low high. free (inl (low, omega (arith, high))))))),
        (λ full.
            call-raises program choice (runtime_key new_number) unit new_routine held_so fits (size ∷ []) f s refl room stack.inside
            (λ after code. (code ≡ 203) × KeepsRest s after) (heap_turns h) (heap_cost h) 203 (at program choice own f.sp here refl places start size found_list.s' found_list.o' n 0 p m)
            (whole _ (Failing 203) _ (not-found e) (full-does program choice own f.sp here refl places start size m h holds stands.sound n p found_list.s' found_list.o' some few (omega (arith, sum, full))) _
            (starts program choice (runtime_key new_number) unit new_routine held_so fits (size ∷ []) f s refl room stack.inside 1 words))
            (λ after same. (refl, record { flag = same.0; input = same.1; out = same.2; err = same.3 }))),
      )

  promise : Promise
  promise = by (from_found n h.lists) refl
    where
      by-others : (l : FreeList) (rest : List FreeList) → from_found n h.lists ≡ l ∷ rest → (os : List ℕ) → l.others ≡ os → Promise
      by-others l rest e [] same = by-last l rest e same
      by-others l rest e (b ∷ bs) same = by-second l rest e b bs same

      by : (ff : List FreeList) → from_found n h.lists ≡ ff → Promise
      by [] e = by-none e
      by (l ∷ rest) e = by-others l rest e l.others refl

pub makes : (program : FlatProgram) (choice : Choice) (unit : UnitCode) → StackFits program choice → IsHeld program (runtime_key new_number) unit new_routine → Makes program choice
makes program choice unit fits held_so places size h rows f s small stack stands = promise program choice unit fits held_so places size h rows f s small stack stands
