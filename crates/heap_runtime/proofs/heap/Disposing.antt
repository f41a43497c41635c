-- Dispose: what the routine does with a block that lives, and with nil.
use Rattle.std.proofs.Common.{◌≡◌, ◌≢◌, ℕ, suc, ◌+◌, ◌-◌, ◌*◌, ◌/◌, ◌%◌, ◌≤◌, ◌<◌, ◌⊎◌, inl, inr, Bool, cond, List, [], ◌∷◌, length, Ok, pos, refl, sym, ap, subst, ◌∙◌, arith, ⊎_elim}
use Rattle.common_values.specs.integers.Words.{w16, wrapping_add, wrapping_sub, wrapping_mul}
use Rattle.common_values.specs.declared.blocks.Row.{Row}
use Rattle.common_values.specs.Blocks.{rounded, without_block}
use Rattle.flat_code.specs.declared.tree.FlatOp.TheVariants as op
use Rattle.flat_code.specs.declared.memory.Cell.TheVariants.{Outside}
use Rattle.flat_code.specs.Tree.{Number, Word, Op, End, ◌then◌}
use Rattle.flat_code.specs.Memory.{Cells, Found, ◌>>=◌}
use Rattle.flat_code.specs.Program.{FlatProgram, Choice, UnitCode, overlay_unit, runtime_key}
use Rattle.flat_code.specs.Meaning.{Frame, State, activation_bytes, stack_top, frame_of}
use Rattle.flat_code.specs.Legal.{StackFits}
use Rattle.flat_code.specs.Gives.{KeepsRest, HasStack, IsBelow, AreWords, Ends, Raises}
use Rattle.flat_code.proofs.Stack.{with_word}
use Rattle.runtime_proofs.specs.routine_proofs.Activation.{Shut, Holds, Activation, HoldsWord, IsPlaced}
use Rattle.runtime_proofs.specs.routine_proofs.Straight.{Onward, Failing, Came, seen_value, continued, straight, code_size}
use Rattle.runtime_proofs.specs.routine_proofs.Comes.{Does}
use Rattle.runtime_proofs.specs.routine_proofs.Entry.{entered, memory_without}
use Rattle.runtime_proofs.specs.routine_proofs.Specifications.{IsHeld}
use Rattle.runtime_proofs.proofs.routine_proofs.Replies.{next_of, taken-so, other-so}
use Rattle.runtime_proofs.proofs.routine_proofs.Doing.{weaker-does, then-does, skip-does, straight-does}
use Rattle.runtime_proofs.proofs.routine_proofs.Calls.{call-ends, call-raises, placed, starts}
use Rattle.runtime_proofs.specs.string_loops.Pieces.{word}
use Rattle.runtime_proofs.proofs.string_loops.Seen.{op-so}
use Rattle.runtime_proofs.proofs.string_loops.Entry.{kept}
use Rattle.heap_runtime.specs.heap.Heap.{Block, FreeList, Heap, eights, disposed, dropped, put_in, free_blocks, IsSound}
use Rattle.heap_runtime.specs.heap.HeapMemory.{block_address, HasLinks, HasLists, HeapPlaces, HoldsHeap, HeapStands, IsAmong, IsAllocators}
use Rattle.heap_runtime.specs.heap.Routines.{heap_segment, first_at, block_at, wanted, disposed_at, word_behind, put_second, disposed_number, begin_list, dispose_end, refuse_nil, find_list, dispose_routine}
use Rattle.heap_runtime.specs.heap.Specifications.{dispose_number, heap_turns, heap_cost, Disposes}
use Rattle.heap_runtime.proofs.heap.Among.{IsOf, of-contains}
use Rattle.heap_runtime.proofs.heap.Lists.{free-among, lists-among}
use Rattle.heap_runtime.proofs.heap.Sound.{disposed-sound, disposed-counts, free-inside, live-inside, live-apart}
use Rattle.heap_runtime.proofs.heap.Links.{word-same, blocks-apart, head_of, head-word, from_found, before_found, found-among, found-has, has-found, has-nothing}
use Rattle.heap_runtime.proofs.heap.Finding.{Finding, AreInside, PointsTo, FoundList, finds, data-seen, behind-seen, behind-so, data-so}
use Rattle.heap_runtime.proofs.heap.Holding.{unwritten, still-reached, link_low, link_high, low-word, high-word, IsPart, holds-same, put-holds, begun-holds}
use Rattle.heap_runtime.proofs.heap.Taking.{decide-off, known-reached, known-behind}

-- ---- the words of the activation

module _ (program : FlatProgram) (choice : Choice) (own : Frame) (sp : ℕ) (is_placed : IsPlaced choice own sp 12) (own_unit : own.unit ≡ overlay_unit) (places : HeapPlaces program choice) (e : Activation) (segment offset size : ℕ) where
  abbrev at : ℕ → ℕ → ℕ → ℕ → ℕ → Cells → Activation
  at s o n c p m = record e { words = Holds segment ∷ Holds offset ∷ Holds size ∷ Shut ∷ Shut ∷ Shut ∷ Holds s ∷ Holds o ∷ Holds n ∷ Holds c ∷ Holds p ∷ []; memory = m }

  finding : Finding choice own 12 size at
  finding = record {
    memory = λ s o n c p m. refl;
    size_word = λ s o n c p m. refl;
    wanted_word = λ s o n c p m. refl;
    current_word = λ s o n c p m. refl;
    block = λ s o n c p plus m. refl;
    with_segment = λ s o n c p v m. refl;
    with_offset = λ s o n c p v m. refl;
    with_wanted = λ s o n c p v m. refl;
    with_current = λ s o n c p v m. refl;
    with_previous = λ s o n c p v m. refl;
  }

-- ---- a block that lives

module _ (program : FlatProgram) (choice : Choice) (own : Frame) (sp : ℕ) (is_placed : IsPlaced choice own sp 12) (own_unit : own.unit ≡ overlay_unit) (places : HeapPlaces program choice) (e : Activation) (d size : ℕ) (m : Cells) (h : Heap) (holds : HoldsHeap program choice places m h) (sound : IsSound h) (n p : ℕ) (d_inside : d < h.cut) where
  abbrev st : ℕ → ℕ → ℕ → Cells → Activation
  st s o c k = at program choice own sp is_placed own_unit places e (choice.heap_segment + d / 2) (8 * (d % 2)) size s o n c p k

  inside : (b : ℕ) → b < h.cut → block_address choice b + 8 ≤ 1048576
  inside b i = let r = holds.inside in let l = places.heap_end in omega (arith, i)

  reached : (b : ℕ) → b < h.cut → (y : ℕ) → block_address choice b ≤ y → y < block_address choice b + 8 → m y ≡ Outside → ⊥
  reached b i y low high out =
      let r = holds.inside in
      let k = y - 16 * choice.heap_segment in
      let same : 16 * choice.heap_segment + k ≡ y = omega (arith, low) in
      holds.reached k (omega (arith, i, low, high)) (ap m same ∙ out)

  -- behind the first one of its list
  module _ (l : FreeList) (rest : List FreeList) (found : from_found n h.lists ≡ l ∷ rest) (d_other : d ≢ l.first) where
    abbrev hf : ℕ
    hf = choice.heap_segment + l.first / 2

    abbrev gf : ℕ
    gf = 8 * (l.first % 2)

    l_inside : l.first < h.cut
    l_inside = free-inside l.first h sound (found-among n h.lists l rest found)

    links : HasLinks choice m (block_address choice l.first) l.others
    links = let f = found-has choice m n (16 * choice.data_segment + places.state_at + 2) h.lists holds.lists in (subst (λ (ls : List FreeList). HasLists choice m f.0 ls) found f.1).1

    abbrev p1 : Cells
    p1 = with_word m (block_address choice d) (link_low l.others)

    abbrev p2 : Cells
    p2 = with_word p1 (block_address choice d + 2) (link_high choice l.others)

    abbrev p3 : Cells
    p3 = with_word p2 (block_address choice l.first) (8 * (d % 2))

    abbrev p4 : Cells
    p4 = with_word p3 (block_address choice l.first + 2) (choice.heap_segment + d / 2)

    puts-second : straight choice own 12 put_second (st hf gf (suc l.first) m) ≡ Ok (record { exit = Onward; there = st hf gf (suc l.first) p4 })
    puts-second =
        let c1 = next_of put_second in
        let c2 = next_of c1 in
        let c3 = next_of c2 in
        let a0 = st hf gf (suc l.first) m in
        let a1 = st hf gf (suc l.first) p1 in
        let a2 = st hf gf (suc l.first) p2 in
        let a3 = st hf gf (suc l.first) p3 in
        let di = inside d d_inside in
        let fi = inside l.first l_inside in
        let low = low-word choice m (block_address choice l.first) l.others links in
        let high = high-word choice m (block_address choice l.first) l.others links in
        let aside = λ (y : ℕ) (u : block_address choice l.first ≤ y) (v : y < block_address choice l.first + 8). unwritten m (block_address choice d) (link_low l.others) y (⊎_elim (λ (z : y < block_address choice d). inl z) (λ (z : block_address choice d + 8 ≤ y). inr (omega (arith, z))) (blocks-apart choice l.first d y (λ same. d_other (sym same)) u v)) in
        let high1 : HoldsWord p1 (block_address choice l.first + 2) (link_high choice l.others) = record {
          low = aside (block_address choice l.first + 2) (omega arith) (omega arith) ∙ high.low;
          high = aside (block_address choice l.first + 2 + 1) (omega arith) (omega arith) ∙ high.high;
          small = high.small;
        } in
        let r1 = λ (y : ℕ) (z : m y ≡ Outside → ⊥). still-reached m (block_address choice d) (link_low l.others) y z in
        let r2 = λ (y : ℕ) (z : m y ≡ Outside → ⊥). still-reached p1 (block_address choice d + 2) (link_high choice l.others) y (r1 y z) in
        let r3 = λ (y : ℕ) (z : m y ≡ Outside → ⊥). still-reached p2 (block_address choice l.first) (8 * (d % 2)) y (r2 y z) in
        behind-so program choice own 12 own_unit places a0 disposed_at d 0 (block_address choice d) (link_low l.others) (word_behind block_at 0) c1 (behind-seen program choice own 12 own_unit places a0 block_at l.first 0 (block_address choice l.first) (link_low l.others) refl (omega arith) fi (omega arith) low) refl (omega arith) di (omega arith) (reached d d_inside)
        ∙ behind-so program choice own 12 own_unit places a1 disposed_at d 2 (block_address choice d + 2) (link_high choice l.others) (word_behind block_at 2) c2 (behind-seen program choice own 12 own_unit places a1 block_at l.first 2 (block_address choice l.first + 2) (link_high choice l.others) refl (omega arith) fi refl high1) refl (omega arith) di refl (λ y u v. r1 y (reached d d_inside y u v))
        ∙ behind-so program choice own 12 own_unit places a2 block_at l.first 0 (block_address choice l.first) (8 * (d % 2)) (word disposed_at) c3 refl refl (omega arith) fi (omega arith) (λ y u v. r2 y (reached l.first l_inside y u v))
        ∙ behind-so program choice own 12 own_unit places a3 block_at l.first 2 (block_address choice l.first + 2) (choice.heap_segment + d / 2) (word (pos 10)) End refl refl (omega arith) fi refl (λ y u v. r3 y (reached l.first l_inside y u v))

    pub put-does : Does program choice own sp dispose_end 0 72 (st hf gf (suc l.first) m) Onward (st hf gf (suc l.first) p4)
    put-does =
        let a0 = st hf gf (suc l.first) m in
        let there = st hf gf (suc l.first) p4 in
        let came : Came = record { exit = Onward; there = there } in
        weaker-does program choice own sp dispose_end 0 (code_size dispose_end) 0 72 a0 Onward there (omega arith) (omega arith)
        (straight-does program choice own sp 12 is_placed dispose_end a0 Onward there
        (taken-so choice own 12 dispose_end a0 (suc l.first) came refl (λ z. omega (arith, z))
        (ap (λ (x : Found Came). x >>= λ c. continued c.exit c.there (straight choice own 12 End)) puts-second)))

  -- as the first list
  module _ (s o : ℕ) (few : n < 65536) where
    abbrev b1 : Cells
    b1 = with_word m (block_address choice d) 0

    abbrev b2 : Cells
    b2 = with_word b1 (block_address choice d + 2) 0

    abbrev b3 : Cells
    b3 = with_word b2 (block_address choice d + 4) (head_of h.lists)

    abbrev b4 : Cells
    b4 = with_word b3 (block_address choice d + 6) n

    abbrev b5 : Cells
    b5 = with_word b4 (16 * choice.data_segment + places.state_at + 2) (suc d)

    -- a block's words are none of the data
    block-off : (y : ℕ) → 16 * choice.data_segment ≤ y → y < 16 * choice.data_segment + places.data_bytes → (y < block_address choice d) ⊎ (block_address choice d + 8 ≤ y)
    block-off y u v = let r = holds.inside in ⊎_elim (λ (z : 16 * choice.data_segment + places.data_bytes ≤ 16 * choice.heap_segment). inl (omega (arith, z, v))) (λ (z : 16 * choice.heap_segment + program.heap ≤ 16 * choice.data_segment). inr (omega (arith, z, d_inside, r, u))) places.data_heap

    off1 : (y : ℕ) → 16 * choice.data_segment ≤ y → y < 16 * choice.data_segment + places.data_bytes → b1 y ≡ m y
    off1 y u v = unwritten m (block_address choice d) 0 y (⊎_elim (λ (z : y < block_address choice d). inl z) (λ (z : block_address choice d + 8 ≤ y). inr (omega (arith, z))) (block-off y u v))

    off2 : (y : ℕ) → 16 * choice.data_segment ≤ y → y < 16 * choice.data_segment + places.data_bytes → b2 y ≡ m y
    off2 y u v = unwritten b1 (block_address choice d + 2) 0 y (⊎_elim (λ (z : y < block_address choice d). inl (omega (arith, z))) (λ (z : block_address choice d + 8 ≤ y). inr (omega (arith, z))) (block-off y u v)) ∙ off1 y u v

    off4 : (y : ℕ) → 16 * choice.data_segment ≤ y → y < 16 * choice.data_segment + places.data_bytes → b4 y ≡ m y
    off4 y u v =
        unwritten b3 (block_address choice d + 6) n y (⊎_elim (λ (z : y < block_address choice d). inl (omega (arith, z))) (λ (z : block_address choice d + 8 ≤ y). inr (omega (arith, z))) (block-off y u v))
        ∙ unwritten b2 (block_address choice d + 4) (head_of h.lists) y (⊎_elim (λ (z : y < block_address choice d). inl (omega (arith, z))) (λ (z : block_address choice d + 8 ≤ y). inr (omega (arith, z))) (block-off y u v))
        ∙ off2 y u v

    -- the block's number from its pointer
    sub-is : (base k : ℕ) → base + k < 65536 → wrapping_sub w16 (base + k) base ≡ k
    sub-is base k z = omega (arith, z)

    twice-is : (k : ℕ) → k < 32768 → wrapping_mul w16 k 2 ≡ 2 * k
    twice-is k z = omega (arith, z)

    eighth-is : (k : ℕ) → (8 * (k % 2)) / 8 ≡ k % 2
    eighth-is k = omega arith

    whole-is : (k : ℕ) → k < 65535 → wrapping_add w16 (wrapping_add w16 (2 * (k / 2)) (k % 2)) 1 ≡ suc k
    whole-is k z = omega (arith, z)

    number-seen : (k : Cells) → HoldsWord k (16 * choice.data_segment + places.segment_at) choice.heap_segment → seen_value choice own 12 (st s o 0 k) disposed_number ≡ Ok (suc d)
    number-seen k has =
        let a = st s o 0 k in
        let u = places.segment_in in
        let r = holds.inside in
        let t = places.heap_small in
        let l = places.heap_end in
        let base = data-seen program choice own 12 own_unit places a 1 places.segment_at 0 (16 * choice.data_segment + places.segment_at) choice.heap_segment places.segment_is (omega arith) (omega arith) has in
        let half = op-so choice own 12 op.Sub (word (pos 10)) heap_segment a (choice.heap_segment + d / 2) choice.heap_segment refl base ∙ ap (λ (v : ℕ). let w : Found ℕ = Ok v in w) (sub-is choice.heap_segment (d / 2) (omega (arith, d_inside))) in
        let twice = op-so choice own 12 op.Mul (Op op.Sub (word (pos 10)) heap_segment) (Number 2) a (d / 2) 2 half refl ∙ ap (λ (v : ℕ). let w : Found ℕ = Ok v in w) (twice-is (d / 2) (omega (arith, d_inside))) in
        let odd = op-so choice own 12 op.DivUnsigned (word disposed_at) (Number 8) a (8 * (d % 2)) 8 refl refl ∙ ap (λ (v : ℕ). let w : Found ℕ = Ok v in w) (eighth-is d) in
        let sum = op-so choice own 12 op.Add (Op op.Mul (Op op.Sub (word (pos 10)) heap_segment) (Number 2)) (Op op.DivUnsigned (word disposed_at) (Number 8)) a (2 * (d / 2)) (d % 2) twice odd in
        op-so choice own 12 op.Add (Op op.Add (Op op.Mul (Op op.Sub (word (pos 10)) heap_segment) (Number 2)) (Op op.DivUnsigned (word disposed_at) (Number 8))) (Number 1) a (wrapping_add w16 (2 * (d / 2)) (d % 2)) 1 sum refl
        ∙ ap (λ (v : ℕ). let w : Found ℕ = Ok v in w) (whole-is d (omega (arith, d_inside)))

    begins-list : straight choice own 12 begin_list (st s o 0 m) ≡ Ok (record { exit = Onward; there = st s o 0 b5 })
    begins-list =
        let c1 = next_of begin_list in
        let c2 = next_of c1 in
        let c3 = next_of c2 in
        let c4 = next_of c3 in
        let a0 = st s o 0 m in
        let a1 = st s o 0 b1 in
        let a2 = st s o 0 b2 in
        let a3 = st s o 0 b3 in
        let a4 = st s o 0 b4 in
        let di = inside d d_inside in
        let u = places.state_in in
        let v = places.segment_in in
        let head = head-word choice m (16 * choice.data_segment + places.state_at + 2) h.lists holds.lists in
        let head2 = word-same m b2 (16 * choice.data_segment + places.state_at + 2) (head_of h.lists) (λ y x w. off2 y (omega (arith, x)) (omega (arith, w, u))) head in
        let head4 = word-same m b4 (16 * choice.data_segment + places.state_at + 2) (head_of h.lists) (λ y x w. off4 y (omega (arith, x)) (omega (arith, w, u))) head in
        let segment4 = word-same m b4 (16 * choice.data_segment + places.segment_at) choice.heap_segment (λ y x w. off4 y (omega (arith, x)) (omega (arith, w, v))) holds.segment in
        let r1 = λ (y : ℕ) (z : m y ≡ Outside → ⊥). still-reached m (block_address choice d) 0 y z in
        let r2 = λ (y : ℕ) (z : m y ≡ Outside → ⊥). still-reached b1 (block_address choice d + 2) 0 y (r1 y z) in
        let r3 = λ (y : ℕ) (z : m y ≡ Outside → ⊥). still-reached b2 (block_address choice d + 4) (head_of h.lists) y (r2 y z) in
        behind-so program choice own 12 own_unit places a0 disposed_at d 0 (block_address choice d) 0 (Number 0) c1 refl refl (omega arith) di (omega arith) (reached d d_inside)
        ∙ behind-so program choice own 12 own_unit places a1 disposed_at d 2 (block_address choice d + 2) 0 (Number 0) c2 refl refl (omega arith) di refl (λ y x w. r1 y (reached d d_inside y x w))
        ∙ behind-so program choice own 12 own_unit places a2 disposed_at d 4 (block_address choice d + 4) (head_of h.lists) (Word first_at) c3
        (data-seen program choice own 12 own_unit places a2 4 places.state_at 2 (16 * choice.data_segment + places.state_at + 2) (head_of h.lists) places.state_is (omega arith) refl head2) refl (omega arith) di refl (λ y x w. r2 y (reached d d_inside y x w))
        ∙ behind-so program choice own 12 own_unit places a3 disposed_at d 6 (block_address choice d + 6) n (word wanted) c4 refl refl (omega arith) di refl (λ y x w. r3 y (reached d d_inside y x w))
        ∙ data-so program choice own 12 own_unit places a4 4 places.state_at 2 (16 * choice.data_segment + places.state_at + 2) (suc d) disposed_number End (number-seen b4 segment4) places.state_is (omega arith) refl
        (known-reached b4 (16 * choice.data_segment + places.state_at + 2) (head_of h.lists) head4) (known-behind b4 (16 * choice.data_segment + places.state_at + 2) (head_of h.lists) head4)

    pub begin-does : Does program choice own sp dispose_end 0 72 (st s o 0 m) Onward (st s o 0 b5)
    begin-does =
        let a0 = st s o 0 m in
        let there = st s o 0 b5 in
        let came : Came = record { exit = Onward; there = there } in
        weaker-does program choice own sp dispose_end 0 (code_size dispose_end) 0 72 a0 Onward there (omega arith) (omega arith)
        (straight-does program choice own sp 12 is_placed dispose_end a0 Onward there
        (other-so choice own 12 dispose_end a0 0 came refl refl
        (ap (λ (x : Found Came). x >>= λ c. continued c.exit c.there (straight choice own 12 End)) begins-list)))

-- ---- the promise

module _ (program : FlatProgram) (choice : Choice) (unit : UnitCode) (fits : StackFits program choice) (held_so : IsHeld program (runtime_key dispose_number) unit dispose_routine)
    (places : HeapPlaces program choice) (size : ℕ) (h : Heap) (rows : List Row) (f : Frame) (s : State) (small : size < 65536) (stack : HasStack program 64 f) (stands : HeapStands program choice places s.cells h rows) where
  abbrev n : ℕ
  n = eights size

  abbrev m : Cells
  m = memory_without choice f.sp s.cells

  abbrev own : Frame
  own = frame_of (runtime_key dispose_number).unit unit dispose_routine f

  room : activation_bytes dispose_routine ≤ f.sp
  room = omega (arith, stack.room)

  few : n < 65536
  few = omega (arith, small)

  free_in : (b : ℕ) → IsAmong b (free_blocks h.lists) → b < h.cut
  free_in b among = free-inside b h stands.sound among

  -- no part of the heap is in the stack
  off : (y : ℕ) → IsPart program choice places y → IsBelow choice f.sp y → ⊥
  off y (inl part) below = ⊎_elim (λ (e : 16 * choice.data_segment + places.data_bytes ≤ 16 * choice.stack_segment). omega (arith, e, part.1, below.0)) (λ (e : 16 * choice.stack_segment + stack_top program ≤ 16 * choice.data_segment). omega (arith, e, part.0, below.1, stack.inside)) places.data_stack
  off y (inr part) below = ⊎_elim (λ (e : 16 * choice.stack_segment + stack_top program ≤ 16 * choice.heap_segment). omega (arith, e, part.0, below.1, stack.inside)) (λ (e : 16 * choice.heap_segment + program.heap ≤ 16 * choice.stack_segment). omega (arith, e, part.1, below.0)) places.stack_heap

  holds : HoldsHeap program choice places m h
  holds = holds-same program choice places s.cells m h free_in (λ y part. kept choice f.sp s.cells y (off y part)) stands.holds

  in_memory : AreInside choice (free_blocks h.lists)
  in_memory b among = let i = free_in b among in let r = holds.inside in let l = places.heap_end in let t = places.heap_small in (omega arith, omega arith)

  -- nil
  nil-raises : Raises program choice (runtime_key dispose_number) (λ after code. (code ≡ 204) × KeepsRest s after) (heap_turns h) (heap_cost h) (0 ∷ 0 ∷ size ∷ []) f s
  nil-raises =
      let args = 0 ∷ 0 ∷ size ∷ [] in
      let words : AreWords 3 args = (omega arith, (omega arith, (small, tt))) in
      let here = placed program choice (runtime_key dispose_number) unit dispose_routine held_so fits args f s refl room stack.inside in
      let start = entered choice f.sp 10 args s in
      let refused : straight choice own 12 refuse_nil start ≡ Ok (record { exit = Failing 204; there = start }) = refl in
      let does = weaker-does program choice own f.sp dispose_routine.body 0 (code_size refuse_nil) (heap_turns h) (heap_cost h) start (Failing 204) start (omega arith) (omega arith)
      (skip-does program choice own f.sp refuse_nil (find_list then dispose_end) 0 (code_size refuse_nil) start (Failing 204) start tt (straight-does program choice own f.sp 12 here refuse_nil start (Failing 204) start refused)) in
      call-raises program choice (runtime_key dispose_number) unit dispose_routine held_so fits args f s refl room stack.inside
      (λ after code. (code ≡ 204) × KeepsRest s after) (heap_turns h) (heap_cost h) 204 start
      (does _ (starts program choice (runtime_key dispose_number) unit dispose_routine held_so fits args f s refl room stack.inside 3 words))
      (λ after same. (refl, record { flag = same.0; input = same.1; out = same.2; err = same.3 }))

  module _ (d : ℕ) (live : IsOf (record { at = d; size = eights size }) h.live) where
    abbrev block : Block
    block = record { at = d; size = eights size }

    d_in : d < h.cut
    d_in = live-inside block h stands.sound live

    d_free : IsAmong d (free_blocks h.lists) → ⊥
    d_free = live-apart block h stands.sound live

    abbrev args : List ℕ
    args = (choice.heap_segment + d / 2) ∷ (8 * (d % 2)) ∷ size ∷ []

    abbrev start : Activation
    start = entered choice f.sp 10 ((choice.heap_segment + d / 2) ∷ (8 * (d % 2)) ∷ size ∷ []) s

    words : AreWords 3 ((choice.heap_segment + d / 2) ∷ (8 * (d % 2)) ∷ size ∷ [])
    words = let r = holds.inside in let l = places.heap_end in (omega (arith, d_in), (omega arith, (small, tt)))

    here : IsPlaced choice own f.sp 12
    here = placed program choice (runtime_key dispose_number) unit dispose_routine held_so fits ((choice.heap_segment + d / 2) ∷ (8 * (d % 2)) ∷ size ∷ []) f s refl room stack.inside

    abbrev there : ℕ → ℕ → ℕ → ℕ → Cells → Activation
    there v w c p k = at program choice own f.sp here refl places start (choice.heap_segment + d / 2) (8 * (d % 2)) size v w n c p k

    found_list : FoundList program choice own f.sp 12 here refl places size (at program choice own f.sp here refl places start (choice.heap_segment + d / 2) (8 * (d % 2)) size) (finding program choice own f.sp here refl places start (choice.heap_segment + d / 2) (8 * (d % 2)) size) m holds.segment start h.lists
    found_list = finds program choice own f.sp 12 here refl places size (at program choice own f.sp here refl places start (choice.heap_segment + d / 2) (8 * (d % 2)) size) (finding program choice own f.sp here refl places start (choice.heap_segment + d / 2) (8 * (d % 2)) size) m holds.segment start h.lists small refl holds.lists in_memory

    abbrev Promise : Type 0
    Promise = Ends program choice (runtime_key dispose_number) (IsAllocators program choice places (disposed (record { at = d; size = eights size }) h).lists)
        (λ after bytes. (bytes ≡ []) × HeapStands program choice places after.cells (disposed (record { at = d; size = eights size }) h) (without_block (rounded size) rows) × KeepsRest s after)
        (heap_turns h) (heap_cost h) ((choice.heap_segment + d / 2) ∷ (8 * (d % 2)) ∷ size ∷ []) f s

    -- it is no nil
    goes-on : Does program choice own f.sp refuse_nil 0 (code_size refuse_nil) start Onward start
    goes-on =
        let some = places.heap_first in
        straight-does program choice own f.sp 12 here refuse_nil start Onward start
        (taken-so choice own 12 refuse_nil start (choice.heap_segment + d / 2) (record { exit = Onward; there = start }) refl (λ z. omega (arith, z, some)) refl)

    whole : (before after : Activation) → Does program choice own f.sp find_list (1 + length h.lists) (84 + 40 * length h.lists) start Onward before → Does program choice own f.sp dispose_end 0 72 before Onward after → Does program choice own f.sp dispose_routine.body (heap_turns h) (heap_cost h) start Onward after
    whole before after first last =
        weaker-does program choice own f.sp dispose_routine.body (0 + (1 + length h.lists + 0)) (code_size refuse_nil + (84 + 40 * length h.lists + 72)) (heap_turns h) (heap_cost h) start Onward after (omega arith) (omega arith)
        (then-does program choice own f.sp refuse_nil (find_list then dispose_end) 0 (code_size refuse_nil) (1 + length h.lists + 0) (84 + 40 * length h.lists + 72) start start Onward after goes-on
        (then-does program choice own f.sp find_list dispose_end (1 + length h.lists) (84 + 40 * length h.lists) 0 72 start before Onward after first last))

    -- a heap that holds
    ended : (v w c p : ℕ) (m' : Cells) → Does program choice own f.sp dispose_routine.body (heap_turns h) (heap_cost h) start Onward (there v w c p m') →
        HoldsHeap program choice places m' (disposed (record { at = d; size = eights size }) h) → ((x : ℕ) → (IsAllocators program choice places (disposed (record { at = d; size = eights size }) h).lists x → ⊥) → m' x ≡ m x) → Promise
    ended v w c p m' does holds' keeps =
        let sound' = disposed-sound block h stands.sound live in
        call-ends program choice (runtime_key dispose_number) unit dispose_routine held_so fits ((choice.heap_segment + d / 2) ∷ (8 * (d % 2)) ∷ size ∷ []) f s refl room stack.inside
        (IsAllocators program choice places (disposed (record { at = d; size = eights size }) h).lists)
        (λ after bytes. (bytes ≡ []) × HeapStands program choice places after.cells (disposed (record { at = d; size = eights size }) h) (without_block (rounded size) rows) × KeepsRest s after)
        (heap_turns h) (heap_cost h) Onward (there v w c p m') [] tt
        (does _ (starts program choice (runtime_key dispose_number) unit dispose_routine held_so fits ((choice.heap_segment + d / 2) ∷ (8 * (d % 2)) ∷ size ∷ []) f s refl room stack.inside 3 words))
        refl keeps
        (λ after left. (
          refl,
          record {
            holds = holds-same program choice places m' after.cells (disposed block h) (λ k among. free-inside k (disposed block h) sound' among) (λ y part. left.cells y (off y part)) holds';
            sound = sound';
            counts = disposed-counts block h rows stands.counts live;
          },
          record { flag = left.flag; input = left.input; out = left.out; err = left.err },
        ))

    -- behind the first one of its list
    by-put : (l : FreeList) (rest : List FreeList) → from_found n h.lists ≡ l ∷ rest → Promise
    by-put l rest e =
        let is = has-found n h.lists l rest e in
        let p = before_found n 0 h.lists in
        let among = found-among n h.lists l rest e in
        let to = λ (v w c : ℕ). there v w c (before_found n 0 h.lists) m in
        let points = subst (λ (ls : List FreeList). PointsTo choice ls found_list.s' found_list.o') e found_list.points in
        let d1 = subst (λ (ls : List FreeList). Does program choice own f.sp find_list (1 + length h.lists) (84 + 40 * length h.lists) start Onward (to found_list.s' found_list.o' (head_of ls))) e found_list.does in
        let d2 = subst (λ v. Does program choice own f.sp find_list (1 + length h.lists) (84 + 40 * length h.lists) start Onward (to v found_list.o' (suc l.first))) points.0 d1 in
        let d3 = subst (λ v. Does program choice own f.sp find_list (1 + length h.lists) (84 + 40 * length h.lists) start Onward (to (choice.heap_segment + l.first / 2) v (suc l.first))) points.1 d2 in
        let m1 = with_word m (block_address choice d) (link_low l.others) in
        let m2 = with_word m1 (block_address choice d + 2) (link_high choice l.others) in
        let m3 = with_word m2 (block_address choice l.first) (8 * (d % 2)) in
        let m4 = with_word m3 (block_address choice l.first + 2) (choice.heap_segment + d / 2) in
        ended (choice.heap_segment + l.first / 2) (8 * (l.first % 2)) (suc l.first) p m4
        (whole _ _ d3 (put-does program choice own f.sp here refl places start d size m h holds stands.sound n p d_in l rest e (λ z. d_free (subst (λ x. IsAmong x (free_blocks h.lists)) (sym z) among))))
        (subst (λ (v : Bool). HoldsHeap program choice places m4 (record { cut = h.cut; live = dropped block h.live; lists = cond v (put_in block h.lists) (record { size = eights size; first = d; others = [] } ∷ h.lists) })) (sym is)
        (put-holds program choice places m h holds free_in stands.sound.once block d_in d_free l rest e (dropped block h.live)))
        (λ x free.
        let a = block_address choice l.first in
        let b = block_address choice d in
        let aside = decide-off a 4 x (λ low high. free (inr (l.first, lists-among block l.first h.lists among, low, omega (arith, high)))) in
        let apart = decide-off b 4 x (λ low high. free (inr (d, free-among block h.lists, low, omega (arith, high)))) in
        unwritten m3 (a + 2) (choice.heap_segment + d / 2) x (⊎_elim (λ (z : x < a). inl (omega (arith, z))) (λ (z : a + 4 ≤ x). inr (omega (arith, z))) aside)
        ∙ unwritten m2 a (8 * (d % 2)) x (⊎_elim (λ (z : x < a). inl z) (λ (z : a + 4 ≤ x). inr (omega (arith, z))) aside)
        ∙ unwritten m1 (b + 2) (link_high choice l.others) x (⊎_elim (λ (z : x < b). inl (omega (arith, z))) (λ (z : b + 4 ≤ x). inr (omega (arith, z))) apart)
        ∙ unwritten m b (link_low l.others) x (⊎_elim (λ (z : x < b). inl z) (λ (z : b + 4 ≤ x). inr (omega (arith, z))) apart))

    -- as the first list
    by-begin : from_found n h.lists ≡ [] → Promise
    by-begin e =
        let is = has-nothing n h.lists e in
        let p = before_found n 0 h.lists in
        let d1 = subst (λ (ls : List FreeList). Does program choice own f.sp find_list (1 + length h.lists) (84 + 40 * length h.lists) start Onward (there found_list.s' found_list.o' (head_of ls) (before_found n 0 h.lists) m)) e found_list.does in
        let b = block_address choice d in
        let directory = 16 * choice.data_segment + places.state_at + 2 in
        let m1 = with_word m (block_address choice d) 0 in
        let m2 = with_word m1 (block_address choice d + 2) 0 in
        let m3 = with_word m2 (block_address choice d + 4) (head_of h.lists) in
        let m4 = with_word m3 (block_address choice d + 6) n in
        let m5 = with_word m4 (16 * choice.data_segment + places.state_at + 2) (suc d) in
        ended found_list.s' found_list.o' 0 p m5
        (whole _ _ d1 (begin-does program choice own f.sp here refl places start d size m h holds stands.sound n p d_in found_list.s' found_list.o' few))
        (subst (λ (v : Bool). HoldsHeap program choice places m5 (record { cut = h.cut; live = dropped block h.live; lists = cond v (put_in block h.lists) (record { size = eights size; first = d; others = [] } ∷ h.lists) })) (sym is)
        (begun-holds program choice places m h holds free_in stands.sound.once block d_in d_free few (dropped block h.live)))
        (λ x free.
        let apart = decide-off b 8 x (λ low high. free (inr (d, free-among block h.lists, low, high))) in
        let aside = decide-off directory 2 x (λ low high. free (inl (omega (arith, low), omega (arith, high)))) in
        unwritten m4 directory (suc d) x aside
        ∙ unwritten m3 (b + 6) n x (⊎_elim (λ (z : x < b). inl (omega (arith, z))) (λ (z : b + 8 ≤ x). inr (omega (arith, z))) apart)
        ∙ unwritten m2 (b + 4) (head_of h.lists) x (⊎_elim (λ (z : x < b). inl (omega (arith, z))) (λ (z : b + 8 ≤ x). inr (omega (arith, z))) apart)
        ∙ unwritten m1 (b + 2) 0 x (⊎_elim (λ (z : x < b). inl (omega (arith, z))) (λ (z : b + 8 ≤ x). inr (omega (arith, z))) apart)
        ∙ unwritten m b 0 x (⊎_elim (λ (z : x < b). inl z) (λ (z : b + 8 ≤ x). inr (omega (arith, z))) apart))

    ends : Promise
    ends = by (from_found n h.lists) refl
      where
        by : (ff : List FreeList) → from_found n h.lists ≡ ff → Promise
        by [] e = by-begin e
        by (l ∷ rest) e = by-put l rest e

pub disposes : (program : FlatProgram) (choice : Choice) (unit : UnitCode) → StackFits program choice → IsHeld program (runtime_key dispose_number) unit dispose_routine → Disposes program choice
disposes program choice unit fits held_so places size h rows f s small stack stands =
    (λ b live. ends program choice unit fits held_so places size h rows f s small stack stands b (of-contains (record { at = b; size = eights size }) h.live live), nil-raises program choice unit fits held_so places size h rows f s small stack stands)
