-- What New does with a free block, with the last one of its list, and where it cuts one off.
use Rattle.std.proofs.Common.{◌≡◌, ◌≢◌, ℕ, suc, ◌+◌, ◌-◌, ◌*◌, ◌/◌, ◌%◌, ◌≤◌, ◌<◌, ◌⊎◌, inl, inr, List, [], ◌∷◌, Ok, negsuc, refl, sym, ap, subst, ◌∙◌, arith, ⊎_elim}
use Rattle.std.specs.Prelude.{nat_lt}
use Rattle.std.proofs.lemmas.Bool.{cases_lt}
use Rattle.std.proofs.lemmas.Bool.Decides.{nat_tests}
use Rattle.common_values.specs.integers.Words.{w16, wrapping_add, wrapping_sub, wrapping_mul, low_byte, high_byte}
use Rattle.flat_code.specs.declared.tree.FlatOp.TheVariants as op
use Rattle.flat_code.specs.declared.memory.Cell.TheVariants.{Known, Outside}
use Rattle.flat_code.specs.Tree.{Expr, Number, Word, Op, End}
use Rattle.flat_code.specs.Memory.{Cells, Found, ◌>>=◌}
use Rattle.flat_code.specs.Program.{FlatProgram, Choice, overlay_unit}
use Rattle.flat_code.specs.Meaning.{Frame, truth}
use Rattle.flat_code.proofs.Stack.{with_word}
use Rattle.runtime_proofs.specs.routine_proofs.Activation.{Slot, Shut, Free, Holds, Activation, HoldsWord, IsPlaced}
use Rattle.runtime_proofs.specs.routine_proofs.Straight.{Exit, Onward, Failing, Came, seen_value, continued, straight, code_size}
use Rattle.runtime_proofs.specs.routine_proofs.Comes.{Does}
use Rattle.runtime_proofs.proofs.routine_proofs.Replies.{next_of, taken_of, taken-so, other-so}
use Rattle.runtime_proofs.proofs.routine_proofs.Doing.{weaker-does, straight-does}
use Rattle.runtime_proofs.specs.string_loops.Pieces.{word}
use Rattle.runtime_proofs.proofs.string_loops.Seen.{op-so, set-so}
use Rattle.heap_runtime.specs.heap.Heap.{FreeList, Heap, IsSound}
use Rattle.heap_runtime.specs.heap.HeapMemory.{block_address, HasLinks, HasLists, HeapPlaces, HoldsHeap}
use Rattle.heap_runtime.specs.heap.Routines.{heap_low, heap_high, cut_at, block_at, wanted, current, previous, other_at, word_behind, take_second, take_last, take_block, heap_eights, cut_block, new_end}
use Rattle.heap_runtime.proofs.heap.Sound.{free-inside}
use Rattle.heap_runtime.proofs.heap.Links.{head_of, head-word, from_found, spot, found-among, blocks-apart}
use Rattle.heap_runtime.proofs.heap.Finding.{Finding, data-seen, behind-seen, behind-so, data-so, pointer-so}
use Rattle.heap_runtime.proofs.heap.Holding.{unwritten, still-reached, link_low, link_high, low-word, high-word, found_has}

-- what holds a word can be reached

pub known-reached : (m : Cells) (x v : ℕ) → HoldsWord m x v → m x ≡ Outside → ⊥
known-reached m x v has out = let w : Known (low_byte v) ≡ Outside = sym has.low ∙ out in absurd (cc)

pub known-behind : (m : Cells) (x v : ℕ) → HoldsWord m x v → m (x + 1) ≡ Outside → ⊥
known-behind m x v has out = let w : Known (high_byte v) ≡ Outside = sym has.high ∙ out in absurd (cc)

-- what is not among so many bytes is before or behind them
pub decide-off : (x k y : ℕ) → (x ≤ y → y < x + k → ⊥) → (y < x) ⊎ (x + k ≤ y)
decide-off x k y none = ⊎_elim (λ (l : y < x). inl l) (λ (l : x ≤ y). ⊎_elim (λ (u : y < x + k). absurd (none l u)) (λ (u : x + k ≤ y). inr u) (cases_lt y (x + k))) (cases_lt y x)

-- ---- the words of the activation

module _ (program : FlatProgram) (choice : Choice) (own : Frame) (sp : ℕ) (is_placed : IsPlaced choice own sp 8) (own_unit : own.unit ≡ overlay_unit) (places : HeapPlaces program choice) (e : Activation) (size : ℕ) where
  abbrev pub st : Slot → Slot → ℕ → ℕ → ℕ → ℕ → ℕ → Cells → Activation
  st q r s o n c p m = record e { words = Holds size ∷ Shut ∷ Shut ∷ Shut ∷ Holds s ∷ Holds o ∷ Holds n ∷ Holds c ∷ Holds p ∷ q ∷ r ∷ []; memory = m }

  abbrev pub at : ℕ → ℕ → ℕ → ℕ → ℕ → Cells → Activation
  at s o n c p m = st Free Free s o n c p m

  pub finding : Finding choice own 8 size at
  finding = record {
    memory = λ s o n c p m. refl;
    size_word = λ s o n c p m. refl;
    wanted_word = λ s o n c p m. refl;
    current_word = λ s o n c p m. refl;
    block = λ s o n c p plus m. refl;
    with_segment = λ s o n c p v m. refl;
    with_offset = λ s o n c p v m. refl;
    with_wanted = λ s o n c p v m. refl;
    with_current = λ s o n c p v m. refl;
    with_previous = λ s o n c p v m. refl;
  }

  -- ---- in a heap

  module _ (m : Cells) (h : Heap) (holds : HoldsHeap program choice places m h) (sound : IsSound h) (n : ℕ) (p : ℕ) where
    inside : (b : ℕ) → b < h.cut → block_address choice b + 8 ≤ 1048576
    inside b i = let r = holds.inside in let l = places.heap_end in omega (arith, i)

    number-small : (b : ℕ) → b < h.cut → suc b < 65536
    number-small b i = let r = holds.inside in let l = places.heap_small in omega (arith, i)

    segment-small : (b : ℕ) → b < h.cut → choice.heap_segment + b / 2 < 65536
    segment-small b i = let r = holds.inside in let l = places.heap_end in omega (arith, i)

    reached : (b : ℕ) → b < h.cut → (y : ℕ) → block_address choice b ≤ y → y < block_address choice b + 8 → m y ≡ Outside → ⊥
    reached b i y low high out =
        let r = holds.inside in
        let k = y - 16 * choice.heap_segment in
        let e : 16 * choice.heap_segment + k ≡ y = omega (arith, low) in
        holds.reached k (omega (arith, i, low, high)) (ap m e ∙ out)

    module _ (l : FreeList) (rest : List FreeList) (found : from_found n h.lists ≡ l ∷ rest) where
      f_inside : l.first < h.cut
      f_inside = free-inside l.first h sound (found-among n h.lists l rest found)

      abbrev hf : ℕ
      hf = choice.heap_segment + l.first / 2

      abbrev gf : ℕ
      gf = 8 * (l.first % 2)

      has : HasLists choice m (found_has program choice places m h holds (λ b among. free-inside b h sound among) sound.once n l rest found).0 (l ∷ rest)
      has = (found_has program choice places m h holds (λ b among. free-inside b h sound among) sound.once n l rest found).1

      -- ---- of several free blocks the second one

      module _ (b : ℕ) (bs : List ℕ) (others : l.others ≡ b ∷ bs) (b_inside : b < h.cut) (b_other : b ≢ l.first) where
        abbrev hb : ℕ
        hb = choice.heap_segment + b / 2

        abbrev gb : ℕ
        gb = 8 * (b % 2)

        links : HasLinks choice m (block_address choice l.first) (b ∷ bs)
        links = subst (λ (os : List ℕ). HasLinks choice m (block_address choice l.first) os) others has.1

        abbrev m1 : Cells
        m1 = with_word m (block_address choice l.first) (link_low bs)

        abbrev m2 : Cells
        m2 = with_word m1 (block_address choice l.first + 2) (link_high choice bs)

        abbrev second_end : Activation
        second_end = st (Holds hb) (Holds gb) hb gb n (suc l.first) p m2

        takes-second : straight choice own 8 take_second (at hf gf n (suc l.first) p m) ≡ Ok (record { exit = Onward; there = second_end })
        takes-second =
            let c1 = next_of take_second in
            let c2 = next_of c1 in
            let c3 = next_of c2 in
            let c4 = next_of c3 in
            let a0 = at hf gf n (suc l.first) p m in
            let a1 = st (Holds hb) Free hf gf n (suc l.first) p m in
            let a2 = st (Holds hb) (Holds gb) hf gf n (suc l.first) p m in
            let a3 = st (Holds hb) (Holds gb) hf gf n (suc l.first) p m1 in
            let fi = inside l.first f_inside in
            let bi = inside b b_inside in
            let low = low-word choice m (block_address choice b) bs links.2 in
            let high = high-word choice m (block_address choice b) bs links.2 in
            let high1 : HoldsWord m1 (block_address choice b + 2) (link_high choice bs) = record {
              low = unwritten m (block_address choice l.first) (link_low bs) (block_address choice b + 2) (⊎_elim (λ (z : block_address choice b + 2 < block_address choice l.first). inl z) (λ (z : block_address choice l.first + 8 ≤ block_address choice b + 2). inr (omega (arith, z))) (blocks-apart choice b l.first (block_address choice b + 2) b_other (omega arith) (omega arith))) ∙ high.low;
              high = unwritten m (block_address choice l.first) (link_low bs) (block_address choice b + 2 + 1) (⊎_elim (λ (z : block_address choice b + 2 + 1 < block_address choice l.first). inl z) (λ (z : block_address choice l.first + 8 ≤ block_address choice b + 2 + 1). inr (omega (arith, z))) (blocks-apart choice b l.first (block_address choice b + 2 + 1) b_other (omega arith) (omega arith))) ∙ high.high;
              small = high.small;
            } in
            set-so choice own 8 (negsuc 11) (word_behind block_at 2) c1 a0 a1 hb (behind-seen program choice own 8 own_unit places a0 block_at l.first 2 (block_address choice l.first + 2) hb refl (omega arith) fi refl links.1) refl
            ∙ set-so choice own 8 other_at (word_behind block_at 0) c2 a1 a2 gb (behind-seen program choice own 8 own_unit places a1 block_at l.first 0 (block_address choice l.first) gb refl (omega arith) fi (omega arith) links.0) refl
            ∙ behind-so program choice own 8 own_unit places a2 block_at l.first 0 (block_address choice l.first) (link_low bs) (word_behind other_at 0) c3 (behind-seen program choice own 8 own_unit places a2 other_at b 0 (block_address choice b) (link_low bs) refl (omega arith) bi (omega arith) low) refl (omega arith) fi (omega arith) (reached l.first f_inside)
            ∙ behind-so program choice own 8 own_unit places a3 block_at l.first 2 (block_address choice l.first + 2) (link_high choice bs) (word_behind other_at 2) c4 (behind-seen program choice own 8 own_unit places a3 other_at b 2 (block_address choice b + 2) (link_high choice bs) refl (omega arith) bi refl high1) refl (omega arith) fi refl (λ y z w. still-reached m (block_address choice l.first) (link_low bs) y (reached l.first f_inside y z w))

        pub second-does : Does program choice own sp new_end 0 76 (at hf gf n (suc l.first) p m) Onward second_end
        second-does =
            let a0 = at hf gf n (suc l.first) p m in
            let came : Came = record { exit = Onward; there = second_end } in
            let fi = inside l.first f_inside in
            let some = places.heap_first in
            weaker-does program choice own sp new_end 0 (code_size new_end) 0 76 a0 Onward second_end (omega arith) (omega arith)
            (straight-does program choice own sp 8 is_placed new_end a0 Onward second_end
            (taken-so choice own 8 new_end a0 (suc l.first) came refl (λ z. omega (arith, z))
            (ap (λ (x : Found Came). x >>= λ c. continued c.exit c.there (straight choice own 8 End))
            (taken-so choice own 8 take_block a0 hb came (behind-seen program choice own 8 own_unit places a0 block_at l.first 2 (block_address choice l.first + 2) hb refl (omega arith) fi refl links.1) (λ z. omega (arith, z, some))
            (ap (λ (x : Found Came). x >>= λ c. continued c.exit c.there (straight choice own 8 End)) takes-second)))))

      -- ---- else the only one

      module _ (alone : l.others ≡ []) where
        nil : HoldsWord m (block_address choice l.first + 2) 0
        nil = (subst (λ (os : List ℕ). HasLinks choice m (block_address choice l.first) os) alone has.1).1

        next_word : HoldsWord m (block_address choice l.first + 4) (head_of rest)
        next_word = head-word choice m (block_address choice l.first + 4) rest has.3

        abbrev last_memory : ℕ → Cells
        last_memory q = with_word m (spot choice (16 * choice.data_segment + places.state_at + 2) q) (head_of rest)

        -- its list was the first one
        pub takes-first : p ≡ 0 → straight choice own 8 take_last (at hf gf n (suc l.first) p m) ≡ Ok (record { exit = Onward; there = at hf gf n (suc l.first) p (last_memory 0) })
        takes-first none =
            let first = head-word choice m (16 * choice.data_segment + places.state_at + 2) h.lists holds.lists in
            let u = places.state_in in
            other-so choice own 8 take_last (at hf gf n (suc l.first) p m) p (record { exit = Onward; there = at hf gf n (suc l.first) p (last_memory 0) }) refl none
            (ap (λ (x : Found Came). x >>= λ c. continued c.exit c.there (straight choice own 8 End))
            (data-so program choice own 8 own_unit places (at hf gf n (suc l.first) p m) 4 places.state_at 2 (16 * choice.data_segment + places.state_at + 2) (head_of rest) (word_behind block_at 4) End
            (behind-seen program choice own 8 own_unit places (at hf gf n (suc l.first) p m) block_at l.first 4 (block_address choice l.first + 4) (head_of rest) refl (omega arith) (inside l.first f_inside) refl next_word)
            places.state_is (omega arith) refl (known-reached m (16 * choice.data_segment + places.state_at + 2) (head_of h.lists) first) (known-behind m (16 * choice.data_segment + places.state_at + 2) (head_of h.lists) first)))

        -- or the one behind another
        module _ (c : ℕ) (c_inside : c < h.cut) where
          abbrev hc : ℕ
          hc = choice.heap_segment + c / 2

          abbrev gc : ℕ
          gc = 8 * (c % 2)

          pub takes-behind : p ≡ suc c → straight choice own 8 take_last (at hf gf n (suc l.first) p m) ≡ Ok (record { exit = Onward; there = st (Holds hc) (Holds gc) hf gf n (suc l.first) p (last_memory (suc c)) })
          takes-behind is =
              let a0 = at hf gf n (suc l.first) p m in
              let a1 = st (Holds hc) Free hf gf n (suc l.first) p m in
              let a2 = st (Holds hc) (Holds gc) hf gf n (suc l.first) p m in
              let came : Came = record { exit = Onward; there = st (Holds hc) (Holds gc) hf gf n (suc l.first) p (last_memory (suc c)) } in
              let number : seen_value choice own 8 a0 (word previous) ≡ Ok (suc c) = ap (λ (v : ℕ). let r : Found ℕ = Ok v in r) is in
              taken-so choice own 8 take_last a0 p came refl (λ z. omega (arith, z, is))
              (ap (λ (x : Found Came). x >>= λ c. continued c.exit c.there (straight choice own 8 End))
              (pointer-so program choice own 8 own_unit places (negsuc 11) other_at previous (next_of (next_of (taken_of take_last))) a0 a1 a2 c (number-small c c_inside) (segment-small c c_inside) holds.segment number refl number refl
              ∙ behind-so program choice own 8 own_unit places a2 other_at c 4 (block_address choice c + 4) (head_of rest) (word_behind block_at 4) End
              (behind-seen program choice own 8 own_unit places a2 block_at l.first 4 (block_address choice l.first + 4) (head_of rest) refl (omega arith) (inside l.first f_inside) refl next_word)
              refl (omega arith) (inside c c_inside) refl (reached c c_inside)))

        -- the whole end of the routine
        pub ends-last : (there : Activation) → straight choice own 8 take_last (at hf gf n (suc l.first) p m) ≡ Ok (record { exit = Onward; there = there }) → Does program choice own sp new_end 0 76 (at hf gf n (suc l.first) p m) Onward there
        ends-last there done =
            let a0 = at hf gf n (suc l.first) p m in
            let came : Came = record { exit = Onward; there = there } in
            weaker-does program choice own sp new_end 0 (code_size new_end) 0 76 a0 Onward there (omega arith) (omega arith)
            (straight-does program choice own sp 8 is_placed new_end a0 Onward there
            (taken-so choice own 8 new_end a0 (suc l.first) came refl (λ z. omega (arith, z))
            (ap (λ (x : Found Came). x >>= λ c. continued c.exit c.there (straight choice own 8 End))
            (other-so choice own 8 take_block a0 0 came (behind-seen program choice own 8 own_unit places a0 block_at l.first 2 (block_address choice l.first + 2) 0 refl (omega arith) (inside l.first f_inside) refl nil) refl
            (ap (λ (x : Found Came). x >>= λ c. continued c.exit c.there (straight choice own 8 End)) done)))))

    -- ---- where no block of that size is free

    module _ (s o : ℕ) (some : 0 < n) (few : n < 16384) where
      eights-is : (heap : ℕ) → heap ≤ 196608 → wrapping_add w16 ((heap % 65536) / 8) (wrapping_mul w16 (heap / 65536) 8192) ≡ heap / 8
      eights-is heap small = omega (arith, small)

      left-is : (all cut : ℕ) → cut ≤ all → all < 65536 → wrapping_sub w16 all cut ≡ all - cut
      left-is all cut p q = omega (arith, p, q)

      abbrev a0 : Activation
      a0 = at s o n 0 p m

      cut-seen : (a : Activation) → a.memory ≡ m → seen_value choice own 8 a (Word cut_at) ≡ Ok h.cut
      cut-seen a same = data-seen program choice own 8 own_unit places a 4 places.state_at 0 (16 * choice.data_segment + places.state_at) h.cut places.state_is (let u = places.state_in in omega arith) (omega arith) (subst (λ k. HoldsWord k (16 * choice.data_segment + places.state_at) h.cut) (sym same) holds.cut)

      heap-seen : seen_value choice own 8 a0 heap_eights ≡ Ok (program.heap / 8)
      heap-seen =
          let t = places.bytes_in in
          let low = data-seen program choice own 8 own_unit places a0 2 places.bytes_at 0 (16 * choice.data_segment + places.bytes_at) (program.heap % 65536) places.bytes_is (omega arith) (omega arith) holds.low in
          let high = data-seen program choice own 8 own_unit places a0 2 places.bytes_at 2 (16 * choice.data_segment + places.bytes_at + 2) (program.heap / 65536) places.bytes_is (omega arith) refl holds.high in
          op-so choice own 8 op.Add (Op op.DivUnsigned heap_low (Number 8)) (Op op.Mul heap_high (Number 8192)) a0 ((program.heap % 65536) / 8) (wrapping_mul w16 (program.heap / 65536) 8192)
          (op-so choice own 8 op.DivUnsigned heap_low (Number 8) a0 (program.heap % 65536) 8 low refl)
          (op-so choice own 8 op.Mul heap_high (Number 8192) a0 (program.heap / 65536) 8192 high refl)
          ∙ ap (λ (v : ℕ). let r : Found ℕ = Ok v in r) (eights-is program.heap places.heap_small)

      abbrev test : Expr
      test = Op op.Below (Op op.Sub heap_eights (Word cut_at)) (word wanted)

      test-seen : seen_value choice own 8 a0 test ≡ Ok (truth (nat_lt (program.heap / 8 - h.cut) n))
      test-seen =
          let r = holds.inside in
          let t = places.heap_small in
          op-so choice own 8 op.Below (Op op.Sub heap_eights (Word cut_at)) (word wanted) a0 (program.heap / 8 - h.cut) n
          (op-so choice own 8 op.Sub heap_eights (Word cut_at) a0 (program.heap / 8) h.cut heap-seen (cut-seen a0 refl) ∙ ap (λ (v : ℕ). let w : Found ℕ = Ok v in w) (left-is (program.heap / 8) h.cut (omega arith) (omega arith)))
          refl

      in-end : (exit : Exit) (there : Activation) → straight choice own 8 cut_block a0 ≡ Ok (record { exit = exit; there = there }) → (let c : Found Came = continued exit there (straight choice own 8 End) in c ≡ Ok (record { exit = exit; there = there })) → Does program choice own sp new_end 0 76 a0 exit there
      in-end exit there done goes =
          let came : Came = record { exit = exit; there = there } in
          weaker-does program choice own sp new_end 0 (code_size new_end) 0 76 a0 exit there (omega arith) (omega arith)
          (straight-does program choice own sp 8 is_placed new_end a0 exit there
          (other-so choice own 8 new_end a0 0 came refl refl
          (ap (λ (x : Found Came). x >>= λ c. continued c.exit c.there (straight choice own 8 End)) done ∙ goes)))

      pub full-does : program.heap < 8 * h.cut + 8 * n → Does program choice own sp new_end 0 76 a0 (Failing 203) a0
      full-does full = in-end (Failing 203) a0 (taken-so choice own 8 cut_block a0 (truth (nat_lt (program.heap / 8 - h.cut) n)) (record { exit = Failing 203; there = a0 }) test-seen (λ z. not-both program.heap h.cut n holds.inside full z) refl) refl
        where
          not-both : (heap cut n : ℕ) → 8 * cut ≤ heap → heap < 8 * cut + 8 * n → truth (nat_lt (heap / 8 - cut) n) ≡ 0 → ⊥
          not-both heap cut n p q z = grind (arith, nat_tests)

      abbrev cut_end : Activation
      cut_end = at (choice.heap_segment + h.cut / 2) (8 * (h.cut % 2)) n (suc h.cut) p (with_word m (16 * choice.data_segment + places.state_at) (h.cut + n))

      pub room-does : 8 * h.cut + 8 * n ≤ program.heap → Does program choice own sp new_end 0 76 a0 Onward cut_end
      room-does room =
          let t = places.heap_small in
          let l = places.heap_end in
          let u = places.state_in in
          let c1 = next_of cut_block in
          let c2 = next_of c1 in
          let c3 = next_of (next_of c2) in
          let hcut = choice.heap_segment + h.cut / 2 in
          let gcut = 8 * (h.cut % 2) in
          let a1 = at s o n (suc h.cut) p m in
          let a2 = at hcut o n (suc h.cut) p m in
          let a3 = at hcut gcut n (suc h.cut) p m in
          let came : Came = record { exit = Onward; there = cut_end } in
          let up : wrapping_add w16 h.cut 1 ≡ suc h.cut = omega (arith, room, t) in
          let sum : wrapping_add w16 h.cut n ≡ h.cut + n = omega (arith, room, t) in
          let number = op-so choice own 8 op.Add (Word cut_at) (Number 1) a0 h.cut 1 (cut-seen a0 refl) refl ∙ ap (λ (v : ℕ). let w : Found ℕ = Ok v in w) up in
          let total = op-so choice own 8 op.Add (Word cut_at) (word wanted) a3 h.cut n (cut-seen a3 refl) refl ∙ ap (λ (v : ℕ). let w : Found ℕ = Ok v in w) sum in
          in-end Onward cut_end
          (other-so choice own 8 cut_block a0 (truth (nat_lt (program.heap / 8 - h.cut) n)) came test-seen (is-room program.heap h.cut n room)
          (set-so choice own 8 current (Op op.Add (Word cut_at) (Number 1)) c2 a0 a1 (suc h.cut) number refl
          ∙ pointer-so program choice own 8 own_unit places (negsuc 1) block_at current c3 a1 a2 a3 h.cut (omega (arith, room, t)) (omega (arith, room, l, some)) holds.segment refl refl refl refl
          ∙ data-so program choice own 8 own_unit places a3 4 places.state_at 0 (16 * choice.data_segment + places.state_at) (h.cut + n) (Op op.Add (Word cut_at) (word wanted)) End total places.state_is (omega arith) (omega arith) (known-reached m (16 * choice.data_segment + places.state_at) h.cut holds.cut) (known-behind m (16 * choice.data_segment + places.state_at) h.cut holds.cut))) refl
        where
          is-room : (heap cut n : ℕ) → 8 * cut + 8 * n ≤ heap → truth (nat_lt (heap / 8 - cut) n) ≡ 0
          is-room heap cut n p = grind (arith, nat_tests)
