-- The heap in memory after stores elsewhere, and after those of New and Dispose.
use Rattle.std.proofs.Common.{◌≡◌, ◌≢◌, ℕ, suc, ◌+◌, ◌*◌, ◌/◌, ◌%◌, ◌≤◌, ◌<◌, ◌⊎◌, inl, inr, Bool, true, false, cond, List, [], ◌∷◌, ◌++◌, refl, sym, ap, subst, ◌∙◌, arith, ⊎_elim}
use Rattle.std.specs.Prelude.{◌==◌}
use Rattle.std.specs.List.{AllByRecursion}
use Rattle.flat_code.specs.declared.memory.Cell.TheVariants.{Known, Outside}
use Rattle.flat_code.specs.Memory.{Cells, put}
use Rattle.flat_code.specs.Program.{FlatProgram, Choice}
use Rattle.flat_code.proofs.Stack.{with_word, word-other, word-written}
use Rattle.common_values.specs.integers.Words.{low_byte, high_byte}
use Rattle.runtime_proofs.specs.routine_proofs.Activation.{HoldsWord}
use Rattle.runtime_proofs.proofs.string_loops.BackwardLoop.{reached-still}
use Rattle.heap_runtime.specs.heap.Heap.{Block, FreeList, Heap, without_one, put_in, free_blocks, EachOnce}
use Rattle.heap_runtime.specs.heap.HeapMemory.{block_address, HasLinks, HasLists, HeapPlaces, HoldsHeap, IsAmong}
use Rattle.heap_runtime.proofs.heap.Among.{all-at, among-left, among-right}
use Rattle.heap_runtime.proofs.heap.Links.{SameIn, word-same, links-kept, lists-kept, lists-moved, head_of, head-word, from_found, before_found, spot, before-in, found-among, among-of, found-once, found-has, relinked-without, relinked-put, blocks-apart, lists-relinked, lists-unlinked}

-- ---- stores of words

pub written : (m : Cells) (x v : ℕ) → v < 65536 → HoldsWord (with_word m x v) x v
written m x v h = let w = word-written m x v h in record { low = w.low; high = w.high; small = w.small }

pub unwritten : (m : Cells) (x v y : ℕ) → (y < x) ⊎ (x + 2 ≤ y) → with_word m x v y ≡ m y
unwritten m x v y off = word-other m x v y (λ e. ⊎_elim (λ (h : y < x). omega (arith, h, e)) (λ (h : x + 2 ≤ y). omega (arith, h, e)) off) (λ e. ⊎_elim (λ (h : y < x). omega (arith, h, e)) (λ (h : x + 2 ≤ y). omega (arith, h, e)) off)

pub still-reached : (m : Cells) (x v y : ℕ) → (m y ≡ Outside → ⊥) → with_word m x v y ≡ Outside → ⊥
still-reached m x v y h = reached-still (put m x (Known (low_byte v))) (x + 1) (high_byte v) y (reached-still m x (low_byte v) y h)

-- ---- links by their first words

abbrev pub link_low : List ℕ → ℕ
link_low [] = 0
link_low (b ∷ bs) = 8 * (b % 2)

abbrev pub link_high : Choice → List ℕ → ℕ
link_high choice [] = 0
link_high choice (b ∷ bs) = choice.heap_segment + b / 2

pub low-word : (choice : Choice) (m : Cells) (x : ℕ) (bs : List ℕ) → HasLinks choice m x bs → HoldsWord m x (link_low bs)
low-word choice m x [] has = has.0
low-word choice m x (b ∷ bs) has = has.0

pub high-word : (choice : Choice) (m : Cells) (x : ℕ) (bs : List ℕ) → HasLinks choice m x bs → HoldsWord m (x + 2) (link_high choice bs)
high-word choice m x [] has = has.1
high-word choice m x (b ∷ bs) has = has.1

pub links-moved : (choice : Choice) (m n : Cells) (x z : ℕ) (bs : List ℕ) → HoldsWord n z (link_low bs) → HoldsWord n (z + 2) (link_high choice bs) → SameIn choice m n bs → HasLinks choice m x bs → HasLinks choice n z bs
links-moved choice m n x z [] low high within has = (low, high)
links-moved choice m n x z (b ∷ bs) low high within has =
    (low, high, links-kept choice m n (block_address choice b) bs (λ y p q. within b y (inl refl) p (omega (arith, q))) (λ c y among p q. within c y (inr among) p q) has.2)

module _ (program : FlatProgram) (choice : Choice) (places : HeapPlaces program choice) where
  abbrev pub base : ℕ
  base = 16 * choice.data_segment

  abbrev pub directory : ℕ
  directory = 16 * choice.data_segment + places.state_at + 2

  -- ---- where a heap stands, it stands in cells that are the same there

  abbrev pub IsPart : ℕ → Type 0
  IsPart y = ((16 * choice.data_segment ≤ y) × (y < 16 * choice.data_segment + places.data_bytes)) ⊎ ((16 * choice.heap_segment ≤ y) × (y < 16 * choice.heap_segment + program.heap))

  pub holds-same : (m n : Cells) (h : Heap) → ((b : ℕ) → IsAmong b (free_blocks h.lists) → b < h.cut) → ((y : ℕ) → IsPart y → n y ≡ m y) → HoldsHeap program choice places m h → HoldsHeap program choice places n h
  holds-same m n h inside same holds =
      let room = holds.inside in
      let s = places.segment_in in
      let t = places.bytes_in in
      let u = places.state_in in
      record {
        segment = word-same m n _ _ (λ y p q. same y (inl (omega (arith, p), omega (arith, q, s)))) holds.segment;
        low = word-same m n _ _ (λ y p q. same y (inl (omega (arith, p), omega (arith, q, t)))) holds.low;
        high = word-same m n _ _ (λ y p q. same y (inl (omega (arith, p), omega (arith, q, t)))) holds.high;
        cut = word-same m n _ _ (λ y p q. same y (inl (omega (arith, p), omega (arith, q, u)))) holds.cut;
        lists = lists-kept choice m n directory h.lists (λ y p q. same y (inl (omega (arith, p), omega (arith, q, u)))) (λ b y among p q. let l = inside b among in same y (inr (omega (arith, p), omega (arith, q, l, room)))) holds.lists;
        reached = λ k p out. holds.reached k p (sym (same (16 * choice.heap_segment + k) (inr (omega arith, omega (arith, p)))) ∙ out);
        inside = holds.inside;
      }

  -- a byte of the data is none of a block
  pub data-off : (b x y : ℕ) → 8 * b + 8 ≤ program.heap → base ≤ x → x + 2 ≤ base + places.data_bytes → (x + 2 ≤ block_address choice b) ⊎ (block_address choice b + 8 ≤ x)
  data-off b x y inside p q = ⊎_elim (λ (h : base + places.data_bytes ≤ 16 * choice.heap_segment). inl (omega (arith, h, q))) (λ (h : 16 * choice.heap_segment + program.heap ≤ base). inr (omega (arith, h, inside, p))) places.data_heap

  -- ---- stores in blocks leave the words in the data

  module _ (m n : Cells) (h h' : Heap) (holds : HoldsHeap program choice places m h) (same_cut : h'.cut ≡ h.cut)
      (same : (y : ℕ) → base ≤ y → y < base + places.data_bytes → (y < directory) ⊎ (directory + 2 ≤ y) → n y ≡ m y) (reached : (y : ℕ) → (m y ≡ Outside → ⊥) → n y ≡ Outside → ⊥) (lists : HasLists choice n directory h'.lists) where
    pub holds-lists : HoldsHeap program choice places n h'
    holds-lists =
        let s = places.segment_in in
        let t = places.bytes_in in
        let u = places.state_in in
        record {
          segment = word-same m n _ _ (λ y p q. same y (omega (arith, p)) (omega (arith, q, s)) (⊎_elim (λ (h : places.segment_at + 2 ≤ places.state_at). inl (omega (arith, h, q))) (λ (h : places.state_at + 4 ≤ places.segment_at). inr (omega (arith, h, p))) places.segment_apart)) holds.segment;
          low = word-same m n _ _ (λ y p q. same y (omega (arith, p)) (omega (arith, q, t)) (⊎_elim (λ (h : places.bytes_at + 4 ≤ places.state_at). inl (omega (arith, h, q))) (λ (h : places.state_at + 4 ≤ places.bytes_at). inr (omega (arith, h, p))) places.bytes_apart)) holds.low;
          high = word-same m n _ _ (λ y p q. same y (omega (arith, p)) (omega (arith, q, t)) (⊎_elim (λ (h : places.bytes_at + 4 ≤ places.state_at). inl (omega (arith, h, q))) (λ (h : places.state_at + 4 ≤ places.bytes_at). inr (omega (arith, h, p))) places.bytes_apart)) holds.high;
          cut = subst (λ (c : ℕ). HoldsWord n (base + places.state_at) c) (sym same_cut) (word-same m n _ _ (λ y p q. same y (omega (arith, p)) (omega (arith, q, u)) (inl (omega (arith, q)))) holds.cut);
          lists = lists;
          reached = λ k p. reached (16 * choice.heap_segment + k) (holds.reached k p);
          inside = let i = holds.inside in omega (arith, same_cut);
        }

  -- ---- New

  module _ (m : Cells) (h : Heap) (holds : HoldsHeap program choice places m h) (inside : (b : ℕ) → IsAmong b (free_blocks h.lists) → b < h.cut) (once : EachOnce (free_blocks h.lists)) (size : ℕ) (l : FreeList) (rest : List FreeList) (found : from_found size h.lists ≡ l ∷ rest) where
    first-in : 8 * l.first + 8 ≤ program.heap
    first-in = let i = inside l.first (found-among size h.lists l rest found) in let r = holds.inside in omega arith

    abbrev pub FoundHas : Type 0
    FoundHas = (z : ℕ) × HasLists choice m z (l ∷ rest)

    pub found_has : FoundHas
    found_has = let f = found-has choice m size directory h.lists holds.lists in (f.0, subst (λ (ls : List FreeList). HasLists choice m f.0 ls) found f.1)

    found_once : EachOnce (free_blocks (l ∷ rest))
    found_once = found-once size h.lists l rest found once

    -- the second block of its list is taken out
    module _ (b : ℕ) (bs : List ℕ) (others : l.others ≡ b ∷ bs) where
      abbrev pub second_taken : Cells
      second_taken = with_word (with_word m (block_address choice l.first) (link_low bs)) (block_address choice l.first + 2) (link_high choice bs)

      links : HasLinks choice m (block_address choice b) bs
      links = (subst (λ (os : List ℕ). HasLinks choice m (block_address choice l.first) os) others found_has.1.1).2

      none-is : AllByRecursion (λ c. c ≢ l.first) (b ∷ (bs ++ free_blocks rest))
      none-is = subst (λ (os : List ℕ). AllByRecursion (λ c. c ≢ l.first) (os ++ free_blocks rest)) others found_once.0

      off-link : (y : ℕ) → (y < block_address choice l.first) ⊎ (block_address choice l.first + 4 ≤ y) → second_taken y ≡ m y
      off-link y off =
          unwritten (with_word m (block_address choice l.first) (link_low bs)) (block_address choice l.first + 2) (link_high choice bs) y (⊎_elim (λ (h : y < block_address choice l.first). inl (omega (arith, h))) (λ (h : block_address choice l.first + 4 ≤ y). inr (omega (arith, h))) off)
          ∙ unwritten m (block_address choice l.first) (link_low bs) y (⊎_elim (λ (h : y < block_address choice l.first). inl h) (λ (h : block_address choice l.first + 4 ≤ y). inr (omega (arith, h))) off)

      new-links : HasLinks choice second_taken (block_address choice l.first) bs
      new-links =
          let low = low-word choice m (block_address choice b) bs links in
          let high = high-word choice m (block_address choice b) bs links in
          let m1 = with_word m (block_address choice l.first) (link_low bs) in
          links-moved choice m second_taken (block_address choice b) (block_address choice l.first) bs
          (word-same m1 second_taken (block_address choice l.first) (link_low bs) (λ y p q. unwritten m1 (block_address choice l.first + 2) (link_high choice bs) y (inl (omega (arith, q)))) (written m (block_address choice l.first) (link_low bs) low.small))
          (written m1 (block_address choice l.first + 2) (link_high choice bs) high.small)
          (λ c y among p q. off-link y (⊎_elim (λ (h : y < block_address choice l.first). inl h) (λ (h : block_address choice l.first + 8 ≤ y). inr (omega (arith, h))) (blocks-apart choice c l.first y (all-at (λ x. x ≢ l.first) c (bs ++ free_blocks rest) none-is.1 (among-left c bs (free_blocks rest) among)) p q))) links

      pub second-holds : (live : List Block) → HoldsHeap program choice places second_taken (record { cut = h.cut; live = live; lists = without_one size h.lists })
      second-holds live =
          let u = places.state_in in
          holds-lists m second_taken h (record { cut = h.cut; live = live; lists = without_one size h.lists }) holds refl
          (λ y p q off. off-link y (⊎_elim (λ (e : base + places.data_bytes ≤ 16 * choice.heap_segment). inl (omega (arith, e, q))) (λ (e : 16 * choice.heap_segment + program.heap ≤ base). let f = first-in in inr (omega (arith, e, f, p))) places.data_heap))
          (λ y r. still-reached (with_word m (block_address choice l.first) (link_low bs)) (block_address choice l.first + 2) (link_high choice bs) y (still-reached m (block_address choice l.first) (link_low bs) y r))
          (subst (λ (ls : List FreeList). HasLists choice second_taken directory ls) (relinked-without size b bs h.lists l rest found others)
          (lists-relinked choice m second_taken size bs l rest directory h.lists found once
          (λ y p q. let f = first-in in off-link y (⊎_elim (λ (e : base + places.data_bytes ≤ 16 * choice.heap_segment). inl (omega (arith, e, q, u))) (λ (e : 16 * choice.heap_segment + program.heap ≤ base). inr (omega (arith, e, f, p))) places.data_heap))
          (λ c y among p q off. off-link y off) new-links holds.lists))

    -- the only block of its list is taken out
    module _ (alone : l.others ≡ []) where
      abbrev pub place_before : ℕ
      place_before = spot choice directory (before_found size 0 h.lists)

      abbrev pub last_taken : Cells
      last_taken = with_word m place_before (head_of rest)

      -- where that word is
      spot-is : (ls : List FreeList) → ((c : ℕ) → IsAmong c (free_blocks ls) → c < h.cut) → (spot choice directory (before_found size 0 ls) ≡ directory) ⊎ ((c : ℕ) × (spot choice directory (before_found size 0 ls) ≡ block_address choice c + 4) × (c < h.cut))
      spot-is [] within = inl refl
      spot-is (k ∷ ls) within = by (k.size == size)
        where
          by : (v : Bool) → (spot choice directory (cond v 0 (before_found size (suc k.first) ls)) ≡ directory) ⊎ ((c : ℕ) × (spot choice directory (cond v 0 (before_found size (suc k.first) ls)) ≡ block_address choice c + 4) × (c < h.cut))
          by true = inl refl
          by false = let c = before-in size k.first ls in inr (c.0, ap (spot choice directory) c.1, within c.0 (⊎_elim (λ e. inl e) (λ at. inr (among-right c.0 k.others (free_blocks ls) at)) c.2))

      rest-head : HoldsWord m (block_address choice l.first + 4) (head_of rest)
      rest-head = head-word choice m (block_address choice l.first + 4) rest found_has.1.3

      pub last-holds : (live : List Block) → HoldsHeap program choice places last_taken (record { cut = h.cut; live = live; lists = without_one size h.lists })
      last-holds live =
          let u = places.state_in in
          holds-lists m last_taken h (record { cut = h.cut; live = live; lists = without_one size h.lists }) holds refl
          (λ y p q off. unwritten m place_before (head_of rest) y (⊎_elim
          (λ (e : place_before ≡ directory). ⊎_elim (λ (z : y < directory). inl (omega (arith, z, e))) (λ (z : directory + 2 ≤ y). inr (omega (arith, z, e))) off)
          (λ (c : (c : ℕ) × (place_before ≡ block_address choice c + 4) × (c < h.cut)). let e = c.1 in let i = c.2 in let r = holds.inside in
          ⊎_elim (λ (z : base + places.data_bytes ≤ 16 * choice.heap_segment). inl (omega (arith, z, e, q))) (λ (z : 16 * choice.heap_segment + program.heap ≤ base). inr (omega (arith, z, e, i, r, p))) places.data_heap)
          (spot-is h.lists inside)))
          (λ y r. still-reached m place_before (head_of rest) y r)
          (lists-unlinked choice m last_taken size l rest directory 0 h.lists found alone once
          (λ c among. data-off c directory 0 (let i = inside c among in let r = holds.inside in omega arith) (omega arith) (omega (arith, u)))
          (written m place_before (head_of rest) rest-head.small)
          (λ y off. unwritten m place_before (head_of rest) y off) holds.lists)

  -- a block is cut off
  module _ (m : Cells) (h : Heap) (holds : HoldsHeap program choice places m h) (inside : (b : ℕ) → IsAmong b (free_blocks h.lists) → b < h.cut) (size : ℕ) (room : 8 * h.cut + 8 * size ≤ program.heap) where
    abbrev pub cut_off : Cells
    cut_off = with_word m (16 * choice.data_segment + places.state_at) (h.cut + size)

    pub cut-holds : (live : List Block) → HoldsHeap program choice places cut_off (record { cut = h.cut + size; live = live; lists = h.lists })
    cut-holds live =
        let s = places.segment_in in
        let t = places.bytes_in in
        let u = places.state_in in
        let small = places.heap_small in
        let off = λ (y : ℕ) (o : (y < base + places.state_at) ⊎ (base + places.state_at + 2 ≤ y)). unwritten m (base + places.state_at) (h.cut + size) y o in
        record {
          segment = word-same m cut_off _ _ (λ y p q. off y (⊎_elim (λ (h : places.segment_at + 2 ≤ places.state_at). inl (omega (arith, h, q))) (λ (h : places.state_at + 4 ≤ places.segment_at). inr (omega (arith, h, p))) places.segment_apart)) holds.segment;
          low = word-same m cut_off _ _ (λ y p q. off y (⊎_elim (λ (h : places.bytes_at + 4 ≤ places.state_at). inl (omega (arith, h, q))) (λ (h : places.state_at + 4 ≤ places.bytes_at). inr (omega (arith, h, p))) places.bytes_apart)) holds.low;
          high = word-same m cut_off _ _ (λ y p q. off y (⊎_elim (λ (h : places.bytes_at + 4 ≤ places.state_at). inl (omega (arith, h, q))) (λ (h : places.state_at + 4 ≤ places.bytes_at). inr (omega (arith, h, p))) places.bytes_apart)) holds.high;
          cut = written m (base + places.state_at) (h.cut + size) (omega (arith, room, small));
          lists = lists-kept choice m cut_off directory h.lists (λ y p q. off y (inr p)) (λ b y among p q. off y (⊎_elim (λ (e : base + places.data_bytes ≤ 16 * choice.heap_segment). inr (omega (arith, e, p, u))) (λ (e : 16 * choice.heap_segment + program.heap ≤ base). let i = inside b among in let r = holds.inside in inl (omega (arith, e, q, i, r))) places.data_heap)) holds.lists;
          reached = λ k p. still-reached m (base + places.state_at) (h.cut + size) (16 * choice.heap_segment + k) (holds.reached k p);
          inside = omega (arith, room);
        }

  -- ---- Dispose

  module _ (m : Cells) (h : Heap) (holds : HoldsHeap program choice places m h) (inside : (b : ℕ) → IsAmong b (free_blocks h.lists) → b < h.cut) (once : EachOnce (free_blocks h.lists)) (d : Block) (d_inside : d.at < h.cut) (d_other : IsAmong d.at (free_blocks h.lists) → ⊥) where
    -- the block's bytes are no data
    block-off : (y : ℕ) → base ≤ y → y < base + places.data_bytes → (y < block_address choice d.at) ⊎ (block_address choice d.at + 8 ≤ y)
    block-off y p q = let r = holds.inside in ⊎_elim (λ (e : base + places.data_bytes ≤ 16 * choice.heap_segment). inl (omega (arith, e, q))) (λ (e : 16 * choice.heap_segment + program.heap ≤ base). inr (omega (arith, e, d_inside, r, p))) places.data_heap

    other-free : (c : ℕ) → IsAmong c (free_blocks h.lists) → c ≢ d.at
    other-free c among e = d_other (subst (λ x. IsAmong x (free_blocks h.lists)) e among)

    -- behind the first one of its list
    module _ (l : FreeList) (rest : List FreeList) (found : from_found d.size h.lists ≡ l ∷ rest) where
      abbrev p1 : Cells
      p1 = with_word m (block_address choice d.at) (link_low l.others)

      abbrev p2 : Cells
      p2 = with_word p1 (block_address choice d.at + 2) (link_high choice l.others)

      abbrev p3 : Cells
      p3 = with_word p2 (block_address choice l.first) (8 * (d.at % 2))

      abbrev pub second_put : Cells
      second_put = with_word p3 (block_address choice l.first + 2) (choice.heap_segment + d.at / 2)

      l-among : IsAmong l.first (free_blocks h.lists)
      l-among = found-among d.size h.lists l rest found

      l-has : (z : ℕ) × HasLists choice m z (l ∷ rest)
      l-has = let f = found-has choice m d.size directory h.lists holds.lists in (f.0, subst (λ (ls : List FreeList). HasLists choice m f.0 ls) found f.1)

      l-once : EachOnce (free_blocks (l ∷ rest))
      l-once = found-once d.size h.lists l rest found once

      -- which of a list's blocks are free ones
      others-among : (c : ℕ) → IsAmong c l.others → IsAmong c (free_blocks h.lists)
      others-among c at = among-of d.size h.lists l rest found c (among-left c l.others (free_blocks rest) at)

      put-off : (y : ℕ) → (y < block_address choice d.at) ⊎ (block_address choice d.at + 4 ≤ y) → (y < block_address choice l.first) ⊎ (block_address choice l.first + 4 ≤ y) → second_put y ≡ m y
      put-off y off_d off_l =
          unwritten p3 (block_address choice l.first + 2) (choice.heap_segment + d.at / 2) y (⊎_elim (λ (z : y < block_address choice l.first). inl (omega (arith, z))) (λ (z : block_address choice l.first + 4 ≤ y). inr (omega (arith, z))) off_l)
          ∙ unwritten p2 (block_address choice l.first) (8 * (d.at % 2)) y (⊎_elim (λ (z : y < block_address choice l.first). inl z) (λ (z : block_address choice l.first + 4 ≤ y). inr (omega (arith, z))) off_l)
          ∙ unwritten p1 (block_address choice d.at + 2) (link_high choice l.others) y (⊎_elim (λ (z : y < block_address choice d.at). inl (omega (arith, z))) (λ (z : block_address choice d.at + 4 ≤ y). inr (omega (arith, z))) off_d)
          ∙ unwritten m (block_address choice d.at) (link_low l.others) y (⊎_elim (λ (z : y < block_address choice d.at). inl z) (λ (z : block_address choice d.at + 4 ≤ y). inr (omega (arith, z))) off_d)

      -- the stores in the first block leave the other one's bytes
      first-off : (y : ℕ) → block_address choice d.at ≤ y → y < block_address choice d.at + 8 → second_put y ≡ p2 y
      first-off y p q =
          let off = blocks-apart choice d.at l.first y (λ e. other-free l.first l-among (sym e)) p q in
          unwritten p3 (block_address choice l.first + 2) (choice.heap_segment + d.at / 2) y (⊎_elim (λ (z : y < block_address choice l.first). inl (omega (arith, z))) (λ (z : block_address choice l.first + 8 ≤ y). inr (omega (arith, z))) off)
          ∙ unwritten p2 (block_address choice l.first) (8 * (d.at % 2)) y (⊎_elim (λ (z : y < block_address choice l.first). inl z) (λ (z : block_address choice l.first + 8 ≤ y). inr (omega (arith, z))) off)

      put-links : HasLinks choice second_put (block_address choice l.first) (d.at ∷ l.others)
      put-links =
          let low = low-word choice m (block_address choice l.first) l.others l-has.1.1 in
          let high = high-word choice m (block_address choice l.first) l.others l-has.1.1 in
          let r = holds.inside in
          let e = places.heap_end in (
            word-same p3 second_put (block_address choice l.first) (8 * (d.at % 2)) (λ y p q. unwritten p3 (block_address choice l.first + 2) (choice.heap_segment + d.at / 2) y (inl (omega (arith, q)))) (written p2 (block_address choice l.first) (8 * (d.at % 2)) (omega arith)),
            written p3 (block_address choice l.first + 2) (choice.heap_segment + d.at / 2) (omega (arith, d_inside)),
            links-moved choice m second_put (block_address choice l.first) (block_address choice d.at) l.others
                (word-same p1 second_put (block_address choice d.at) (link_low l.others) (λ y p q. first-off y p (omega (arith, q)) ∙ unwritten p1 (block_address choice d.at + 2) (link_high choice l.others) y (inl (omega (arith, q)))) (written m (block_address choice d.at) (link_low l.others) low.small))
                (word-same p2 second_put (block_address choice d.at + 2) (link_high choice l.others) (λ y p q. first-off y (omega (arith, p)) (omega (arith, q))) (written p1 (block_address choice d.at + 2) (link_high choice l.others) high.small))
                (λ c y at p q. put-off y
                (⊎_elim (λ (z : y < block_address choice d.at). inl z) (λ (z : block_address choice d.at + 8 ≤ y). inr (omega (arith, z))) (blocks-apart choice c d.at y (other-free c (others-among c at)) p q))
                (⊎_elim (λ (z : y < block_address choice l.first). inl z) (λ (z : block_address choice l.first + 8 ≤ y). inr (omega (arith, z))) (blocks-apart choice c l.first y (all-at (λ x. x ≢ l.first) c (l.others ++ free_blocks rest) l-once.0 (among-left c l.others (free_blocks rest) at)) p q))) l-has.1.1,
          )

      pub put-holds : (live : List Block) → HoldsHeap program choice places second_put (record { cut = h.cut; live = live; lists = put_in d h.lists })
      put-holds live =
          let u = places.state_in in
          let r = holds.inside in
          let l_in = inside l.first l-among in
          let off_l = λ (y : ℕ) (p : base ≤ y) (q : y < base + places.data_bytes).
          let o : (y < block_address choice l.first) ⊎ (block_address choice l.first + 4 ≤ y) = ⊎_elim (λ (e : base + places.data_bytes ≤ 16 * choice.heap_segment). inl (omega (arith, e, q))) (λ (e : 16 * choice.heap_segment + program.heap ≤ base). inr (omega (arith, e, l_in, r, p))) places.data_heap in o in
          let off_d = λ (y : ℕ) (p : base ≤ y) (q : y < base + places.data_bytes).
          let o : (y < block_address choice d.at) ⊎ (block_address choice d.at + 4 ≤ y) = ⊎_elim (λ (z : y < block_address choice d.at). inl z) (λ (z : block_address choice d.at + 8 ≤ y). inr (omega (arith, z))) (block-off y p q) in o in
          holds-lists m second_put h (record { cut = h.cut; live = live; lists = put_in d h.lists }) holds refl
          (λ y p q off. put-off y (off_d y p q) (off_l y p q))
          (λ y z. still-reached p3 (block_address choice l.first + 2) (choice.heap_segment + d.at / 2) y (still-reached p2 (block_address choice l.first) (8 * (d.at % 2)) y (still-reached p1 (block_address choice d.at + 2) (link_high choice l.others) y (still-reached m (block_address choice d.at) (link_low l.others) y z))))
          (subst (λ (ls : List FreeList). HasLists choice second_put directory ls) (relinked-put d h.lists l rest found)
          (lists-relinked choice m second_put d.size (d.at ∷ l.others) l rest directory h.lists found once
          (λ y p q. put-off y (off_d y (omega (arith, p)) (omega (arith, q, u))) (off_l y (omega (arith, p)) (omega (arith, q, u))))
          (λ c y among p q off. put-off y (⊎_elim (λ (z : y < block_address choice d.at). inl z) (λ (z : block_address choice d.at + 8 ≤ y). inr (omega (arith, z))) (blocks-apart choice c d.at y (other-free c among) p q)) off) put-links holds.lists))

    -- as the first list
    abbrev b1 : Cells
    b1 = with_word m (block_address choice d.at) 0

    abbrev b2 : Cells
    b2 = with_word b1 (block_address choice d.at + 2) 0

    abbrev b3 : Cells
    b3 = with_word b2 (block_address choice d.at + 4) (head_of h.lists)

    abbrev b4 : Cells
    b4 = with_word b3 (block_address choice d.at + 6) d.size

    abbrev pub list_begun : Cells
    list_begun = with_word b4 (16 * choice.data_segment + places.state_at + 2) (suc d.at)

    begun-off : (y : ℕ) → (y < block_address choice d.at) ⊎ (block_address choice d.at + 8 ≤ y) → (y < directory) ⊎ (directory + 2 ≤ y) → list_begun y ≡ m y
    begun-off y off_d off =
        unwritten b4 directory (suc d.at) y off
        ∙ unwritten b3 (block_address choice d.at + 6) d.size y (⊎_elim (λ (z : y < block_address choice d.at). inl (omega (arith, z))) (λ (z : block_address choice d.at + 8 ≤ y). inr (omega (arith, z))) off_d)
        ∙ unwritten b2 (block_address choice d.at + 4) (head_of h.lists) y (⊎_elim (λ (z : y < block_address choice d.at). inl (omega (arith, z))) (λ (z : block_address choice d.at + 8 ≤ y). inr (omega (arith, z))) off_d)
        ∙ unwritten b1 (block_address choice d.at + 2) 0 y (⊎_elim (λ (z : y < block_address choice d.at). inl (omega (arith, z))) (λ (z : block_address choice d.at + 8 ≤ y). inr (omega (arith, z))) off_d)
        ∙ unwritten m (block_address choice d.at) 0 y (⊎_elim (λ (z : y < block_address choice d.at). inl z) (λ (z : block_address choice d.at + 8 ≤ y). inr (omega (arith, z))) off_d)

    -- the directory is none of a block's words
    directory-off : (b y : ℕ) → b < h.cut → block_address choice b ≤ y → y < block_address choice b + 8 → (y < directory) ⊎ (directory + 2 ≤ y)
    directory-off b y i p q =
        let r = holds.inside in
        let u = places.state_in in
        ⊎_elim (λ (e : base + places.data_bytes ≤ 16 * choice.heap_segment). inr (omega (arith, e, p, u))) (λ (e : 16 * choice.heap_segment + program.heap ≤ base). inl (omega (arith, e, i, r, q))) places.data_heap

    pub begun-holds : d.size < 65536 → (live : List Block) → HoldsHeap program choice places list_begun (record { cut = h.cut; live = live; lists = record { size = d.size; first = d.at; others = [] } ∷ h.lists })
    begun-holds small live =
        let u = places.state_in in
        let r = holds.inside in
        let t = places.heap_small in
        let head = head-word choice m directory h.lists holds.lists in
        let last = λ (y : ℕ) (p : block_address choice d.at ≤ y) (q : y < block_address choice d.at + 8). unwritten b4 directory (suc d.at) y (directory-off d.at y d_inside p q) in
        let w0 = word-same b1 list_begun (block_address choice d.at) 0 (λ y p q. last y p (omega (arith, q)) ∙ unwritten b3 (block_address choice d.at + 6) d.size y (inl (omega (arith, q))) ∙ unwritten b2 (block_address choice d.at + 4) (head_of h.lists) y (inl (omega (arith, q))) ∙ unwritten b1 (block_address choice d.at + 2) 0 y (inl (omega (arith, q)))) (written m (block_address choice d.at) 0 (omega arith)) in
        let w2 = word-same b2 list_begun (block_address choice d.at + 2) 0 (λ y p q. last y (omega (arith, p)) (omega (arith, q)) ∙ unwritten b3 (block_address choice d.at + 6) d.size y (inl (omega (arith, q))) ∙ unwritten b2 (block_address choice d.at + 4) (head_of h.lists) y (inl (omega (arith, q)))) (written b1 (block_address choice d.at + 2) 0 (omega arith)) in
        let w4 = word-same b3 list_begun (block_address choice d.at + 4) (head_of h.lists) (λ y p q. last y (omega (arith, p)) (omega (arith, q)) ∙ unwritten b3 (block_address choice d.at + 6) d.size y (inl (omega (arith, q)))) (written b2 (block_address choice d.at + 4) (head_of h.lists) head.small) in
        let w6 = word-same b4 list_begun (block_address choice d.at + 6) d.size (λ y p q. last y (omega (arith, p)) (omega (arith, q))) (written b3 (block_address choice d.at + 6) d.size small) in
        holds-lists m list_begun h (record { cut = h.cut; live = live; lists = record { size = d.size; first = d.at; others = [] } ∷ h.lists }) holds refl
        (λ y p q off. begun-off y (block-off y p q) off)
        (λ y z. still-reached b4 directory (suc d.at) y (still-reached b3 (block_address choice d.at + 6) d.size y (still-reached b2 (block_address choice d.at + 4) (head_of h.lists) y (still-reached b1 (block_address choice d.at + 2) 0 y (still-reached m (block_address choice d.at) 0 y z))))) (
          written b4 directory (suc d.at) (omega (arith, d_inside, r, t)),
          (w0, w2),
          w6,
          lists-moved choice m list_begun directory (block_address choice d.at + 4) h.lists w4 (λ c y among p q. begun-off y (blocks-apart choice c d.at y (other-free c among) p q) (directory-off c y (inside c among) p q)) holds.lists,
        )
