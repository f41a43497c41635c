-- New and Dispose leave a sound heap sound, and counted as the sum of blocks counts it.
use Rattle.std.proofs.Common.{◌≡◌, ◌≢◌, ℕ, ◌+◌, ◌-◌, ◌*◌, ◌≤◌, ◌<◌, inl, inr, max, Bool, true, false, cond, ◌&&◌, List, [], ◌∷◌, Option, Some, None, refl, sym, ap, subst, ◌∙◌, arith, eqb-true, eq-eqb}
use Rattle.std.specs.Prelude.{◌==◌, nat_lt}
use Rattle.std.specs.List.{AllByRecursion}
use Rattle.std.proofs.lemmas.Bool.{ltb-true}
use Rattle.std.proofs.lemmas.Bool.Decides.{nat_tests}
use Rattle.common_values.specs.declared.blocks.Row.{Row}
use Rattle.common_values.specs.Blocks.{block_sum, with_block, without_block, live_of, most_of}
use Rattle.common_values.proofs.BlockLemmas.{counted_with, counted_without, sum_same, sum_more, sum_laws}
use Rattle.heap_runtime.specs.heap.Heap.{Block, FreeList, Heap, given, without_one, made, made_by, dropped, disposed, covers, live_over, lists_over, others_over, free_blocks, IsSound, live_count, free_count, Counts}
use Rattle.heap_runtime.specs.heap.HeapMemory.{IsAmong}
use Rattle.heap_runtime.proofs.heap.Among.{among-either, IsOf}
use Rattle.heap_runtime.proofs.heap.Lists.{over-given, count-given, count-none, once-left, sizes-left, own-left, over-free, count-free, once-free, sizes-free, own-free}
use Rattle.heap_runtime.proofs.heap.Rows.{live-with, most-with, live-without, most-without}

-- ---- New

one-self : (n : ℕ) → cond {A = ℕ} (n == n) 1 0 ≡ 1
one-self n = ap (λ (t : Bool). cond {A = ℕ} t 1 0) (eq-eqb n n refl)

covers-next : (k cut size : ℕ) → covers k cut size + cond (nat_lt k cut) 1 0 ≡ cond (nat_lt k (cut + size)) 1 0
covers-next k cut size = grind (arith, nat_tests)

pub made-sound : (size : ℕ) (h : Heap) → 0 < size → IsSound h → IsSound (made size h)
made-sound size h some sound = by (given size h.lists) refl
  where
    by : (o : Option ℕ) → given size h.lists ≡ o → IsSound (made_by o size h)
    by None e = record {
      parts = λ k. let p = sound.parts k in omega (arith, covers-next k h.cut size);
      blocks = (some, sound.blocks);
      sizes = sound.sizes;
      once = sound.once;
      own = sound.own;
    }
    by (Some b) e = record {
      parts = λ k. let p = sound.parts k in omega (arith, over-given size k b h.lists e);
      blocks = (some, sound.blocks);
      sizes = sizes-left size (λ n. 0 < n) h.lists sound.sizes;
      once = once-left size h.lists sound.once;
      own = own-left size h.lists sound.own;
    }

eights-same : (a b : ℕ) → (8 * a == 8 * b) ≡ (a == b)
eights-same a b = grind (arith, nat_tests)

pub made-counts : (size : ℕ) (h : Heap) (rows : List Row) → Counts h rows → Counts (made size h) (with_block (8 * size) rows)
made-counts size h rows counts = by (given size h.lists) refl
  where
    live-now : (n : ℕ) → live_of (8 * n) (with_block (8 * size) rows) ≡ cond (size == n) (live_of (8 * n) rows + 1) (live_of (8 * n) rows)
    live-now n = live-with (8 * size) (8 * n) rows ∙ ap (λ t. cond t (live_of (8 * n) rows + 1) (live_of (8 * n) rows)) (eights-same size n)

    most-now : (n : ℕ) → most_of (8 * n) (with_block (8 * size) rows) ≡ cond (size == n) (max (most_of (8 * n) rows) (live_of (8 * n) rows + 1)) (most_of (8 * n) rows)
    most-now n = most-with (8 * size) (8 * n) rows ∙ ap (λ t. cond t (max (most_of (8 * n) rows) (live_of (8 * n) rows + 1)) (most_of (8 * n) rows)) (eights-same size n)

    live-by : (n : ℕ) (t : Bool) → cond t (live_of (8 * n) rows + 1) (live_of (8 * n) rows) ≡ cond t 1 0 + live_count n h.live
    live-by n true = let l = counts.live n in omega arith
    live-by n false = let l = counts.live n in omega arith

    -- one of the free blocks lives again
    again : (n : ℕ) (t : Bool) (left : ℕ) → free_count n h.lists ≡ cond t 1 0 + left → cond t (max (most_of (8 * n) rows) (live_of (8 * n) rows + 1)) (most_of (8 * n) rows) ≡ cond t 1 0 + live_count n h.live + left
    again n true left e = let l = counts.live n in let m = counts.most n in omega arith
    again n false left e = let l = counts.live n in let m = counts.most n in omega arith

    -- there was no free one
    more : (n : ℕ) (t : Bool) → (t ≡ true → free_count n h.lists ≡ 0) → cond t (max (most_of (8 * n) rows) (live_of (8 * n) rows + 1)) (most_of (8 * n) rows) ≡ cond t 1 0 + live_count n h.live + free_count n h.lists
    more n true e = let l = counts.live n in let m = counts.most n in let f = e refl in omega arith
    more n false e = let m = counts.most n in omega arith

    by : (o : Option ℕ) → given size h.lists ≡ o → Counts (made_by o size h) (with_block (8 * size) rows)
    by None e =
        let none = count-none size h.lists e in
        record {
          live = λ n. live-now n ∙ live-by n (size == n);
          most = λ n. most-now n ∙ more n (size == n) (λ t. sym (ap (λ s. free_count s h.lists) (eqb-true size n t)) ∙ none);
          counted = counted_with (8 * size) rows counts.counted;
          sum = let l = counts.live size in let m = counts.most size in let s = counts.sum in omega (arith, sum_more (8 * size) rows counts.counted (omega arith));
        }
    by (Some b) e = record {
      live = λ n. live-now n ∙ live-by n (size == n);
      most = λ n. most-now n ∙ again n (size == n) (free_count n (without_one size h.lists)) (count-given size n b h.lists e);
      counted = counted_with (8 * size) rows counts.counted;
      sum = sum_same (8 * size) rows counts.counted (fewer b e) ∙ counts.sum;
    }
      where
        fewer : (b : ℕ) → given size h.lists ≡ Some b → live_of (8 * size) rows < most_of (8 * size) rows
        fewer b e =
            let l = counts.live size in
            let m = counts.most size in
            let self = one-self size in
            omega (arith, count-given size size b h.lists e)

-- the sum of blocks passes the heap where no free block is there and no room behind the others
pub sum-given : (size b : ℕ) (h : Heap) (rows : List Row) → Counts h rows → given size h.lists ≡ Some b → block_sum (with_block (8 * size) rows) ≡ 8 * h.cut
sum-given size b h rows counts e =
    let l = counts.live size in
    let m = counts.most size in
    let self = one-self size in
    sum_same (8 * size) rows counts.counted (omega (arith, count-given size size b h.lists e)) ∙ counts.sum

pub sum-none : (size : ℕ) (h : Heap) (rows : List Row) → Counts h rows → given size h.lists ≡ None → block_sum (with_block (8 * size) rows) ≡ 8 * h.cut + 8 * size
sum-none size h rows counts e =
    let l = counts.live size in
    let m = counts.most size in
    let none = count-none size h.lists e in
    sum_more (8 * size) rows counts.counted (omega arith) ∙ ap (λ n. n + 8 * size) counts.sum

-- ---- Dispose

both-true : (p q : Bool) → (p && q) ≡ true → (p ≡ true) × (q ≡ true)
both-true true q e = (refl, e)
both-true false q e = absurd cc

both-self : (b : Block) → ((b.at == b.at) && (b.size == b.size)) ≡ true
both-self b = ap (λ t. t && (b.size == b.size)) (eq-eqb b.at b.at refl) ∙ eq-eqb b.size b.size refl

module _ (b : Block) where
  abbrev is_it : Block → Bool
  is_it c = (c.at == b.at) && (c.size == b.size)

  over-dropped : (k : ℕ) (live : List Block) → IsOf b live → live_over k live ≡ covers k b.at b.size + live_over k (dropped b live)
  over-dropped k [] h = absurd h
  over-dropped k (c ∷ live) h = by (over-dropped k live) (is_it c) refl h
    where
      by : (IsOf b live → live_over k live ≡ covers k b.at b.size + live_over k (dropped b live)) → (v : Bool) → is_it c ≡ v → IsOf b (c ∷ live) → live_over k (c ∷ live) ≡ covers k b.at b.size + live_over k (cond v live (c ∷ dropped b live))
      by ih true t h =
          let parts = both-true (c.at == b.at) (c.size == b.size) t in
          ap (λ n. covers k n c.size + live_over k live) (eqb-true c.at b.at parts.0) ∙ ap (λ n. covers k b.at n + live_over k live) (eqb-true c.size b.size parts.1)
      by ih false t (inl e) = absurd (let s = both-self b in let g : is_it c ≡ is_it b = ap is_it e in absurd cc)
      by ih false t (inr h) = omega (arith, ih h)

  count-dropped : (n : ℕ) (live : List Block) → IsOf b live → live_count n live ≡ cond (b.size == n) 1 0 + live_count n (dropped b live)
  count-dropped n [] h = absurd h
  count-dropped n (c ∷ live) h = by (count-dropped n live) (is_it c) refl h
    where
      by : (IsOf b live → live_count n live ≡ cond (b.size == n) 1 0 + live_count n (dropped b live)) → (v : Bool) → is_it c ≡ v → IsOf b (c ∷ live) → live_count n (c ∷ live) ≡ cond (b.size == n) 1 0 + live_count n (cond v live (c ∷ dropped b live))
      by ih true t h =
          let parts = both-true (c.at == b.at) (c.size == b.size) t in
          ap (λ s. cond (s == n) 1 0 + live_count n live) (eqb-true c.size b.size parts.1)
      by ih false t (inl e) = absurd (let s = both-self b in let g : is_it c ≡ is_it b = ap is_it e in absurd cc)
      by ih false t (inr h) = omega (arith, ih h)

  blocks-dropped : (live : List Block) → AllByRecursion (λ (c : Block). 0 < c.size) live → AllByRecursion (λ (c : Block). 0 < c.size) (dropped b live)
  blocks-dropped [] all = all
  blocks-dropped (c ∷ live) all = by (blocks-dropped live all.1) (is_it c)
    where
      by : AllByRecursion (λ (c : Block). 0 < c.size) (dropped b live) → (v : Bool) → AllByRecursion (λ (c : Block). 0 < c.size) (cond v live (c ∷ dropped b live))
      by ih true = all.1
      by ih false = (all.0, ih)

-- a free block has its first eight
first-over : (k size : ℕ) → 0 < size → covers k k size ≡ 1
first-over k size h = grind (arith, nat_tests)

others-over : (b size : ℕ) (others : List ℕ) → 0 < size → IsAmong b others → 1 ≤ others_over b size others
others-over b size [] some among = absurd among
others-over b size (c ∷ others) some (inl e) = let f : covers b c size ≡ 1 = ap (λ n. covers b n size) (sym e) ∙ first-over b size some in omega arith
others-over b size (c ∷ others) some (inr among) = omega (arith, others-over b size others some among)

pub free-over : (b : ℕ) (lists : List FreeList) → AllByRecursion (λ (l : FreeList). 0 < l.size) lists → IsAmong b (free_blocks lists) → 1 ≤ lists_over b lists
free-over b [] sizes among = absurd among
free-over b (l ∷ lists) sizes (inl e) = let f : covers b l.first l.size ≡ 1 = ap (λ n. covers b n l.size) (sym e) ∙ first-over b l.size sizes.0 in omega arith
free-over b (l ∷ lists) sizes (inr among) = elim (among-either b l.others (free_blocks lists) among) [
  | inl at ↦ omega (arith, others-over b l.size l.others sizes.0 at)
  | inr at ↦ omega (arith, free-over b lists sizes.1 at)
]

-- a free block lies in what was cut off
pub free-inside : (b : ℕ) (h : Heap) → IsSound h → IsAmong b (free_blocks h.lists) → b < h.cut
free-inside b h sound among =
    let over = free-over b h.lists sound.sizes among in
    let p = sound.parts b in
    by (nat_lt b h.cut) refl (omega arith)
  where
    by : (t : Bool) → nat_lt b h.cut ≡ t → 1 ≤ cond t 1 0 → b < h.cut
    by true e one = ltb-true b h.cut e
    by false e one = absurd (omega (arith, one))

live-positive : (b : Block) (live : List Block) → AllByRecursion (λ (c : Block). 0 < c.size) live → IsOf b live → 0 < b.size
live-positive b [] all h = absurd h
live-positive b (c ∷ live) all (inl e) = subst (λ (x : Block). 0 < x.size) e all.0
live-positive b (c ∷ live) all (inr h) = live-positive b live all.1 h

pub live-size : (b : Block) (h : Heap) → IsSound h → IsOf b h.live → 0 < b.size
live-size b h sound live = live-positive b h.live sound.blocks live

-- so does one that lives, which is no free one
pub live-inside : (b : Block) (h : Heap) → IsSound h → IsOf b h.live → b.at < h.cut
live-inside b h sound live =
    let some = live-size b h sound live in
    let over = over-dropped b b.at h.live live in
    let one = first-over b.at b.size some in
    let p = sound.parts b.at in
    by (nat_lt b.at h.cut) refl (omega arith)
  where
    by : (t : Bool) → nat_lt b.at h.cut ≡ t → 1 ≤ cond t 1 0 → b.at < h.cut
    by true e one = ltb-true b.at h.cut e
    by false e one = absurd (omega (arith, one))

cond-most : (t : Bool) → cond t 1 0 ≤ 1
cond-most true = omega arith
cond-most false = omega arith

pub live-apart : (b : Block) (h : Heap) → IsSound h → IsOf b h.live → IsAmong b.at (free_blocks h.lists) → ⊥
live-apart b h sound live among =
    let some = live-size b h sound live in
    let over = over-dropped b b.at h.live live in
    let one = first-over b.at b.size some in
    let free = free-over b.at h.lists sound.sizes among in
    let p = sound.parts b.at in
    let m = cond-most (nat_lt b.at h.cut) in
    omega arith

pub off-free : (c : ℕ) (bs : List ℕ) → (IsAmong c bs → ⊥) → AllByRecursion (λ x. x ≢ c) bs
off-free c [] h = tt
off-free c (b ∷ bs) h = ((λ e. h (inl (sym e))), off-free c bs (λ among. h (inr among)))

pub disposed-sound : (b : Block) (h : Heap) → IsSound h → IsOf b h.live → IsSound (disposed b h)
disposed-sound b h sound live = record {
  parts = λ k. let p = sound.parts k in omega (arith, over-dropped b k h.live live, over-free b k h.lists);
  blocks = blocks-dropped b h.live sound.blocks;
  sizes = sizes-free b (λ n. 0 < n) h.lists (live-size b h sound live) sound.sizes;
  once = once-free b h.lists (off-free b.at (free_blocks h.lists) (live-apart b h sound live)) sound.once;
  own = own-free b h.lists sound.own;
}

pub disposed-counts : (b : Block) (h : Heap) (rows : List Row) → Counts h rows → IsOf b h.live → Counts (disposed b h) (without_block (8 * b.size) rows)
disposed-counts b h rows counts live = record {
  live = λ n. live-without (8 * b.size) (8 * n) rows ∙ ap (λ t. cond t (live_of (8 * n) rows - 1) (live_of (8 * n) rows)) (eights-same b.size n) ∙ live-by n (b.size == n) (count-dropped b n h.live live);
  most = λ n. most-without (8 * b.size) (8 * n) rows ∙ (let m = counts.most n in omega (arith, count-dropped b n h.live live, count-free b n h.lists));
  counted = counted_without (8 * b.size) rows counts.counted;
  sum = sum_laws.stays (8 * b.size) rows ∙ counts.sum;
}
  where
    live-by : (n : ℕ) (t : Bool) → live_count n h.live ≡ cond t 1 0 + live_count n (dropped b h.live) → cond t (live_of (8 * n) rows - 1) (live_of (8 * n) rows) ≡ live_count n (dropped b h.live)
    live-by n true e = let l = counts.live n in omega arith
    live-by n false e = let l = counts.live n in omega arith
