-- What New and Dispose do to free lists: which eights they have, how many blocks of each size, and that none is twice.
use Rattle.std.proofs.Common.{◌≡◌, ◌≢◌, ℕ, suc, ◌+◌, inl, inr, Bool, true, false, cond, ◌||◌, List, [], ◌∷◌, ◌++◌, length, Some, None, refl, sym, ap, arith, ⊎_elim, eqb-true}
use Rattle.std.proofs.lemmas.Bool.{eqb-false}
use Rattle.std.specs.Prelude.{◌==◌}
use Rattle.std.specs.List.{AllByRecursion}
use Rattle.heap_runtime.specs.heap.Heap.{Block, FreeList, block_from, shortened, given, without_one, has_list, put_in, with_free, covers, others_over, lists_over, free_blocks, EachOnce, HaveOwnSizes, free_count}
use Rattle.heap_runtime.specs.heap.HeapMemory.{IsAmong}
use Rattle.heap_runtime.proofs.heap.Among.{all-swap, all-end, among-left, among-right, among-either, once-swap, once-more, once-end}

some-is : (a b : ℕ) → Some a ≡ Some b → a ≡ b
some-is a b e = cc

-- ---- a block that is given

module _ (size : ℕ) where
  -- the eights of the lists are those of the block and of the lists without it
  over-shortened : (k b : ℕ) (l : FreeList) (lists : List FreeList) → l.size ≡ size → block_from l.first l.others ≡ b → lists_over k (l ∷ lists) ≡ covers k b size + lists_over k (shortened l.others l lists)
  over-shortened k b l lists same is = by l.others is
    where
      by : (others : List ℕ) → block_from l.first others ≡ b → covers k l.first l.size + others_over k l.size others + lists_over k lists ≡ covers k b size + lists_over k (shortened others l lists)
      by [] e = omega (arith, ap (λ n. covers k l.first n) same, ap (λ n. covers k n size) e)
      by (c ∷ others) e = omega (arith, ap (λ n. covers k c n) same, ap (λ n. covers k n size) e)

  pub over-given : (k b : ℕ) (lists : List FreeList) → given size lists ≡ Some b → lists_over k lists ≡ covers k b size + lists_over k (without_one size lists)
  over-given k b [] e = absurd cc
  over-given k b (l ∷ lists) e = by (over-given k b lists) (l.size == size) refl e
    where
      by : (given size lists ≡ Some b → lists_over k lists ≡ covers k b size + lists_over k (without_one size lists)) → (v : Bool) → (l.size == size) ≡ v → cond v (Some (block_from l.first l.others)) (given size lists) ≡ Some b → lists_over k (l ∷ lists) ≡ covers k b size + lists_over k (cond v (shortened l.others l lists) (l ∷ without_one size lists))
      by ih true t e = over-shortened k b l lists (eqb-true l.size size t) (some-is (block_from l.first l.others) b e)
      by ih false t e = omega (arith, ih e)

  -- of that size there is one block less
  pub count-given : (n b : ℕ) (lists : List FreeList) → given size lists ≡ Some b → free_count n lists ≡ cond (size == n) 1 0 + free_count n (without_one size lists)
  count-given n b [] e = absurd cc
  count-given n b (l ∷ lists) e = by (count-given n b lists) (l.size == size) refl e
    where
      shorter : l.size ≡ size → (others : List ℕ) → cond (l.size == n) (suc (length others)) 0 + free_count n lists ≡ cond (size == n) 1 0 + free_count n (shortened others l lists)
      shorter same [] = ap (λ s. cond (s == n) 1 0 + free_count n lists) same
      shorter same (c ∷ others) = split (l.size == n) (size == n) (ap (λ s. s == n) same)
        where
          split : (u v : Bool) → u ≡ v → cond u (suc (suc (length others))) 0 + free_count n lists ≡ cond v 1 0 + (cond u (suc (length others)) 0 + free_count n lists)
          split true true g = omega arith
          split true false g = absurd cc
          split false true g = absurd cc
          split false false g = omega arith

      by : (given size lists ≡ Some b → free_count n lists ≡ cond (size == n) 1 0 + free_count n (without_one size lists)) → (v : Bool) → (l.size == size) ≡ v → cond v (Some (block_from l.first l.others)) (given size lists) ≡ Some b → free_count n (l ∷ lists) ≡ cond (size == n) 1 0 + free_count n (cond v (shortened l.others l lists) (l ∷ without_one size lists))
      by ih true t e = shorter (eqb-true l.size size t) l.others
      by ih false t e = omega (arith, ih e)

  pub count-none : (lists : List FreeList) → given size lists ≡ None → free_count size lists ≡ 0
  count-none [] e = refl
  count-none (l ∷ lists) e = by (count-none lists) (l.size == size) e
    where
      by : (given size lists ≡ None → free_count size lists ≡ 0) → (v : Bool) → cond v (Some (block_from l.first l.others)) (given size lists) ≡ None → cond v (suc (length l.others)) 0 + free_count size lists ≡ 0
      by ih true e = absurd cc
      by ih false e = omega (arith, ih e)

  -- what holds of all free blocks holds of those that are left
  pub all-left : (P : ℕ → Type 0) (lists : List FreeList) → AllByRecursion P (free_blocks lists) → AllByRecursion P (free_blocks (without_one size lists))
  all-left P [] all = all
  all-left P (l ∷ lists) all = by (all-left P lists) (l.size == size)
    where
      shorter : (others : List ℕ) → AllByRecursion P (l.first ∷ (others ++ free_blocks lists)) → AllByRecursion P (free_blocks (shortened others l lists))
      shorter [] all = all.1
      shorter (c ∷ others) all = (all.0, all.1.1)

      by : (AllByRecursion P (free_blocks lists) → AllByRecursion P (free_blocks (without_one size lists))) → (v : Bool) → AllByRecursion P (free_blocks (cond v (shortened l.others l lists) (l ∷ without_one size lists)))
      by ih true = shorter l.others all
      by ih false = (all.0, all-swap P l.others (free_blocks lists) (free_blocks (without_one size lists)) ih all.1)

  pub once-left : (lists : List FreeList) → EachOnce (free_blocks lists) → EachOnce (free_blocks (without_one size lists))
  once-left [] once = once
  once-left (l ∷ lists) once = by (once-left lists (once-end l.others (free_blocks lists) once.1)) (l.size == size)
    where
      shorter : (others : List ℕ) → EachOnce (l.first ∷ (others ++ free_blocks lists)) → EachOnce (free_blocks (shortened others l lists))
      shorter [] once = once.1
      shorter (c ∷ others) once = (once.0.1, once.1.1)

      by : EachOnce (free_blocks (without_one size lists)) → (v : Bool) → EachOnce (free_blocks (cond v (shortened l.others l lists) (l ∷ without_one size lists)))
      by ih true = shorter l.others once
      by ih false = (
        all-swap (λ c. c ≢ l.first) l.others (free_blocks lists) (free_blocks (without_one size lists)) (all-left (λ c. c ≢ l.first) lists) once.0,
        once-swap l.others (free_blocks lists) (free_blocks (without_one size lists)) (λ x. all-left (λ c. c ≢ x) lists) ih once.1,
      )

  pub sizes-left : (P : ℕ → Type 0) (lists : List FreeList) → AllByRecursion (λ (l : FreeList). P l.size) lists → AllByRecursion (λ (l : FreeList). P l.size) (without_one size lists)
  sizes-left P [] all = all
  sizes-left P (l ∷ lists) all = by (sizes-left P lists all.1) (l.size == size)
    where
      shorter : (others : List ℕ) → AllByRecursion (λ (l : FreeList). P l.size) (shortened others l lists)
      shorter [] = all.1
      shorter (c ∷ others) = all

      by : AllByRecursion (λ (l : FreeList). P l.size) (without_one size lists) → (v : Bool) → AllByRecursion (λ (l : FreeList). P l.size) (cond v (shortened l.others l lists) (l ∷ without_one size lists))
      by ih true = shorter l.others
      by ih false = (all.0, ih)

  pub own-left : (lists : List FreeList) → HaveOwnSizes lists → HaveOwnSizes (without_one size lists)
  own-left [] own = own
  own-left (l ∷ lists) own = by (own-left lists own.1) (l.size == size)
    where
      shorter : (others : List ℕ) → HaveOwnSizes (shortened others l lists)
      shorter [] = own.1
      shorter (c ∷ others) = own

      by : HaveOwnSizes (without_one size lists) → (v : Bool) → HaveOwnSizes (cond v (shortened l.others l lists) (l ∷ without_one size lists))
      by ih true = shorter l.others
      by ih false = (sizes-left (λ n. n ≢ l.size) lists own.0, ih)

  -- the block that is given is one of them
  pub given-among : (b : ℕ) (lists : List FreeList) → given size lists ≡ Some b → IsAmong b (free_blocks lists)
  given-among b [] e = absurd cc
  given-among b (l ∷ lists) e = by (given-among b lists) (l.size == size) e
    where
      one : (others : List ℕ) → block_from l.first others ≡ b → IsAmong b (l.first ∷ (others ++ free_blocks lists))
      one [] e = inl (sym e)
      one (c ∷ others) e = inr (inl (sym e))

      by : (given size lists ≡ Some b → IsAmong b (free_blocks lists)) → (v : Bool) → cond v (Some (block_from l.first l.others)) (given size lists) ≡ Some b → IsAmong b (free_blocks (l ∷ lists))
      by ih true e = one l.others (some-is (block_from l.first l.others) b e)
      by ih false e = inr (among-right b l.others (free_blocks lists) (ih e))

-- ---- a block that is put in

module _ (b : Block) where
  -- where a list has its size
  over-put : (k : ℕ) (lists : List FreeList) → has_list b.size lists ≡ true → lists_over k (put_in b lists) ≡ covers k b.at b.size + lists_over k lists
  over-put k [] h = absurd cc
  over-put k (l ∷ lists) h = by (over-put k lists) (l.size == b.size) refl h
    where
      by : (has_list b.size lists ≡ true → lists_over k (put_in b lists) ≡ covers k b.at b.size + lists_over k lists) → (v : Bool) → (l.size == b.size) ≡ v → (v || has_list b.size lists) ≡ true → lists_over k (cond v (record { size = l.size; first = l.first; others = b.at ∷ l.others } ∷ lists) (l ∷ put_in b lists)) ≡ covers k b.at b.size + lists_over k (l ∷ lists)
      by ih true t h = omega (arith, ap (covers k b.at) (eqb-true l.size b.size t))
      by ih false t h = omega (arith, ih h)

  pub over-free : (k : ℕ) (lists : List FreeList) → lists_over k (with_free b lists) ≡ covers k b.at b.size + lists_over k lists
  over-free k lists = by (has_list b.size lists) refl
    where
      by : (v : Bool) → has_list b.size lists ≡ v → lists_over k (cond v (put_in b lists) (record { size = b.size; first = b.at; others = [] } ∷ lists)) ≡ covers k b.at b.size + lists_over k lists
      by true t = over-put k lists t
      by false t = omega arith

  count-put : (n : ℕ) (lists : List FreeList) → has_list b.size lists ≡ true → free_count n (put_in b lists) ≡ cond (b.size == n) 1 0 + free_count n lists
  count-put n [] h = absurd cc
  count-put n (l ∷ lists) h = by (count-put n lists) (l.size == b.size) refl h
    where
      split : (u v : Bool) → u ≡ v → cond u (suc (suc (length l.others))) 0 + free_count n lists ≡ cond v 1 0 + (cond u (suc (length l.others)) 0 + free_count n lists)
      split true true g = omega arith
      split true false g = absurd cc
      split false true g = absurd cc
      split false false g = omega arith

      by : (has_list b.size lists ≡ true → free_count n (put_in b lists) ≡ cond (b.size == n) 1 0 + free_count n lists) → (v : Bool) → (l.size == b.size) ≡ v → (v || has_list b.size lists) ≡ true → free_count n (cond v (record { size = l.size; first = l.first; others = b.at ∷ l.others } ∷ lists) (l ∷ put_in b lists)) ≡ cond (b.size == n) 1 0 + free_count n (l ∷ lists)
      by ih true t h = split (l.size == n) (b.size == n) (ap (λ s. s == n) (eqb-true l.size b.size t))
      by ih false t h = omega (arith, ih h)

  pub count-free : (n : ℕ) (lists : List FreeList) → free_count n (with_free b lists) ≡ cond (b.size == n) 1 0 + free_count n lists
  count-free n lists = by (has_list b.size lists) refl
    where
      by : (v : Bool) → has_list b.size lists ≡ v → free_count n (cond v (put_in b lists) (record { size = b.size; first = b.at; others = [] } ∷ lists)) ≡ cond (b.size == n) 1 0 + free_count n lists
      by true t = count-put n lists t
      by false t = refl

  all-put : (P : ℕ → Type 0) (lists : List FreeList) → P b.at → AllByRecursion P (free_blocks lists) → AllByRecursion P (free_blocks (put_in b lists))
  all-put P [] p all = all
  all-put P (l ∷ lists) p all = by (all-put P lists p) (l.size == b.size)
    where
      by : (AllByRecursion P (free_blocks lists) → AllByRecursion P (free_blocks (put_in b lists))) → (v : Bool) → AllByRecursion P (free_blocks (cond v (record { size = l.size; first = l.first; others = b.at ∷ l.others } ∷ lists) (l ∷ put_in b lists)))
      by ih true = (all.0, (p, all.1))
      by ih false = (all.0, all-swap P l.others (free_blocks lists) (free_blocks (put_in b lists)) ih all.1)

  once-put : (lists : List FreeList) → AllByRecursion (λ c. c ≢ b.at) (free_blocks lists) → EachOnce (free_blocks lists) → EachOnce (free_blocks (put_in b lists))
  once-put [] off once = once
  once-put (l ∷ lists) off once = by (once-put lists (all-end (λ c. c ≢ b.at) l.others (free_blocks lists) off.1) (once-end l.others (free_blocks lists) once.1)) (l.size == b.size)
    where
      by : EachOnce (free_blocks (put_in b lists)) → (v : Bool) → EachOnce (free_blocks (cond v (record { size = l.size; first = l.first; others = b.at ∷ l.others } ∷ lists) (l ∷ put_in b lists)))
      by ih true = (((λ e. off.0 (sym e)), once.0), (off.1, once.1))
      by ih false = (
        all-swap (λ c. c ≢ l.first) l.others (free_blocks lists) (free_blocks (put_in b lists)) (all-put (λ c. c ≢ l.first) lists (λ e. off.0 (sym e))) once.0,
        once-more b.at l.others (free_blocks lists) (free_blocks (put_in b lists)) (λ x ne. all-put (λ c. c ≢ x) lists ne) off.1 ih once.1,
      )

  pub once-free : (lists : List FreeList) → AllByRecursion (λ c. c ≢ b.at) (free_blocks lists) → EachOnce (free_blocks lists) → EachOnce (free_blocks (with_free b lists))
  once-free lists off once = by (has_list b.size lists)
    where
      by : (v : Bool) → EachOnce (free_blocks (cond v (put_in b lists) (record { size = b.size; first = b.at; others = [] } ∷ lists)))
      by true = once-put lists off once
      by false = (off, once)

  sizes-put : (P : ℕ → Type 0) (lists : List FreeList) → AllByRecursion (λ (l : FreeList). P l.size) lists → AllByRecursion (λ (l : FreeList). P l.size) (put_in b lists)
  sizes-put P [] all = all
  sizes-put P (l ∷ lists) all = by (sizes-put P lists all.1) (l.size == b.size)
    where
      by : AllByRecursion (λ (l : FreeList). P l.size) (put_in b lists) → (v : Bool) → AllByRecursion (λ (l : FreeList). P l.size) (cond v (record { size = l.size; first = l.first; others = b.at ∷ l.others } ∷ lists) (l ∷ put_in b lists))
      by ih true = all
      by ih false = (all.0, ih)

  pub sizes-free : (P : ℕ → Type 0) (lists : List FreeList) → P b.size → AllByRecursion (λ (l : FreeList). P l.size) lists → AllByRecursion (λ (l : FreeList). P l.size) (with_free b lists)
  sizes-free P lists p all = by (has_list b.size lists)
    where
      by : (v : Bool) → AllByRecursion (λ (l : FreeList). P l.size) (cond v (put_in b lists) (record { size = b.size; first = b.at; others = [] } ∷ lists))
      by true = sizes-put P lists all
      by false = (p, all)

  own-put : (lists : List FreeList) → HaveOwnSizes lists → HaveOwnSizes (put_in b lists)
  own-put [] own = own
  own-put (l ∷ lists) own = by (own-put lists own.1) (l.size == b.size)
    where
      by : HaveOwnSizes (put_in b lists) → (v : Bool) → HaveOwnSizes (cond v (record { size = l.size; first = l.first; others = b.at ∷ l.others } ∷ lists) (l ∷ put_in b lists))
      by ih true = own
      by ih false = (sizes-put (λ n. n ≢ l.size) lists own.0, ih)

  none-has : (lists : List FreeList) → has_list b.size lists ≡ false → AllByRecursion (λ (l : FreeList). l.size ≢ b.size) lists
  none-has [] h = tt
  none-has (l ∷ lists) h = by (none-has lists) (l.size == b.size) refl h
    where
      by : (has_list b.size lists ≡ false → AllByRecursion (λ (l : FreeList). l.size ≢ b.size) lists) → (v : Bool) → (l.size == b.size) ≡ v → (v || has_list b.size lists) ≡ false → AllByRecursion (λ (l : FreeList). l.size ≢ b.size) (l ∷ lists)
      by ih true t h = absurd cc
      by ih false t h = (eqb-false l.size b.size t, ih h)

  pub own-free : (lists : List FreeList) → HaveOwnSizes lists → HaveOwnSizes (with_free b lists)
  own-free lists own = by (has_list b.size lists) refl
    where
      by : (v : Bool) → has_list b.size lists ≡ v → HaveOwnSizes (cond v (put_in b lists) (record { size = b.size; first = b.at; others = [] } ∷ lists))
      by true t = own-put lists own
      by false t = (none-has lists t, own)

  put-among : (lists : List FreeList) → has_list b.size lists ≡ true → IsAmong b.at (free_blocks (put_in b lists))
  put-among [] h = absurd cc
  put-among (l ∷ lists) h = by (put-among lists) (l.size == b.size) h
    where
      by : (has_list b.size lists ≡ true → IsAmong b.at (free_blocks (put_in b lists))) → (v : Bool) → (v || has_list b.size lists) ≡ true → IsAmong b.at (free_blocks (cond v (record { size = l.size; first = l.first; others = b.at ∷ l.others } ∷ lists) (l ∷ put_in b lists)))
      by ih true h = inr (inl refl)
      by ih false h = inr (among-right b.at l.others (free_blocks (put_in b lists)) (ih h))

  stays-among : (c : ℕ) (lists : List FreeList) → IsAmong c (free_blocks lists) → IsAmong c (free_blocks (put_in b lists))
  stays-among c [] among = among
  stays-among c (l ∷ lists) among = by (stays-among c lists) (l.size == b.size) among
    where
      by : (IsAmong c (free_blocks lists) → IsAmong c (free_blocks (put_in b lists))) → (v : Bool) → IsAmong c (free_blocks (l ∷ lists)) → IsAmong c (free_blocks (cond v (record { size = l.size; first = l.first; others = b.at ∷ l.others } ∷ lists) (l ∷ put_in b lists)))
      by ih v (inl e) = either v (inl e) (inl e)
        where
          either : (v : Bool) → IsAmong c (free_blocks (record { size = l.size; first = l.first; others = b.at ∷ l.others } ∷ lists)) → IsAmong c (free_blocks (l ∷ put_in b lists)) → IsAmong c (free_blocks (cond v (record { size = l.size; first = l.first; others = b.at ∷ l.others } ∷ lists) (l ∷ put_in b lists)))
          either true x y = x
          either false x y = y
      by ih true (inr at) = inr (inr at)
      by ih false (inr at) = inr (⊎_elim (λ z. among-left c l.others (free_blocks (put_in b lists)) z) (λ z. among-right c l.others (free_blocks (put_in b lists)) (ih z)) (among-either c l.others (free_blocks lists) at))

  -- it is one of the free blocks then, as those before
  pub free-among : (lists : List FreeList) → IsAmong b.at (free_blocks (with_free b lists))
  free-among lists = by (has_list b.size lists) refl
    where
      by : (v : Bool) → has_list b.size lists ≡ v → IsAmong b.at (free_blocks (cond v (put_in b lists) (record { size = b.size; first = b.at; others = [] } ∷ lists)))
      by true t = put-among lists t
      by false t = inl refl

  pub lists-among : (c : ℕ) (lists : List FreeList) → IsAmong c (free_blocks lists) → IsAmong c (free_blocks (with_free b lists))
  lists-among c lists among = by (has_list b.size lists)
    where
      by : (v : Bool) → IsAmong c (free_blocks (cond v (put_in b lists) (record { size = b.size; first = b.at; others = [] } ∷ lists)))
      by true = stays-among c lists among
      by false = inr among
