-- The heap as the runtime keeps it: blocks that live, and lists of free blocks by their sizes. Places and sizes are counted in eights of bytes.
use Rattle.std.specs.Prelude.{◌≡◌, ◌≢◌, ℕ, suc, ◌+◌, ◌*◌, ◌/◌, ◌<◌, ◌==◌, ◌&&◌, ◌||◌, max, nat_le, nat_lt, Bool, false, cond, List, [], ◌∷◌, ◌++◌, length, Option, Some, None}
use Rattle.std.specs.List.{AllByRecursion}
use Rattle.common_values.specs.declared.blocks.Row.{Row}
use Rattle.common_values.specs.Blocks.{block_sum, live_of, most_of}
use Rattle.common_values.specs.BlockLaws.{IsCounted}

pub record Block : Type 0 where
  pub at : ℕ
  pub size : ℕ

-- the free blocks of one size: the first one, and those behind it
pub record FreeList : Type 0 where
  pub size : ℕ
  pub first : ℕ
  pub others : List ℕ

-- so much of the heap was ever cut into blocks; which of these live, and which are free
pub record Heap : Type 0 where
  pub cut : ℕ
  pub live : List Block
  pub lists : List FreeList

-- before the first New
abbrev pub empty_heap : Heap
empty_heap = record { cut = 0; live = []; lists = [] }

-- a size in bytes, rounded up, at least one
abbrev pub eights : ℕ → ℕ
eights size = max 1 ((size + 7) / 8)

-- ---- New

-- which block a list gives: the second one where there is one
abbrev pub block_from : ℕ → List ℕ → ℕ
block_from first [] = first
block_from first (b ∷ others) = b

-- and the lists without it
abbrev pub shortened : List ℕ → FreeList → List FreeList → List FreeList
shortened [] l lists = lists
shortened (b ∷ others) l lists = record { size = l.size; first = l.first; others = others } ∷ lists

-- a free block of a size, where there is one
abbrev pub given : ℕ → List FreeList → Option ℕ
given size [] = None
given size (l ∷ lists) = cond (l.size == size) (Some (block_from l.first l.others)) (given size lists)

abbrev pub without_one : ℕ → List FreeList → List FreeList
without_one size [] = []
without_one size (l ∷ lists) = cond (l.size == size) (shortened l.others l lists) (l ∷ without_one size lists)

-- a free block lives again, or one is cut off behind all others
abbrev pub made_by : Option ℕ → ℕ → Heap → Heap
made_by None size h = record { cut = h.cut + size; live = record { at = h.cut; size = size } ∷ h.live; lists = h.lists }
made_by (Some b) size h = record { cut = h.cut; live = record { at = b; size = size } ∷ h.live; lists = without_one size h.lists }

abbrev pub made : ℕ → Heap → Heap
made size h = made_by (given size h.lists) size h

abbrev pub block_by : Option ℕ → Heap → ℕ
block_by None h = h.cut
block_by (Some b) h = b

-- where the new block begins
abbrev pub new_block : ℕ → Heap → ℕ
new_block size h = block_by (given size h.lists) h

-- ---- Dispose

abbrev pub has_list : ℕ → List FreeList → Bool
has_list size [] = false
has_list size (l ∷ lists) = (l.size == size) || has_list size lists

-- a block goes behind the first one of its size
abbrev pub put_in : Block → List FreeList → List FreeList
put_in b [] = []
put_in b (l ∷ lists) = cond (l.size == b.size) (record { size = l.size; first = l.first; others = b.at ∷ l.others } ∷ lists) (l ∷ put_in b lists)

-- or begins a list
abbrev pub with_free : Block → List FreeList → List FreeList
with_free b lists = cond (has_list b.size lists) (put_in b lists) (record { size = b.size; first = b.at; others = [] } ∷ lists)

abbrev pub dropped : Block → List Block → List Block
dropped b [] = []
dropped b (c ∷ live) = cond ((c.at == b.at) && (c.size == b.size)) live (c ∷ dropped b live)

abbrev pub disposed : Block → Heap → Heap
disposed b h = record { cut = h.cut; live = dropped b h.live; lists = with_free b h.lists }

-- ---- what a heap always is

-- 1 where a block has an eight, else 0
abbrev pub covers : ℕ → ℕ → ℕ → ℕ
covers k at size = cond (nat_le at k && nat_lt k (at + size)) 1 0

-- how many blocks have it
abbrev pub live_over : ℕ → List Block → ℕ
live_over k [] = 0
live_over k (b ∷ live) = covers k b.at b.size + live_over k live

abbrev pub others_over : ℕ → ℕ → List ℕ → ℕ
others_over k size [] = 0
others_over k size (b ∷ others) = covers k b size + others_over k size others

abbrev pub lists_over : ℕ → List FreeList → ℕ
lists_over k [] = 0
lists_over k (l ∷ lists) = covers k l.first l.size + others_over k l.size l.others + lists_over k lists

-- the free blocks
abbrev pub free_blocks : List FreeList → List ℕ
free_blocks [] = []
free_blocks (l ∷ lists) = l.first ∷ (l.others ++ free_blocks lists)

abbrev pub EachOnce : List ℕ → Type 0
EachOnce [] = Unit {0}
EachOnce (b ∷ blocks) = AllByRecursion (λ c. c ≢ b) blocks × EachOnce blocks

-- no size has two lists
abbrev pub HaveOwnSizes : List FreeList → Type 0
HaveOwnSizes [] = Unit {0}
HaveOwnSizes (l ∷ lists) = AllByRecursion (λ (other : FreeList). other.size ≢ l.size) lists × HaveOwnSizes lists

-- each eight that was cut off is in one block, which lives or is free, and no other eight is in any; no block is free twice
pub record IsSound (h : Heap) : Type 0 where
  pub parts : (k : ℕ) → live_over k h.live + lists_over k h.lists ≡ cond (nat_lt k h.cut) 1 0
  pub blocks : AllByRecursion (λ (b : Block). 0 < b.size) h.live
  pub sizes : AllByRecursion (λ (l : FreeList). 0 < l.size) h.lists
  pub once : EachOnce (free_blocks h.lists)
  pub own : HaveOwnSizes h.lists

-- ---- as the sum of blocks counts them

abbrev pub live_count : ℕ → List Block → ℕ
live_count size [] = 0
live_count size (b ∷ live) = cond (b.size == size) 1 0 + live_count size live

abbrev pub free_count : ℕ → List FreeList → ℕ
free_count size [] = 0
free_count size (l ∷ lists) = cond (l.size == size) (suc (length l.others)) 0 + free_count size lists

-- of each size as many live as the rows say, and with the free ones as many as ever lived at once; their sum is what was cut off
pub record Counts (h : Heap) (rows : List Row) : Type 0 where
  pub live : (size : ℕ) → live_of (8 * size) rows ≡ live_count size h.live
  pub most : (size : ℕ) → most_of (8 * size) rows ≡ live_count size h.live + free_count size h.lists
  pub counted : IsCounted rows
  pub sum : block_sum rows ≡ 8 * h.cut
