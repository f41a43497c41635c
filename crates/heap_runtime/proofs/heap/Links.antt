-- Links and lists in memory: where they stand after stores elsewhere, and after a list gets other blocks or goes.
use Rattle.std.proofs.Common.{◌≡◌, ◌≢◌, ℕ, zero, suc, ◌+◌, ◌≤◌, ◌<◌, ◌⊎◌, inl, inr, Bool, true, false, cond, ◌||◌, List, [], ◌∷◌, ◌++◌, Some, None, refl, sym, ap, subst, ◌∙◌, arith, ⊎_elim}
use Rattle.std.specs.Prelude.{◌==◌}
use Rattle.std.proofs.lemmas.Bool.{cases_lt}
use Rattle.flat_code.specs.Memory.{Cells}
use Rattle.flat_code.specs.Program.{Choice}
use Rattle.runtime_proofs.specs.routine_proofs.Activation.{HoldsWord}
use Rattle.heap_runtime.specs.heap.Heap.{Block, FreeList, block_from, shortened, given, without_one, has_list, put_in, free_blocks, EachOnce}
use Rattle.heap_runtime.specs.heap.HeapMemory.{block_address, HasLinks, HasLists, IsAmong}
use Rattle.heap_runtime.proofs.heap.Among.{all-at, among-left, among-right, once-cross, once-end}

-- ---- words

pub word-same : (m n : Cells) (x v : ℕ) → ((y : ℕ) → x ≤ y → y < x + 2 → n y ≡ m y) → HoldsWord m x v → HoldsWord n x v
word-same m n x v same has = record { low = same x (omega arith) (omega arith) ∙ has.low; high = same (x + 1) (omega arith) (omega arith) ∙ has.high; small = has.small }

-- ---- what is the same at its words stays

-- the bytes of a block's first words are the same
abbrev pub SameIn : Choice → Cells → Cells → List ℕ → Type 0
SameIn choice m n blocks = (b y : ℕ) → IsAmong b blocks → block_address choice b ≤ y → y < block_address choice b + 8 → n y ≡ m y

module _ (choice : Choice) (m n : Cells) where
  pub links-kept : (x : ℕ) (bs : List ℕ) → ((y : ℕ) → x ≤ y → y < x + 4 → n y ≡ m y) → SameIn choice m n bs → HasLinks choice m x bs → HasLinks choice n x bs
  links-kept x [] same within has = (word-same m n x 0 (λ y p q. same y p (omega (arith, q))) has.0, word-same m n (x + 2) 0 (λ y p q. same y (omega (arith, p)) (omega (arith, q))) has.1)
  links-kept x (b ∷ bs) same within has = (
    word-same m n x _ (λ y p q. same y p (omega (arith, q))) has.0,
    word-same m n (x + 2) _ (λ y p q. same y (omega (arith, p)) (omega (arith, q))) has.1,
    links-kept (block_address choice b) bs (λ y p q. within b y (inl refl) p (omega (arith, q))) (λ c y among p q. within c y (inr among) p q) has.2,
  )

  pub lists-kept : (x : ℕ) (lists : List FreeList) → ((y : ℕ) → x ≤ y → y < x + 2 → n y ≡ m y) → SameIn choice m n (free_blocks lists) → HasLists choice m x lists → HasLists choice n x lists
  lists-kept x [] same within has = word-same m n x 0 same has
  lists-kept x (l ∷ lists) same within has =
      let a = block_address choice l.first in (
        word-same m n x (suc l.first) same has.0,
        links-kept a l.others (λ y p q. within l.first y (inl refl) p (omega (arith, q))) (λ c y among p q. within c y (inr (among-left c l.others (free_blocks lists) among)) p q) has.1,
        word-same m n (a + 6) l.size (λ y p q. within l.first y (inl refl) (omega (arith, p)) (omega (arith, q))) has.2,
        lists-kept (a + 4) lists (λ y p q. within l.first y (inl refl) (omega (arith, p)) (omega (arith, q))) (λ c y among p q. within c y (inr (among-right c l.others (free_blocks lists) among)) p q) has.3,
      )

-- what the word at the head of lists is
abbrev pub head_of : List FreeList → ℕ
head_of [] = 0
head_of (l ∷ lists) = suc l.first

pub head-word : (choice : Choice) (m : Cells) (x : ℕ) (lists : List FreeList) → HasLists choice m x lists → HoldsWord m x (head_of lists)
head-word choice m x [] has = has
head-word choice m x (l ∷ lists) has = has.0

-- the head stands elsewhere
pub lists-moved : (choice : Choice) (m n : Cells) (x z : ℕ) (lists : List FreeList) → HoldsWord n z (head_of lists) → SameIn choice m n (free_blocks lists) → HasLists choice m x lists → HasLists choice n z lists
lists-moved choice m n x z [] head within has = head
lists-moved choice m n x z (l ∷ lists) head within has =
    let a = block_address choice l.first in (
      head,
      links-kept choice m n a l.others (λ y p q. within l.first y (inl refl) p (omega (arith, q))) (λ c y among p q. within c y (inr (among-left c l.others (free_blocks lists) among)) p q) has.1,
      word-same m n (a + 6) l.size (λ y p q. within l.first y (inl refl) (omega (arith, p)) (omega (arith, q))) has.2,
      lists-kept choice m n (a + 4) lists (λ y p q. within l.first y (inl refl) (omega (arith, p)) (omega (arith, q))) (λ c y among p q. within c y (inr (among-right c l.others (free_blocks lists) among)) p q) has.3,
    )

-- ---- the list of a size

-- the lists from that one on
abbrev pub from_found : ℕ → List FreeList → List FreeList
from_found size [] = []
from_found size (l ∷ lists) = cond (l.size == size) (l ∷ lists) (from_found size lists)

-- the first block of the list before it, counted from 1
abbrev pub before_found : ℕ → ℕ → List FreeList → ℕ
before_found size before [] = before
before_found size before (l ∷ lists) = cond (l.size == size) before (before_found size (suc l.first) lists)

-- where the word stands that leads to it
abbrev pub spot : Choice → ℕ → ℕ → ℕ
spot choice x zero = x
spot choice x (suc b) = block_address choice b + 4

same-head : (a b : FreeList) (xs ys : List FreeList) → a ∷ xs ≡ b ∷ ys → a ≡ b
same-head a b xs ys e = cc

same-rest : (a b : FreeList) (xs ys : List FreeList) → a ∷ xs ≡ b ∷ ys → xs ≡ ys
same-rest a b xs ys e = cc

-- its first block is a free one
pub found-among : (size : ℕ) (lists : List FreeList) (l : FreeList) (rest : List FreeList) → from_found size lists ≡ l ∷ rest → IsAmong l.first (free_blocks lists)
found-among size [] l rest e = absurd cc
found-among size (k ∷ lists) l rest e = by (found-among size lists l rest) (k.size == size) e
  where
    by : (from_found size lists ≡ l ∷ rest → IsAmong l.first (free_blocks lists)) → (v : Bool) → cond v (k ∷ lists) (from_found size lists) ≡ l ∷ rest → IsAmong l.first (free_blocks (k ∷ lists))
    by ih true e = inl (sym (ap (λ (f : FreeList). f.first) (same-head k l lists rest e)))
    by ih false e = inr (among-right l.first k.others (free_blocks lists) (ih e))

-- so are those behind it
pub among-of : (size : ℕ) (lists : List FreeList) (l : FreeList) (rest : List FreeList) → from_found size lists ≡ l ∷ rest → (c : ℕ) → IsAmong c (l.others ++ free_blocks rest) → IsAmong c (free_blocks lists)
among-of size [] l rest e c at = absurd cc
among-of size (k ∷ lists) l rest e c at = by (among-of size lists l rest) (k.size == size) e
  where
    by : (from_found size lists ≡ l ∷ rest → (c : ℕ) → IsAmong c (l.others ++ free_blocks rest) → IsAmong c (free_blocks lists)) → (v : Bool) → cond v (k ∷ lists) (from_found size lists) ≡ l ∷ rest → IsAmong c (free_blocks (k ∷ lists))
    by ih true e = subst (λ (ls : List FreeList). IsAmong c (free_blocks ls)) (sym e) (inr at)
    by ih false e = inr (among-right c k.others (free_blocks lists) (ih e c at))

pub found-once : (size : ℕ) (lists : List FreeList) (l : FreeList) (rest : List FreeList) → from_found size lists ≡ l ∷ rest → EachOnce (free_blocks lists) → EachOnce (free_blocks (l ∷ rest))
found-once size [] l rest e once = absurd cc
found-once size (k ∷ lists) l rest e once = by (found-once size lists l rest) (k.size == size) e
  where
    by : (from_found size lists ≡ l ∷ rest → EachOnce (free_blocks lists) → EachOnce (free_blocks (l ∷ rest))) → (v : Bool) → cond v (k ∷ lists) (from_found size lists) ≡ l ∷ rest → EachOnce (free_blocks (l ∷ rest))
    by ih true e = subst (λ (ls : List FreeList). EachOnce (free_blocks ls)) e once
    by ih false e = ih e (once-end k.others (free_blocks lists) once.1)

-- what stands there in memory
pub found-has : (choice : Choice) (m : Cells) (size x : ℕ) (lists : List FreeList) → HasLists choice m x lists → (z : ℕ) × HasLists choice m z (from_found size lists)
found-has choice m size x [] has = (x, has)
found-has choice m size x (l ∷ lists) has = by (found-has choice m size (block_address choice l.first + 4) lists has.3) (l.size == size)
  where
    by : ((z : ℕ) × HasLists choice m z (from_found size lists)) → (v : Bool) → (z : ℕ) × HasLists choice m z (cond v (l ∷ lists) (from_found size lists))
    by ih true = (x, has)
    by ih false = ih

pub given-found : (size : ℕ) (lists : List FreeList) (l : FreeList) (rest : List FreeList) → from_found size lists ≡ l ∷ rest → given size lists ≡ Some (block_from l.first l.others)
given-found size [] l rest e = absurd cc
given-found size (k ∷ lists) l rest e = by (given-found size lists l rest) (k.size == size) e
  where
    by : (from_found size lists ≡ l ∷ rest → given size lists ≡ Some (block_from l.first l.others)) → (v : Bool) → cond v (k ∷ lists) (from_found size lists) ≡ l ∷ rest → cond v (Some (block_from k.first k.others)) (given size lists) ≡ Some (block_from l.first l.others)
    by ih true e = ap (λ (f : FreeList). Some (block_from f.first f.others)) (same-head k l lists rest e)
    by ih false e = ih e

pub given-nothing : (size : ℕ) (lists : List FreeList) → from_found size lists ≡ [] → given size lists ≡ None
given-nothing size [] e = refl
given-nothing size (k ∷ lists) e = by (given-nothing size lists) (k.size == size) e
  where
    by : (from_found size lists ≡ [] → given size lists ≡ None) → (v : Bool) → cond v (k ∷ lists) (from_found size lists) ≡ [] → cond v (Some (block_from k.first k.others)) (given size lists) ≡ None
    by ih true e = absurd cc
    by ih false e = ih e

pub has-found : (size : ℕ) (lists : List FreeList) (l : FreeList) (rest : List FreeList) → from_found size lists ≡ l ∷ rest → has_list size lists ≡ true
has-found size [] l rest e = absurd cc
has-found size (k ∷ lists) l rest e = by (has-found size lists l rest) (k.size == size) e
  where
    by : (from_found size lists ≡ l ∷ rest → has_list size lists ≡ true) → (v : Bool) → cond v (k ∷ lists) (from_found size lists) ≡ l ∷ rest → (v || has_list size lists) ≡ true
    by ih true e = refl
    by ih false e = ih e

pub has-nothing : (size : ℕ) (lists : List FreeList) → from_found size lists ≡ [] → has_list size lists ≡ false
has-nothing size [] e = refl
has-nothing size (k ∷ lists) e = by (has-nothing size lists) (k.size == size) e
  where
    by : (from_found size lists ≡ [] → has_list size lists ≡ false) → (v : Bool) → cond v (k ∷ lists) (from_found size lists) ≡ [] → (v || has_list size lists) ≡ false
    by ih true e = absurd cc
    by ih false e = ih e

-- ---- a list with other blocks behind its first one

abbrev pub relinked : ℕ → List ℕ → List FreeList → List FreeList
relinked size others [] = []
relinked size others (l ∷ lists) = cond (l.size == size) (record { size = l.size; first = l.first; others = others } ∷ lists) (l ∷ relinked size others lists)

pub relinked-without : (size b : ℕ) (bs : List ℕ) (lists : List FreeList) (l : FreeList) (rest : List FreeList) → from_found size lists ≡ l ∷ rest → l.others ≡ b ∷ bs → relinked size bs lists ≡ without_one size lists
relinked-without size b bs [] l rest e f = absurd cc
relinked-without size b bs (k ∷ lists) l rest e f = by (relinked-without size b bs lists l rest) (k.size == size) e
  where
    by : (from_found size lists ≡ l ∷ rest → l.others ≡ b ∷ bs → relinked size bs lists ≡ without_one size lists) → (v : Bool) → cond v (k ∷ lists) (from_found size lists) ≡ l ∷ rest →
        cond v (record { size = k.size; first = k.first; others = bs } ∷ lists) (k ∷ relinked size bs lists) ≡ cond v (shortened k.others k lists) (k ∷ without_one size lists)
    by ih true e = let same = ap (λ (f : FreeList). f.others) (same-head k l lists rest e) in sym (ap (λ (os : List ℕ). shortened os k lists) (same ∙ f))
    by ih false e = ap (λ (ls : List FreeList). k ∷ ls) (ih e f)

pub relinked-put : (b : Block) (lists : List FreeList) (l : FreeList) (rest : List FreeList) → from_found b.size lists ≡ l ∷ rest → relinked b.size (b.at ∷ l.others) lists ≡ put_in b lists
relinked-put b [] l rest e = absurd cc
relinked-put b (k ∷ lists) l rest e = by (relinked-put b lists l rest) (k.size == b.size) e
  where
    by : (from_found b.size lists ≡ l ∷ rest → relinked b.size (b.at ∷ l.others) lists ≡ put_in b lists) → (v : Bool) → cond v (k ∷ lists) (from_found b.size lists) ≡ l ∷ rest →
        cond v (record { size = k.size; first = k.first; others = b.at ∷ l.others } ∷ lists) (k ∷ relinked b.size (b.at ∷ l.others) lists) ≡ cond v (record { size = k.size; first = k.first; others = b.at ∷ k.others } ∷ lists) (k ∷ put_in b lists)
    by ih true e = let same = ap (λ (f : FreeList). f.others) (same-head k l lists rest e) in sym (ap (λ (os : List ℕ). let ls : List FreeList = record { size = k.size; first = k.first; others = b.at ∷ os } ∷ lists in ls) same)
    by ih false e = ap (λ (ls : List FreeList). k ∷ ls) (ih e)

-- one of two blocks that differ lies before the other
pub blocks-apart : (choice : Choice) (b c y : ℕ) → b ≢ c → block_address choice b ≤ y → y < block_address choice b + 8 → (y < block_address choice c) ⊎ (block_address choice c + 8 ≤ y)
blocks-apart choice b c y ne p q = ⊎_elim (λ (l : b < c). inl (omega (arith, l, q))) (λ (l : c ≤ b). inr (omega (arith, l, ne, p))) (cases_lt b c)

module _ (choice : Choice) (m n : Cells) (size : ℕ) (others : List ℕ) (l : FreeList) (rest : List FreeList) where
  -- memory is the same at the blocks of lists, but for the link in its first one
  abbrev SameButLink : List ℕ → Type 0
  SameButLink blocks = (b y : ℕ) → IsAmong b blocks → block_address choice b ≤ y → y < block_address choice b + 8 → (y < block_address choice l.first) ⊎ (block_address choice l.first + 4 ≤ y) → n y ≡ m y

  -- so in all other blocks
  elsewhere : (blocks : List ℕ) (b y : ℕ) → SameButLink blocks → IsAmong b blocks → b ≢ l.first → block_address choice b ≤ y → y < block_address choice b + 8 → n y ≡ m y
  elsewhere blocks b y same among ne p q = same b y among p q (⊎_elim (λ h. inl h) (λ h. inr (omega (arith, h))) (blocks-apart choice b l.first y ne p q))

  pub lists-relinked : (x : ℕ) (lists : List FreeList) → from_found size lists ≡ l ∷ rest → EachOnce (free_blocks lists) → ((y : ℕ) → x ≤ y → y < x + 2 → n y ≡ m y) → SameButLink (free_blocks lists) →
      HasLinks choice n (block_address choice l.first) others → HasLists choice m x lists → HasLists choice n x (relinked size others lists)
  lists-relinked x [] e once head same links has = absurd cc
  lists-relinked x (k ∷ lists) e once head same links has =
      by (λ found once head same. lists-relinked (block_address choice k.first + 4) lists found once head same links has.3) (k.size == size) e
    where
      a : ℕ
      a = block_address choice k.first

      here : k ≡ l → HasLists choice n x (record { size = k.size; first = k.first; others = others } ∷ lists)
      here is =
          let first : l.first ≡ k.first = ap (λ (f : FreeList). f.first) (sym is) in (
            word-same m n x (suc k.first) head has.0,
            subst (λ b. HasLinks choice n (block_address choice b) others) first links,
            word-same m n (block_address choice k.first + 6) k.size (λ y p q. same k.first y (inl refl) (omega (arith, p)) (omega (arith, q)) (inr (omega (arith, p, first)))) has.2,
            lists-kept choice m n (block_address choice k.first + 4) lists
                (λ y p q. same k.first y (inl refl) (omega (arith, p)) (omega (arith, q)) (inr (omega (arith, p, first))))
                (λ c y among p q. elsewhere (free_blocks (k ∷ lists)) c y same (inr (among-right c k.others (free_blocks lists) among)) (λ ce. all-at (λ z. z ≢ k.first) c (k.others ++ free_blocks lists) once.0 (among-right c k.others (free_blocks lists) among) (ce ∙ first)) p q) has.3,
          )

      there : from_found size lists ≡ l ∷ rest → HasLists choice n (block_address choice k.first + 4) (relinked size others lists) → HasLists choice n x (k ∷ relinked size others lists)
      there found more =
          let among = found-among size lists l rest found in
          let first : k.first ≢ l.first = λ ke. all-at (λ z. z ≢ k.first) l.first (k.others ++ free_blocks lists) once.0 (among-right l.first k.others (free_blocks lists) among) (sym ke) in (
            word-same m n x (suc k.first) head has.0,
            links-kept choice m n (block_address choice k.first) k.others
                (λ y p q. elsewhere (free_blocks (k ∷ lists)) k.first y same (inl refl) first p (omega (arith, q)))
                (λ c y in_front p q. elsewhere (free_blocks (k ∷ lists)) c y same (inr (among-left c k.others (free_blocks lists) in_front)) (λ ce. once-cross c l.first k.others (free_blocks lists) once.1 in_front among (sym ce)) p q) has.1,
            word-same m n (block_address choice k.first + 6) k.size (λ y p q. elsewhere (free_blocks (k ∷ lists)) k.first y same (inl refl) first (omega (arith, p)) (omega (arith, q))) has.2,
            more,
          )

      by : (from_found size lists ≡ l ∷ rest → EachOnce (free_blocks lists) → ((y : ℕ) → block_address choice k.first + 4 ≤ y → y < block_address choice k.first + 4 + 2 → n y ≡ m y) → SameButLink (free_blocks lists) → HasLists choice n (block_address choice k.first + 4) (relinked size others lists)) →
          (v : Bool) → cond v (k ∷ lists) (from_found size lists) ≡ l ∷ rest → HasLists choice n x (cond v (record { size = k.size; first = k.first; others = others } ∷ lists) (k ∷ relinked size others lists))
      by ih true found = here (same-head k l lists rest found)
      by ih false found =
          let among = found-among size lists l rest found in
          let first : k.first ≢ l.first = λ ke. all-at (λ z. z ≢ k.first) l.first (k.others ++ free_blocks lists) once.0 (among-right l.first k.others (free_blocks lists) among) (sym ke) in
          there found (ih found (once-end k.others (free_blocks lists) once.1)
          (λ y p q. elsewhere (free_blocks (k ∷ lists)) k.first y same (inl refl) first (omega (arith, p)) (omega (arith, q)))
          (λ c y at p q off. same c y (inr (among-right c k.others (free_blocks lists) at)) p q off))

-- ---- a list goes

pub before-in : (size b : ℕ) (lists : List FreeList) → (c : ℕ) × (before_found size (suc b) lists ≡ suc c) × IsAmong c (b ∷ free_blocks lists)
before-in size b [] = (b, refl, inl refl)
before-in size b (l ∷ lists) = by (before-in size l.first lists) (l.size == size)
  where
    by : ((c : ℕ) × (before_found size (suc l.first) lists ≡ suc c) × IsAmong c (l.first ∷ free_blocks lists)) → (v : Bool) → (c : ℕ) × (cond v (suc b) (before_found size (suc l.first) lists) ≡ suc c) × IsAmong c (b ∷ free_blocks (l ∷ lists))
    by ih true = (b, refl, inl refl)
    by ih false = (ih.0, ih.1, inr (⊎_elim (λ e. inl e) (λ at. inr (among-right ih.0 l.others (free_blocks lists) at)) ih.2))

pub before-among : (size : ℕ) (lists : List FreeList) (c : ℕ) → before_found size 0 lists ≡ suc c → IsAmong c (free_blocks lists)
before-among size [] c e = absurd (omega (arith, e))
before-among size (k ∷ lists) c e = by (k.size == size) e
  where
    by : (v : Bool) → cond v 0 (before_found size (suc k.first) lists) ≡ suc c → IsAmong c (free_blocks (k ∷ lists))
    by true e = absurd (omega (arith, e))
    by false e =
        let found = before-in size k.first lists in
        let same : found.0 ≡ c = omega (arith, found.1, e) in
        subst (λ (b : ℕ). IsAmong b (free_blocks (k ∷ lists))) same (⊎_elim (λ (z : found.0 ≡ k.first). inl z) (λ z. inr (among-right found.0 k.others (free_blocks lists) z)) found.2)

module _ (choice : Choice) (m n : Cells) (size : ℕ) (l : FreeList) (rest : List FreeList) (directory : ℕ) where
  -- a word at an address is in none of these blocks
  abbrev pub IsOff : ℕ → List ℕ → Type 0
  IsOff x blocks = (b : ℕ) → IsAmong b blocks → (x + 2 ≤ block_address choice b) ⊎ (block_address choice b + 8 ≤ x)

  -- memory is the same but for a word
  abbrev pub SameButWord : ℕ → Type 0
  SameButWord x = (y : ℕ) → (y < x) ⊎ (x + 2 ≤ y) → n y ≡ m y

  pub lists-unlinked : (before : ℕ) (lists : List FreeList) → from_found size lists ≡ l ∷ rest → l.others ≡ [] → EachOnce (free_blocks lists) → IsOff (spot choice directory before) (free_blocks lists) →
      HoldsWord n (spot choice directory (before_found size before lists)) (head_of rest) → SameButWord (spot choice directory (before_found size before lists)) →
      HasLists choice m (spot choice directory before) lists → HasLists choice n (spot choice directory before) (without_one size lists)
  lists-unlinked before [] e alone once off head same has = absurd cc
  lists-unlinked before (k ∷ lists) e alone once off head same has =
      by (λ found once off head same. lists-unlinked (suc k.first) lists found alone once off head same has.3) (k.size == size) e head same
    where
      x : ℕ
      x = spot choice directory before

      here : k ∷ lists ≡ l ∷ rest → HoldsWord n (spot choice directory before) (head_of rest) → SameButWord (spot choice directory before) → HasLists choice n (spot choice directory before) (shortened k.others k lists)
      here is head same =
          let none : [] ≡ k.others = sym (ap (λ (f : FreeList). f.others) (same-head k l lists rest is) ∙ alone) in
          subst (λ (os : List ℕ). HasLists choice n (spot choice directory before) (shortened os k lists)) none
          (lists-moved choice m n (block_address choice k.first + 4) (spot choice directory before) lists (subst (λ (ls : List FreeList). HoldsWord n (spot choice directory before) (head_of ls)) (sym (same-rest k l lists rest is)) head)
          (λ c y among p q. same y (⊎_elim (λ h. inr (omega (arith, h, p))) (λ h. inl (omega (arith, h, q))) (off c (inr (among-right c k.others (free_blocks lists) among))))) has.3)

      there : SameButWord (spot choice directory (before_found size (suc k.first) lists)) → HasLists choice n (block_address choice k.first + 4) (without_one size lists) → HasLists choice n (spot choice directory before) (k ∷ without_one size lists)
      there same more =
          let c = before-in size k.first lists in
          let at : spot choice directory (before_found size (suc k.first) lists) ≡ block_address choice c.0 + 4 = ap (spot choice directory) c.1 in
          let among : IsAmong c.0 (free_blocks (k ∷ lists)) = ⊎_elim (λ ce. inl ce) (λ h. inr (among-right c.0 k.others (free_blocks lists) h)) c.2 in
          let first : (y : ℕ) → block_address choice k.first ≤ y → y < block_address choice k.first + 8 → (y < block_address choice k.first + 4) ⊎ (block_address choice k.first + 6 ≤ y) → n y ≡ m y = λ y p q split. same y (⊎_elim
          (λ (ce : c.0 ≡ k.first). ⊎_elim (λ h. inl (omega (arith, at, ce, h))) (λ h. inr (omega (arith, at, ce, h))) split)
          (λ h. let ne : k.first ≢ c.0 = λ ke. all-at (λ z. z ≢ k.first) c.0 (k.others ++ free_blocks lists) once.0 (among-right c.0 k.others (free_blocks lists) h) (sym ke) in
          ⊎_elim (λ u. inl (omega (arith, at, u))) (λ u. inr (omega (arith, at, u))) (blocks-apart choice k.first c.0 y ne p q)) c.2) in (
            word-same m n (spot choice directory before) (suc k.first) (λ y p q. same y (⊎_elim (λ h. inl (omega (arith, at, h, q))) (λ h. inr (omega (arith, at, h, p))) (off c.0 among))) has.0,
            links-kept choice m n (block_address choice k.first) k.others
                (λ y p q. first y p (omega (arith, q)) (inl q))
                (λ o y in_front p q.
                let ne : o ≢ c.0 = ⊎_elim (λ (ce : c.0 ≡ k.first). λ oe. all-at (λ z. z ≢ k.first) o (k.others ++ free_blocks lists) once.0 (among-left o k.others (free_blocks lists) in_front) (oe ∙ ce)) (λ h. λ oe. once-cross o c.0 k.others (free_blocks lists) once.1 in_front h (sym oe)) c.2 in
                same y (⊎_elim (λ u. inl (omega (arith, at, u))) (λ u. inr (omega (arith, at, u))) (blocks-apart choice o c.0 y ne p q))) has.1,
            word-same m n (block_address choice k.first + 6) k.size (λ y p q. first y (omega (arith, p)) (omega (arith, q)) (inr p)) has.2,
            more,
          )

      by : (from_found size lists ≡ l ∷ rest → EachOnce (free_blocks lists) → IsOff (block_address choice k.first + 4) (free_blocks lists) → HoldsWord n (spot choice directory (before_found size (suc k.first) lists)) (head_of rest) → SameButWord (spot choice directory (before_found size (suc k.first) lists)) → HasLists choice n (block_address choice k.first + 4) (without_one size lists)) →
          (v : Bool) → cond v (k ∷ lists) (from_found size lists) ≡ l ∷ rest → HoldsWord n (spot choice directory (cond v before (before_found size (suc k.first) lists))) (head_of rest) → SameButWord (spot choice directory (cond v before (before_found size (suc k.first) lists))) →
          HasLists choice n (spot choice directory before) (cond v (shortened k.others k lists) (k ∷ without_one size lists))
      by ih true found head same = here found head same
      by ih false found head same = there same (ih found (once-end k.others (free_blocks lists) once.1)
          (λ b among. let ne : b ≢ k.first = all-at (λ z. z ≢ k.first) b (k.others ++ free_blocks lists) once.0 (among-right b k.others (free_blocks lists) among) in
          ⊎_elim (λ (h : b < k.first). inr (omega (arith, h))) (λ (h : k.first ≤ b). inl (omega (arith, h, ne))) (cases_lt b k.first)) head same)
