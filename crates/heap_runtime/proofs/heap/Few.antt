-- There are no more free lists than eights that were cut off.
use Rattle.std.proofs.Common.{◌≡◌, ◌≢◌, ℕ, zero, suc, ◌≤◌, ◌<◌, inl, inr, Bool, true, false, cond, List, [], ◌∷◌, length, refl, subst, arith, eqb-true, length-append}
use Rattle.std.specs.Prelude.{◌==◌}
use Rattle.std.specs.List.{AllByRecursion}
use Rattle.std.proofs.lemmas.Bool.{eqb-false}
use Rattle.heap_runtime.specs.heap.Heap.{FreeList, Heap, free_blocks, EachOnce, IsSound}
use Rattle.heap_runtime.specs.heap.HeapMemory.{IsAmong}
use Rattle.heap_runtime.proofs.heap.Sound.{free-inside}

-- a number taken out
abbrev strip : ℕ → List ℕ → List ℕ
strip n [] = []
strip n (b ∷ bs) = cond (b == n) bs (b ∷ strip n bs)

strip-length : (n : ℕ) (bs : List ℕ) → length bs ≤ suc (length (strip n bs))
strip-length n [] = omega arith
strip-length n (b ∷ bs) = by (strip-length n bs) (b == n)
  where
    by : length bs ≤ suc (length (strip n bs)) → (v : Bool) → suc (length bs) ≤ suc (length (cond v bs (b ∷ strip n bs)))
    by ih true = omega arith
    by ih false = omega arith

strip-all : (P : ℕ → Type 0) (n : ℕ) (bs : List ℕ) → AllByRecursion P bs → AllByRecursion P (strip n bs)
strip-all P n [] all = all
strip-all P n (b ∷ bs) all = by (strip-all P n bs all.1) (b == n)
  where
    by : AllByRecursion P (strip n bs) → (v : Bool) → AllByRecursion P (cond v bs (b ∷ strip n bs))
    by ih true = all.1
    by ih false = (all.0, ih)

strip-once : (n : ℕ) (bs : List ℕ) → EachOnce bs → EachOnce (strip n bs)
strip-once n [] once = once
strip-once n (b ∷ bs) once = by (strip-once n bs once.1) (b == n)
  where
    by : EachOnce (strip n bs) → (v : Bool) → EachOnce (cond v bs (b ∷ strip n bs))
    by ih true = once.1
    by ih false = (strip-all (λ c. c ≢ b) n bs once.0, ih)

-- all below the next number, and none that number
lower : (n : ℕ) (bs : List ℕ) → AllByRecursion (λ c. c < suc n) bs → AllByRecursion (λ c. c ≢ n) bs → AllByRecursion (λ c. c < n) bs
lower n [] all none = tt
lower n (b ∷ bs) all none = (let p = all.0 in let q = none.0 in omega arith, lower n bs all.1 none.1)

strip-below : (n : ℕ) (bs : List ℕ) → AllByRecursion (λ c. c < suc n) bs → EachOnce bs → AllByRecursion (λ c. c < n) (strip n bs)
strip-below n [] all once = tt
strip-below n (b ∷ bs) all once = by (strip-below n bs all.1 once.1) (b == n) refl
  where
    by : AllByRecursion (λ c. c < n) (strip n bs) → (v : Bool) → (b == n) ≡ v → AllByRecursion (λ c. c < n) (cond v bs (b ∷ strip n bs))
    by ih true e = lower n bs all.1 (subst (λ x. AllByRecursion (λ c. c ≢ x) bs) (eqb-true b n e) once.0)
    by ih false e = (let p = all.0 in let q = eqb-false b n e in omega arith, ih)

-- so many numbers below a bound, each once, are no more than the bound
few-below : (n : ℕ) (bs : List ℕ) → AllByRecursion (λ c. c < n) bs → EachOnce bs → length bs ≤ n
few-below zero [] all once = omega arith
few-below zero (b ∷ bs) all once = absurd (let p = all.0 in omega arith)
few-below (suc n) bs all once =
    let rest = few-below n (strip n bs) (strip-below n bs all once) (strip-once n bs once) in
    omega (arith, strip-length n bs)

from-among : (n : ℕ) (bs : List ℕ) → ((b : ℕ) → IsAmong b bs → b < n) → AllByRecursion (λ c. c < n) bs
from-among n [] f = tt
from-among n (b ∷ bs) f = (f b (inl refl), from-among n bs (λ c among. f c (inr among)))

lists-blocks : (lists : List FreeList) → length lists ≤ length (free_blocks lists)
lists-blocks [] = omega arith
lists-blocks (l ∷ lists) = let ih = lists-blocks lists in omega (arith, length-append l.others (free_blocks lists))

pub few-lists : (h : Heap) → IsSound h → length h.lists ≤ h.cut
few-lists h sound =
    let blocks = few-below h.cut (free_blocks h.lists) (from-among h.cut (free_blocks h.lists) (λ b among. free-inside b h sound among)) sound.once in
    omega (arith, lists-blocks h.lists)
