-- Free blocks: which are among a list, and lists in which none is twice.
use Rattle.std.proofs.Common.{◌≡◌, ◌≢◌, ℕ, zero, suc, ◌<◌, ◌⊎◌, inl, inr, List, [], ◌∷◌, ◌++◌, length, get_or, sym, subst, ◌∙◌, arith, ⊎_elim}
use Rattle.std.specs.List.{AllByRecursion, Contains}
use Rattle.heap_runtime.specs.heap.Heap.{Block, EachOnce}
use Rattle.heap_runtime.specs.heap.HeapMemory.{IsAmong}

pub all-at : (P : ℕ → Type 0) (b : ℕ) (bs : List ℕ) → AllByRecursion P bs → IsAmong b bs → P b
all-at P b [] all among = absurd among
all-at P b (c ∷ bs) all (inl e) = subst P (sym e) all.0
all-at P b (c ∷ bs) all (inr among) = all-at P b bs all.1 among

pub among-left : (b : ℕ) (os ns : List ℕ) → IsAmong b os → IsAmong b (os ++ ns)
among-left b [] ns among = absurd among
among-left b (c ∷ os) ns (inl e) = inl e
among-left b (c ∷ os) ns (inr among) = inr (among-left b os ns among)

pub among-right : (b : ℕ) (os ns : List ℕ) → IsAmong b ns → IsAmong b (os ++ ns)
among-right b [] ns among = among
among-right b (c ∷ os) ns among = inr (among-right b os ns among)

pub among-either : (b : ℕ) (os ns : List ℕ) → IsAmong b (os ++ ns) → IsAmong b os ⊎ IsAmong b ns
among-either b [] ns among = inr among
among-either b (c ∷ os) ns (inl e) = inl (inl e)
among-either b (c ∷ os) ns (inr among) = ⊎_elim (λ l. inl (inr l)) (λ r. inr r) (among-either b os ns among)

-- what holds of all of a list holds where another end stands, of which it holds
pub all-swap : (P : ℕ → Type 0) (os ns ns' : List ℕ) → (AllByRecursion P ns → AllByRecursion P ns') → AllByRecursion P (os ++ ns) → AllByRecursion P (os ++ ns')
all-swap P [] ns ns' f all = f all
all-swap P (o ∷ os) ns ns' f all = (all.0, all-swap P os ns ns' f all.1)

pub once-swap : (os ns ns' : List ℕ) → ((x : ℕ) → AllByRecursion (λ c. c ≢ x) ns → AllByRecursion (λ c. c ≢ x) ns') → EachOnce ns' → EachOnce (os ++ ns) → EachOnce (os ++ ns')
once-swap [] ns ns' f once' once = once'
once-swap (o ∷ os) ns ns' f once' once = (all-swap (λ c. c ≢ o) os ns ns' (f o) once.0, once-swap os ns ns' f once' once.1)

-- and also where the other end has one block more, which is not in the front
pub once-more : (b : ℕ) (os ns ns' : List ℕ) → ((x : ℕ) → b ≢ x → AllByRecursion (λ c. c ≢ x) ns → AllByRecursion (λ c. c ≢ x) ns') → AllByRecursion (λ c. c ≢ b) (os ++ ns) → EachOnce ns' → EachOnce (os ++ ns) → EachOnce (os ++ ns')
once-more b [] ns ns' f off once' once = once'
once-more b (o ∷ os) ns ns' f off once' once = (all-swap (λ c. c ≢ o) os ns ns' (f o (λ e. off.0 (sym e))) once.0, once-more b os ns ns' f off.1 once' once.1)

pub once-end : (os ns : List ℕ) → EachOnce (os ++ ns) → EachOnce ns
once-end [] ns once = once
once-end (o ∷ os) ns once = once-end os ns once.1

pub all-end : (P : ℕ → Type 0) (os ns : List ℕ) → AllByRecursion P (os ++ ns) → AllByRecursion P ns
all-end P [] ns all = all
all-end P (o ∷ os) ns all = all-end P os ns all.1

-- one of the front is none of the end
pub once-cross : (b c : ℕ) (os ns : List ℕ) → EachOnce (os ++ ns) → IsAmong b os → IsAmong c ns → c ≢ b
once-cross b c [] ns once at end = absurd at
once-cross b c (o ∷ os) ns once (inl e) end = λ same. all-at (λ x. x ≢ o) c (os ++ ns) once.0 (among-right c os ns end) (same ∙ e)
once-cross b c (o ∷ os) ns once (inr at) end = once-cross b c os ns once.1 at end

-- ---- blocks that live, by recursion

abbrev pub IsOf : Block → List Block → Type 0
IsOf b [] = ⊥
IsOf b (c ∷ live) = (c ≡ b) ⊎ IsOf b live

pub of-contains : (b : Block) (live : List Block) → Contains live b → IsOf b live
of-contains b live has = by live has.0 has.1 has.2
  where
    by : (live : List Block) (k : ℕ) → k < length live → get_or live k b ≡ b → IsOf b live
    by [] k h e = absurd (omega (arith, h))
    by (c ∷ live) zero h e = inl e
    by (c ∷ live) (suc k) h e = inr (by live k (omega (arith, h)) e)
