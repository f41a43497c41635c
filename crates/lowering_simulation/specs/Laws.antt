-- The laws of following: how parts are put together, over any flat code and any relations between stores and bytes.
use Rattle.std.specs.Prelude.{◌≡◌, ℕ, suc, ◌+◌, ◌≤◌, ◌<◌, Ok, Err}
use Rattle.tp_meaning.specs.Found as found
use Rattle.tp_meaning.specs.Found.{Found}
use Rattle.tp_meaning.specs.Outcomes as source
use Rattle.tp_meaning.specs.Outcomes.{Does}
use Rattle.flat_code.specs.Calls as flat
use Rattle.flat_code.specs.Gives.{with_turns}
use Rattle.lowering_simulation.specs.Meets.{FlatRun, SourceMemory, FlatMemory, source_memory, flat_memory, Relation, Landing, SameTexts, IsCharged, IsStill, Meets, Context}

-- where the source has come to a value, flat code goes on to follow what comes next
abbrev pub FollowsNext : {A B : Type 0} → ℕ → ℕ → ℕ → (A → FlatRun) → Landing B → Relation A → Relation B → (A → Does B) → Type 0
FollowsNext {A} few weight turns f lands P Q next =
    (a : A) (s : source.State) (t : flat.State) → s.turns ≤ turns → SameTexts s t → P a (source_memory s) (flat_memory t) → Meets few weight s.turns (f a) t lands Q (next a s)

-- flat code alone goes from one state to another, and goes on as `g`, in so many turns
abbrev pub GoesTo : ℕ → FlatRun → flat.State → FlatRun → flat.State → Type 0
GoesTo spent f t g u = (left : ℕ) → f (with_turns t (spent + left)) ≡ g (with_turns u left)

-- less may be asked, and more be given
abbrev pub Weakening : {A : Type 0} → ℕ → Relation A → Relation A → Type 0
Weakening {A} few P wider =
    (weight more turns : ℕ) (f : FlatRun) (t : flat.State) (lands : Landing A) (r : source.Outcome A) →
    weight ≤ more → ((a : A) (m : SourceMemory) (n : FlatMemory) → P a m n → wider a m n) → Meets few weight turns f t lands P r → Meets few more turns f t lands wider r

-- a part of the source, and what follows it, where flat code stands in a context
abbrev pub Binding : {A B : Type 0} → ℕ → Relation A → Relation B → Type 0
Binding {A} {B} few P Q =
    (first rest turns : ℕ) (f : FlatRun) (k : flat.Outcome → flat.Outcome) (t : flat.State) (lands : Landing A) (ends : Landing B) (r : source.Outcome A) (next : A → Does B) →
    Context k → Meets few first turns f t lands P r → FollowsNext few rest turns (λ a u. k (lands a u)) ends P Q next →
    Meets few (first + rest) turns (λ u. k (f u)) t ends Q (source.and_then r next)

-- flat code alone, and then what follows the source
abbrev pub Preceding : {A : Type 0} → ℕ → Relation A → Type 0
Preceding {A} few P =
    (spent first rest turns : ℕ) (f g : FlatRun) (t u : flat.State) (lands : Landing A) (r : source.Outcome A) →
    GoesTo spent f t g u → IsCharged few first t u → Meets few rest turns g u lands P r → Meets few (first + rest) turns f t lands P r

-- Flat code arrives where the source has a value, and has spent nothing for it.
abbrev pub Arriving : {A : Type 0} → ℕ → Relation A → Type 0
Arriving {A} few P =
    (spent weight turns : ℕ) (f : FlatRun) (t u : flat.State) (lands : Landing A) (a : A) (s : source.State) →
    GoesTo spent f t (lands a) u → IsCharged few weight t u → SameTexts s u → turns ≡ s.turns → P a (source_memory s) (flat_memory u) → Meets few weight turns f t lands P (source.Done a s)

-- A turn that both spend pays for what comes behind it.
abbrev pub Turning : {A : Type 0} → ℕ → Relation A → Type 0
Turning {A} few P =
    (weight paid : ℕ) (f g : FlatRun) (t u : flat.State) (lands : Landing A) (go : Does A) (s : source.State) →
    ((left : ℕ) → f (with_turns t left) ≡ flat.spend (with_turns u left) g) → IsCharged few weight t u → SameTexts s u → paid ≤ few →
    ((turns : ℕ) → s.turns ≡ suc turns → Meets few paid turns g u lands P (go (record s { turns = turns }))) →
    Meets few weight s.turns f t lands P (source.spending go s)

-- a runtime error, for which flat code alone spends a turn
abbrev pub Raising : {A : Type 0} → ℕ → Relation A → Type 0
Raising {A} few P =
    (spent weight turns code : ℕ) (f : FlatRun) (t u : flat.State) (lands : Landing A) (s : source.State) →
    GoesTo spent f t (flat.raised code) u → IsCharged few weight t u → SameTexts s u → code < 256 → Meets few weight turns f t lands P (source.raised code s)

-- The source looks for something. Where it finds nothing by an undefined act, or by a step that no typed program takes, flat code may do what it
-- likes, if only it writes nothing without a turn.
abbrev pub Looking : (A : Type 0) {B : Type 0} → ℕ → Relation B → Type 0
Looking A {B} few Q =
    (weight turns : ℕ) (f : FlatRun) (t : flat.State) (lands : Landing B) (x : Found A) (next : A → Does B) (s : source.State) →
    IsStill s.out s.err (f (with_turns t 0)) →
    ((a : A) → x ≡ Ok a → Meets few weight turns f t lands Q (next a s)) →
    ((code : ℕ) → x ≡ Err (found.Error code) → Meets few weight turns f t lands Q (source.raised code s)) →
    Meets few weight turns f t lands Q (source.and_then (source.found x s) next)

pub record FollowingLaws {A B : Type 0} (few : ℕ) (P wider : Relation A) (Q : Relation B) : Type 0 where
  pub weakening : Weakening few P wider
  pub binding : Binding few P Q
  pub preceding : Preceding few P
  pub arriving : Arriving few P
  pub turning : Turning few P
  pub raising : Raising few P
  pub looking : Looking A few Q
