-- What it is for a run of flat code to follow what comes of a part of the source: a forward simulation, which says how many turns the flat run
-- is given, and what its work is paid by.
use Rattle.std.specs.Prelude.{◌≡◌, ℕ, ◌+◌, ◌*◌, ◌≤◌, Bool, List, length}
use Rattle.common_values.specs.behaviour.Seen.{Standing, Ended, Going, Undefined, Stopped}
use Rattle.tp_meaning.specs.Store.{Store}
use Rattle.tp_meaning.specs.Outcomes as source
use Rattle.tp_meaning.specs.Calls as calls
use Rattle.tp_meaning.specs.Calls.{Flow}
use Rattle.flat_code.specs.Memory.{Cells}
use Rattle.flat_code.specs.Calls as flat
use Rattle.flat_code.specs.Gives.{with_turns}

-- what flat code does from a state
abbrev pub FlatRun : Type 0
FlatRun = flat.State → flat.Outcome

-- ---- what both sides hold

-- what a state of the source holds besides its turns and what was written
pub record SourceMemory : Type 0 where
  pub store : Store
  pub installed : Bool
  pub input : List ℕ

-- what a state of flat code holds besides its turns, its work and what was written
pub record FlatMemory : Type 0 where
  pub cells : Cells
  pub flag : Bool
  pub input : List ℕ

abbrev pub source_memory : source.State → SourceMemory
source_memory s = record { store = s.store; installed = s.installed; input = s.input }

abbrev pub flat_memory : flat.State → FlatMemory
flat_memory t = record { cells = t.cells; flag = t.flag; input = t.input }

-- How a value and the memory of both sides are related. How a store is represented in bytes is open here.
abbrev pub Relation : Type 0 → Type 1
Relation A = A → SourceMemory → FlatMemory → Type 0

abbrev pub HasTexts : List ℕ → List ℕ → flat.State → Type 0
HasTexts out err t = (t.out ≡ out) × (t.err ≡ err)

-- both have written the same to the output and to the errors
abbrev pub SameTexts : source.State → flat.State → Type 0
SameTexts s t = HasTexts s.out s.err t

-- ---- how flat code arrives where the source gives a value

abbrev pub Landing : Type 0 → Type 0
Landing A = A → flat.State → flat.Outcome

-- the next statement follows
abbrev pub falls_through : {A : Type 0} → Landing A
falls_through a t = flat.Next t

-- a statement of the source leaves its routine by a `Return`
abbrev pub lands_by : Landing Flow
lands_by calls.Next t = flat.Next t
lands_by calls.Left t = flat.Returned t

-- ---- cost

-- The work so far, with what the bytes of the input and the turns of the source that are left will pay: so much for each.
abbrev pub charge : ℕ → ℕ → flat.State → ℕ
charge few turns t = t.work + few * length t.input + few * turns

-- From one state to another there is so much work at most, besides what the bytes that were read pay.
abbrev pub IsCharged : ℕ → ℕ → flat.State → flat.State → Type 0
IsCharged few weight t end = end.work + few * length end.input ≤ t.work + few * length t.input + weight

-- ---- following

-- Flat code with so many turns arrives where the source gives a value, and leaves the turns that it has besides. The flat run spends no fewer
-- turns than the source does.
pub record Arrives {A : Type 0} (few weight turns : ℕ) (f : FlatRun) (t : flat.State) (lands : Landing A) (P : Relation A) (a : A) (s : source.State) : Type 0 where
  pub spent : ℕ
  pub end : flat.State
  pub runs : (left : ℕ) → f (with_turns t (spent + left)) ≡ lands a (with_turns end left)
  pub enough : turns ≤ spent + s.turns
  pub fewer : s.turns ≤ turns
  pub texts : SameTexts s end
  pub paid : charge few s.turns end ≤ charge few turns t + weight
  pub related : P a (source_memory s) (flat_memory end)

-- With so many turns the flat run stands as the source does: it is over in the same way, or goes on where it had no fewer turns.
pub record StandsSo (few weight turns : ℕ) (f : FlatRun) (t : flat.State) (standing : Standing) (s : source.State) : Type 0 where
  pub spent : ℕ
  pub end : flat.State
  pub runs : f (with_turns t spent) ≡ flat.Over standing end
  pub enough : standing ≡ Going → turns ≤ spent
  pub texts : SameTexts s end
  pub paid : charge few 0 end ≤ charge few turns t + weight

-- nothing but this was written, and where flat code goes on it has no turn left
abbrev pub IsStill : List ℕ → List ℕ → flat.Outcome → Type 0
IsStill out err (flat.Next t) = (t.turns ≡ 0) × HasTexts out err t
IsStill out err (flat.Left loops t) = (t.turns ≡ 0) × HasTexts out err t
IsStill out err (flat.Returned t) = (t.turns ≡ 0) × HasTexts out err t
IsStill out err (flat.Over standing t) = HasTexts out err t

-- With so many turns the flat run has written what the source had written before an undefined act. Nothing else is asked.
pub record StandsStill (f : FlatRun) (t : flat.State) (s : source.State) : Type 0 where
  pub spent : ℕ
  pub still : IsStill s.out s.err (f (with_turns t spent))

-- Flat code, from a state with any number of turns, follows what comes of a part of the source that began with so many. Its work is at most
-- `few` for each turn of the source and each byte that is read, and `weight` besides. Of a step that no typed program takes nothing is asked.
abbrev pub Meets : {A : Type 0} → ℕ → ℕ → ℕ → FlatRun → flat.State → Landing A → Relation A → source.Outcome A → Type 0
Meets few weight turns f t lands P (source.Done a s) = Arrives few weight turns f t lands P a s
Meets few weight turns f t lands P (source.Over (Ended code) s) = StandsSo few weight turns f t (Ended code) s
Meets few weight turns f t lands P (source.Over Going s) = StandsSo few weight turns f t Going s
Meets few weight turns f t lands P (source.Over (Undefined act) s) = StandsStill f t s
Meets few weight turns f t lands P (source.Over Stopped s) = Unit {0}

-- What is done with the outcome of flat code round it: it changes nothing where the run is over, and is still where the code is.
pub record Context (k : flat.Outcome → flat.Outcome) : Type 0 where
  pub over : (standing : Standing) (t : flat.State) → k (flat.Over standing t) ≡ flat.Over standing t
  pub still : (out err : List ℕ) (o : flat.Outcome) → IsStill out err o → IsStill out err (k o)
