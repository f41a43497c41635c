-- States of a run, and what comes of a step.
use Rattle.std.specs.Prelude.{ℕ, zero, suc, Bool, true, false, List, ◌++◌, Option, Some, None, Ok, Err}
use Rattle.common_values.specs.behaviour.Seen.{Standing, Ended, Going, Undefined, Stopped}
use Rattle.common_values.specs.Written.{error_text}
use Rattle.tp_meaning.specs.Found.{Trap, Act, Error, IllTyped, Found}
use Rattle.tp_meaning.specs.Store.{Store}

-- The turns that are left, the store, whether the overlays are installed, the input that nothing has taken yet, and what
-- was written to the output and to the errors.
pub record State : Type 0 where
  pub turns : ℕ
  pub store : Store
  pub installed : Bool
  pub input : List ℕ
  pub out : List ℕ
  pub err : List ℕ

-- it is done, and gives something; or the run stands so, and nothing follows
pub data Outcome (A : Type 0) : Type 0 where
  Done : (a : A) (s : State) → Outcome A
  Over : (standing : Standing) (s : State) → Outcome A

-- what a part of a program does
abbrev pub Does : Type 0 → Type 0
Does A = State → Outcome A

abbrev pub and_then : {A B : Type 0} → Outcome A → (A → Does B) → Outcome B
and_then (Done a s) go = go a s
and_then (Over standing s) go = Over standing s

-- one part, and then what it leads to
infixl 10 ◌>>=◌
abbrev pub ◌>>=◌ : {A B : Type 0} → (State → Outcome A) → (A → State → Outcome B) → State → Outcome B
(first >>= next) s = and_then (first s) next

-- one part, and then another
infixl 10 ◌>>◌
abbrev pub ◌>>◌ : {A B : Type 0} → (State → Outcome A) → (State → Outcome B) → State → Outcome B
(first >> next) s = and_then (first s) (λ _. next)

abbrev pub give : {A : Type 0} → A → Does A
give a s = Done a s

-- ---- how a run stands

-- a runtime error tells itself and ends the run
abbrev pub raised : {A : Type 0} → ℕ → Does A
raised code s = Over (Ended code) (record s { err = s.err ++ error_text code })

abbrev pub undefined : {A : Type 0} → ℕ → Does A
undefined act s = Over (Undefined act) s

-- A step that no typed program asks for. It is never taken for an undefined act.
abbrev pub stuck : {A : Type 0} → Does A
stuck s = Over Stopped s

abbrev pub trapped : {A : Type 0} → Trap → Does A
trapped (Act number) s = undefined number s
trapped (Error code) s = raised code s
trapped IllTyped s = stuck s

abbrev pub found : {A : Type 0} → Found A → Does A
found (Ok a) s = Done a s
found (Err trap) s = trapped trap s

abbrev pub known : {A : Type 0} → Option A → Does A
known (Some a) s = Done a s
known None s = stuck s

-- error `code` where the test holds
abbrev pub raised_if : Bool → ℕ → Does (Unit {0})
raised_if true code s = raised code s
raised_if false code s = Done tt s

-- ---- turns

abbrev pub spent : {A : Type 0} → ℕ → Does A → Does A
spent zero go s = Over Going s
spent (suc turns) go s = go (record s { turns = turns })

-- a turn is due, and then this
abbrev pub spending : {A : Type 0} → Does A → Does A
spending go s = spent s.turns go s

-- ---- the parts of the state

-- what is found in the store
abbrev pub looked : {A : Type 0} → (Store → Found A) → Does A
looked look s = found (look s.store) s

abbrev pub with_store : Store → Does (Unit {0})
with_store store s = Done tt (record s { store = store })

-- the store is changed
abbrev pub changed : (Store → Found Store) → Does (Unit {0})
changed change = looked change >>= with_store

abbrev pub printed : List ℕ → Does (Unit {0})
printed bytes s = Done tt (record s { out = s.out ++ bytes })

-- what is read from the input, and what is left of it
abbrev pub taking : {A : Type 0} → (List ℕ → A × List ℕ) → Does A
taking take s = Done (take s.input).0 (record s { input = (take s.input).1 })

-- what stands in front of the input
abbrev pub ahead : {A : Type 0} → (List ℕ → A) → Does A
ahead look s = Done (look s.input) s

abbrev pub is_installed : Does Bool
is_installed s = Done s.installed s

abbrev pub install : Does (Unit {0})
install s = Done tt (record s { installed = true })
