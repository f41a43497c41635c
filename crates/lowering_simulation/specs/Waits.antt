-- What flat code does that has no turn left.
use Rattle.std.specs.Prelude.{◌≡◌, ℕ, List, Option}
use Rattle.common_values.specs.behaviour.Seen.{Ended, Going, Undefined, Stopped}
use Rattle.flat_code.specs.declared.tree.FlatResult.{FlatResult}
use Rattle.flat_code.specs.Tree.{Code}
use Rattle.flat_code.specs.Program.{Name, Key, FlatProgram, Choice}
use Rattle.flat_code.specs.Meaning.{Frame, State, Outcome, Next, Left, Returned, Over, and_then, looped, finished, called, run, all_started}
use Rattle.lowering_simulation.specs.Meets.{HasTexts, IsStill, Context}

abbrev pub IsIdle : State → State → Type 0
IsIdle r t = (t.turns ≡ 0) × HasTexts r.out r.err t

-- It has written nothing, and ended no run: it goes on, or came to an undefined act.
abbrev pub Waits : State → Outcome → Type 0
Waits r (Next t) = IsIdle r t
Waits r (Left loops t) = IsIdle r t
Waits r (Returned t) = IsIdle r t
Waits r (Over (Ended code) t) = ⊥
Waits r (Over Going t) = HasTexts r.out r.err t
Waits r (Over (Undefined act) t) = HasTexts r.out r.err t
Waits r (Over Stopped t) = ⊥

-- whatever the code is; and the units that have yet to begin write nothing
pub record ZeroTurnLaws (program : FlatProgram) (choice : Choice) : Type 0 where
  pub code : (code : Code) (f : Frame) (s : State) → s.turns ≡ 0 → Waits s (run program choice code f s)
  pub call : (args : List ℕ) (result : Option FlatResult) (f : Frame) (s : State) (key : Key) → s.turns ≡ 0 → Waits s (called program choice (run program choice) args result f s key)
  pub units : (names : List Name) (s : State) → s.turns ≡ 0 → IsStill s.out s.err (all_started program choice (run program choice) names s)

-- what follows writes nothing where it has no turn left
abbrev pub IsStillAfter : (State → Outcome) → Type 0
IsStillAfter go = (s : State) → s.turns ≡ 0 → IsStill s.out s.err (go s)

-- a list goes on so, a loop comes round so, and an activation ends so
pub record ContextLaws (go : State → Outcome) : Type 0 where
  pub list : IsStillAfter go → Context (λ o. and_then o go)
  pub loop : IsStillAfter go → Context (λ o. looped o go)
  pub activation : IsStillAfter go → Context (λ o. finished o go)
