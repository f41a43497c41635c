-- Parts of a program that do no ill-typed step.
use Rattle.std.specs.Prelude.{◌<◌, List, ◌++◌, All}
use Rattle.store_typing.specs.common_values.behaviour.Seen.{Ended, Going, Undefined, Stopped}
use Rattle.well_formed.specs.typed_tree.declared.units.Program.{Program}
use Rattle.store_typing.specs.tp_meaning.Outcomes.{State, Outcome, Done, Over}
use Rattle.store_typing.specs.stores.Worlds.{Made, World}
use Rattle.store_typing.specs.stores.Stores.{IsTypedStore}

-- the store is typed, and the input is of bytes
pub record IsTypedState (w : World) (s : State) : Type 0 where
  pub store : IsTypedStore w s.store
  pub input : All (λ byte. byte < 256) s.input

-- a program in whose run these objects were made
abbrev pub world : Program → List Made → World
world program made = record { program = program; made = made }

-- the world after more objects were made
abbrev pub after : World → List Made → World
after w more = record { program = w.program; made = w.made ++ more }

-- a result that is so, in a typed state, once more objects may have been made
pub record Later {A : Type 0} (w : World) (IsSo : World → A → Type 0) (a : A) (s : State) : Type 0 where
  pub more : List Made
  pub typed : IsTypedState (after w more) s
  pub is : IsSo (after w more) a

-- A part of a program that begins in a world leads to a result that is so, or the run is over, and not by a step that no typed
-- program asks for.
abbrev pub Ends : {A : Type 0} → World → (World → A → Type 0) → Outcome A → Type 0
Ends w IsSo (Done a s) = Later w IsSo a s
Ends w IsSo (Over (Ended code) s) = Unit {0}
Ends w IsSo (Over Going s) = Unit {0}
Ends w IsSo (Over (Undefined act) s) = Unit {0}
Ends w IsSo (Over Stopped s) = ⊥
