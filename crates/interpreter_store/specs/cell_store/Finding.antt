-- What it is for an answer to be what the meaning finds.
use Rattle.std.specs.Prelude.{◌≡◌, Result, Ok, Err}
use Rattle.interpreter_store.specs.declared.cell_store.traps.Trap.{Trap}
use Rattle.interpreter_store.specs.declared.cell_store.traps.Trap.TheVariants as trap
use Rattle.interpreter_store.specs.declared.cell_store.traps.Stop.{Stop}
use Rattle.interpreter_store.specs.declared.cell_store.traps.Stop.TheVariants as stop
use Rattle.tp_meaning.specs.Found.{Trap as PureTrap, Act, Error, IllTyped, Found}

abbrev pub view_trap : Trap → PureTrap
view_trap (trap.Act number) = Act number
view_trap (trap.Error code) = Error code
view_trap trap.IllTyped = IllTyped

-- the answer is what is found, or why nothing is
abbrev pub Finds : {A B : Type 0} → (A → B) → Result A Trap → Found B → Type 0
Finds view (Ok x) found = found ≡ Ok (view x)
Finds view (Err trap) found = found ≡ Err (view_trap trap)

-- the same, but where memory runs out nothing is said
abbrev pub Gets : {A B : Type 0} → (A → B) → Result A Stop → Found B → Type 0
Gets view (Ok x) found = found ≡ Ok (view x)
Gets view (Err stop.OutOfMemory) found = Unit {0}
Gets view (Err (stop.Trapped trap)) found = found ≡ Err (view_trap trap)
