-- The equation that the meaning solves, and that a whole run is over.
use Rattle.std.proofs.Common.{◌≡◌, ℕ, suc, ◌+◌, List, [], ◌∷◌, refl, sym, ap, ◌∙◌, arith}
use Rattle.common_values.specs.behaviour.Seen.{Ended, Going, Undefined, Stopped}
use Rattle.typed_tree.specs.declared.units.Unit.{Unit as TypedUnit}
use Rattle.typed_tree.specs.declared.units.Program.{Program}
use Rattle.tp_meaning.specs.Outcomes.{State, Outcome, Done, Over, Does, and_then}
use Rattle.tp_meaning.specs.Activations.{Activation}
use Rattle.tp_meaning.specs.Calls.{Task, Runs}
use Rattle.tp_meaning.specs.Statements.{task}
use Rattle.tp_meaning.specs.Meaning.{run_by, run, start_state, started, all_started}
use Rattle.tp_meaning.specs.Laws.{IsOverAt, RunLaws}
use Rattle.tp_meaning.proofs.Turns.{more, More, more_zero}
use Rattle.tp_meaning.proofs.Parts.{Alike}
use Rattle.tp_meaning.proofs.Bodies.{like_task, like_by, like_run}

-- with no more turns it is the same outcome
more_same : {A : Type 0} (x y : Outcome A) → More 0 x y → y ≡ x
more_same (Done a s) y p = p ∙ ap (Done a) (more_zero s)
more_same (Over (Ended code) s) y p = p ∙ ap (Over (Ended code)) (more_zero s)
more_same (Over Going s) y p = p.0 refl
more_same (Over (Undefined act) s) y p = p ∙ ap (Over (Undefined act)) (more_zero s)
more_same (Over Stopped s) y p = p ∙ ap (Over Stopped) (more_zero s)

-- fuel that is greater than the turns does what enough fuel does
like_fuel : (program : Program) (fuel n : ℕ) → Alike 0 fuel n (run_by program fuel) (run program)
unfolding run
like_fuel program fuel n one f = record {
  falls = (like_by program 0 fuel fuel one f).falls;
  grows = (like_run program 0 fuel fuel one f).grows;
  alike = λ s l l'. (like_by program 0 fuel (suc (s.turns + 0)) one f).alike s l (omega arith);
}

run-task : (program : Program) (one : Task) (f : Activation) (s : State) → run program one f s ≡ task program (run program) one f s
unfolding run
run-task program one f s =
    let e : task program (run program) one f (more 0 s) ≡ run program one f s =
    more_same (run program one f s) (task program (run program) one f (more 0 s)) ((like_task (like_fuel program s.turns (suc s.turns)) program one f).alike s (omega arith) (omega arith)) in
    sym e ∙ ap (task program (run program) one f) (more_zero s)

over_bind : {A B : Type 0} (x : Outcome A) (go : A → Does B) → ((a : A) (s : State) → IsOverAt (go a s)) → IsOverAt (and_then x go)
over_bind (Done a s) go p = p a s
over_bind (Over standing s) go p = tt

all_over : (program : Program) (again : Runs) (units : List TypedUnit) (s : State) → IsOverAt (all_started program again units s)
all_over program again [] s = tt
all_over program again (unit ∷ units) s =
    over_bind (started program again unit unit.initial s) (λ v. all_started program again units) (λ v t. all_over program again units t)

pub run_laws : (program : Program) → RunLaws program
run_laws program = record {
  steps = run-task program;
  over = λ input turns. all_over program (run program) program.units (start_state program input turns);
}
