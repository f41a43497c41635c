-- A run that is over passes by what would have come after it.
use Rattle.std.proofs.Common.{◌≡◌, ℕ, ◌++◌, Option, Some, None, refl, sym, ap, subst, ◌∙◌}
use Rattle.std.specs.Prelude.{Result, Ok, Err}
use Rattle.common_values.specs.behaviour.Seen.{Seen, Ended, Going, Undefined, Stopped}
use Rattle.common_values.specs.Written.{error_text}
use Rattle.interpreter_store.specs.declared.cell_store.traps.Trap.{Trap}
use Rattle.interpreter_store.specs.declared.cell_store.traps.Trap.TheVariants as trap
use Rattle.interpreter_store.specs.cell_store.Finding.{view_trap}
use Rattle.interpreter_steps.specs.declared.state.Over.{Over}
use Rattle.interpreter_steps.specs.declared.state.Over.TheVariants as over
use Rattle.tp_meaning.specs.Found.{Found, Act, Error, IllTyped}
use Rattle.tp_meaning.specs.Outcomes.{State, Outcome, Done, Over as OverIn, Does, and_then, found}
use Rattle.interpreter_steps.specs.Running.{shown, Ends, over_of_trap}

through : {A B : Type 0} (o : Outcome A) (go : A → Does B) (seen : Seen) → shown o ≡ Some seen → shown (and_then o go) ≡ Some seen
through (Done a s) go seen e = absurd cc
through (OverIn standing s) go seen e = e

pub ends_bind : {A B : Type 0} (one : Over) (s : State) (o : Outcome A) (go : A → Does B) → Ends one s o → Ends one s (and_then o go)
ends_bind over.OutOfMemory s o go e = tt
ends_bind over.Going s o go e = through o go _ e
ends_bind (over.Ended code) s o go e = through o go _ e
ends_bind (over.Error code) s o go e = through o go _ e
ends_bind (over.Undefined act) s o go e = through o go _ e
ends_bind over.Stuck s o go e = through o go _ e

-- what the store doesn't find ends the run
pub trap_ends : {A : Type 0} (trap : Trap) (s : State) (x : Found A) → x ≡ Err (view_trap trap) → Ends (over_of_trap trap) s (found x s)
trap_ends {A} (trap.Act number) s x e = ap (λ (x : Found A). shown (found x s)) e
trap_ends {A} (trap.Error code) s x e = ap (λ (x : Found A). shown (found x s)) e
trap_ends {A} trap.IllTyped s x e = ap (λ (x : Found A). shown (found x s)) e

-- what comes first was found
pub ends_behind : {A B : Type 0} (one : Over) (t : State) {s : State} (o : Outcome A) (a : A) (go : A → Does B) → o ≡ Done a s → Ends one t (go a s) → Ends one t (and_then o go)
ends_behind {A} one t o a go e x = subst (Ends one t) (sym (ap (λ (y : Outcome A). and_then y go) e)) x
