-- A run that stopped passes by what would have come after it.
use Rattle.std.proofs.Common.{◌≡◌, ℕ, zero, suc, ◌++◌, refl, sym, ap, subst, ◌∙◌}
use Rattle.std.specs.Prelude.{◌%◌, Err}
use Rattle.common_values.specs.behaviour.Seen.{Standing, Ended, Going, Undefined}
use Rattle.flat_code.specs.declared.memory.Cell.TheVariants.{Outside}
use Rattle.flat_code.specs.declared.memory.Trap.{Trap}
use Rattle.flat_code.specs.declared.memory.Trap.TheVariants.{ByZero, Bad}
use Rattle.flat_run.specs.declared.state.Stop.{Stop}
use Rattle.flat_run.specs.declared.state.Stop.TheVariants as stop
use Rattle.flat_code.specs.Memory.{Cells, Found}
use Rattle.flat_code.specs.Meaning.{State, Outcome, Next, Left, Returned, Over, and_then, spent, raised, trapped, with_found, with_cells, error_text, looped}
use Rattle.flat_run.specs.Running.{forget, stop_of, Stops}

through : (h : Outcome → Outcome) → ((standing : Standing) (t : State) → h (Over standing t) ≡ Over standing t) → (o : Outcome) (standing : Standing) (t : State) → forget o ≡ Over standing t → forget (h o) ≡ Over standing t
through h keeps (Next s) standing t e = absurd cc
through h keeps (Left loops s) standing t e = absurd cc
through h keeps (Returned s) standing t e = absurd cc
through h keeps (Over standing' s) standing t e = ap forget (keeps standing' s) ∙ e

-- the end of a run by an error, where there is a turn for it
abbrev pub over_error : ℕ → State → Outcome
over_error code s = Over (Ended (code % 256)) (record s { err = s.err ++ error_text code })

abbrev IsOverSo : Outcome → Type 0
IsOverSo o = (standing : Standing) × (t : State) × (o ≡ Over standing t)

error-over : (code turns : ℕ) (s : State) → IsOverSo (forget (spent turns s (over_error code)))
error-over code zero s = (Going, with_cells s (λ x. Outside), refl)
error-over code (suc turns) s = (Ended (code % 256), with_cells (record s { turns = turns; err = s.err ++ error_text code }) (λ x. Outside), refl)

-- what keeps outcomes that are over keeps stops
pub stops-through : (h : Outcome → Outcome) → ((standing : Standing) (t : State) → h (Over standing t) ≡ Over standing t) → (stop : Stop) (s : State) (o : Outcome) → Stops stop s o → Stops stop s (h o)
stops-through h keeps stop.NoMemory s o p = tt
stops-through h keeps stop.Going s o p = through h keeps o Going (with_cells s (λ x. Outside)) p
stops-through h keeps (stop.Ended code) s o p = through h keeps o (Ended code) (with_cells s (λ x. Outside)) p
stops-through h keeps (stop.Error code) s o p =
    let r : IsOverSo (forget (raised code s)) = error-over code s.turns s in
    through h keeps o r.0 r.1 (p ∙ r.2) ∙ sym r.2
stops-through h keeps (stop.Undefined act) s o p = through h keeps o (Undefined act) (with_cells s (λ x. Outside)) p

pub stops-and_then : (stop : Stop) (s : State) (o : Outcome) (go : State → Outcome) → Stops stop s o → Stops stop s (and_then o go)
stops-and_then stop s o go = stops-through (λ o. and_then o go) (λ standing t. refl) stop s o

pub stops-looped : (stop : Stop) (s : State) (o : Outcome) (go : State → Outcome) → Stops stop s o → Stops stop s (looped o go)
stops-looped stop s o go = stops-through (λ o. looped o go) (λ standing t. refl) stop s o

-- ---- what is met

error-cells : (code turns : ℕ) (s : State) (m : Cells) → forget (spent turns s (over_error code)) ≡ forget (spent turns (with_cells s m) (over_error code))
error-cells code zero s m = refl
error-cells code (suc turns) s m = refl

-- what was stored before a trap doesn't matter
pub stops-trapped : (trap : Trap) (s : State) (m : Cells) → Stops (stop_of trap) (with_cells s m) (trapped trap s)
stops-trapped ByZero s m = error-cells 200 s.turns s m
stops-trapped (Bad act) s m = refl

pub stops-found_cells : {A : Type 0} (x : Found A) (trap : Trap) (s : State) (m : Cells) (go : A → Outcome) → x ≡ Err trap → Stops (stop_of trap) (with_cells s m) (with_found x s go)
stops-found_cells {A} x trap s m go e = subst (λ (y : Found A). Stops (stop_of trap) (with_cells s m) (with_found y s go)) (sym e) (stops-trapped trap s m)

pub stops-found : {A : Type 0} (x : Found A) (trap : Trap) (s : State) (go : A → Outcome) → x ≡ Err trap → Stops (stop_of trap) s (with_found x s go)
stops-found x trap s go e = stops-found_cells x trap s s.cells go e
