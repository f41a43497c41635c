-- With no turn left flat code writes nothing and ends no run: one induction over code. What is behind a turn is never met.
use Rattle.std.proofs.Common.{◌≡◌, ℕ, zero, suc, ◌+◌, ◌*◌, Bool, true, false, List, [], ◌∷◌, ◌++◌, length, Option, Some, None, refl, sym, ap, ◌∙◌, subst}
use Rattle.std.specs.Prelude.{if◌then◌else◌, ◌%◌, ◌==◌, ◌&&◌, not, nat_lt, slice_get, Ok, Err}
use Rattle.common_values.specs.integers.Words.{low_byte}
use Rattle.common_values.specs.behaviour.Seen.{Ended, Going, Undefined, Stopped}
use Rattle.flat_code.specs.declared.tree.Address.{Address}
use Rattle.flat_code.specs.declared.tree.FlatResult.{FlatResult}
use Rattle.flat_code.specs.Tree.{Step, StoreByte, StoreWord, Copy, Leave, Call, CallThrough, Runtime, StoreRoutine, Return, Error, step_size, expr_size, Code, End, Do, If, Loop}
use Rattle.flat_code.specs.Memory.{Found, word_bytes, far_bytes}
use Rattle.flat_code.specs.declared.memory.Trap.TheVariants.{ByZero, Bad}
use Rattle.flat_code.specs.Program.{Name, Key, Routine, UnitCode, FlatProgram, Choice}
use Rattle.flat_code.specs.Meaning.{routine_pointer, Frame, State, Outcome, Next, Left, Returned, Over, and_then, spend, error_text, raised, with_found, begun, with_cells, set_cells, stored_at, copied_at, pointer_at, activation_bytes, is_too_deep, tested, admitted, entered, entered_at, result_bytes, give, frame_of, opened, closed, ended, finished, Does, activated, with_some, called, runtime_of, stored, left, step_of, looped, chosen, runs, run_by, run, value_of, values_of, key_of, start_frame, started, initial_of, all_started}
use Rattle.flat_code.proofs.Turns.{spend-none}
use Rattle.lowering_simulation.specs.Meets.{HasTexts, IsStill, Context}
use Rattle.lowering_simulation.specs.Waits.{IsIdle, Waits, ZeroTurnLaws, IsStillAfter, ContextLaws}

-- ---- one after another

idle_from : (r s t : State) → IsIdle r s → IsIdle s t → IsIdle r t
idle_from r s t p q = (q.0, (q.1.0 ∙ p.1.0, q.1.1 ∙ p.1.1))

waits_from : (r s : State) (o : Outcome) → IsIdle r s → Waits s o → Waits r o
waits_from r s (Next t) p q = idle_from r s t p q
waits_from r s (Left loops t) p q = idle_from r s t p q
waits_from r s (Returned t) p q = idle_from r s t p q
waits_from r s (Over (Ended code) t) p q = q
waits_from r s (Over Going t) p q = (q.0 ∙ p.1.0, q.1 ∙ p.1.1)
waits_from r s (Over (Undefined act) t) p q = (q.0 ∙ p.1.0, q.1 ∙ p.1.1)
waits_from r s (Over Stopped t) p q = q

waits_and_then : (r : State) (o : Outcome) (go : State → Outcome) → Waits r o → ((s : State) → s.turns ≡ 0 → Waits s (go s)) → Waits r (and_then o go)
waits_and_then r (Next s) go p q = waits_from r s (go s) p (q s p.0)
waits_and_then r (Left loops s) go p q = p
waits_and_then r (Returned s) go p q = p
waits_and_then r (Over standing s) go p q = p

waits_finished : (r : State) (o : Outcome) (go : State → Outcome) → Waits r o → ((s : State) → s.turns ≡ 0 → Waits s (go s)) → Waits r (finished o go)
waits_finished r (Next s) go p q = waits_from r s (go s) p (q s p.0)
waits_finished r (Left loops s) go p q = waits_from r s (go s) p (q s p.0)
waits_finished r (Returned s) go p q = waits_from r s (go s) p (q s p.0)
waits_finished r (Over standing s) go p q = p

waits_if : (r : State) (b : Bool) (x y : Outcome) → Waits r x → Waits r y → Waits r (if b then x else y)
waits_if r true x y p q = p
waits_if r false x y p q = q

waits_spend : (s : State) (go : State → Outcome) → s.turns ≡ 0 → Waits s (spend s go)
waits_spend s go e = subst (λ o. Waits s o) (sym (spend-none s go e)) (refl, refl)

waits_raised : (code : ℕ) (s : State) → s.turns ≡ 0 → Waits s (raised code s)
waits_raised code s e = waits_spend s (λ s. Over (Ended (code % 256)) (record s { err = s.err ++ error_text code })) e

waits_found : {A : Type 0} (x : Found A) (s : State) (go : A → Outcome) → s.turns ≡ 0 → ((v : A) → Waits s (go v)) → Waits s (with_found x s go)
waits_found (Ok v) s go e q = q v
waits_found (Err ByZero) s go e q = waits_raised 200 s e
waits_found (Err (Bad act)) s go e q = (refl, refl)

waits_some : {A : Type 0} (x : Option A) (s : State) (go : A → Outcome) → ((v : A) → Waits s (go v)) → Waits s (with_some x s go)
waits_some (Some v) s go q = q v
waits_some None s go q = (refl, refl)

-- ---- calls

waits_give : (choice : Choice) (f : Frame) (result : Option FlatResult) (bytes : List ℕ) (s : State) → s.turns ≡ 0 → Waits s (give choice f result bytes s)
waits_give choice f None bytes s e = (e, (refl, refl))
waits_give choice f (Some result) bytes s e =
    waits_if s (length bytes == result.bytes) (with_found (stored_at choice f s.cells result.at bytes) s (set_cells s)) (Over (Undefined 1) s)
    (waits_found (stored_at choice f s.cells result.at bytes) s (set_cells s) e (λ m. (e, (refl, refl)))) (refl, refl)

waits_ended : (choice : Choice) (r : Routine) (g f : Frame) (result : Option FlatResult) (s : State) → s.turns ≡ 0 → Waits s (ended choice r g f result s)
waits_ended choice r g f result s e =
    let t = with_cells s (closed choice r f s.cells) in
    waits_found (result_bytes choice g s.cells r.result) s (λ bytes. give choice f result bytes t) e
    (λ bytes. waits_from s t (give choice f result bytes t) (e, (refl, refl)) (waits_give choice f result bytes t e))

abbrev DoesWait : Does → Type 0
DoesWait again = (code : Code) (f : Frame) (s : State) → s.turns ≡ 0 → Waits s (again code f s)

waits_activated : (choice : Choice) (again : Does) → DoesWait again → (name : Name) (unit : UnitCode) (r : Routine) (args : List ℕ) (result : Option FlatResult) (f : Frame) (s : State) → s.turns ≡ 0 → Waits s (activated choice again name unit r args result f s)
waits_activated choice again waits name unit r args result f s e =
    let t = with_cells s (opened choice r f args s.cells) in
    let g = frame_of name unit r f in
    let o = finished (again r.body g t) (ended choice r g f result) in
    waits_if s (nat_lt f.sp (activation_bytes r)) (Over (Undefined 2) s) o (refl, refl)
    (waits_from s t o (e, (refl, refl)) (waits_finished t (again r.body g t) (ended choice r g f result) (waits r.body g t e) (waits_ended choice r g f result)))

waits_entered : (program : FlatProgram) (choice : Choice) (again : Does) → DoesWait again → (name : Name) (unit : UnitCode) (args : List ℕ) (result : Option FlatResult) (f : Frame) (s : State) → s.turns ≡ 0 → (r : Routine) → Waits s (entered program choice again name unit args result f s r)
waits_entered program choice again waits name unit args result f s e r =
    waits_if s (2 * length args == r.arguments) (admitted program choice again name unit r args result f s) (Over (Undefined 1) s)
    (waits_if s (program.overlaid name && not s.flag) (raised 208 s) (tested program choice again name unit r args result f s) (waits_raised 208 s e)
    (waits_if s (is_too_deep program r f.sum) (raised 202 s) (activated choice again name unit r args result f s) (waits_raised 202 s e)
    (waits_activated choice again waits name unit r args result f s e)))
    (refl, refl)

waits_called : (program : FlatProgram) (choice : Choice) (again : Does) → DoesWait again → (args : List ℕ) (result : Option FlatResult) (f : Frame) (s : State) (key : Key) → s.turns ≡ 0 → Waits s (called program choice again args result f s key)
waits_called program choice again waits args result f s key e =
    waits_some (program.unit key.unit) s (entered_at program choice again key args result f s) (λ unit.
    waits_some (slice_get unit.routines key.number) s (entered program choice again key.unit unit args result f s)
    (waits_entered program choice again waits key.unit unit args result f s e))

-- ---- statements

waits_stored : (choice : Choice) (f : Frame) (to : Address) (bytes : List ℕ) (s : State) → s.turns ≡ 0 → Waits s (stored choice f to bytes s)
waits_stored choice f to bytes s e = waits_found (stored_at choice f s.cells to bytes) s (set_cells s) e (λ m. (e, (refl, refl)))

waits_left : (loops : ℕ) (s : State) → s.turns ≡ 0 → Waits s (left loops s)
waits_left zero s e = (e, (refl, refl))
waits_left (suc loops) s e = (e, (refl, refl))

waits_step : (program : FlatProgram) (choice : Choice) (again : Does) (step : Step) (f : Frame) (s : State) → s.turns ≡ 0 → Waits s (step_of program choice again step f s)
waits_step program choice again (StoreByte to value) f s e =
    waits_found (value_of choice f s.cells value) s (λ v. stored choice f to (low_byte v ∷ []) s) e (λ v. waits_stored choice f to (low_byte v ∷ []) s e)
waits_step program choice again (StoreWord to value) f s e =
    waits_found (value_of choice f s.cells value) s (λ v. stored choice f to (word_bytes v) s) e (λ v. waits_stored choice f to (word_bytes v) s e)
waits_step program choice again (Copy to from bytes) f s e = waits_found (copied_at choice f s.cells to from bytes) s (set_cells s) e (λ m. (e, (refl, refl)))
waits_step program choice again (Leave loops) f s e = waits_left loops s e
waits_step program choice again (Call unit number args result) f s e =
    let go : List ℕ → State → Outcome = λ vs s. with_found (key_of f unit number) s (called program choice again vs result f s) in
    waits_found (values_of choice f s.cells args) s (λ vs. spend s (go vs)) e (λ vs. waits_spend s (go vs) e)
waits_step program choice again (CallThrough pointer args result) f s e =
    let go : List ℕ → State → Outcome = λ vs s. with_found (pointer_at choice f s.cells pointer) s (λ p. with_some (choice.callee p) s (called program choice again vs result f s)) in
    waits_found (values_of choice f s.cells args) s (λ vs. spend s (go vs)) e (λ vs. waits_spend s (go vs) e)
waits_step program choice again (Runtime number args result) f s e =
    waits_found (values_of choice f s.cells args) s (λ vs. spend s (runtime_of program choice again number vs result f)) e (λ vs. waits_spend s (runtime_of program choice again number vs result f) e)
waits_step program choice again (StoreRoutine to unit number) f s e =
    waits_found (routine_pointer choice f unit number) s (λ p. stored choice f to (far_bytes p) s) e (λ p. waits_stored choice f to (far_bytes p) s e)
waits_step program choice again Return f s e = (e, (refl, refl))
waits_step program choice again (Error code) f s e = waits_raised code s e

waits_chosen : (r : State) (v : ℕ) (x y : Outcome) → Waits r x → Waits r y → Waits r (chosen v x y)
waits_chosen r zero x y p q = q
waits_chosen r (suc v) x y p q = p

waits_runs : (program : FlatProgram) (choice : Choice) (again : Does) (code : Code) (f : Frame) (s : State) → s.turns ≡ 0 → Waits s (runs program choice again code f s)
waits_runs program choice again End f s e = (e, (refl, refl))
waits_runs program choice again (Do step next) f s e =
    let t = begun (step_size step) s in
    let o = step_of program choice again step f t in
    waits_and_then s o (runs program choice again next f) (waits_from s t o (e, (refl, refl)) (waits_step program choice again step f t e)) (waits_runs program choice again next f)
waits_runs program choice again (If test taken other next) f s e =
    let t = begun (1 + expr_size test) s in
    let x = runs program choice again taken f t in
    let y = runs program choice again other f t in
    let o = with_found (value_of choice f s.cells test) t (λ v. chosen v x y) in
    waits_and_then s o (runs program choice again next f)
    (waits_from s t o (e, (refl, refl)) (waits_found (value_of choice f s.cells test) t (λ v. chosen v x y) e
    (λ v. waits_chosen t v x y (waits_runs program choice again taken f t e) (waits_runs program choice again other f t e))))
    (waits_runs program choice again next f)
waits_runs program choice again (Loop body next) f s e =
    let t = begun 1 s in
    let go : State → Outcome = λ s. looped (runs program choice again body f (begun 1 s)) (again (Loop body End) f) in
    waits_and_then s (spend t go) (runs program choice again next f) (waits_from s t (spend t go) (e, (refl, refl)) (waits_spend t go e)) (waits_runs program choice again next f)

pub waits_run : (program : FlatProgram) (choice : Choice) (code : Code) (f : Frame) (s : State) → s.turns ≡ 0 → Waits s (run program choice code f s)
unfolding run
waits_run program choice code f s e = waits_runs program choice (run_by program choice s.turns) code f s e

-- ---- what is still

pub still_where : (r : State) (o : Outcome) → Waits r o → IsStill r.out r.err o
still_where r (Next t) p = p
still_where r (Left loops t) p = p
still_where r (Returned t) p = p
still_where r (Over (Ended code) t) p = absurd p
still_where r (Over Going t) p = p
still_where r (Over (Undefined act) t) p = p
still_where r (Over Stopped t) p = absurd p

pub still_as : (out err : List ℕ) (t : State) (o : Outcome) → HasTexts out err t → IsStill t.out t.err o → IsStill out err o
still_as out err t o p q = subst (λ x. IsStill x err o) p.0 (subst (λ x. IsStill t.out x o) p.1 q)

pub run_still : (program : FlatProgram) (choice : Choice) (code : Code) (f : Frame) → IsStillAfter (run program choice code f)
run_still program choice code f s e = still_where s (run program choice code f s) (waits_run program choice code f s e)

-- ---- what stands round flat code

pub around_and_then : (go : State → Outcome) → IsStillAfter go → Context (λ o. and_then o go)
around_and_then go after = record { over = λ standing t. refl; still = still }
  where
    still : (out err : List ℕ) (o : Outcome) → IsStill out err o → IsStill out err (and_then o go)
    still out err (Next t) p = still_as out err t (go t) p.1 (after t p.0)
    still out err (Left loops t) p = p
    still out err (Returned t) p = p
    still out err (Over standing t) p = p

pub around_looped : (go : State → Outcome) → IsStillAfter go → Context (λ o. looped o go)
around_looped go after = record { over = λ standing t. refl; still = still }
  where
    still : (out err : List ℕ) (o : Outcome) → IsStill out err o → IsStill out err (looped o go)
    still out err (Next t) p = still_as out err t (go t) p.1 (after t p.0)
    still out err (Left zero t) p = p
    still out err (Left (suc loops) t) p = p
    still out err (Returned t) p = p
    still out err (Over standing t) p = p

pub around_finished : (go : State → Outcome) → IsStillAfter go → Context (λ o. finished o go)
around_finished go after = record { over = λ standing t. refl; still = still }
  where
    still : (out err : List ℕ) (o : Outcome) → IsStill out err o → IsStill out err (finished o go)
    still out err (Next t) p = still_as out err t (go t) p.1 (after t p.0)
    still out err (Left loops t) p = still_as out err t (go t) p.1 (after t p.0)
    still out err (Returned t) p = still_as out err t (go t) p.1 (after t p.0)
    still out err (Over standing t) p = p

pub context_laws : (go : State → Outcome) → ContextLaws go
context_laws go = record { list = around_and_then go; loop = around_looped go; activation = around_finished go }

pub around_both : (outer inner : Outcome → Outcome) → Context outer → Context inner → Context (λ o. outer (inner o))
around_both outer inner c d = record {
  over = λ standing t. ap outer (d.over standing t) ∙ c.over standing t;
  still = λ out err o p. c.still out err (inner o) (d.still out err o p);
}

-- ---- units that have yet to begin

units_still : (program : FlatProgram) (choice : Choice) (names : List Name) → IsStillAfter (all_started program choice (run program choice) names)
units_still program choice [] s e = (refl, refl)
units_still program choice (name ∷ names) s e =
    (around_and_then (all_started program choice (run program choice) names) (units_still program choice names)).still s.out s.err
    (started program choice (run program choice) name (initial_of (program.unit name)) s)
    (still_where s (started program choice (run program choice) name (initial_of (program.unit name)) s) (waits_started name (initial_of (program.unit name)) s e))
  where
    waits_started : (name : Name) (initial : Option ℕ) (s : State) → s.turns ≡ 0 → Waits s (started program choice (run program choice) name initial s)
    waits_started name None s e = (e, (refl, refl))
    waits_started name (Some number) s e = waits_called program choice (run program choice) (waits_run program choice) [] None (start_frame program) s (record { unit = name; number = number }) e

pub zero_turn_laws : (program : FlatProgram) (choice : Choice) → ZeroTurnLaws program choice
zero_turn_laws program choice = record {
  code = waits_run program choice;
  call = waits_called program choice (run program choice) (waits_run program choice);
  units = units_still program choice;
}
