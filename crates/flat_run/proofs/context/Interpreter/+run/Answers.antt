use Rattle.std.proofs.Common.{◌≡◌, ℕ, ◌+◌, ◌<◌, List, [], drop, map, refl, sym, ap, subst, ◌∙◌, arith}
use Rattle.std.proofs.lemmas.Result.{err_from_is_err_and}
use Rattle.std.proofs.lemmas.List.{drop_all}
use Rattle.flat_code.specs.declared.tree.FlatStmt.{FlatStmt}
use Rattle.flat_run.specs.declared.state.Flow.{Flow}
use Rattle.flat_code.specs.Memory.{Found}
use Rattle.flat_code.specs.Tree.{expr_size, exprs_size, Call, CallThrough, Runtime, Code, End, If, Loop}
use Rattle.flat_code.specs.View.{view_expr, view_exprs, view_stmt, view_list}
use Rattle.flat_code.specs.Program.{Key}
use Rattle.flat_code.specs.Meaning.{State, Outcome, with_found, with_some, begun, chosen, looped, and_then, value_of, key_of, pointer_at, called, runtime_of, run}
use Rattle.flat_code.specs.Plain.{view_unit, view_routine}
use Rattle.flat_run.specs.Views.{view_frame, view_callee}
use Rattle.flat_run.specs.Running.{view_program, view_choice, view_run, outcome_of, stop_of, Stops, Passes, Flows}
use Rattle.flat_code.proofs.Nodes.{run-alone, begun-twice, run-end}
use Rattle.flat_run.proofs.Stops.{stops-found, stops-and_then, stops-looped}
use Rattle.flat_run.proofs.Sizes.{code_size, program_size, turns_left, no_more, a_turn_less, size-in, body-in}
use Rattle.flat_code.proofs.Steps.{list-step, test-alone, chosen-zero, chosen-other, round-some, runtime-routine, called-entered}
use Rattle.flat_run.proofs.Rounds.{falls-flow, round-none}
use Rattle.flat_code.proofs.Rows.{view_if, view_loop}
use Rattle.flat_run.proofs.context.Interpreter.+run.Goals as goal

pub call-returns-in_err-admit : goal.call-returns-in_err-admit
call-returns-in_err-admit t c =
    let program = view_program c.args.self.now in
    let choice = view_choice c.args.self.now in
    let s = view_run c.args.state.now in
    let again = run program choice in
    let key = view_callee c.args.callee in
    let unit = view_unit c.in-Some.unit.now in
    let r = view_routine c.in-Some-routine_of.routine.now in
    let e = called-entered program choice again c.args.args.now c.args.wanted (view_frame c.args.f.now) s key unit r c.in-Some.ensures c.in-Some-routine_of.ensures in
    let p = err_from_is_err_and c.from_residual.result c.from_residual.ensures.1 in
    rw (p.1, p.2) (subst (Stops c.in_err-admit.field-0.0 s) (sym e) (c.in_err-admit.ensures.admitted again unit c.args.wanted))

pub call-activate-requires : goal.call-activate-requires
call-activate-requires t c =
    let size = program_size (map view_unit c.args.self.now.units.now) in
    let b = body-in 0 (map view_unit c.args.self.now.units.now) c.args.callee.name.now (view_unit c.in-Some.unit.now) c.args.callee.number (view_routine c.in-Some-routine_of.routine.now) (sym c.in-Some.ensures) (sym c.in-Some-routine_of.ensures) in
    (omega (arith, b, c.decreases), (c.in_ok-admit.ensures.fits, c.in_ok-admit.ensures.sum))

pub call-returns : goal.call-returns
call-returns t c =
    let program = view_program c.args.self.now in
    let choice = view_choice c.args.self.now in
    let s = view_run c.args.state.now in
    let again = run program choice in
    let key = view_callee c.args.callee in
    let unit = view_unit c.in-Some.unit.now in
    let r = view_routine c.in-Some-routine_of.routine.now in
    let e = called-entered program choice again c.args.args.now c.args.wanted (view_frame c.args.f.now) s key unit r c.in-Some.ensures c.in-Some-routine_of.ensures in
    subst (λ (o : Outcome). Passes c.activate.result (view_run c.activate.new.state) o) (sym (e ∙ c.in_ok-admit.ensures.admitted again unit c.args.wanted)) c.activate.ensures

pub call_routine-returns-in_err-values : goal.call_routine-returns-in_err-values
call_routine-returns-in_err-values t c =
    let program = view_program c.args.self.now in
    let choice = view_choice c.args.self.now in
    let f = view_frame c.args.f.now in
    let s = view_run c.args.state.now in
    let step = Call c.args.routine.unit c.args.routine.number (view_exprs c.args.args.now) c.args.wanted in
    let go : List ℕ → State → Outcome = λ values s. with_found (key_of f c.args.routine.unit c.args.routine.number) s (called program choice (run program choice) values c.args.wanted f s) in
    let alone = run-alone program choice step f s (begun (1 + exprs_size (view_exprs c.args.args.now)) s) refl in
    let p = err_from_is_err_and c.from_residual.result c.from_residual.ensures.1 in
    rw (p.1, p.2) (subst (Stops c.in_err-values.field-0.0 (view_run c.prepare.new.state)) (sym alone) (c.in_err-values.ensures.leads go))

pub call_routine-returns-in_err-callee : goal.call_routine-returns-in_err-callee
call_routine-returns-in_err-callee t c =
    let program = view_program c.args.self.now in
    let choice = view_choice c.args.self.now in
    let f = view_frame c.args.f.now in
    let s = view_run c.args.state.now in
    let step = Call c.args.routine.unit c.args.routine.number (view_exprs c.args.args.now) c.args.wanted in
    let go : List ℕ → State → Outcome = λ values s. with_found (key_of f c.args.routine.unit c.args.routine.number) s (called program choice (run program choice) values c.args.wanted f s) in
    let alone = run-alone program choice step f s (begun (1 + exprs_size (view_exprs c.args.args.now)) s) refl in
    let on : Key → State → Outcome = λ key s. called program choice (run program choice) c.in_ok-values.values.items c.args.wanted f s key in
    let p = err_from_is_err_and c.from_residual-in_err-callee.result c.from_residual-in_err-callee.ensures.1 in
    rw (p.1, p.2) (subst (Stops c.in_err-callee.field-0.0 (view_run c.prepare.new.state)) (sym (alone ∙ c.in_ok-values.ensures.leads go)) (c.in_err-callee.ensures on))

pub call_routine-call-requires : goal.call_routine-call-requires
call_routine-call-requires t c =
    let size = program_size (map view_unit c.args.self.now.units.now) in
    let less = a_turn_less c.prepare.new.state.turns c.args.state.now.turns size c.in_ok-values.ensures.turn in
    let h : turns_left c.prepare.new.state.turns size + (size + 3) < t = omega (arith, less, c.decreases) in
    (h, tt)

pub call_routine-returns : goal.call_routine-returns
call_routine-returns t c =
    let program = view_program c.args.self.now in
    let choice = view_choice c.args.self.now in
    let f = view_frame c.args.f.now in
    let s = view_run c.args.state.now in
    let step = Call c.args.routine.unit c.args.routine.number (view_exprs c.args.args.now) c.args.wanted in
    let go : List ℕ → State → Outcome = λ values s. with_found (key_of f c.args.routine.unit c.args.routine.number) s (called program choice (run program choice) values c.args.wanted f s) in
    let alone = run-alone program choice step f s (begun (1 + exprs_size (view_exprs c.args.args.now)) s) refl in
    let u = view_run c.prepare.new.state in
    let on : Key → State → Outcome = λ key s. called program choice (run program choice) c.in_ok-values.values.items c.args.wanted f s key in
    let v = view_run c.call.new.state in
    let given : c.in_ok-values.values.items ≡ c.as_slice.result.now = sym c.as_slice.ensures.value in
    let key = view_callee c.in_ok-callee.callee in
    let e = alone ∙ c.in_ok-values.ensures.leads go ∙ c.in_ok-callee.ensures on ∙ ap (λ (values : List ℕ). called program choice (run program choice) values c.args.wanted f u key) given in
    subst (λ (o : Outcome). Flows c.then_next.result v o) (sym e) (c.then_next.ensures v (called program choice (run program choice) c.as_slice.result.now c.args.wanted f u key) c.call.ensures)

pub call_runtime-returns-in_err-values : goal.call_runtime-returns-in_err-values
call_runtime-returns-in_err-values t c =
    let program = view_program c.args.self.now in
    let choice = view_choice c.args.self.now in
    let f = view_frame c.args.f.now in
    let s = view_run c.args.state.now in
    let step = Runtime c.args.number (view_exprs c.args.args.now) c.args.wanted in
    let go : List ℕ → State → Outcome = λ values s. runtime_of program choice (run program choice) c.args.number values c.args.wanted f s in
    let alone = run-alone program choice step f s (begun (1 + exprs_size (view_exprs c.args.args.now)) s) refl in
    let p = err_from_is_err_and c.from_residual.result c.from_residual.ensures.1 in
    rw (p.1, p.2) (subst (Stops c.in_err-values.field-0.0 (view_run c.prepare.new.state)) (sym alone) (c.in_err-values.ensures.leads go))

pub call_runtime-returns-then-number-lt5 : goal.call_runtime-returns-then-number-lt5
call_runtime-returns-then-number-lt5 t c =
    let program = view_program c.args.self.now in
    let choice = view_choice c.args.self.now in
    let f = view_frame c.args.f.now in
    let s = view_run c.args.state.now in
    let step = Runtime c.args.number (view_exprs c.args.args.now) c.args.wanted in
    let go : List ℕ → State → Outcome = λ values s. runtime_of program choice (run program choice) c.args.number values c.args.wanted f s in
    let alone = run-alone program choice step f s (begun (1 + exprs_size (view_exprs c.args.args.now)) s) refl in
    let u = view_run c.prepare.new.state in
    let v = view_run c.act.new.state in
    let given : c.in_ok-values.values.items ≡ c.as_slice.result.now = sym c.as_slice.ensures.value in
    let e = alone ∙ c.in_ok-values.ensures.leads go ∙ ap (λ (values : List ℕ). go values u) given in
    subst (λ (o : Outcome). Flows c.then_next.result v o) (sym e) (c.then_next.ensures v (go c.as_slice.result.now u) (c.act.ensures (run program choice)))

pub call_runtime-call-requires : goal.call_runtime-call-requires
call_runtime-call-requires t c =
    let size = program_size (map view_unit c.args.self.now.units.now) in
    let less = a_turn_less c.prepare.new.state.turns c.args.state.now.turns size c.in_ok-values.ensures.turn in
    let h : turns_left c.prepare.new.state.turns size + (size + 3) < t = omega (arith, less, c.decreases) in
    (h, tt)

pub call_runtime-returns : goal.call_runtime-returns
call_runtime-returns t c =
    let program = view_program c.args.self.now in
    let choice = view_choice c.args.self.now in
    let f = view_frame c.args.f.now in
    let s = view_run c.args.state.now in
    let step = Runtime c.args.number (view_exprs c.args.args.now) c.args.wanted in
    let go : List ℕ → State → Outcome = λ values s. runtime_of program choice (run program choice) c.args.number values c.args.wanted f s in
    let alone = run-alone program choice step f s (begun (1 + exprs_size (view_exprs c.args.args.now)) s) refl in
    let u = view_run c.prepare.new.state in
    let v = view_run c.call.new.state in
    let given : c.in_ok-values.values.items ≡ c.as_slice-2.result.now = sym c.as_slice-2.ensures.value in
    let key = view_callee c.runtime_callee-callee.result in
    let on : Key → Outcome = λ key. called program choice (run program choice) c.as_slice-2.result.now c.args.wanted f u key in
    let e = alone ∙ c.in_ok-values.ensures.leads go ∙ ap (λ (values : List ℕ). go values u) given
    ∙ runtime-routine program choice (run program choice) c.args.number c.as_slice-2.result.now c.args.wanted f u c.if-number-lt5.false
    ∙ ap on (sym c.runtime_callee-callee.ensures) in
    subst (λ (o : Outcome). Flows c.then_next-2.result v o) (sym e) (c.then_next-2.ensures v (on key) c.call.ensures)

pub call_through-returns-in_err-values : goal.call_through-returns-in_err-values
call_through-returns-in_err-values t c =
    let program = view_program c.args.self.now in
    let choice = view_choice c.args.self.now in
    let f = view_frame c.args.f.now in
    let s = view_run c.args.state.now in
    let step = CallThrough c.args.pointer (view_exprs c.args.args.now) c.args.wanted in
    let go : List ℕ → State → Outcome = λ values s. with_found (pointer_at choice f s.cells c.args.pointer) s (λ p. with_some (choice.callee p) s (called program choice (run program choice) values c.args.wanted f s)) in
    let alone = run-alone program choice step f s (begun (1 + exprs_size (view_exprs c.args.args.now)) s) refl in
    let p = err_from_is_err_and c.from_residual.result c.from_residual.ensures.1 in
    rw (p.1, p.2) (subst (Stops c.in_err-values.field-0.0 (view_run c.prepare.new.state)) (sym alone) (c.in_err-values.ensures.leads go))

pub call_through-returns-in_err-callee : goal.call_through-returns-in_err-callee
call_through-returns-in_err-callee t c =
    let program = view_program c.args.self.now in
    let choice = view_choice c.args.self.now in
    let f = view_frame c.args.f.now in
    let s = view_run c.args.state.now in
    let step = CallThrough c.args.pointer (view_exprs c.args.args.now) c.args.wanted in
    let go : List ℕ → State → Outcome = λ values s. with_found (pointer_at choice f s.cells c.args.pointer) s (λ p. with_some (choice.callee p) s (called program choice (run program choice) values c.args.wanted f s)) in
    let alone = run-alone program choice step f s (begun (1 + exprs_size (view_exprs c.args.args.now)) s) refl in
    let on : Key → State → Outcome = λ key s. called program choice (run program choice) c.in_ok-values.values.items c.args.wanted f s key in
    let p = err_from_is_err_and c.from_residual-in_err-callee.result c.from_residual-in_err-callee.ensures.1 in
    rw (p.1, p.2) (subst (Stops c.in_err-callee.field-0.0 (view_run c.prepare.new.state)) (sym (alone ∙ c.in_ok-values.ensures.leads go)) (c.in_err-callee.ensures on))

pub call_through-call-requires : goal.call_through-call-requires
call_through-call-requires t c =
    let size = program_size (map view_unit c.args.self.now.units.now) in
    let less = a_turn_less c.prepare.new.state.turns c.args.state.now.turns size c.in_ok-values.ensures.turn in
    let h : turns_left c.prepare.new.state.turns size + (size + 3) < t = omega (arith, less, c.decreases) in
    (h, tt)

pub call_through-returns : goal.call_through-returns
call_through-returns t c =
    let program = view_program c.args.self.now in
    let choice = view_choice c.args.self.now in
    let f = view_frame c.args.f.now in
    let s = view_run c.args.state.now in
    let step = CallThrough c.args.pointer (view_exprs c.args.args.now) c.args.wanted in
    let go : List ℕ → State → Outcome = λ values s. with_found (pointer_at choice f s.cells c.args.pointer) s (λ p. with_some (choice.callee p) s (called program choice (run program choice) values c.args.wanted f s)) in
    let alone = run-alone program choice step f s (begun (1 + exprs_size (view_exprs c.args.args.now)) s) refl in
    let u = view_run c.prepare.new.state in
    let on : Key → State → Outcome = λ key s. called program choice (run program choice) c.in_ok-values.values.items c.args.wanted f s key in
    let v = view_run c.call.new.state in
    let given : c.in_ok-values.values.items ≡ c.as_slice.result.now = sym c.as_slice.ensures.value in
    let key = view_callee c.in_ok-callee.callee in
    let e = alone ∙ c.in_ok-values.ensures.leads go ∙ c.in_ok-callee.ensures on ∙ ap (λ (values : List ℕ). called program choice (run program choice) values c.args.wanted f u key) given in
    subst (λ (o : Outcome). Flows c.then_next.result v o) (sym e) (c.then_next.ensures v (called program choice (run program choice) c.as_slice.result.now c.args.wanted f u key) c.call.ensures)

pub choose-returns-in_err-value : goal.choose-returns-in_err-value
choose-returns-in_err-value t c =
    let program = view_program c.args.self.now in
    let choice = view_choice c.args.self.now in
    let f = view_frame c.args.f.now in
    let s = view_run c.args.state.now in
    let u = view_run c.begin_expr.new.self in
    let test = view_expr c.args.test.now in
    let yes = view_list c.args.yes.now in
    let no = view_list c.args.no.now in
    let counted = begun-twice 1 (expr_size test) s (view_run c.begin.new.self) u c.in_ok-begin.ensures c.in_ok-begin_expr.ensures in
    let alone = test-alone program choice test yes no f s u counted in
    let go : ℕ → Outcome = λ v. chosen v (run program choice yes f u) (run program choice no f u) in
    let p = err_from_is_err_and c.from_residual-in_err-value.result c.from_residual-in_err-value.ensures.1 in
    rw (p.1, p.2) (subst (Stops (stop_of c.in_err-value.field-0.0) u) (sym alone) (stops-found (value_of choice f u.cells test) c.in_err-value.field-0.0 u go (sym c.in_err-value.ensures)))

pub choose-returns-then-value-eq0 : goal.choose-returns-then-value-eq0
choose-returns-then-value-eq0 t c =
    let program = view_program c.args.self.now in
    let choice = view_choice c.args.self.now in
    let f = view_frame c.args.f.now in
    let s = view_run c.args.state.now in
    let u = view_run c.begin_expr.new.self in
    let test = view_expr c.args.test.now in
    let yes = view_list c.args.yes.now in
    let no = view_list c.args.no.now in
    let counted = begun-twice 1 (expr_size test) s (view_run c.begin.new.self) u c.in_ok-begin.ensures c.in_ok-begin_expr.ensures in
    let alone = test-alone program choice test yes no f s u counted in
    let go : ℕ → Outcome = λ v. chosen v (run program choice yes f u) (run program choice no f u) in
    let value = ap (λ (found : Found ℕ). with_found found u go) (sym c.in_ok-value.ensures) in
    let e = alone ∙ value ∙ chosen-zero c.in_ok-value.value (run program choice yes f u) (run program choice no f u) c.if-value-eq0.true in
    subst (λ (o : Outcome). Flows c.run_list.result (view_run c.run_list.new.state) o) (sym e) c.run_list.ensures

pub choose-returns : goal.choose-returns
choose-returns t c =
    let program = view_program c.args.self.now in
    let choice = view_choice c.args.self.now in
    let f = view_frame c.args.f.now in
    let s = view_run c.args.state.now in
    let u = view_run c.begin_expr.new.self in
    let test = view_expr c.args.test.now in
    let yes = view_list c.args.yes.now in
    let no = view_list c.args.no.now in
    let counted = begun-twice 1 (expr_size test) s (view_run c.begin.new.self) u c.in_ok-begin.ensures c.in_ok-begin_expr.ensures in
    let alone = test-alone program choice test yes no f s u counted in
    let go : ℕ → Outcome = λ v. chosen v (run program choice yes f u) (run program choice no f u) in
    let value = ap (λ (found : Found ℕ). with_found found u go) (sym c.in_ok-value.ensures) in
    let e = alone ∙ value ∙ chosen-other c.in_ok-value.value (run program choice yes f u) (run program choice no f u) c.if-value-eq0.false in
    subst (λ (o : Outcome). Flows c.run_list-2.result (view_run c.run_list-2.new.state) o) (sym e) c.run_list-2.ensures

pub repeat-returns-in_err-spend : goal.repeat-returns-in_err-spend
repeat-returns-in_err-spend t c =
    let choice = view_choice c.args.self.now in
    let f = view_frame c.args.f.now in
    let body = view_list c.args.body.now in
    let s = view_run c.rounds.state in
    let s1 = view_run c.begin.new.self in
    let p = err_from_is_err_and c.from_residual-in_err-spend.result c.from_residual-in_err-spend.ensures.1 in
    let u = view_run c.spend.new.self in
    let stop = c.in_err-spend.field-0.0 in
    let none = c.in_err-spend.ensures.err in
    rw (p.1, p.2) (subst (Stops stop u) (sym c.rounds.invariant.again) (round-none (view_program c.args.self.now) choice body f s s1 u stop c.in_ok-begin.ensures none.0 none.1 none.2))

pub repeat-returns-in_err-flow : goal.repeat-returns-in_err-flow
repeat-returns-in_err-flow t c =
    let program = view_program c.args.self.now in
    let choice = view_choice c.args.self.now in
    let f = view_frame c.args.f.now in
    let body = view_list c.args.body.now in
    let s2 = view_run c.spend.new.self in
    let s3 = view_run c.begin-in-rounds.new.self in
    let u = view_run c.run_list.new.state in
    let again : State → Outcome = run program choice (Loop body End) f in
    let round = round-some program choice body f (view_run c.rounds.state) (view_run c.begin.new.self) s2 s3 c.in_ok-begin.ensures c.in_ok-spend.ensures.ok c.in_ok-begin-2.ensures in
    let p = err_from_is_err_and c.from_residual-in_err-flow.result c.from_residual-in_err-flow.ensures.1 in
    let stop = c.in_err-flow.field-0.0 in
    rw (p.1, p.2) (subst (Stops stop u) (sym (c.rounds.invariant.again ∙ round)) (stops-looped stop u (run program choice body f s3) again c.in_err-flow.ensures))

pub repeat-returns-in-Some : goal.repeat-returns-in-Some
repeat-returns-in-Some t c =
    let program = view_program c.args.self.now in
    let choice = view_choice c.args.self.now in
    let f = view_frame c.args.f.now in
    let body = view_list c.args.body.now in
    let s2 = view_run c.spend.new.self in
    let s3 = view_run c.begin-in-rounds.new.self in
    let again : State → Outcome = run program choice (Loop body End) f in
    let round = round-some program choice body f (view_run c.rounds.state) (view_run c.begin.new.self) s2 s3 c.in_ok-begin.ensures c.in_ok-spend.ensures.ok c.in_ok-begin-2.ensures in
    c.rounds.invariant.again ∙ round ∙ ap (λ (o : Outcome). looped o again) c.in_ok-flow.ensures ∙ c.in-Some.ensures (view_run c.run_list.new.state) again

pub repeat-rounds-smaller : goal.repeat-rounds-smaller
repeat-rounds-smaller t c =
    let program = view_program c.args.self.now in
    let choice = view_choice c.args.self.now in
    let f = view_frame c.args.f.now in
    let body = view_list c.args.body.now in
    let s = view_run c.rounds.state in
    let s3 = view_run c.begin-in-rounds.new.self in
    let again : State → Outcome = run program choice (Loop body End) f in
    let round = round-some program choice body f s (view_run c.begin.new.self) (view_run c.spend.new.self) s3 c.in_ok-begin.ensures c.in_ok-spend.ensures.ok c.in_ok-begin-2.ensures in
    let fall = falls-flow program choice body f s3 (view_run c.run_list.new.state) c.in_ok-flow.flow c.in_ok-flow.ensures in
    let one = ap (λ (s : State). s.turns) c.in_ok-begin.ensures in
    let two = ap (λ (s : State). s.turns) c.in_ok-begin-2.ensures in
    omega (arith, fall, one, two, c.in_ok-spend.ensures.turn)

pub repeat-rounds-preserved : goal.repeat-rounds-preserved
repeat-rounds-preserved t c =
    let program = view_program c.args.self.now in
    let choice = view_choice c.args.self.now in
    let f = view_frame c.args.f.now in
    let body = view_list c.args.body.now in
    let s = view_run c.rounds.state in
    let s3 = view_run c.begin-in-rounds.new.self in
    let u = view_run c.run_list.new.state in
    let again : State → Outcome = run program choice (Loop body End) f in
    let round = round-some program choice body f s (view_run c.begin.new.self) (view_run c.spend.new.self) s3 c.in_ok-begin.ensures c.in_ok-spend.ensures.ok c.in_ok-begin-2.ensures in
    let fall = falls-flow program choice body f s3 u c.in_ok-flow.flow c.in_ok-flow.ensures in
    let one = ap (λ (s : State). s.turns) c.in_ok-begin.ensures in
    let two = ap (λ (s : State). s.turns) c.in_ok-begin-2.ensures in
    record {
      again = c.rounds.invariant.again ∙ round ∙ ap (λ (o : Outcome). looped o again) c.in_ok-flow.ensures ∙ c.in-None.ensures u again;
      turns = omega (arith, fall, one, two, c.in_ok-spend.ensures.turn, c.rounds.invariant.turns);
    }

pub run_list-run_statement-requires : goal.run_list-run_statement-requires
run_list-run_statement-requires t c =
    let program = view_program c.args.self.now in
    let choice = view_choice c.args.self.now in
    let f = view_frame c.args.f.now in
    let s = view_run c.statements.state in
    let list = c.args.list.now in
    let x = c.statement-item.result in
    let size = program_size (map view_unit c.args.self.now.units.now) in
    let small = size-in list c.statements.statement-index x (omega arith) c.statement-item.is in
    let less = no_more c.statements.state.turns c.args.state.now.turns size (code_size (view_stmt x End)) (code_size (view_list list) + 1) c.statements.invariant.turns (omega (arith, small)) in
    let h : turns_left c.statements.state.turns size + code_size (view_stmt x End) < t = omega (arith, less, c.decreases) in
    (h, tt)

pub run_list-returns-in_err-flow : goal.run_list-returns-in_err-flow
run_list-returns-in_err-flow t c =
    let program = view_program c.args.self.now in
    let choice = view_choice c.args.self.now in
    let f = view_frame c.args.f.now in
    let s = view_run c.statements.state in
    let list = c.args.list.now in
    let i = c.statements.statement-index in
    let x = c.statement-item.result in
    let u = view_run c.run_statement.new.state in
    let rest : State → Outcome = run program choice (view_list (drop (i + 1) list)) f in
    let e = c.statements.invariant.rest ∙ list-step program choice list i x f s (omega arith) c.statement-item.is in
    let p = err_from_is_err_and c.from_residual.result c.from_residual.ensures.1 in
    let stop = c.in_err-flow.field-0.0 in
    rw (p.1, p.2) (subst (Stops stop u) (sym e) (stops-and_then stop u (run program choice (view_stmt x End) f s) rest c.in_err-flow.ensures))

pub run_list-returns-in-Left : goal.run_list-returns-in-Left
run_list-returns-in-Left t c =
    let program = view_program c.args.self.now in
    let choice = view_choice c.args.self.now in
    let f = view_frame c.args.f.now in
    let list = c.args.list.now in
    let i = c.statements.statement-index in
    let rest : State → Outcome = run program choice (view_list (drop (i + 1) list)) f in
    let e = c.statements.invariant.rest ∙ list-step program choice list i c.statement-item.result f (view_run c.statements.state) (omega arith) c.statement-item.is in
    let done = ap (λ (o : Outcome). and_then o rest) c.in_ok-flow.ensures in
    e ∙ done ∙ ap (λ (flow : Flow). and_then (outcome_of flow (view_run c.run_statement.new.state)) rest) c.in-Left.is

pub run_list-returns-in-Returned : goal.run_list-returns-in-Returned
run_list-returns-in-Returned t c =
    let program = view_program c.args.self.now in
    let choice = view_choice c.args.self.now in
    let f = view_frame c.args.f.now in
    let list = c.args.list.now in
    let i = c.statements.statement-index in
    let rest : State → Outcome = run program choice (view_list (drop (i + 1) list)) f in
    let e = c.statements.invariant.rest ∙ list-step program choice list i c.statement-item.result f (view_run c.statements.state) (omega arith) c.statement-item.is in
    let done = ap (λ (o : Outcome). and_then o rest) c.in_ok-flow.ensures in
    e ∙ done ∙ ap (λ (flow : Flow). and_then (outcome_of flow (view_run c.run_statement.new.state)) rest) c.in-Returned.is

pub run_list-statements-preserved : goal.run_list-statements-preserved
run_list-statements-preserved t c =
    let program = view_program c.args.self.now in
    let choice = view_choice c.args.self.now in
    let f = view_frame c.args.f.now in
    let s = view_run c.statements.state in
    let list = c.args.list.now in
    let i = c.statements.statement-index in
    let x = c.statement-item.result in
    let u = view_run c.run_statement.new.state in
    let rest : State → Outcome = run program choice (view_list (drop (i + 1) list)) f in
    let e = c.statements.invariant.rest ∙ list-step program choice list i x f s (omega arith) c.statement-item.is in
    let done = ap (λ (o : Outcome). and_then o rest) c.in_ok-flow.ensures in
    let fall = falls-flow program choice (view_stmt x End) f s u c.in_ok-flow.flow c.in_ok-flow.ensures in
    record {
      rest = e ∙ done ∙ ap (λ (flow : Flow). and_then (outcome_of flow u) rest) c.in-Next.is;
      turns = omega (arith, fall, c.statements.invariant.turns);
    }

pub run_list-returns : goal.run_list-returns
run_list-returns t c =
    let program = view_program c.args.self.now in
    let choice = view_choice c.args.self.now in
    let f = view_frame c.args.f.now in
    let s = view_run c.statements.state in
    let none : drop c.statements.statement-index c.args.list.now ≡ [] = drop_all c.statements.statement-index c.args.list.now (omega arith) in
    c.statements.invariant.rest ∙ ap (λ (list : List FlatStmt). run program choice (view_list list) f s) none ∙ run-end program choice f s

pub run_statement-choose-requires : goal.run_statement-choose-requires
run_statement-choose-requires t c =
    let size = program_size (map view_unit c.args.self.now.units.now) in
    let is = ap (λ (x : FlatStmt). view_stmt x End) c.in-If.is ∙ view_if c.in-If.test c.in-If.yes c.in-If.no in
    let first = ap view_list (sym c.as_slice.ensures.value) in
    let second = ap view_list (sym c.as_slice-in-If.ensures.value) in
    let whole = is ∙ ap (λ (code : Code). If (view_expr c.in-If.test) code (view_list c.in-If.no.items) End) first ∙ ap (λ (code : Code). If (view_expr c.in-If.test) (view_list c.as_slice.result.now) code End) second in
    let sizes = ap code_size whole in
    let h : turns_left c.args.state.now.turns size + (code_size (view_list c.as_slice.result.now) + code_size (view_list c.as_slice-in-If.result.now) + 3) < t = omega (arith, sizes, c.decreases) in
    (h, tt)

pub run_statement-repeat-requires : goal.run_statement-repeat-requires
run_statement-repeat-requires t c =
    let size = program_size (map view_unit c.args.self.now.units.now) in
    let whole = ap (λ (x : FlatStmt). view_stmt x End) c.in-Loop.is ∙ view_loop c.in-Loop.body ∙ ap (λ (code : Code). Loop code End) (ap view_list (sym c.as_slice-in-Loop.ensures.value)) in
    let sizes = ap code_size whole in
    let h : turns_left c.args.state.now.turns size + (code_size (view_list c.as_slice-in-Loop.result.now) + 3) < t = omega (arith, sizes, c.decreases) in
    (h, tt)

pub run_statement-returns-in-If : goal.run_statement-returns-in-If
run_statement-returns-in-If t c =
    let s = view_run c.args.state.now in
    let is = ap (λ (x : FlatStmt). view_stmt x End) c.in-If.is ∙ view_if c.in-If.test c.in-If.yes c.in-If.no in
    let first = ap view_list (sym c.as_slice.ensures.value) in
    let second = ap view_list (sym c.as_slice-in-If.ensures.value) in
    let whole = is ∙ ap (λ (code : Code). If (view_expr c.in-If.test) code (view_list c.in-If.no.items) End) first ∙ ap (λ (code : Code). If (view_expr c.in-If.test) (view_list c.as_slice.result.now) code End) second in
    let u = view_run c.choose.new.state in
    subst (λ (code : Code). Flows c.choose.result u (run (view_program c.args.self.now) (view_choice c.args.self.now) code (view_frame c.args.f.now) s)) (sym whole) c.choose.ensures

pub run_statement-returns-in-Loop : goal.run_statement-returns-in-Loop
run_statement-returns-in-Loop t c =
    let s = view_run c.args.state.now in
    let whole = ap (λ (x : FlatStmt). view_stmt x End) c.in-Loop.is ∙ view_loop c.in-Loop.body ∙ ap (λ (code : Code). Loop code End) (ap view_list (sym c.as_slice-in-Loop.ensures.value)) in
    let u = view_run c.repeat.new.state in
    subst (λ (code : Code). Flows c.repeat.result u (run (view_program c.args.self.now) (view_choice c.args.self.now) code (view_frame c.args.f.now) s)) (sym whole) c.repeat.ensures
