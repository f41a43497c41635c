use Rattle.std.proofs.Common.{◌≡◌, true, false, map, Option, List, refl, sym, ap, ◌∙◌, rules, w32, to_z, of_z}
use Rattle.std.specs.Prelude.{ℤ, Ok, Err}
use Rattle.std.specs.Option.{option_map, option_copied}
use Rattle.std.proofs.lemmas.Int.{to_z-of_z}
use Rattle.std.proofs.lemmas.Result.{err_from_is_err_and}
use Rattle.typed_tree.specs.Expressions.{view_expr, view_place, view_args}
use Rattle.typed_tree.specs.Statements.{Statement, view_stmt, view_written}
use Rattle.tp_meaning.specs.Trees.{Key, Spot, Value}
use Rattle.tp_meaning.specs.Programs.{Sort}
use Rattle.tp_meaning.specs.Outcomes.{Does}
use Rattle.tp_meaning.specs.Activations.{Activation, Reached, Callee}
use Rattle.tp_meaning.specs.Calls.{Flow, entered}
use Rattle.tp_meaning.specs.Standard.{Operand, handed}
use Rattle.tp_meaning.specs.Expressions.{Instance, operands, called}
use Rattle.tp_meaning.specs.Meaning.{run}
use Rattle.interpreter_store.specs.cell_store.Views.{view_key, view_spot, view_value}
use Rattle.interpreter_store.specs.typed_cells.Sorts.{view_sort, view_reached}
use Rattle.interpreter_effects.specs.activations.Views.{view_activation, view_callee}
use Rattle.interpreter_effects.specs.standard_effects.Operands.{view_operand}
use Rattle.interpreter_steps.specs.Running.{view_run, view_flow, view_instance, program_of}
use Rattle.interpreter_steps.proofs.Ends.{ends_bind}
use Rattle.interpreter_steps.specs.interpreter_frames.Frames.{rest_of}
use Rattle.interpreter_steps.proofs.interpreter_frames.Moves.{ends_spent, ends_after, ends_two, ends_three, ends_found, ends_spent_two, ends_after_two, expected, moves_found, moves_found2}
use Rattle.std.specs.Ordering.{int_eq}
use Rattle.interpreter.proofs.Counting.{goes_over, goes_stepped}
use Rattle.interpreter.proofs.machine.Machine.step_for.Goals as goal

pub returns-in_err-at : goal.returns-in_err-at
returns-in_err-at c =
    let p = program_of c.args.self.now.steps in
    let s = view_run c.args.run.now in
    let q = err_from_is_err_and c.from_residual.result c.from_residual.ensures.1 in
    rw (q.1, q.2) (ends_two c.in_err-at.field-0.0 s _ _ _ c.in_err-at.ensures)

pub returns-in_err-z : goal.returns-in_err-z
returns-in_err-z c =
    let p = program_of c.args.self.now.steps in
    let s = view_run c.args.run.now in
    let q = err_from_is_err_and c.from_residual-in_err-z.result c.from_residual-in_err-z.ensures.1 in
    let over = c.in_err-z.field-0.0 in
    rw (q.1, q.2) (ends_found over s _ _ _ _ c.in_ok-at.ensures (ends_two over s _ _ _ c.in_err-z.ensures))

pub returns-then-is_last : goal.returns-then-is_last
returns-then-is_last c =
    let p = program_of c.args.self.now.steps in
    let s = view_run c.args.run.now in
    let f = view_activation c.args.work.now.f in
    let k : Flow → Does Value = λ flow. (rest_of p c.args.work.now).flow flow f in
    let w : to_z w32 (of_z w32 c.in_ok-z.z) ≡ c.in_ok-z.z = search rules in
    let l : to_z w32 (of_z w32 c.args.last) ≡ c.args.last = to_z-of_z w32 c.args.last c.ranges.last in
    let is : int_eq c.in_ok-z.z c.args.last ≡ true = sym (rw (w, l) at c.is_last.ensures) ∙ c.if-is_last.true in
    let counting = c.args.counting in
    let body : Statement = view_stmt counting.body.now.value in
    let t = view_run c.counted.new.run in
    goes_over p c.gave_flow.result c.args.work.now t s f counting.variable c.args.last counting.down body (view_reached c.in_ok-at.at) c.in_ok-z.z k c.in_ok-at.ensures c.in_ok-z.ensures is (c.gave_flow.ensures p c.args.work.now t _ c.counted.ensures)

pub returns-in_err-step : goal.returns-in_err-step
returns-in_err-step c =
    let p = program_of c.args.self.now.steps in
    let s = view_run c.args.run.now in
    let q = err_from_is_err_and c.from_residual-in_err-step.result c.from_residual-in_err-step.ensures.1 in
    let over = c.in_err-step.field-0.0 in
    let t = view_run c.step.new.run in
    let w : to_z w32 (of_z w32 c.in_ok-z.z) ≡ c.in_ok-z.z = search rules in
    let l : to_z w32 (of_z w32 c.args.last) ≡ c.args.last = to_z-of_z w32 c.args.last c.ranges.last in
    let is : int_eq c.in_ok-z.z c.args.last ≡ false = sym (rw (w, l) at c.is_last.ensures) ∙ c.if-is_last.false in
    rw (q.1, q.2) (ends_found over t _ _ _ _ c.in_ok-at.ensures (ends_found over t _ _ _ _ c.in_ok-z.ensures (rw is (ends_two over t _ _ _ (rw w at c.in_err-step.ensures)))))

pub returns : goal.returns
returns c =
    let p = program_of c.args.self.now.steps in
    let s = view_run c.args.run.now in
    let f = view_activation c.args.work.now.f in
    let k : Flow → Does Value = λ flow. (rest_of p c.args.work.now).flow flow f in
    let w : to_z w32 (of_z w32 c.in_ok-z.z) ≡ c.in_ok-z.z = search rules in
    let l : to_z w32 (of_z w32 c.args.last) ≡ c.args.last = to_z-of_z w32 c.args.last c.ranges.last in
    let is : int_eq c.in_ok-z.z c.args.last ≡ false = sym (rw (w, l) at c.is_last.ensures) ∙ c.if-is_last.false in
    let counting = c.args.counting in
    let body : Statement = view_stmt counting.body.now.value in
    goes_stepped p c.turn_for.result c.turn_for.new.work (view_run c.turn_for.new.run) s (view_run c.step.new.run) f counting.variable c.args.last counting.down body (view_reached c.in_ok-at.at) c.in_ok-z.z k c.in_ok-at.ensures c.in_ok-z.ensures is (rw w at c.in_ok-step.ensures) (rw l at (c.turn_for.ensures p))
