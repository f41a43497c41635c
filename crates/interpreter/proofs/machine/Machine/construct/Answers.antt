use Rattle.std.proofs.Common.{◌≡◌, true, false, map, Option, List, refl, sym, ap, ◌∙◌, rules, w32, to_z, of_z}
use Rattle.std.specs.Prelude.{ℤ, Ok, Err}
use Rattle.std.specs.Option.{option_map, option_copied}
use Rattle.std.proofs.lemmas.Int.{to_z-of_z}
use Rattle.std.proofs.lemmas.Result.{err_from_is_err_and}
use Rattle.typed_tree.specs.Expressions.{view_expr, view_place, view_args}
use Rattle.typed_tree.specs.Statements.{Statement, view_stmt, view_written}
use Rattle.tp_meaning.specs.Trees.{Key, Spot, Value}
use Rattle.tp_meaning.specs.Programs.{Sort}
use Rattle.tp_meaning.specs.Outcomes.{Does}
use Rattle.tp_meaning.specs.Activations.{Activation, Reached, Callee}
use Rattle.tp_meaning.specs.Calls.{Flow, entered}
use Rattle.tp_meaning.specs.Standard.{Operand, handed}
use Rattle.tp_meaning.specs.Expressions.{Instance, operands, called}
use Rattle.tp_meaning.specs.Meaning.{run}
use Rattle.interpreter_store.specs.cell_store.Views.{view_key, view_spot, view_value}
use Rattle.interpreter_store.specs.typed_cells.Sorts.{view_sort, view_reached}
use Rattle.interpreter_effects.specs.activations.Views.{view_activation, view_callee}
use Rattle.interpreter_effects.specs.standard_effects.Operands.{view_operand}
use Rattle.interpreter_steps.specs.Running.{view_run, view_flow, view_instance, program_of}
use Rattle.interpreter_steps.proofs.Ends.{ends_bind}
use Rattle.interpreter_steps.specs.interpreter_frames.Frames.{rest_of}
use Rattle.interpreter_steps.proofs.interpreter_frames.Moves.{ends_spent, ends_after, ends_two, ends_three, ends_found, ends_spent_two, ends_after_two, expected, moves_found, moves_found2}
use Rattle.interpreter_steps.specs.declared.interpreter_frames.frames.OnValue.TheVariants as on_value
use Rattle.interpreter.proofs.SpentCalls.{goes_constructed}
use Rattle.interpreter.proofs.machine.Machine.construct.Goals as goal

pub returns-in_err-key : goal.returns-in_err-key
returns-in_err-key c =
    let p = program_of c.args.self.now.steps in
    let s = view_run c.args.run.now in
    let q = err_from_is_err_and c.from_residual.result c.from_residual.ensures.1 in
    rw (q.1, q.2) (ends_two c.in_err-key.field-0.0 s _ _ _ (c.in_err-key.ensures s))

pub returns-in_err-instance : goal.returns-in_err-instance
returns-in_err-instance c =
    let p = program_of c.args.self.now.steps in
    let s = view_run c.args.run.now in
    let q = err_from_is_err_and c.from_residual-in_err-instance.result c.from_residual-in_err-instance.ensures.1 in
    let over = c.in_err-instance.field-0.0 in
    rw (q.1, q.2) (ends_found over s _ _ _ _ (c.in_ok-key.ensures s) (ends_two over s _ _ _ (c.in_err-instance.ensures s)))

pub returns : goal.returns
returns c =
    let p = program_of c.args.self.now.steps in
    let s = view_run c.args.run.now in
    let f = view_activation c.args.work.now.f in
    let k : Value → Does Value = λ v. (rest_of p c.args.work.now).value v f in
    let t = view_run c.called.new.run in
    let key : Key = view_key c.in_ok-key.key in
    let instance : Instance = view_instance c.in_ok-instance.instance in
    let xs : List Operand = map view_operand c.args.args.items in
    let calls : Activation → Does Value = λ f. called p (run p) f key instance xs in
    goes_constructed p c.called.result c.called.new.work t s f c.args.routine c.args.serial (view_sort c.args.sort.now) xs key instance k (c.in_ok-key.ensures s) (c.in_ok-instance.ensures s)
    (expected p c.called.result c.called.new.work t s c.args.work.now c.expect.new.self (on_value.Made c.args.serial) calls (c.in_ok-expect.ensures.rest p) c.expect.ensures.activation c.called.ensures)
