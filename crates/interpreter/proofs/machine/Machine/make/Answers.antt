use Rattle.std.proofs.Common.{◌≡◌, true, false, map, Option, List, refl, sym, ap, ◌∙◌, rules, w32, to_z, of_z}
use Rattle.std.specs.Prelude.{ℤ, Ok, Err}
use Rattle.std.specs.Option.{option_map, option_copied}
use Rattle.std.proofs.lemmas.Int.{to_z-of_z}
use Rattle.std.proofs.lemmas.Result.{err_from_is_err_and}
use Rattle.typed_tree.specs.Expressions.{view_expr, view_place, view_args}
use Rattle.typed_tree.specs.Statements.{Statement, view_stmt, view_written}
use Rattle.tp_meaning.specs.Trees.{Key, Spot, Value}
use Rattle.tp_meaning.specs.Programs.{Sort}
use Rattle.tp_meaning.specs.Outcomes.{Does}
use Rattle.tp_meaning.specs.Activations.{Activation, Reached, Callee}
use Rattle.tp_meaning.specs.Calls.{Flow, entered}
use Rattle.tp_meaning.specs.Standard.{Operand, handed}
use Rattle.tp_meaning.specs.Expressions.{Instance, operands, called}
use Rattle.tp_meaning.specs.Meaning.{run}
use Rattle.interpreter_store.specs.cell_store.Views.{view_key, view_spot, view_value}
use Rattle.interpreter_store.specs.typed_cells.Sorts.{view_sort, view_reached}
use Rattle.interpreter_effects.specs.activations.Views.{view_activation, view_callee}
use Rattle.interpreter_effects.specs.standard_effects.Operands.{view_operand}
use Rattle.interpreter_steps.specs.Running.{view_run, view_flow, view_instance, program_of}
use Rattle.interpreter_steps.proofs.Ends.{ends_bind}
use Rattle.interpreter_steps.specs.interpreter_frames.Frames.{rest_of}
use Rattle.interpreter_steps.proofs.interpreter_frames.Moves.{ends_spent, ends_after, ends_two, ends_three, ends_found, ends_spent_two, ends_after_two, expected, moves_found, moves_found2}
use Rattle.interpreter_steps.specs.declared.interpreter_frames.callable.Callable.TheVariants as callable
use Rattle.interpreter.proofs.SpentCalls.{argued_alone}
use Rattle.interpreter.proofs.Makes.{moves_make, ends_make}
use Rattle.interpreter.proofs.machine.Machine.make.Goals as goal

pub returns-in_err-serial : goal.returns-in_err-serial
returns-in_err-serial c =
    let p = program_of c.args.self.now.steps in
    let s = view_run c.args.run.now in
    let f = view_activation c.args.work.now.f in
    let k : Value → Does Value = λ v. (rest_of p c.args.work.now).value v f in
    let q = err_from_is_err_and c.from_residual.result c.from_residual.ensures.1 in
    rw (q.1, q.2) (ends_make c.in_err-serial.field-0.0 p f c.args.ty c.args.routine (view_args c.args.args.now) k s (view_run c.block_for.new.run) c.in_err-serial.ensures)

pub returns : goal.returns
returns c =
    let p = program_of c.args.self.now.steps in
    let s = view_run c.args.run.now in
    let f = view_activation c.args.work.now.f in
    let k : Value → Does Value = λ v. (rest_of p c.args.work.now).value v f in
    let t = view_run c.block_for.new.run in
    let args = view_args c.args.args.now in
    let serial = c.in_ok-serial.serial in
    let sort = c.in_ok-serial.sort in
    moves_make p c.argue.result c.argue.new.work f c.args.ty c.args.routine args (serial, view_sort sort) k s t (view_run c.argue.new.run) c.in_ok-serial.ensures
    (argued_alone p c.argue.result c.argue.new.work (view_run c.argue.new.run) t (rest_of p c.args.work.now) (callable.Constructor c.args.routine serial sort) c.new.result.items f (operands p (run p) f args) c.new.ensures.items c.argue.ensures)
