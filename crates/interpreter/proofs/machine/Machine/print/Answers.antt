use Rattle.std.proofs.Common.{◌≡◌, true, false, map, Option, List, refl, sym, ap, ◌∙◌, rules, w32, to_z, of_z}
use Rattle.std.specs.Prelude.{ℤ, Ok, Err}
use Rattle.std.specs.Option.{option_map, option_copied}
use Rattle.std.proofs.lemmas.Int.{to_z-of_z}
use Rattle.std.proofs.lemmas.Result.{err_from_is_err_and}
use Rattle.typed_tree.specs.Expressions.{view_expr, view_place, view_args}
use Rattle.typed_tree.specs.Statements.{Statement, view_stmt, view_written}
use Rattle.tp_meaning.specs.Trees.{Key, Spot, Value}
use Rattle.tp_meaning.specs.Programs.{Sort}
use Rattle.tp_meaning.specs.Outcomes.{Does}
use Rattle.tp_meaning.specs.Activations.{Activation, Reached, Callee}
use Rattle.tp_meaning.specs.Calls.{Flow, entered}
use Rattle.tp_meaning.specs.Standard.{Operand, handed}
use Rattle.tp_meaning.specs.Expressions.{Instance, operands, called}
use Rattle.tp_meaning.specs.Meaning.{run}
use Rattle.interpreter_store.specs.cell_store.Views.{view_key, view_spot, view_value}
use Rattle.interpreter_store.specs.typed_cells.Sorts.{view_sort, view_reached}
use Rattle.interpreter_effects.specs.activations.Views.{view_activation, view_callee}
use Rattle.interpreter_effects.specs.standard_effects.Operands.{view_operand}
use Rattle.interpreter_steps.specs.Running.{view_run, view_flow, view_instance, program_of}
use Rattle.interpreter_steps.proofs.Ends.{ends_bind}
use Rattle.interpreter_steps.specs.interpreter_frames.Frames.{rest_of}
use Rattle.interpreter_steps.proofs.interpreter_frames.Moves.{ends_spent, ends_after, ends_two, ends_three, ends_found, ends_spent_two, ends_after_two, expected, moves_found, moves_found2}
use Rattle.interpreter.proofs.Parts.{moves_printed, ends_printed}
use Rattle.interpreter.proofs.machine.Machine.print.Goals as goal

pub returns-in_err-print : goal.returns-in_err-print
returns-in_err-print c =
    let p = program_of c.args.self.now.steps in
    let s = view_run c.args.run.now in
    let f = view_activation c.args.work.now.f in
    let k : Flow → Does Value = λ flow. (rest_of p c.args.work.now).flow flow f in
    let w : to_z w32 (of_z w32 c.args.width) ≡ c.args.width = to_z-of_z w32 c.args.width c.ranges.width in
    let q = err_from_is_err_and c.from_residual.result c.from_residual.ensures.1 in
    rw (q.1, q.2) (ends_printed c.in_err-print.field-0.0 p f (view_sort c.args.sort.now) (view_value c.args.value.now) (map view_written c.args.rest.now) c.args.width c.args.line k s (view_run c.print.new.run) (rw w at c.in_err-print.ensures))

pub returns : goal.returns
returns c =
    let p = program_of c.args.self.now.steps in
    let s = view_run c.args.run.now in
    let f = view_activation c.args.work.now.f in
    let k : Flow → Does Value = λ flow. (rest_of p c.args.work.now).flow flow f in
    let w : to_z w32 (of_z w32 c.args.width) ≡ c.args.width = to_z-of_z w32 c.args.width c.ranges.width in
    moves_printed p c.write.result c.write.new.work f (view_sort c.args.sort.now) (view_value c.args.value.now) (map view_written c.args.rest.now) c.args.width c.args.line k s (view_run c.print.new.run) (view_run c.write.new.run) (rw w at c.in_ok-print.ensures) (c.write.ensures p)
