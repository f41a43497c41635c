use Rattle.std.proofs.Common.{true, false, map, List, refl, sym, rules, w32, to_z, of_z}
use Rattle.std.specs.Prelude.{ℤ, Ok, Err}
use Rattle.std.specs.Option.{option_map, option_copied}
use Rattle.std.proofs.lemmas.Int.{to_z-of_z}
use Rattle.std.proofs.lemmas.Result.{err_from_is_err_and}
use Rattle.typed_tree.specs.Expressions.{view_expr, view_place, view_args}
use Rattle.typed_tree.specs.Statements.{Statement, view_stmt, view_written}
use Rattle.tp_meaning.specs.Trees.{Value}
use Rattle.tp_meaning.specs.Programs.{Sort}
use Rattle.tp_meaning.specs.Outcomes.{Does}
use Rattle.tp_meaning.specs.Activations.{Reached, Callee}
use Rattle.tp_meaning.specs.Calls.{Flow}
use Rattle.tp_meaning.specs.Standard.{Operand}
use Rattle.tp_meaning.specs.Expressions.{Instance, operands, called}
use Rattle.tp_meaning.specs.Meaning.{run}
use Rattle.interpreter_store.specs.cell_store.Views.{view_spot, view_value}
use Rattle.interpreter_store.specs.typed_cells.Sorts.{view_sort, view_reached}
use Rattle.interpreter_effects.specs.activations.Views.{view_activation, view_callee}
use Rattle.interpreter_effects.specs.standard_effects.Operands.{view_operand}
use Rattle.interpreter_steps.specs.Running.{view_run, view_flow, view_instance, program_of}
use Rattle.interpreter_steps.proofs.Ends.{ends_bind}
use Rattle.interpreter_steps.specs.interpreter_frames.Frames.{rest_of}
use Rattle.interpreter_steps.proofs.interpreter_frames.Moves.{ends_spent, ends_after, ends_three, ends_found, moves_found, moves_found2}
use Rattle.interpreter.proofs.Parts.{moves_unmade, ends_unmade}
use Rattle.interpreter.proofs.machine.Machine.destroy.Goals as goal

pub returns-in_err-at : goal.returns-in_err-at
returns-in_err-at c =
    let p = program_of c.args.self.now.steps in
    let s = view_run c.args.run.now in
    let f = view_activation c.args.work.now.f in
    let k : Flow → Does Value = λ flow. (rest_of p c.args.work.now).flow flow f in
    let xs : List Operand = map view_operand c.args.args.items in
    let q = err_from_is_err_and c.from_residual.result c.from_residual.ensures.1 in
    rw (q.1, q.2) (ends_unmade c.in_err-at.field-0.0 p f (view_expr c.args.pointer.now.value) c.args.destructor xs (view_value c.args.block.now) k s (rw c.deref.ensures at c.in_err-at.ensures))

pub returns : goal.returns
returns c =
    let p = program_of c.args.self.now.steps in
    let s = view_run c.args.run.now in
    let f = view_activation c.args.work.now.f in
    let k : Flow → Does Value = λ flow. (rest_of p c.args.work.now).flow flow f in
    let xs : List Operand = map view_operand c.args.args.items in
    let at : Reached = view_reached c.in_ok-at.at in
    moves_unmade p c.destroy_at.result c.destroy_at.new.work (view_run c.destroy_at.new.run) f (view_expr c.args.pointer.now.value) c.args.destructor xs (view_value c.args.block.now) at k s (rw c.deref.ensures at c.in_ok-at.ensures)
    c.destroy_at.ensures
