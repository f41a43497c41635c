use Rattle.std.proofs.Common.{◌≡◌, true, false, map, Option, List, refl, sym, ap, ◌∙◌, rules, w32, to_z, of_z}
use Rattle.std.specs.Prelude.{ℤ, Ok, Err}
use Rattle.std.specs.Option.{option_map, option_copied}
use Rattle.std.proofs.lemmas.Int.{to_z-of_z}
use Rattle.std.proofs.lemmas.Result.{err_from_is_err_and}
use Rattle.typed_tree.specs.Expressions.{view_expr, view_place, view_args}
use Rattle.typed_tree.specs.Statements.{Statement, view_stmt, view_written}
use Rattle.tp_meaning.specs.Trees.{Key, Spot, Value}
use Rattle.tp_meaning.specs.Programs.{Sort}
use Rattle.tp_meaning.specs.Outcomes.{Does, and_then, found}
use Rattle.tp_meaning.specs.Activations.{Activation, Callee}
use Rattle.tp_meaning.specs.Calls.{Flow, entered}
use Rattle.tp_meaning.specs.Standard.{Operand, handed}
use Rattle.tp_meaning.specs.Expressions.{Instance, operands, called}
use Rattle.tp_meaning.specs.Meaning.{run}
use Rattle.interpreter_store.specs.cell_store.Views.{view_key, view_spot, view_value}
use Rattle.interpreter_store.specs.typed_cells.Sorts.{view_sort}
use Rattle.interpreter_effects.specs.activations.Views.{view_activation, view_callee}
use Rattle.interpreter_effects.specs.standard_effects.Operands.{view_operand}
use Rattle.interpreter_steps.specs.Running.{view_run, view_flow, view_instance, program_of}
use Rattle.interpreter_steps.proofs.Ends.{ends_bind}
use Rattle.interpreter_steps.specs.interpreter_frames.Frames.{rest_of}
use Rattle.interpreter_steps.proofs.interpreter_frames.Moves.{ends_spent, ends_after, ends_two, ends_three, ends_found, ends_spent_two, ends_after_two, expected, moves_found, moves_found2}
use Rattle.tp_meaning.specs.Statements.{unless_nil, unmade_at}
use Rattle.interpreter_steps.specs.declared.interpreter_frames.callable.Callable.TheVariants as callable
use Rattle.interpreter_steps.proofs.interpreter_frames.Moves.{moves1}
use Rattle.interpreter.proofs.SpentCalls.{argued_alone}
use Rattle.interpreter.proofs.machine.Machine.dispose.Goals as goal

pub returns-in_err-unless_nil : goal.returns-in_err-unless_nil
returns-in_err-unless_nil c =
    let s = view_run c.args.run.now in
    let q = err_from_is_err_and c.from_residual.result c.from_residual.ensures.1 in
    rw (q.1, q.2) (ends_two c.in_err-unless_nil.field-0.0 s _ _ _ (c.in_err-unless_nil.ensures s))

pub returns : goal.returns
returns c =
    let p = program_of c.args.self.now.steps in
    let s = view_run c.args.run.now in
    let f = view_activation c.args.work.now.f in
    let k : Flow → Does Value = λ flow. (rest_of p c.args.work.now).flow flow f in
    let args = view_args c.args.args.now in
    let pointer = view_expr c.args.pointer.now.value in
    let v : Value = view_value c.args.block in
    let unmakes : List Operand → Does Flow = λ xs. unmade_at p (run p) f pointer c.args.destructor xs v in
    let t = view_run c.argue.new.run in
    moves_found p c.argue.result c.argue.new.work t (found (unless_nil v) s) tt (λ done u. and_then (operands p (run p) f args u) unmakes) k (c.in_ok-unless_nil.ensures s)
    (moves1 p c.argue.result c.argue.new.work t (operands p (run p) f args s) unmakes k
    (argued_alone p c.argue.result c.argue.new.work t s (rest_of p c.args.work.now) (callable.Destructor c.args.pointer c.args.block c.args.destructor) c.new.result.items f (operands p (run p) f args) c.new.ensures.items c.argue.ensures))
