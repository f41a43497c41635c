use Rattle.std.proofs.Common.{◌≡◌, true, false, map, Option, List, refl, sym, ap, ◌∙◌, rules, w32, to_z, of_z}
use Rattle.std.specs.Prelude.{ℤ, Ok, Err}
use Rattle.std.specs.Option.{option_map, option_copied}
use Rattle.std.proofs.lemmas.Int.{to_z-of_z}
use Rattle.std.proofs.lemmas.Result.{err_from_is_err_and}
use Rattle.typed_tree.specs.Expressions.{view_expr, view_place, view_args}
use Rattle.typed_tree.specs.Statements.{Statement, view_stmt, view_written}
use Rattle.tp_meaning.specs.Trees.{Key, Spot, Value}
use Rattle.tp_meaning.specs.Programs.{Sort}
use Rattle.tp_meaning.specs.Outcomes.{Does}
use Rattle.tp_meaning.specs.Activations.{Activation, Reached, Callee}
use Rattle.tp_meaning.specs.Calls.{Flow, entered}
use Rattle.tp_meaning.specs.Standard.{Operand, handed}
use Rattle.tp_meaning.specs.Expressions.{Instance, operands, called}
use Rattle.tp_meaning.specs.Meaning.{run}
use Rattle.interpreter_store.specs.cell_store.Views.{view_key, view_spot, view_value}
use Rattle.interpreter_store.specs.typed_cells.Sorts.{view_sort, view_reached}
use Rattle.interpreter_effects.specs.activations.Views.{view_activation, view_callee}
use Rattle.interpreter_effects.specs.standard_effects.Operands.{view_operand}
use Rattle.interpreter_steps.specs.Running.{view_run, view_flow, view_instance, program_of}
use Rattle.interpreter_steps.proofs.Ends.{ends_bind}
use Rattle.interpreter_steps.specs.interpreter_frames.Frames.{rest_of}
use Rattle.interpreter_steps.proofs.interpreter_frames.Moves.{ends_spent, ends_after, ends_two, ends_three, ends_found, ends_spent_two, ends_after_two, expected, moves_found, moves_found2}
use Rattle.std.specs.Prelude.{Some, None}
use Rattle.interpreter_steps.specs.declared.state.Over.TheVariants as over
use Rattle.interpreter_steps.specs.declared.interpreter_frames.frames.Step.TheVariants as step
use Rattle.interpreter.proofs.Steps.{steps_place}
use Rattle.interpreter.proofs.machine.Machine.place_step.Goals as goal

pub returns-in-None : goal.returns-in-None
returns-in-None c =
    let p = program_of c.args.self.now.steps in
    let s = view_run c.args.run.now in
    steps_place p (Err over.Stuck) c.pop.new.self s s c.args.work.now c.pop.new.self None (view_reached c.args.at) (c.in-None.ensures.rest p) c.in-None.ensures.activation refl

pub returns : goal.returns
returns c =
    let p = program_of c.args.self.now.steps in
    let s = view_run c.args.run.now in
    steps_place p c.place_to.result c.place_to.new.work (view_run c.place_to.new.run) s c.args.work.now c.pop.new.self (Some c.in-Some.frame) (view_reached c.args.at) (c.in-Some.ensures.rest p) c.in-Some.ensures.activation c.place_to.ensures
