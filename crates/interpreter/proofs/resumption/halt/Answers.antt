use Rattle.std.proofs.Common.{◌≡◌, true, false, map, Option, List, refl, sym, ap, ◌∙◌, rules, w32, to_z, of_z}
use Rattle.std.specs.Prelude.{ℤ, Ok, Err}
use Rattle.std.specs.Option.{option_map, option_copied}
use Rattle.std.proofs.lemmas.Int.{to_z-of_z}
use Rattle.std.proofs.lemmas.Result.{err_from_is_err_and}
use Rattle.typed_tree.specs.Expressions.{view_expr, view_place, view_args}
use Rattle.typed_tree.specs.Statements.{Statement, view_stmt, view_written}
use Rattle.tp_meaning.specs.Trees.{Key, Spot, Value}
use Rattle.tp_meaning.specs.Programs.{Sort}
use Rattle.tp_meaning.specs.Outcomes.{Does}
use Rattle.tp_meaning.specs.Activations.{Activation, Reached, Callee}
use Rattle.tp_meaning.specs.Calls.{Flow, entered}
use Rattle.tp_meaning.specs.Standard.{Operand, handed}
use Rattle.tp_meaning.specs.Expressions.{Instance, operands, called}
use Rattle.tp_meaning.specs.Meaning.{run}
use Rattle.interpreter_store.specs.cell_store.Views.{view_key, view_spot, view_value}
use Rattle.interpreter_store.specs.typed_cells.Sorts.{view_sort, view_reached}
use Rattle.interpreter_effects.specs.activations.Views.{view_activation, view_callee}
use Rattle.interpreter_effects.specs.standard_effects.Operands.{view_operand}
use Rattle.interpreter_steps.specs.Running.{view_run, view_flow, view_instance, program_of}
use Rattle.interpreter_steps.proofs.Ends.{ends_bind}
use Rattle.interpreter_steps.specs.interpreter_frames.Frames.{rest_of}
use Rattle.interpreter_steps.proofs.interpreter_frames.Moves.{ends_spent, ends_after, ends_two, ends_three, ends_found, ends_spent_two, ends_after_two, expected, moves_found, moves_found2}
use Rattle.tp_meaning.specs.Statements.{halted}
use Rattle.interpreter.proofs.resumption.halt.Goals as goal

pub returns-in_err-z : goal.returns-in_err-z
returns-in_err-z c =
    let q = err_from_is_err_and c.from_residual.result c.from_residual.ensures.1 in
    rw (q.1, q.2) (λ p work s. ends_two c.in_err-z.field-0.0 s _ _ _ (c.in_err-z.ensures s))

pub returns : goal.returns
returns c =
    let w : to_z w32 (of_z w32 c.in_ok-z.z) ≡ c.in_ok-z.z = search rules in
    λ p work s.
    let k : Flow → Does Value = λ flow. (rest_of p work).flow flow (view_activation work.f) in
    let found = c.in_ok-z.ensures s in
    rw found (ends_bind c.halted.result s (halted c.in_ok-z.z s) k (rw w at (c.halted.ensures s)))
