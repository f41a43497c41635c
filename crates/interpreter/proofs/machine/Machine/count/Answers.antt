use Rattle.std.proofs.Common.{◌≡◌, true, false, map, Option, List, refl, sym, ap, ◌∙◌, rules, w32, to_z, of_z}
use Rattle.std.specs.Prelude.{ℤ, Ok, Err}
use Rattle.std.specs.Option.{option_map, option_copied}
use Rattle.std.proofs.lemmas.Int.{to_z-of_z}
use Rattle.std.proofs.lemmas.Result.{err_from_is_err_and}
use Rattle.typed_tree.specs.Expressions.{view_expr, view_place, view_args}
use Rattle.typed_tree.specs.Statements.{Statement, view_stmt, view_written}
use Rattle.tp_meaning.specs.Trees.{Key, Spot, Value}
use Rattle.tp_meaning.specs.Programs.{Sort}
use Rattle.tp_meaning.specs.Outcomes.{Does}
use Rattle.tp_meaning.specs.Activations.{Activation, Reached, Callee}
use Rattle.tp_meaning.specs.Calls.{Flow, entered}
use Rattle.tp_meaning.specs.Standard.{Operand, handed}
use Rattle.tp_meaning.specs.Expressions.{Instance, operands, called}
use Rattle.tp_meaning.specs.Meaning.{run}
use Rattle.interpreter_store.specs.cell_store.Views.{view_key, view_spot, view_value}
use Rattle.interpreter_store.specs.typed_cells.Sorts.{view_sort, view_reached}
use Rattle.interpreter_effects.specs.activations.Views.{view_activation, view_callee}
use Rattle.interpreter_effects.specs.standard_effects.Operands.{view_operand}
use Rattle.interpreter_steps.specs.Running.{view_run, view_flow, view_instance, program_of}
use Rattle.interpreter_steps.proofs.Ends.{ends_bind}
use Rattle.interpreter_steps.specs.interpreter_frames.Frames.{rest_of}
use Rattle.interpreter_steps.proofs.interpreter_frames.Moves.{ends_spent, ends_after, ends_two, ends_three, ends_found, ends_spent_two, ends_after_two, expected, moves_found, moves_found2}
use Rattle.tp_meaning.specs.Statements.{is_past, statement, turn}
use Rattle.interpreter.proofs.Counting.{moves_begun, ends_begun}
use Rattle.interpreter.proofs.machine.Machine.count.Goals as goal

pub returns-then-is_past : goal.returns-then-is_past
returns-then-is_past c =
    let p = program_of c.args.self.now.steps in
    let s = view_run c.args.run.now in
    let first : to_z w32 (of_z w32 c.args.first) ≡ c.args.first = to_z-of_z w32 c.args.first c.ranges.first in
    let last : to_z w32 (of_z w32 c.args.last) ≡ c.args.last = to_z-of_z w32 c.args.last c.ranges.last in
    let is : is_past c.args.counting.down c.args.first c.args.last ≡ true = sym (rw (first, last) at c.is_past.ensures) ∙ c.if-is_past.true in
    rw is refl

pub returns : goal.returns
returns c =
    let p = program_of c.args.self.now.steps in
    let s = view_run c.args.run.now in
    let f = view_activation c.args.work.now.f in
    let k : Flow → Does Value = λ flow. (rest_of p c.args.work.now).flow flow f in
    let first : to_z w32 (of_z w32 c.args.first) ≡ c.args.first = to_z-of_z w32 c.args.first c.ranges.first in
    let last : to_z w32 (of_z w32 c.args.last) ≡ c.args.last = to_z-of_z w32 c.args.last c.ranges.last in
    let is : is_past c.args.counting.down c.args.first c.args.last ≡ false = sym (rw (first, last) at c.is_past.ensures) ∙ c.if-is_past.false in
    let high : to_z w32 (of_z w32 c.in_ok-high.high) ≡ c.in_ok-high.high = search rules in
    let counting = c.args.counting in
    let body : Statement = view_stmt counting.body.now.value in
    let turns : ℤ → Does Flow = λ high. turn p (run p) f counting.variable high counting.down body (statement p (run p) f body) in
    rw is (moves_begun p c.turn_for.result c.turn_for.new.work f counting.variable counting.ty counting.checked c.args.first c.args.last c.in_ok-high.high turns k s (view_run c.count_from.new.run) (view_run c.turn_for.new.run)
    (rw (first, last) at c.in_ok-high.ensures) (rw high at (c.turn_for.ensures p)))

pub returns-in_err-high : goal.returns-in_err-high
returns-in_err-high c =
    let p = program_of c.args.self.now.steps in
    let s = view_run c.args.run.now in
    let f = view_activation c.args.work.now.f in
    let k : Flow → Does Value = λ flow. (rest_of p c.args.work.now).flow flow f in
    let q = err_from_is_err_and c.from_residual.result c.from_residual.ensures.1 in
    let first : to_z w32 (of_z w32 c.args.first) ≡ c.args.first = to_z-of_z w32 c.args.first c.ranges.first in
    let last : to_z w32 (of_z w32 c.args.last) ≡ c.args.last = to_z-of_z w32 c.args.last c.ranges.last in
    let is : is_past c.args.counting.down c.args.first c.args.last ≡ false = sym (rw (first, last) at c.is_past.ensures) ∙ c.if-is_past.false in
    let counting = c.args.counting in
    let body : Statement = view_stmt counting.body.now.value in
    let turns : ℤ → Does Flow = λ high. turn p (run p) f counting.variable high counting.down body (statement p (run p) f body) in
    rw (q.1, q.2, is) (ends_begun c.in_err-high.field-0.0 p f counting.variable counting.ty counting.checked c.args.first c.args.last turns k s (view_run c.count_from.new.run) (rw (first, last) at c.in_err-high.ensures))
