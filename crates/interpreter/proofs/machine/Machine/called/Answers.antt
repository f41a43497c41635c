use Rattle.std.proofs.Common.{◌≡◌, true, false, map, Option, List, refl, sym, ap, ◌∙◌, rules, w32, to_z, of_z}
use Rattle.std.specs.Prelude.{ℤ, Ok, Err}
use Rattle.std.specs.Option.{option_map, option_copied}
use Rattle.std.proofs.lemmas.Int.{to_z-of_z}
use Rattle.std.proofs.lemmas.Result.{err_from_is_err_and}
use Rattle.typed_tree.specs.Expressions.{view_expr, view_place, view_args}
use Rattle.typed_tree.specs.Statements.{Statement, view_stmt, view_written}
use Rattle.tp_meaning.specs.Trees.{Key, Spot, Value}
use Rattle.tp_meaning.specs.Programs.{Sort}
use Rattle.tp_meaning.specs.Outcomes.{Does}
use Rattle.tp_meaning.specs.Activations.{Activation, Reached, Callee}
use Rattle.tp_meaning.specs.Calls.{Flow, entered}
use Rattle.tp_meaning.specs.Standard.{Operand, handed}
use Rattle.tp_meaning.specs.Expressions.{Instance, operands, called}
use Rattle.tp_meaning.specs.Meaning.{run}
use Rattle.interpreter_store.specs.cell_store.Views.{view_key, view_spot, view_value}
use Rattle.interpreter_store.specs.typed_cells.Sorts.{view_sort, view_reached}
use Rattle.interpreter_effects.specs.activations.Views.{view_activation, view_callee}
use Rattle.interpreter_effects.specs.standard_effects.Operands.{view_operand}
use Rattle.interpreter_steps.specs.Running.{view_run, view_flow, view_instance, program_of}
use Rattle.interpreter_steps.proofs.Ends.{ends_bind}
use Rattle.interpreter_steps.specs.interpreter_frames.Frames.{rest_of}
use Rattle.interpreter_steps.proofs.interpreter_frames.Moves.{ends_spent, ends_after, ends_two, ends_three, ends_found, ends_spent_two, ends_after_two, expected, moves_found, moves_found2}
use Rattle.tp_meaning.specs.Programs.{is_overlay}
use Rattle.interpreter.proofs.SpentCalls.{spent_at, entered_as}
use Rattle.interpreter.proofs.machine.Machine.called.Goals as goal

pub returns-then-is_overlay : goal.returns-then-is_overlay
returns-then-is_overlay c =
    let p = program_of c.args.self.now.steps in
    let is : is_overlay (view_key c.args.key.now).unit ≡ true = sym c.is_overlay.ensures ∙ c.if-is_overlay.true in
    let e : map view_value c.as_slice.result.now ≡ map handed (map view_operand c.args.args.items) = ap (map view_value) c.as_slice.ensures.value ∙ c.in_ok-values.ensures in
    rw is (c.gave_value.ensures p c.args.work.now (view_run c.overlay_called.new.run) _ (rw e at c.overlay_called.ensures))

pub returns-in_err-spend : goal.returns-in_err-spend
returns-in_err-spend c =
    let is : is_overlay (view_key c.args.key.now).unit ≡ false = sym c.is_overlay.ensures ∙ c.if-is_overlay.false in
    let q = err_from_is_err_and c.from_residual-in_err-spend.result c.from_residual-in_err-spend.ensures.1 in
    rw (q.1, q.2, is) (ends_spent c.in_err-spend.field-0.0 (view_run c.args.run.now) (view_run c.spend.new.self) _ _ c.in_err-spend.ensures)

pub returns : goal.returns
returns c =
    let p = program_of c.args.self.now.steps in
    let s = view_run c.args.run.now in
    let f = view_activation c.args.work.now.f in
    let k : Value → Does Value = λ v. (rest_of p c.args.work.now).value v f in
    let is : is_overlay (view_key c.args.key.now).unit ≡ false = sym c.is_overlay.ensures ∙ c.if-is_overlay.false in
    let e : map view_value c.as_slice-2.result.now ≡ map handed (map view_operand c.args.args.items) = ap (map view_value) c.as_slice-2.ensures.value ∙ c.in_ok-values.ensures in
    let xs : List Value = map handed (map view_operand c.args.args.items) in
    let instance : Instance = view_instance c.args.instance in
    rw is (spent_at p c.enter.result c.enter.new.work (view_run c.enter.new.run) s (view_run c.spend.new.self) (entered p (run p) f (view_key c.args.key.now) instance.own instance.class xs) k c.in_ok-spend.ensures
    (entered_as p c.enter.result c.enter.new.work (view_run c.enter.new.run) (view_run c.spend.new.self) f (view_key c.args.key.now) (option_map view_spot (option_copied c.as_ref.result)) instance.own instance.class (map view_value c.as_slice-2.result.now) (map handed (map view_operand c.args.args.items)) k (ap (option_map view_spot) c.as_ref.ensures.value) e c.enter.ensures))
