use Rattle.std.proofs.Common.{◌≡◌, map, Option, List, ap, ◌∙◌}
use Rattle.std.proofs.lemmas.Result.{err_from_is_err_and}
use Rattle.tp_meaning.specs.Trees.{Key, Spot, Value}
use Rattle.tp_meaning.specs.Outcomes.{Does}
use Rattle.tp_meaning.specs.Activations.{Activation, Reached}
use Rattle.tp_meaning.specs.Calls.{Flow, entered}
use Rattle.tp_meaning.specs.Standard.{Operand, handed}
use Rattle.tp_meaning.specs.Meaning.{run}
use Rattle.interpreter_store.specs.cell_store.Views.{view_key, view_value}
use Rattle.interpreter_store.specs.typed_cells.Sorts.{view_reached}
use Rattle.interpreter_effects.specs.activations.Views.{view_activation}
use Rattle.interpreter_effects.specs.standard_effects.Operands.{view_operand}
use Rattle.interpreter_steps.specs.Running.{view_run, program_of}
use Rattle.interpreter_steps.specs.interpreter_frames.Frames.{rest_of}
use Rattle.interpreter_steps.proofs.interpreter_frames.Moves.{ends_two, ends_spent_two, ends_after_two, expected}
use Rattle.std.specs.Prelude.{Some, None}
use Rattle.interpreter_steps.specs.declared.interpreter_frames.frames.OnValue.TheVariants as on_value
use Rattle.interpreter.proofs.SpentCalls.{goes_freed}
use Rattle.interpreter.proofs.machine.Machine.destroy_at.Goals as goal

pub returns-in_err-spend : goal.returns-in_err-spend
returns-in_err-spend c =
    let q = err_from_is_err_and c.from_residual.result c.from_residual.ensures.1 in
    rw (q.1, q.2) (ends_spent_two c.in_err-spend.field-0.0 (view_run c.args.run.now) (view_run c.spend.new.self) _ _ _ c.in_err-spend.ensures)

pub returns-in_err-key : goal.returns-in_err-key
returns-in_err-key c =
    let t = view_run c.spend.new.self in
    let q = err_from_is_err_and c.from_residual-in_err-key.result c.from_residual-in_err-key.ensures.1 in
    let over = c.in_err-key.field-0.0 in
    rw (q.1, q.2) (ends_after_two over (view_run c.args.run.now) t _ _ _ c.in_ok-spend.ensures (ends_two over t _ _ _ c.in_err-key.ensures))

pub returns : goal.returns
returns c =
    let p = program_of c.args.self.now.steps in
    let s = view_run c.args.run.now in
    let f = view_activation c.args.work.now.f in
    let k : Flow → Does Value = λ flow. (rest_of p c.args.work.now).flow flow f in
    let e : map view_value c.as_slice.result.now ≡ map handed (map view_operand c.args.args.items) = ap (map view_value) c.as_slice.ensures.value ∙ c.in_ok-values.ensures in
    let t = view_run c.spend.new.self in
    let u = view_run c.enter.new.run in
    let at : Reached = view_reached c.args.at in
    let xs : List Operand = map view_operand c.args.args.items in
    let key : Key = view_key c.in_ok-key.key in
    let own : Option Spot = Some at.spot in
    let enters : Activation → Does Value = λ f. entered p (run p) f key own None (map handed xs) in
    goes_freed p c.enter.result c.enter.new.work u s t f c.args.destructor xs at key k c.in_ok-spend.ensures c.in_ok-key.ensures
    (expected p c.enter.result c.enter.new.work u t c.args.work.now c.expect.new.self (on_value.Freed c.args.at) enters (c.in_ok-expect.ensures.rest p) c.expect.ensures.activation
    (rw (e, c.in_ok-own.ensures) at c.enter.ensures))
