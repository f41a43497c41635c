use Rattle.std.proofs.Common.{◌≡◌, List, ℕ, ap}
use Rattle.std.proofs.lemmas.Result.{err_from_is_err_and}
use Rattle.tp_meaning.specs.Trees.{Key}
use Rattle.tp_meaning.specs.Activations.{Activation}
use Rattle.tp_meaning.specs.Meaning.{start_activation}
use Rattle.interpreter_store.specs.cell_store.Views.{view_key, view_value}
use Rattle.interpreter_effects.specs.activations.Views.{view_activation}
use Rattle.interpreter_steps.specs.Running.{view_run, program_of}
use Rattle.interpreter.proofs.Starts.{starts, start_ends}
use Rattle.interpreter.proofs.machine.Machine.start_part.Goals as goal

pub returns-in_err-next : goal.returns-in_err-next
returns-in_err-next c =
    let p = program_of c.args.self.now.steps in
    let q = err_from_is_err_and c.from_residual.result c.from_residual.ensures.1 in
    let named : List ℕ → Key = λ name. record { unit = name; number = c.args.number } in
    rw (q.1, q.2) (start_ends c.in_err-next.field-0.0 p (view_run c.args.run.now) (view_run c.enter.new.run) c.new.result.items (view_activation c.start_activation.result) (start_activation c.args.unit.now)
    (named c.copied.result) (named c.args.unit.now.name) c.new.ensures.items c.start_activation.ensures (ap named c.copied.ensures) c.in_err-next.ensures)

pub returns : goal.returns
returns c =
    let p = program_of c.args.self.now.steps in
    let named : List ℕ → Key = λ name. record { unit = name; number = c.args.number } in
    starts view_value p c.finish.result (view_run c.args.run.now) (view_run c.finish.new.run) c.new.result.items (view_activation c.start_activation.result) (start_activation c.args.unit.now)
    (named c.copied.result) (named c.args.unit.now.name) _ c.new.ensures.items c.start_activation.ensures (ap named c.copied.ensures) c.in_ok-next.ensures c.finish.ensures
