use Rattle.std.proofs.Common.{◌≡◌, map, sym, ap, ◌∙◌}
use Rattle.std.proofs.lemmas.Result.{err_from_is_err_and}
use Rattle.tp_meaning.specs.Standard.{handed}
use Rattle.interpreter_store.specs.cell_store.Views.{view_key, view_value}
use Rattle.interpreter_effects.specs.standard_effects.Operands.{view_operand}
use Rattle.interpreter_steps.specs.Running.{view_run, view_instance, program_of}
use Rattle.interpreter_steps.proofs.Ends.{ends_bind}
use Rattle.interpreter_steps.proofs.interpreter_frames.Moves.{moves1, moves2, moves_found, moves_spent, ends_spent, ends_after, ends_two, expected}
use Rattle.interpreter.proofs.machine.Machine.call_named.Goals as goal

pub returns-in_err-key : goal.returns-in_err-key
returns-in_err-key c =
    let q = err_from_is_err_and c.from_residual.result c.from_residual.ensures.1 in
    rw (q.1, q.2) (ends_two c.in_err-key.field-0.0 (view_run c.args.run.now) _ _ _ (c.in_err-key.ensures (view_run c.args.run.now)))

pub returns : goal.returns
returns c = moves_found (program_of c.args.self.now.steps) _ _ _ _ _ _ _ (c.in_ok-key.ensures (view_run c.args.run.now)) c.called.ensures
