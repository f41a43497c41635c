use Rattle.std.proofs.Common.{◌≡◌, true, false, refl, sym, ap, ◌∙◌}
use Rattle.std.proofs.lemmas.Result.{err_from_is_err_and}
use Rattle.tp_meaning.specs.Operators.{is_true}
use Rattle.interpreter_steps.specs.Running.{view_run, program_of}
use Rattle.interpreter_steps.proofs.Ends.{ends_bind}
use Rattle.interpreter_steps.proofs.interpreter_frames.Moves.{moves1, moves2, moves3, moves_found, moves_again, moves_spent, ends_two, ends_three, ends_spent, ends_found, argued, goes}
use Rattle.interpreter_effects.specs.standard_effects.Operands.{view_operand}
use Rattle.std.specs.Prelude.{map}
use Rattle.interpreter_steps.specs.interpreter_frames.Frames.{rest_of, on_operands}
use Rattle.interpreter_effects.specs.activations.Views.{view_activation}
use Rattle.interpreter.proofs.machine.Machine.argue_on.Goals as goal

pub returns : goal.returns
returns c =
    let p = program_of c.args.self.now.steps in
    let s = view_run c.args.run.now in
    let w = c.args.work.now in
    goes p _ _ _ _ _ (argued _ (view_operand c.args.one) (map view_operand c.args.front.items) (λ xs. on_operands p (rest_of p w) c.args.call xs (view_activation w.f))) (rw c.in_ok-front.ensures at c.argue.ensures)
