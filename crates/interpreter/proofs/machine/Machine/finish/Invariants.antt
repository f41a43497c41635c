-- What is left gives what the whole gives.
use Rattle.std.proofs.Common.{◌≡◌}
use Rattle.interpreter_effects.specs.activations.Views.{view_activation}
use Rattle.interpreter_steps.specs.Running.{view_run, program_of}
use Rattle.interpreter_steps.specs.interpreter_frames.Frames.{rest_of, next_of}
use Rattle.interpreter.proofs.machine.Machine.finish.Given as goal

abbrev pub invariant-steps : goal.invariant-steps
invariant-steps l =
    let p = program_of l.self.steps in
    next_of p (rest_of p l.fn.work) (view_activation l.fn.work.f) l.fn.next (view_run l.fn.run) ≡ next_of p (rest_of p l.work) (view_activation l.work.f) l.next (view_run l.run)
