use Rattle.std.proofs.Common.{ap}
use Rattle.tp_meaning.specs.Trees.{Value}
use Rattle.tp_meaning.specs.Activations.{Reached}
use Rattle.tp_meaning.specs.Calls.{Flow}
use Rattle.tp_meaning.specs.Outcomes.{Outcome, and_then}
use Rattle.interpreter_effects.specs.activations.Views.{view_activation}
use Rattle.interpreter_steps.proofs.Ends.{ends_bind}
use Rattle.interpreter_steps.specs.interpreter_frames.Frames.{rest_of}
use Rattle.interpreter_steps.proofs.interpreter_frames.transfer.gave_flow.Goals as goal

pub returns-in-Ok : goal.returns-in-Ok
returns-in-Ok c = λ p work s o e. ap (λ (x : Outcome Flow). and_then x (λ (flow : Flow). (rest_of p work).flow flow (view_activation work.f))) (rw c.in-Ok.is at e)

pub returns-in-Err : goal.returns-in-Err
returns-in-Err c = λ p work s o e. ends_bind c.in-Err.over s o _ (rw c.in-Err.is at e)
