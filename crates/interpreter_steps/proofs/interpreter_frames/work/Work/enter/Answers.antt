use Rattle.std.proofs.Common.{◌≡◌, sym, ap, ◌∙◌}
use Rattle.tp_meaning.specs.Outcomes.{Outcome, and_then}
use Rattle.tp_meaning.specs.Calls.{Flow}
use Rattle.tp_meaning.specs.Statements.{statement}
use Rattle.tp_meaning.specs.Meaning.{run}
use Rattle.typed_tree.specs.Statements.{view_stmt}
use Rattle.interpreter_effects.specs.declared.activations.calls.Activation.{Activation}
use Rattle.interpreter_effects.specs.activations.Views.{view_activation, view_callee}
use Rattle.interpreter_steps.specs.Entering.{ended}
use Rattle.interpreter_steps.specs.declared.interpreter_frames.frames.Return.{Return}
use Rattle.interpreter_steps.specs.declared.interpreter_frames.frames.OnFlow.TheVariants as on_flow
use Rattle.interpreter_steps.specs.interpreter_frames.Frames.{rest_of, with_value}
use Rattle.interpreter_steps.proofs.interpreter_frames.Framed.{pushed_in}
use Rattle.interpreter_steps.proofs.interpreter_frames.work.Work.enter.Goals as goal

pub returns : goal.returns
returns c = λ p s.
    let g = view_activation c.args.g in
    let callee = c.args.callee in
    let first = c.args.first in
    let body = view_stmt callee.routine.now.body in
    let back = c.in_ok-back.back in
    let with_caller = λ (f : Activation). let r : Return = record { callee = callee; first = first; caller = f } in r in
    let held : back.value ≡ with_caller c.args.self.now.f = c.in_ok-back.ensures.ok ∙ ap with_caller c.replace-caller.ensures.value in
    let there : view_activation c.push.new.self.f ≡ g = ap view_activation (c.push.ensures.activation ∙ c.replace-caller.ensures.after) in
    ap (λ (r : Return). and_then (statement p (run p) g body s) (λ (flow : Flow). with_value (rest_of p c.args.self.now) (view_activation r.caller) (ended (view_callee r.callee) r.first))) (sym held)
    ∙ pushed_in p c.args.self.now.frames.items c.push.new.self g (on_flow.Return back) body s c.in_ok-push.ensures.frames there
