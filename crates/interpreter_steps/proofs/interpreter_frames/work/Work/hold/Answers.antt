use Rattle.std.proofs.Common.{◌≡◌, sym, ap, ◌∙◌}
use Rattle.tp_meaning.specs.Outcomes.{and_then}
use Rattle.tp_meaning.specs.Activations.{Activation}
use Rattle.tp_meaning.specs.Calls.{Flow}
use Rattle.tp_meaning.specs.Statements.{statement, with_held}
use Rattle.tp_meaning.specs.Meaning.{run}
use Rattle.typed_tree.specs.Statements.{view_stmt}
use Rattle.interpreter_store.specs.typed_cells.Sorts.{view_reached}
use Rattle.interpreter_effects.specs.activations.Views.{view_activation}
use Rattle.interpreter_steps.specs.declared.interpreter_frames.frames.OnFlow.TheVariants as on_flow
use Rattle.interpreter_steps.specs.interpreter_frames.Frames.{rest_of}
use Rattle.interpreter_steps.proofs.interpreter_frames.Framed.{pushed_in, released_held}
use Rattle.interpreter_steps.proofs.interpreter_frames.work.Work.hold.Goals as goal

pub returns : goal.returns
returns c = λ p s.
    let f = view_activation c.args.self.now.f in
    let at = view_reached c.args.at in
    let body = view_stmt c.args.body.now in
    let there : view_activation c.push.new.self.f ≡ with_held f at = ap view_activation c.push.ensures.activation ∙ c.in_ok-hold_place.ensures.ok in
    ap (λ (g : Activation). and_then (statement p (run p) (with_held f at) body s) (λ (flow : Flow). (rest_of p c.args.self.now).flow flow g)) (sym (released_held f at))
    ∙ pushed_in p c.args.self.now.frames.items c.push.new.self (with_held f at) on_flow.With body s c.in_ok-push.ensures.frames there
