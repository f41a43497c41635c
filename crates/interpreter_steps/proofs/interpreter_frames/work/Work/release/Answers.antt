use Rattle.std.proofs.Common.{◌≡◌, ◌-◌, ℕ, List, length, take, vec_len, ap, ◌∙◌, arith}
use Rattle.tp_meaning.specs.Activations.{Reached}
use Rattle.interpreter_effects.specs.activations.Views.{view_activation}
use Rattle.interpreter_steps.proofs.interpreter_frames.Framed.{released_is}
use Rattle.interpreter_steps.proofs.interpreter_frames.work.Work.release.Goals as goal

pub returns-clause-activation : goal.returns-clause-activation
returns-clause-activation c =
    let f = view_activation c.args.self.now.f in
    let olds = c.args.self.now.f.withs.items in
    let counted : vec_len c.args.self.now.f.withs ≡ length olds = omega arith in
    let left : c.pop-held.new.self.items ≡ take (length olds - 1) olds = c.pop-held.ensures.rest ∙ ap (λ (n : ℕ). take (n - 1) olds) counted in
    ap (λ (withs : List Reached). record f { withs = withs }) (released_is olds c.pop-held.new.self.items left)
