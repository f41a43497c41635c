use Rattle.std.proofs.Common.{◌≡◌, ℕ, ◌<◌, ◌≤◌, List, All, map, sym, ap, subst, ◌∙◌}
use Rattle.std.proofs.lemmas.List.Elements.{All-map}
use Rattle.overlay_manager.specs.Manager.{paragraphs_of}
use Rattle.overlay_manager.proofs.ovr.Ovr.new.Goals as goal

pub new-requires-clause-fit : goal.new-requires-clause-fit
new-requires-clause-fit c =
    let Fits : ℕ → Type 0 = λ size. (0 < size) × (size ≤ c.args.room) in
    let sizes : c.deref.result.now ≡ map paragraphs_of c.args.index.now = c.deref.ensures.value ∙ c.in_ok-sizes.ensures ∙ ap (map paragraphs_of) c.as_slice.ensures in
    subst (λ (sizes : List ℕ). All Fits sizes) (sym sizes) (All-map Fits paragraphs_of c.args.index.now c.requires.fit)
