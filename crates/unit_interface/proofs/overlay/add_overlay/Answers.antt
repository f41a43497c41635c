use Rattle.std.proofs.Common.{◌≡◌, ◌∙◌}
use Rattle.std.proofs.lemmas.Result.{on_ok_weaker}
use Rattle.unit_interface.specs.Resolve.{overlay_items}
use Rattle.unit_interface.proofs.OverlayLaws.{overlaid}
use Rattle.unit_interface.proofs.overlay.add_overlay.Goals as goal

pub returns : goal.returns
returns c =
    let are_items : c.as_slice.result.now ≡ overlay_items = c.as_slice.ensures ∙ c.in_ok-items.ensures in
    on_ok_weaker c.add_use.result
    (λ step. overlaid c.args.scope.now c.unit.new.self c.add_use.new.self c.as_slice.result.now c.overlay.result c.in_ok-unit.unit c.in_ok-symbols.symbols
    c.overlay.ensures are_items c.in_ok-unit.ensures.ok.0 c.in_ok-unit.ensures.ok.1 c.in_ok-symbols.ensures step)
    c.add_use.ensures.ok
