use Rattle.std.proofs.Common.{◌≡◌, get_or, ap, ◌∙◌, arith}
use Rattle.overlay_manager.specs.Manager.{paragraphs_of}
use Rattle.dos_runner.proofs.opened_program.MatchLaws.{largest-more}
use Rattle.dos_runner.proofs.opened_program.matching.largest.Goals as goal

pub loop-overlay-preserved : goal.loop-overlay-preserved
loop-overlay-preserved c =
    let overlays = c.args.overlays.now in
    let k = c.loop-overlay.overlay-index in
    let item = c.overlay-item.result in
    let more = largest-more overlays k item c.loop-overlay-test.true in
    let size : c.paragraphs_of.result ≡ paragraphs_of (get_or overlays k item) = c.paragraphs_of.ensures ∙ ap paragraphs_of c.overlay-item.is in
    omega (arith, c.loop-overlay.invariant, c.larger-most.ensures, more, size)
