use Rattle.std.proofs.Common.{◌≡◌, take}
use Rattle.dos_runner.specs.opened_program.Matching.{largest}
use Rattle.dos_runner.proofs.opened_program.matching.largest.Given as goal

abbrev pub invariant-loop-overlay : goal.invariant-loop-overlay
invariant-loop-overlay l = l.most ≡ largest (take l.overlay-index l.overlays)
