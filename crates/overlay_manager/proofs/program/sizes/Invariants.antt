use Rattle.std.proofs.Common.{◌≡◌, map, take}
use Rattle.overlay_manager.specs.Manager.{paragraphs_of}
use Rattle.overlay_manager.proofs.program.sizes.Given as goal

abbrev pub invariant-loop-entry : goal.invariant-loop-entry
invariant-loop-entry l = l.sizes.items ≡ map paragraphs_of (take l.entry-index l.index)
