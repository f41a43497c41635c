use Rattle.std.proofs.Common.{◌<◌, ◌≤◌, take}
use Rattle.std.specs.List.{All}
use Rattle.overlay_manager.specs.Manager.{paragraphs_of}
use Rattle.machine_tests.proofs.scenes.all_fit.Given as goal

-- those looked at fit
abbrev pub invariant-loop-entry : goal.invariant-loop-entry
invariant-loop-entry l = All (λ entry. (0 < paragraphs_of entry) × (paragraphs_of entry ≤ l.room)) (take l.entry-index l.index)
