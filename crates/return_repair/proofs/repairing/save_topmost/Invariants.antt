use Rattle.std.proofs.Common.{◌≡◌, drop}
use Rattle.return_repair.specs.Repair.{with_saved}
use Rattle.return_repair.specs.Topmosts.{by_stub}
use Rattle.return_repair.proofs.repairing.save_topmost.Given as goal

-- what is saved and what is left are all
abbrev pub invariant-loop-overlay : goal.invariant-loop-overlay
invariant-loop-overlay l =
    record l.machine { memory = with_saved (by_stub l.topmost.offsets) (drop l.overlay-index l.table) l.machine.memory }
    ≡ record l.initial.machine { memory = with_saved (by_stub l.topmost.offsets) l.table l.initial.machine.memory }
