use Rattle.std.proofs.Common.{◌≡◌, drop}
use Rattle.overlay_manager.specs.Manager.{with_stubs}
use Rattle.overlay_manager.proofs.tables.set_stubs.Given as goal

-- the stubs written and those that are left are all
abbrev pub invariant-loop-number : goal.invariant-loop-number
invariant-loop-number l =
    record l.machine { memory = with_stubs l.stubs l.seats l.number (drop l.number l.old) (drop l.number l.new) l.machine.memory }
    ≡ record l.initial.machine { memory = with_stubs l.stubs l.seats 0 l.old l.new l.initial.machine.memory }
