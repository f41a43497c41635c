use Rattle.std.proofs.Common.{◌≡◌, ◌-◌}
use Rattle.overlay_manager.specs.Stubbing.{with_entries}
use Rattle.overlay_manager.proofs.stubbing.set_entries.Given as goal

-- the entries written and those that are left are all
abbrev pub invariant-loop : goal.invariant-loop
invariant-loop l =
    record l.machine { memory = with_entries l.was l.now l.stub l.machine.memory l.at (l.entries - l.counter) }
    ≡ record l.initial.machine { memory = with_entries l.was l.now l.stub l.initial.machine.memory 32 l.entries }
