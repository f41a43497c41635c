use Rattle.std.proofs.Common.{◌≡◌, drop}
use Rattle.overlay_manager.specs.Manager.{next_stub}
use Rattle.overlay_manager.proofs.tables.next_stub.Given as goal

-- the seats that are left decide
abbrev pub invariant-loop-k : goal.invariant-loop-k
invariant-loop-k l = next_stub l.stubs (drop l.k l.seats) l.overlay ≡ next_stub l.stubs l.seats l.overlay
