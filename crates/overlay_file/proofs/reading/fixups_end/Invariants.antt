use Rattle.std.proofs.Common.{◌≡◌, ◌+◌, ◌-◌, ◌*◌}
use Rattle.overlay_file.specs.Reading.{fixups_from}
use Rattle.overlay_file.proofs.reading.fixups_end.Given as goal

-- what is left of the fixups decides
abbrev pub invariant-loop : goal.invariant-loop
invariant-loop l = (fixups_from l.size l.least (l.count - l.counter) l.bytes l.place ≡ fixups_from l.size 0 l.count l.bytes l.at) × (l.place ≡ l.at + 2 * l.counter)
