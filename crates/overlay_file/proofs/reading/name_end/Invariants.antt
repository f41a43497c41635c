use Rattle.std.proofs.Common.{◌≡◌, ◌+◌, ◌-◌}
use Rattle.overlay_file.specs.Reading.{name_from}
use Rattle.overlay_file.proofs.reading.name_end.Given as goal

-- what is left of the name decides
abbrev pub invariant-loop-k : goal.invariant-loop-k
invariant-loop-k l = name_from l.k (l.size - l.k) l.bytes (l.at + l.k) ≡ name_from 0 l.size l.bytes l.at
