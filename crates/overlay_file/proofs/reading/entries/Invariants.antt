use Rattle.std.proofs.Common.{◌≡◌, ◌+◌, ◌-◌, ◌*◌, ◌≤◌}
use Rattle.overlay_file.specs.Reading.{entries_from}
use Rattle.overlay_file.proofs.LoopLaws.{with_front}
use Rattle.overlay_file.proofs.reading.entries.Given as goal

-- what was read and what is left decide; no overlay is longer than the limit
abbrev pub invariant-loop : goal.invariant-loop
invariant-loop l = (with_front l.index (entries_from (l.count - l.counter) l.bytes l.at) ≡ entries_from l.count l.bytes 8) × (l.at ≤ 8 + 196658 * l.counter)
