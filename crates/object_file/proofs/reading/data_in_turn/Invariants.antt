use Rattle.std.proofs.Common.{◌≡◌, ◌-◌}
use Rattle.object_file.specs.file_parts.Parts.{each}
use Rattle.object_file.proofs.file_parts.LoopLaws.{with_front}
use Rattle.object_file.specs.Reading.{datum_at}
use Rattle.object_file.proofs.reading.data_in_turn.Given as goal

-- what was read and what is left decide
abbrev pub invariant-loop : goal.invariant-loop
invariant-loop l = with_front l.list (each datum_at (l.count - l.counter) l.rest) ≡ each datum_at l.count l.bytes
