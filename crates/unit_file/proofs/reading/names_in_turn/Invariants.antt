use Rattle.std.proofs.Common.{◌≡◌, ◌-◌}
use Rattle.object_file.specs.file_parts.Parts.{each, name_at}
use Rattle.object_file.proofs.file_parts.LoopLaws.{with_front}
use Rattle.unit_file.proofs.reading.names_in_turn.Given as goal

-- what was read and what is left decide
abbrev pub invariant-loop : goal.invariant-loop
invariant-loop l = with_front l.names (each name_at (l.left - l.counter) l.rest) ≡ each name_at l.left l.bytes
