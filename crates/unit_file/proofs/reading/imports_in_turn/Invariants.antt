use Rattle.std.proofs.Common.{◌≡◌, ◌-◌}
use Rattle.object_file.specs.file_parts.Parts.{each}
use Rattle.object_file.proofs.file_parts.LoopLaws.{with_front}
use Rattle.unit_file.specs.interface_file.Reading.{interface_at}
use Rattle.unit_file.proofs.reading.imports_in_turn.Given as goal

-- what was read and what is left decide
abbrev pub invariant-loop : goal.invariant-loop
invariant-loop l = with_front l.imports (each interface_at (l.left - l.counter) l.rest) ≡ each interface_at l.left l.bytes
