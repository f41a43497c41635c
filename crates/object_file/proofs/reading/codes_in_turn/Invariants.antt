use Rattle.std.proofs.Common.{◌≡◌, ◌-◌}
use Rattle.object_file.specs.file_parts.Parts.{in_turn}
use Rattle.object_file.proofs.file_parts.LoopLaws.{with_front}
use Rattle.object_file.specs.Text.{room_behind}
use Rattle.object_file.specs.Reading.{code_at}
use Rattle.object_file.proofs.reading.codes_in_turn.Given as goal

-- what was read and what is left decide
abbrev pub invariant-loop : goal.invariant-loop
invariant-loop l = with_front l.routines (in_turn code_at room_behind (l.count - l.counter) l.room l.rest) ≡ in_turn code_at room_behind l.count 65520 l.bytes
