use Rattle.std.proofs.Common.{◌≡◌, ◌-◌}
use Rattle.object_file.specs.file_parts.Parts.{each}
use Rattle.object_file.proofs.file_parts.LoopLaws.{with_front}
use Rattle.unit_file.specs.type_file.Reading.{method_at}
use Rattle.unit_file.proofs.type_file.parts.methods_in_turn.Given as goal

-- what was read and what is left decide
abbrev pub invariant-loop : goal.invariant-loop
invariant-loop l = with_front l.methods (each (method_at l.count l.place) (l.left - l.counter) l.rest) ≡ each (method_at l.count l.place) l.left l.bytes
