use Rattle.std.proofs.Common.{◌≡◌, ◌-◌}
use Rattle.object_file.specs.file_parts.Parts.{each}
use Rattle.object_file.proofs.file_parts.LoopLaws.{with_front}
use Rattle.unit_file.specs.type_file.Reading.{param_at}
use Rattle.unit_file.proofs.type_file.parts.params_in_turn.Given as goal

-- what was read and what is left decide
abbrev pub invariant-loop : goal.invariant-loop
invariant-loop l = with_front l.params (each (param_at l.count) (l.left - l.counter) l.rest) ≡ each (param_at l.count) l.left l.bytes
