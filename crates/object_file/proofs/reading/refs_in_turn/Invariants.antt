use Rattle.std.proofs.Common.{◌≡◌, ◌-◌}
use Rattle.object_file.specs.file_parts.Parts.{in_turn}
use Rattle.object_file.proofs.file_parts.LoopLaws.{with_front}
use Rattle.object_file.specs.Text.{ref_end}
use Rattle.object_file.specs.Reading.{ref_at}
use Rattle.object_file.proofs.reading.refs_in_turn.Given as goal

-- what was read and what is left decide
abbrev pub invariant-loop : goal.invariant-loop
invariant-loop l = with_front l.refs (in_turn (ref_at l.size) (λ _ one. ref_end one) (l.count - l.counter) l.least l.rest) ≡ in_turn (ref_at l.size) (λ _ one. ref_end one) l.count 0 l.bytes
