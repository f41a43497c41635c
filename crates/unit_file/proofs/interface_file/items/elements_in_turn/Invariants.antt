use Rattle.std.proofs.Common.{◌≡◌, ◌+◌, ◌-◌}
use Rattle.std.specs.Prelude.{nat_le}
use Rattle.object_file.specs.file_parts.Parts.{ruled, byte_at, in_turn}
use Rattle.object_file.proofs.file_parts.LoopLaws.{with_front}
use Rattle.unit_file.proofs.interface_file.items.elements_in_turn.Given as goal

-- what was read and what is left decide
abbrev pub invariant-loop : goal.invariant-loop
invariant-loop l = with_front l.elements (in_turn (λ least. ruled (nat_le least) byte_at) (λ _ element. element + 1) (l.left - l.counter) l.least l.rest) ≡ in_turn (λ least. ruled (nat_le least) byte_at) (λ _ element. element + 1) l.left 0 l.bytes
