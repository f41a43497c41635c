use Rattle.std.proofs.Common.{◌≡◌, ◌+◌, ◌-◌, length}
use Rattle.object_file.specs.file_parts.Parts.{ruled, byte_at, in_turn, stands_in_name, name_bytes}
use Rattle.object_file.proofs.file_parts.LoopLaws.{with_front}
use Rattle.object_file.proofs.file_parts.reading.name_bytes.Given as goal

-- what was read and what is left decide
abbrev pub invariant-loop-k : goal.invariant-loop-k
invariant-loop-k l = (with_front l.text.items (in_turn (λ k. ruled (stands_in_name k) byte_at) (λ k _. k + 1) (l.count - l.k) l.k l.rest) ≡ name_bytes l.count l.bytes) × (length l.text.items ≡ l.k)
