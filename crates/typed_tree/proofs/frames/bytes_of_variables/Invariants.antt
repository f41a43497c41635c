use Rattle.std.proofs.Common.{◌≡◌, take}
use Rattle.std.specs.List.{sum_by}
use Rattle.typed_tree.specs.Slots.{capped}
use Rattle.typed_tree.specs.Frames.{even_size}
use Rattle.typed_tree.proofs.frames.bytes_of_variables.Given as goal

abbrev pub invariant-loop-id : goal.invariant-loop-id
invariant-loop-id l = l.sum ≡ capped (sum_by (even_size l.types.types) (take l.id-index l.variables))
