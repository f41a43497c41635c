use Rattle.std.proofs.Common.{◌≡◌, take}
use Rattle.std.specs.List.{sum_by}
use Rattle.typed_tree.specs.Slots.{capped}
use Rattle.typed_tree.specs.Frames.{copy_bytes}
use Rattle.typed_tree.proofs.frames.bytes_of_copies.Given as goal

abbrev pub invariant-loop-param : goal.invariant-loop-param
invariant-loop-param l = l.sum ≡ capped (sum_by (copy_bytes l.types.types) (take l.param-index l.params))
