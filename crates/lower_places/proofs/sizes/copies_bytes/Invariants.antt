use Rattle.std.proofs.Common.{◌≡◌, take}
use Rattle.std.specs.List.{sum_by}
use Rattle.typed_tree.specs.Frames.{copy_bytes}
use Rattle.lower_places.proofs.sizes.copies_bytes.Given as goal

abbrev pub invariant-loop-param : goal.invariant-loop-param
invariant-loop-param l = l.bytes ≡ sum_by (copy_bytes l.types.types) (take l.param-index l.params)
