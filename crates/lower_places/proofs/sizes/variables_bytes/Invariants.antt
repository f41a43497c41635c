use Rattle.std.proofs.Common.{◌≡◌, take}
use Rattle.std.specs.List.{sum_by}
use Rattle.typed_tree.specs.Frames.{even_size}
use Rattle.lower_places.proofs.sizes.variables_bytes.Given as goal

abbrev pub invariant-loop-ty : goal.invariant-loop-ty
invariant-loop-ty l = l.bytes ≡ sum_by (even_size l.types.types) (take l.ty-index l.variables)
