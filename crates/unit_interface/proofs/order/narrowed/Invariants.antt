use Rattle.std.proofs.Common.{◌≡◌, take}
use Rattle.unit_interface.proofs.order.narrowed.Given as goal

abbrev pub invariant-loop-place : goal.invariant-loop-place
invariant-loop-place l = l.order ≡ take l.place-index l.places
