use Rattle.std.proofs.Common.{◌≡◌, ◌<◌}
use Rattle.cpu_8086.specs.Arithmetic.{size}
use Rattle.cpu_8086.specs.Places.{turns}
use Rattle.cpu_8086.proofs.arithmetic.turns.Given as goal

abbrev pub invariant-loop-place : goal.invariant-loop-place
invariant-loop-place l = record {
  turned : l.shifted ≡ turns l.op l.width l.value l.carry l._place;
  fits : l.shifted.value < size l.width;
}
