use Rattle.std.proofs.Common.{take}
use Rattle.std.specs.List.{AllZip}
use Rattle.front_end.specs.Typed.{sources_at, IsUnitOf}
use Rattle.front_end.proofs.units.units_at.Given as goal

abbrev pub invariant-loop-place : goal.invariant-loop-place
invariant-loop-place l = AllZip (IsUnitOf l.have) (sources_at l.sources (take l.place-index l.places)) l.units
