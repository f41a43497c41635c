use Rattle.std.proofs.Common.{◌≡◌, ◌++◌, drop}
use Rattle.smart_linker.specs.Measures.{measured_from, data_end}
use Rattle.smart_linker.proofs.sizes.measure.Given as goal

-- the sums so far and those that are left are all
abbrev pub invariant-loop-place : goal.invariant-loop-place
invariant-loop-place l =
    (l.units ++ measured_from l.parts.units.now l.parts.kernel.now l.place l.bytes (drop l.place l.marks) ≡ measured_from l.parts.units.now l.parts.kernel.now 0 0 l.marks)
    × (data_end l.parts.units.now l.parts.kernel.now l.place l.bytes (drop l.place l.marks) ≡ data_end l.parts.units.now l.parts.kernel.now 0 0 l.marks)
