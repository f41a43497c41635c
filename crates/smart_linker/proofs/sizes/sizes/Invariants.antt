use Rattle.std.proofs.Common.{◌≡◌, ◌++◌, drop}
use Rattle.smart_linker.specs.Measures.{resident_from, entries_from}
use Rattle.smart_linker.proofs.sizes.sizes.Given as goal

-- the sizes so far and those that are left are all
abbrev pub invariant-loop-place : goal.invariant-loop-place
invariant-loop-place l =
    (l.resident ++ resident_from l.parts.units.now l.parts.kernel.now l.place (drop l.place l.measured.units) ≡ resident_from l.parts.units.now l.parts.kernel.now 0 l.measured.units)
    × (l.entries ++ entries_from l.parts.units.now l.parts.kernel.now l.place (drop l.place l.measured.units) ≡ entries_from l.parts.units.now l.parts.kernel.now 0 l.measured.units)
