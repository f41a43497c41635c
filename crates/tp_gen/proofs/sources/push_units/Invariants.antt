use Rattle.std.proofs.Common.{◌≡◌, ◌++◌, take, map}
use Rattle.tp_gen.specs.Sources.{unit_source}
use Rattle.tp_gen.proofs.sources.push_units.Given as goal

abbrev pub invariant-loop-unit : goal.invariant-loop-unit
invariant-loop-unit l = l.texts ≡ l.initial.texts ++ map unit_source (take l.unit-index l.units)
