use Rattle.std.proofs.Common.{◌≡◌, map, take}
use Rattle.unit_interface.specs.Merge.{key_of}
use Rattle.unit_interface.proofs.keys.keys_of.Given as goal

abbrev pub invariant-loop-number : goal.invariant-loop-number
invariant-loop-number l = l.keys ≡ map (key_of l.types.units) (take l.number l.types.origins)
