use Rattle.std.proofs.Common.{◌≡◌, drop}
use Rattle.std.specs.Option.{option_copied}
use Rattle.object_vmt.specs.Members.{nearest, later_of}
use Rattle.object_vmt.proofs.rules.nearest.Given as goal

abbrev pub invariant-loop-method : goal.invariant-loop-method
invariant-loop-method l = nearest l.methods l.name ≡ later_of (nearest (drop l.method-index l.methods) l.name) (option_copied l.found)
