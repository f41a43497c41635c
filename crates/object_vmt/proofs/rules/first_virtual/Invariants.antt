use Rattle.std.proofs.Common.{◌≡◌, drop}
use Rattle.object_vmt.specs.Rules.{first_virtual}
use Rattle.object_vmt.proofs.rules.first_virtual.Given as goal

abbrev pub invariant-loop-method : goal.invariant-loop-method
invariant-loop-method l = first_virtual l.methods l.name ≡ first_virtual (drop l.method-index l.methods) l.name
