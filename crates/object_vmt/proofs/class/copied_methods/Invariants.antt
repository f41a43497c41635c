use Rattle.std.proofs.Common.{◌≡◌, take}
use Rattle.object_vmt.proofs.class.copied_methods.Given as goal

abbrev pub invariant-loop-method : goal.invariant-loop-method
invariant-loop-method l = l.copy ≡ take l.method-index l.methods
