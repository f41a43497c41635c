use Rattle.std.proofs.Common.{◌≡◌, take, drop}
use Rattle.object_vmt.specs.Members.{with_methods}
use Rattle.object_vmt.specs.Faults.{methods_fault}
use Rattle.object_vmt.proofs.class.Class.with_methods.Given as goal

abbrev pub invariant-loop-method : goal.invariant-loop-method
invariant-loop-method l = record {
  members : l.class ≡ with_methods l.fn.self (take l.method-index l.methods);
  fault : methods_fault l.fn.self l.methods ≡ methods_fault l.class (drop l.method-index l.methods);
}
