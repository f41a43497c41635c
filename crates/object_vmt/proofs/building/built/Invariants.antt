use Rattle.std.proofs.Common.{◌≡◌, take, drop}
use Rattle.object_vmt.specs.Members.{members_of}
use Rattle.object_vmt.specs.Faults.{first_fault, faults_from}
use Rattle.object_vmt.proofs.building.built.Given as goal

abbrev pub invariant-loop-number : goal.invariant-loop-number
invariant-loop-number l = record {
  members : l.classes.items ≡ members_of (take l.number l.types.types);
  fault : first_fault l.types.types ≡ faults_from l.classes.items (drop l.number l.types.types);
}
