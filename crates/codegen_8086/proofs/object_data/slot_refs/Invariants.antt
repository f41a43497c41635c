use Rattle.std.proofs.Common.{◌≡◌, ◌++◌, drop}
use Rattle.codegen_8086.specs.object_code.Objects.{slot_refs}
use Rattle.codegen_8086.proofs.object_data.slot_refs.Given as goal

abbrev pub invariant-loop-routine : goal.invariant-loop-routine
invariant-loop-routine l = l.refs ++ slot_refs l.names l.offset (drop l.routine-index l.slots) ≡ slot_refs l.names 4 l.slots
