-- The bytes so far, and those of the slots that are left.
use Rattle.std.proofs.Common.{◌≡◌, ◌++◌, drop, map}
use Rattle.flat_code.specs.Meaning.{vmt_bytes, slots_bytes}
use Rattle.flat_code.specs.Plain.{view_vmt, view_slot}
use Rattle.flat_run.specs.Running.{view_choice}
use Rattle.flat_run.proofs.context.Interpreter.vmt_bytes.Given as goal

abbrev pub invariant-slots : goal.invariant-slots
invariant-slots l = vmt_bytes (view_choice l.self) l.name l.names (view_vmt l.vmt) ≡ l.bytes.items ++ slots_bytes (view_choice l.self) l.name l.names (map view_slot (drop l.slot-index l.vmt.slots))
