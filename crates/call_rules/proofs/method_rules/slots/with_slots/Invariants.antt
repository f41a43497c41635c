use Rattle.std.proofs.Common.{◌≡◌, drop}
use Rattle.object_vmt.specs.Slots.{slots_from}
use Rattle.call_rules.proofs.method_rules.slots.with_slots.Given as goal

-- the slots so far, and those of the methods that are left
abbrev pub invariant-loop-method : goal.invariant-loop-method
invariant-loop-method l = slots_from l.slots (drop l.method-index l.methods) ≡ slots_from l.fn.slots l.methods
