use Rattle.object_vmt.proofs.SlotLaws.{has_slots_push}
use Rattle.object_vmt.proofs.class.Class.with_method.Goals as goal

pub invariant_of-result : goal.invariant_of-result
invariant_of-result c =
    rw (c.in_ok-push.ensures.ok, c.in_ok-copied.ensures)
    (has_slots_push c.self.inside.methods c.args.method.now c.self.inside.slots c.add_slot.new.slots c.self.invariant c.in_ok-add_slot.ensures.ok c.in_ok-add_slot.ensures.few)
