use Rattle.rules_well_formed.proofs.virtual_slots.Slots.{virtual_slot}
use Rattle.rules_well_formed.proofs.virtual_slots.laws.virtual_slot_law.Goals as goal

pub returns : goal.returns
returns c = λ types defined few class name method found virtual. virtual_slot types defined few class name method found virtual
