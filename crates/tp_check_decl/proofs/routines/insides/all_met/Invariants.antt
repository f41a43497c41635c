use Rattle.std.proofs.Common.{◌≡◌, drop, map}
use Rattle.tp_check_decl.specs.routines.Drafts.{view_slot}
use Rattle.tp_check_decl.specs.routines.Insides.{all_met}
use Rattle.tp_check_decl.proofs.routines.insides.all_met.Given as goal

abbrev pub invariant-loop-slot : goal.invariant-loop-slot
invariant-loop-slot l = (all_met l.outer (map view_slot (drop l.slot-index l.slots))).run ≡ (all_met l.outer (map view_slot l.slots)).run
