use Rattle.std.proofs.Common.{◌≡◌, ◌++◌, map, drop}
use Rattle.tp_check_decl.specs.routines.Drafts.{view_slot}
use Rattle.tp_check_decl.specs.routines.Methods.{of_methods}
use Rattle.tp_check_decl.proofs.routines.methods.announce_methods.Given as goal

abbrev pub invariant-loop-place : goal.invariant-loop-place
invariant-loop-place l =
    map view_slot l.slots.items ++ of_methods l.owner l.methods l.place (drop l.place l.all)
    ≡ map view_slot l.fn.slots.items ++ of_methods l.owner l.methods 0 l.all
