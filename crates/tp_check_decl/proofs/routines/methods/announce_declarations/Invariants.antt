use Rattle.std.proofs.Common.{◌≡◌, ◌++◌, map, drop}
use Rattle.tp_check_decl.specs.routines.Drafts.{view_slot}
use Rattle.tp_check_decl.specs.routines.Methods.{of_declarations}
use Rattle.tp_check_decl.proofs.routines.methods.announce_declarations.Given as goal

abbrev pub invariant-loop-one : goal.invariant-loop-one
invariant-loop-one l =
    map view_slot l.slots.items ++ of_declarations l.scope (drop l.one-index l.all) ≡ map view_slot l.fn.slots.items ++ of_declarations l.scope l.all
