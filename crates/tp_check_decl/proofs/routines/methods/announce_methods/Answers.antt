use Rattle.std.proofs.Common.{map}
use Rattle.tp_check_decl.specs.routines.Drafts.{view_slot}
use Rattle.tp_check_decl.proofs.routines.MethodSteps.{method_step}
use Rattle.tp_check_decl.proofs.routines.methods.announce_methods.Goals as goal

pub loop-place-preserved : goal.loop-place-preserved
loop-place-preserved c =
    method_step c.args.owner c.args.methods.now c.args.all.now c.loop-place.place c.index-all-place.result _ _ (map view_slot c.loop-place.slots.items) _ _
    c.loop-place-test.true c.index-all-place.is c.header_place.ensures c.nth_method.ensures c.loop-place.invariant c.in_ok-announce_method.ensures.ok
