use Rattle.std.proofs.Common.{◌≡◌, ◌+◌, ◌*◌, drop}
use Rattle.unit_interface.specs.Order.{visit, visit_each}
use Rattle.unit_interface.proofs.visits.+visits.Given as goal

abbrev pub decreases-visit : goal.decreases-visit
decreases-visit l = 2 * l.room

abbrev pub decreases-visit_each : goal.decreases-visit_each
decreases-visit_each l = 2 * l.room + 1

abbrev pub invariant-visit_each-loop-place : goal.invariant-visit_each-loop-place
invariant-visit_each-loop-place l =
    visit_each (visit l.room l.edges) l.fn.progress l.places ≡ visit_each (visit l.room l.edges) l.progress (drop l.place-index l.places)
