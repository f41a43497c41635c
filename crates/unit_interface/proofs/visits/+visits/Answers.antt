use Rattle.std.proofs.Common.{◌≡◌, ◌-◌, [], false, get_or, refl, sym, ap, ◌∙◌, subst, nat_eq}
use Rattle.std.specs.Prelude.{IfOk}
use Rattle.std.specs.List.{list_any}
use Rattle.unit_interface.specs.declared.visits.Progress.{Progress}
use Rattle.unit_interface.specs.Order.{meet, finish, visit_each, visit}
use Rattle.unit_interface.proofs.VisitLaws.{visit_new}
use Rattle.unit_interface.proofs.visits.+visits.Goals as goal

pub visit-returns : goal.visit-returns
visit-returns t c =
    let edges = c.args.edges.now in
    let progress = c.args.progress in
    let place = c.args.place in
    let room = c.args.room in
    let new : list_any (nat_eq place) progress.met ≡ false = sym (rw c.as_slice.ensures at c.is_met.ensures) ∙ c.if-is_met.false in
    let visited : c.in_ok-visited.visited ≡ visit_each (visit (room - 1) edges) (meet place progress) (get_or edges place []) =
    rw (c.in_ok-met.ensures, c.uses_of.ensures) at c.in_ok-visited.ensures in
    let is : finish place c.in_ok-visited.visited ≡ visit room edges progress place =
    ap (λ (p : Progress). finish place p) visited ∙ sym (visit_new edges progress place room (room - 1) c.if-room-eq0.false refl new) in
    subst (λ (z : Progress). IfOk c.finish.result (λ after. after ≡ z)) is c.finish.ensures
