use Rattle.std.proofs.Common.{◌<◌, length, refl, sym, ap, ◌∙◌, arith}
use Rattle.std.proofs.lemmas.Option.{slice_get_read}
use Rattle.unit_interface.specs.Uses.{interface_edges}
use Rattle.unit_interface.specs.declared.edges.UsesOf.{UsesOf}
use Rattle.unit_interface.proofs.CircleLaws.{no_circle, circle_of, edge_count}
use Rattle.unit_interface.proofs.NeededLaws.{is_order}
use Rattle.unit_interface.proofs.order.initial_order.Goals as goal

pub returns-in-Some-clause-cause : goal.returns-in-Some-clause-cause
returns-in-Some-clause-cause c =
    let units = c.args.units.now in
    let both = rw (c.in-Some.is, c.as_slice.ensures.value, c.in_ok-edges.ensures) at c.in_ok-circle.ensures.found in
    let within : c.in-Some.place < length units = omega (arith, both.0, edge_count units units) in
    record {
      place = c.in-Some.place;
      unit = c.index-units-place.result;
      stands = slice_get_read units (length units) c.in-Some.place c.index-units-place.result refl within c.index-units-place.is;
      named = ap (λ (u : UsesOf). u.name) c.index-units-place.is ∙ sym c.copied.ensures;
      circle = circle_of (interface_edges units) c.in-Some.place both.1;
    }

pub returns-clause-no_circle : goal.returns-clause-no_circle
returns-clause-no_circle c =
    no_circle (interface_edges c.args.units.now)
    (rw (c.in-None.is, c.as_slice.ensures.value, c.in_ok-edges.ensures) at c.in_ok-circle.ensures.none)

pub returns-in_err-edges-clause-order : goal.returns-in_err-edges-clause-order
returns-in_err-edges-clause-order c = is_order c.args.units.now c.args.start c.requires

pub returns-in_err-circle-clause-order : goal.returns-in_err-circle-clause-order
returns-in_err-circle-clause-order c = is_order c.args.units.now c.args.start c.requires

pub returns-in-Some-clause-order : goal.returns-in-Some-clause-order
returns-in-Some-clause-order c = is_order c.args.units.now c.args.start c.requires

pub returns-in_err-ordered-in-None-clause-order : goal.returns-in_err-ordered-in-None-clause-order
returns-in_err-ordered-in-None-clause-order c = is_order c.args.units.now c.args.start c.requires

pub returns-clause-order : goal.returns-clause-order
returns-clause-order c = is_order c.args.units.now c.args.start c.requires
