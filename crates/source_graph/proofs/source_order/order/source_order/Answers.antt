use Rattle.std.proofs.Common.{◌∙◌, ◌<◌, ℕ, List, length, subst, arith}
use Rattle.std.specs.Prelude.{OnOk}
use Rattle.std.proofs.lemmas.List.{length-map}
use Rattle.unit_interface.specs.declared.edges.UsesOf.{UsesOf}
use Rattle.unit_interface.specs.Uses.{interface_edges}
use Rattle.unit_interface.specs.Circles.{IsOnCircle}
use Rattle.unit_interface.proofs.NeededLaws.{is_order}
use Rattle.source_graph.specs.source_order.Orders.{uses_in, all_uses}
use Rattle.source_graph.proofs.source_order.order.source_order.Goals as goal

pub returns-in_err-units-clause-order : goal.returns-in_err-units-clause-order
returns-in_err-units-clause-order c =
    let units = all_uses c.args.sources.now in
    let some : 0 < length units = omega (arith, length-map c.args.sources.now uses_in, c.requires) in
    is_order units 0 some

pub returns-clause-no_circle : goal.returns-clause-no_circle
returns-clause-no_circle c =
    subst (λ (units : List UsesOf). OnOk c.initial_order.result ((place : ℕ) → IsOnCircle (interface_edges units) place → ⊥)) (c.as_slice.ensures.value ∙ c.in_ok-units.ensures) c.initial_order.ensures.no_circle
