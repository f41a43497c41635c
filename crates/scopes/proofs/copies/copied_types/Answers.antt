use Rattle.std.proofs.Common.{◌≡◌, ◌∙◌, ap, sym, arith, take, length, get_or, Some, ℕ}
use Rattle.std.specs.Prelude.{slice_get}
use Rattle.type_layout.specs.declared.definitions.Origin.{Origin}
use Rattle.type_layout.specs.Table.{Table, with_type}
use Rattle.scopes.specs.Growth.{empty, grown, additions}
use Rattle.scopes.proofs.GrowthLaws.{copy-step, copy-end}
use Rattle.scopes.proofs.copies.copied_types.Goals as goal

pub add-requires : goal.add-requires
add-requires c =
    let types : Table = c.args.types.now in
    let from : Origin = record { unit = c.origin-unit.result.0; number = c.origin-unit.result.1 } in
    let stands : slice_get types.types c.loop-number.number ≡ Some c.in_ok-one.one = c.get.ensures ∙ ap Some (sym c.in_ok-one.ensures) in
    let named : c.copied-origin.result ≡ get_or types.units from.unit c.copied-origin.result =
    rw c.copied-origin.ensures (rw (← c.units.ensures) c.index-units-unit.is) in
    let step = copy-step types c.loop-number.number c.in_ok-one.one from c.copied-origin.result c.requires stands c.origin-unit.ensures named in
    rw c.loop-number.invariant step.0

pub loop-number-preserved : goal.loop-number-preserved
loop-number-preserved c =
    let types : Table = c.args.types.now in
    let from : Origin = record { unit = c.origin-unit.result.0; number = c.origin-unit.result.1 } in
    let stands : slice_get types.types c.loop-number.number ≡ Some c.in_ok-one.one = c.get.ensures ∙ ap Some (sym c.in_ok-one.ensures) in
    let named : c.copied-origin.result ≡ get_or types.units from.unit c.copied-origin.result =
    rw c.copied-origin.ensures (rw (← c.units.ensures) c.index-units-unit.is) in
    let step = copy-step types c.loop-number.number c.in_ok-one.one from c.copied-origin.result c.requires stands c.origin-unit.ensures named in
    c.in-Ok.ensures.ok.1
    ∙ ap (λ (t : Table). with_type t c.copied-origin.result c.origin-unit.result.1 c.in_ok-one.one) c.loop-number.invariant ∙ sym step.1

pub returns : goal.returns
returns c =
    let types : Table = c.args.types.now in
    let all : c.loop-number.number ≡ length types.types = omega (arith, c.count-number-end.ensures.value, c.loop-number-test.false, c.loop-number.auto.number-end) in
    c.loop-number.invariant ∙ ap (λ (n : ℕ). grown empty (take n (additions types))) all ∙ copy-end types c.requires
