use Rattle.std.proofs.Common.{arith, ◌≡◌, ◌-◌, ◌<◌, ◌^◌, length, sym, subst, min}
use Rattle.type_layout.specs.Layouts.{layouts_of, layout_by, size_over}
use Rattle.type_layout.specs.Table.{Table, IsAddable, place_of, with_unit}
use Rattle.type_layout.proofs.Given.{length-layouts_of}
use Rattle.type_layout.proofs.WellFormed.{with_type-kept}
use Rattle.type_layout.proofs.table.Types.add.Goals as goal

pub size_over-size-requires-clause-measured : goal.size_over-size-requires-clause-measured
size_over-size-requires-clause-measured c =
    rw (c.as_slice-2.ensures.value, c.as_slice.ensures.value, c.self.invariant.measured) (length-layouts_of c.self.inside.types.items)

pub layout_over-layout-requires-clause-measured : goal.layout_over-layout-requires-clause-measured
layout_over-layout-requires-clause-measured c =
    rw (c.as_slice-4.ensures.value, c.as_slice-3.ensures.value, c.self.invariant.measured) (length-layouts_of c.self.inside.types.items)

pub invariant_of-self-2 : goal.invariant_of-self-2
invariant_of-self-2 c =
    let size : c.size_over-size.result ≡ min (size_over c.self.inside.types.items c.args.one) (2 ^ 64 - 1) =
    rw (c.as_slice.ensures.value, c.as_slice-2.ensures.value, c.self.invariant.measured) at c.size_over-size.ensures in
    let layout : c.layout_over-layout.result ≡ layout_by c.self.inside.types.items (layouts_of c.self.inside.types.items) c.args.one =
    rw (c.as_slice-3.ensures.value, c.as_slice-4.ensures.value, c.self.invariant.measured) at c.layout_over-layout.ensures in
    let added : (c.in_ok-unit.unit ≡ place_of c.self.inside.units.items c.args.origin) × (c.find_or_add.new.units.items ≡ with_unit c.self.inside.units.items c.args.origin) =
    c.in_ok-unit.ensures.ok in
    let few : length (with_unit c.self.inside.units.items c.args.origin) < 2 ^ 32 = rw added.1 at c.in_ok-unit.ensures.few in
    let kept = with_type-kept _ _ c.args.origin c.args.number c.args.one c.self.invariant
    (subst (λ (t : Table). IsAddable t c.args.origin c.args.one) (sym c.self.view_is) c.requires)
    (omega (arith, c.if-size-from.false, c.from.ensures)) (omega (arith, c.if-place-ge-MOST.false, c.len-place.ensures)) few in
    rw (c.push_within.ensures, c.push_within-2.ensures, c.push_within-3.ensures, c.reserve.ensures.items, c.reserve-2.ensures.items, c.reserve-3.ensures.items, layout, added.0, added.1) kept
