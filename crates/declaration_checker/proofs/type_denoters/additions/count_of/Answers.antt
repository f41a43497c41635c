use Rattle.std.proofs.Common.{◌≡◌, ◌∙◌, ℕ, ap, refl, arith}
use Rattle.std.specs.List.{sum_by}
use Rattle.type_layout.specs.Table.{place_of}
use Rattle.declaration_checker.specs.type_denoters.Additions.{one_of}
use Rattle.declaration_checker.proofs.type_denoters.Counts.{next_count, whole_count}
use Rattle.declaration_checker.proofs.type_denoters.additions.count_of.Goals as goal

pub loop-number-preserved : goal.loop-number-preserved
loop-number-preserved c =
    let next = next_count c.unwrap_or-place.result c.args.types.now.origins c.loop-number.number c.loop-number.count _ c.origin-origin.ensures c.loop-number.invariant in
    grind (arith, next, c.saturating_add-count.ensures, c.one_of.ensures)

pub returns : goal.returns
returns c =
    let well = c.count-number-end.ensures.well_formed in
    let whole = whole_count c.unwrap_or-place.result c.args.types.now.origins c.loop-number.number c.loop-number.count (omega (arith, well.origins, c.loop-number-test.false, c.count-number-end.ensures.value)) (omega (arith, well.origins, well.few)) c.loop-number.invariant in
    let found : c.unwrap_or-place.result ≡ place_of c.args.types.now.units c.args.unit.now = c.unwrap_or-place.ensures ∙ rw (c.unit_place.ensures, c.units.ensures) refl in
    whole ∙ ap (λ (place : ℕ). sum_by (one_of place) c.args.types.now.origins) found
