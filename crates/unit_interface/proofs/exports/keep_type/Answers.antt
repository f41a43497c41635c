use Rattle.std.proofs.Common.{◌≡◌, arith, ap, ◌∙◌, get_or}
use Rattle.std.specs.Prelude.{Result, Err}
use Rattle.type_layout.specs.declared.definitions.TypeId.{TypeId}
use Rattle.type_layout.specs.declared.definitions.Origin.{Origin}
use Rattle.type_layout.specs.declared.table.TypeError.{TypeError}
use Rattle.unit_interface.proofs.MergeLaws.{declared-by}
use Rattle.unit_interface.proofs.KeptLaws.{fit-named, kept-named}
use Rattle.unit_interface.proofs.exports.keep_type.Goals as goal

pub add-requires : goal.add-requires
add-requires c =
    let own = c.args.own.now in
    let from : Origin = record { unit = c.origin-unit.result.0; number = c.origin-unit.result.1 } in
    let name : c.copied-origin.result ≡ get_or own.units from.unit c.copied-origin.result =
    rw c.copied-origin.ensures (rw (← c.units.ensures) c.index-units-unit.is) in
    let named = declared-by own c.args.number from c.copied-origin.result c.requires.well_formed c.origin-unit.ensures name in
    (fit-named c.args.ids.now c.args.types.now own c.args.number c.get.result.now c.in_ok-one.one from c.copied-origin.result
    (c.requires.fits c.get.result.now from c.get.ensures c.origin-unit.ensures) named c.in_ok-one.ensures).0

pub unreachable-requires : goal.unreachable-requires
unreachable-requires c =
    let own = c.args.own.now in
    let from : Origin = record { unit = c.origin-unit.result.0; number = c.origin-unit.result.1 } in
    let name : c.copied-origin.result ≡ get_or own.units from.unit c.copied-origin.result =
    rw c.copied-origin.ensures (rw (← c.units.ensures) c.index-units-unit.is) in
    let named = declared-by own c.args.number from c.copied-origin.result c.requires.well_formed c.origin-unit.ensures name in
    let fits = fit-named c.args.ids.now c.args.types.now own c.args.number c.get.result.now c.in_ok-one.one from c.copied-origin.result
    (c.requires.fits c.get.result.now from c.get.ensures c.origin-unit.ensures) named c.in_ok-one.ensures in
    let failed = c.in-Err-TooLarge.is ∙ ap (λ (e : TypeError). (let r : Result TypeId TypeError = Err e in r)) c.in-Err-TooLarge.field-0-is in
    let large = ((c.add.ensures.too_large c.in-Err-TooLarge.field-0-0).0 failed).0 in
    omega (arith, fits.1, large)

pub returns-in-Ok : goal.returns-in-Ok
returns-in-Ok c =
    let own = c.args.own.now in
    let from : Origin = record { unit = c.origin-unit.result.0; number = c.origin-unit.result.1 } in
    let name : c.copied-origin.result ≡ get_or own.units from.unit c.copied-origin.result =
    rw c.copied-origin.ensures (rw (← c.units.ensures) c.index-units-unit.is) in
    let named = declared-by own c.args.number from c.copied-origin.result c.requires.well_formed c.origin-unit.ensures name in
    c.in-Ok.ensures.ok.1
    ∙ kept-named c.args.ids.now c.args.types.now own c.args.number c.get.result.now c.in_ok-one.one from c.copied-origin.result
    c.get.ensures c.origin-unit.ensures named c.in_ok-one.ensures
