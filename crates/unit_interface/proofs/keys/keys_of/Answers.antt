use Rattle.std.proofs.Common.{◌≡◌, arith, length, get_or}
use Rattle.type_layout.specs.declared.definitions.Origin.{Origin}
use Rattle.type_layout.specs.Table.{Table}
use Rattle.unit_interface.proofs.MergeLaws.{keys-step, keys-end}
use Rattle.unit_interface.proofs.keys.keys_of.Goals as goal

pub loop-number-preserved : goal.loop-number-preserved
loop-number-preserved c =
    let table : Table = c.args.types.now in
    let from : Origin = record { unit = c.origin-unit.result.0; number = c.origin-unit.result.1 } in
    let named : c.copied-origin.result ≡ get_or table.units from.unit c.copied-origin.result =
    rw c.copied-origin.ensures (rw (← c.units.ensures) c.index-units-unit.is) in
    rw c.in_ok-push.ensures.ok
    (keys-step table c.loop-number.keys c.loop-number.number from c.copied-origin.result c.count-number-end.ensures.well_formed c.origin-unit.ensures named c.loop-number.invariant)

pub returns : goal.returns
returns c =
    let all : c.loop-number.number ≡ length c.args.types.now.types = omega (arith, c.count-number-end.ensures.value, c.loop-number-test.false, c.loop-number.auto.number-end) in
    keys-end c.args.types.now c.loop-number.keys c.loop-number.number c.count-number-end.ensures.well_formed all c.loop-number.invariant
