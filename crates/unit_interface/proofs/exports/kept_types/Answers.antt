use Rattle.std.proofs.Common.{◌<◌, arith, length, sym}
use Rattle.unit_interface.proofs.KeptLaws.{fits}
use Rattle.unit_interface.proofs.exports.kept_types.Goals as goal

pub keep_type-requires-clause-fits : goal.keep_type-requires-clause-fits
keep_type-requires-clause-fits c =
    let below : c.loop-number.number < length c.args.own.now.types = omega (arith, c.loop-number-test.true, c.count-number-end.ensures.value) in
    rw (c.loop-number.invariant, c.requires.ids)
    (fits c.args.own.now c.args.reached.now c.loop-number.number c.count-number-end.ensures.well_formed c.requires.closed below (sym c.if-is_met.ensures))
