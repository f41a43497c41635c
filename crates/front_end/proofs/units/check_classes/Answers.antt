use Rattle.std.proofs.Common.{subst}
use Rattle.std.proofs.lemmas.List.{take_all}
use Rattle.std.proofs.lemmas.List.Elements.{All-more}
use Rattle.typed_tree.specs.declared.units.Unit.{Unit}
use Rattle.object_vmt.specs.Dispatch.{IsLawful}
use Rattle.front_end.specs.Typed.{AreLawful}
use Rattle.front_end.proofs.units.check_classes.Goals as goal

pub loop-unit-preserved : goal.loop-unit-preserved
loop-unit-preserved c =
    let P : Unit → Type 0 = λ unit. IsLawful unit.types.types in
    All-more P c.args.units.now c.loop-unit.unit-index c.unit-item.result c.loop-unit-test.true c.loop-unit.invariant (subst P c.unit-item.is c.in_default.ensures.lawful)

pub returns-clause-lawful : goal.returns-clause-lawful
returns-clause-lawful c = subst AreLawful (take_all c.loop-unit.unit-index c.args.units.now c.loop-unit-test.false) c.loop-unit.invariant
