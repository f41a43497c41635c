use Rattle.std.proofs.Common.{◌∙◌, ap, inr, refl, rules}
use Rattle.std.specs.Prelude.{Result, Err}
use Rattle.type_layout.specs.declared.definitions.TypeId.{TypeId}
use Rattle.type_layout.specs.declared.table.TypeError.{TypeError}
use Rattle.type_layout.specs.Table.{IsAddable}
use Rattle.unit_interface.proofs.FitLaws.{stands_there}
use Rattle.unit_interface.proofs.merge.add.Goals as goal

pub returns-in-Err-TooLarge-clause-cause : goal.returns-in-Err-TooLarge-clause-cause
returns-in-Err-TooLarge-clause-cause c =
    let failed = c.in-Err-TooLarge.is ∙ ap (λ (e : TypeError). (let r : Result TypeId TypeError = Err e in r)) c.in-Err-TooLarge.field-0-is in
    inr ((c.add_type.ensures.too_large c.in-Err-TooLarge.field-0-0).0 failed).0

pub returns-in-Ok-clause-fits : goal.returns-in-Ok-clause-fits
returns-in-Ok-clause-fits c =
    let types = c.args.scope.now.types in
    let addable : IsAddable types c.args.origin c.args.one = search rules in
    stands_there types c.args.origin c.args.one addable
    (λ large. (let failed = (c.add_type.ensures.too_large _).1 (large, refl) in let was = c.in-Ok.is in cc))
