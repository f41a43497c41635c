use Rattle.declaration_checker.specs.type_denoters.Denoters.{ground}
use Rattle.declaration_checker.specs.type_parts.Parts.{whole}
use Rattle.declaration_checker.proofs.type_parts.Wholes.{whole_object}
use Rattle.declaration_checker.proofs.type_parts.parts.whole.Goals as goal

pub returns-in-Object : goal.returns-in-Object
returns-in-Object c =
    let on = ground c.args.unit.now c.args.names.now in
    let e = whole_object on c.args.next c.args.own.now c.args.scope.now (whole on c.args.next c.args.own.now c.args.scope.now c.args.tree.now).run c.in-Object.position c.in-Object.ancestor c.in-Object.fields c.in-Object.semicolon c.in-Object.methods c.args.tree.now c.in-Object.is in
    let n = rw (c.as_slice.ensures.value, c.as_slice-in-Object.ensures.value, c.as_ref.ensures.value) at c.object_allowed.ensures in
    rw e n
