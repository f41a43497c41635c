use Rattle.std.proofs.Common.{◌∙◌, ap, length}
use Rattle.type_layout.specs.Table.{Table}
use Rattle.declaration_checker.proofs.type_parts.Closing.{entered_inside}
use Rattle.declaration_checker.proofs.type_parts.objects.open_inside.Goals as goal

pub returns-clause-opened : goal.returns-clause-opened
returns-clause-opened c =
    let counted = c.count.ensures.value ∙ ap (λ (t : Table). length t.types) c.types.ensures in
    let told = rw c.copied.ensures at c.in_ok-_is_new.ensures.is_new in
    let made = rw c.copied.ensures at c.in_ok-_is_new.ensures.entered in
    entered_inside c.args.scope.now c.begin.new.self c.enter.new.self c.args.own.now c.count.result c.in_ok-_is_new._is_new c.in_ok-begin.ensures.ok counted told made
