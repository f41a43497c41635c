use Rattle.std.proofs.Common.{◌≡◌, ap, ◌∙◌}
use Rattle.syntax_tree.specs.declared.type_tree.initializer.Initializer.{Initializer}
use Rattle.constant_checker.specs.typed_constants.Trees.{Initial, list, group, view_initializer, view_items, view_fields}
use Rattle.constant_checker.specs.typed_constants.Initializers.{judged}
use Rattle.constant_checker.proofs.typed_constants.Views.{view_list, view_group}
use Rattle.constant_checker.proofs.typed_constants.initial.+parts.Goals as goal

pub judged-returns-in-List : goal.judged-returns-in-List
judged-returns-in-List t c =
    let g = c.args.scope.now in
    let e : (judged g c.args.due c.args.before (view_initializer c.args.tree.now)).run ≡ (judged g c.args.due c.args.before (list c.in-List.position.place (view_items c.in-List.items.items))).run =
    ap (λ (x : Initializer). (judged g c.args.due c.args.before (view_initializer x)).run) c.in-List.is
    ∙ ap (λ (x : Initial). (judged g c.args.due c.args.before x).run) (view_list c.in-List.position c.in-List.items) in
    let n = rw c.as_slice.ensures.value at c.list_judged.ensures in
    rw e n

pub judged-returns-in-Record : goal.judged-returns-in-Record
judged-returns-in-Record t c =
    let g = c.args.scope.now in
    let e : (judged g c.args.due c.args.before (view_initializer c.args.tree.now)).run ≡ (judged g c.args.due c.args.before (group c.in-Record.position.place (view_fields c.in-Record.fields.items))).run =
    ap (λ (x : Initializer). (judged g c.args.due c.args.before (view_initializer x)).run) c.in-Record.is
    ∙ ap (λ (x : Initial). (judged g c.args.due c.args.before x).run) (view_group c.in-Record.position c.in-Record.fields) in
    let n = rw c.as_slice-in-Record.ensures.value at c.group_judged.ensures in
    rw e n
