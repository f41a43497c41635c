use Rattle.std.proofs.Common.{◌≡◌, ◌+◌, List, arith}
use Rattle.std.proofs.lemmas.List.{at_drop_all}
use Rattle.scopes.specs.Members.{narrow}
use Rattle.syntax_tree.specs.declared.type_tree.types.FieldGroup.{FieldGroup}
use Rattle.syntax_tree.specs.declared.type_tree.types.TypeDenoter.{TypeDenoter}
use Rattle.declaration_checker.specs.type_denoters.Trees.{view_denoters, view_groups}
use Rattle.declaration_checker.specs.type_parts.Promised.{adds_indexes, adds_fields}
use Rattle.declaration_checker.proofs.type_parts.CountSteps.{object_adds, array_adds, record_adds}
use Rattle.declaration_checker.proofs.type_parts.counts.+counts.Goals as goal

pub adds-returns-in-Object : goal.adds-returns-in-Object
adds-returns-in-Object t c =
    let e = object_adds c.args.tree.now c.in-Object.position c.in-Object.ancestor c.in-Object.fields c.in-Object.semicolon c.in-Object.methods c.in-Object.is in
    let f = rw c.as_slice.ensures.value at c.adds_fields.ensures in
    rw e (grind (arith, f, c.saturating_add.ensures))

pub adds_fields-returns : goal.adds_fields-returns
adds_fields-returns t c =
    let all = at_drop_all (λ (groups : List FieldGroup). narrow (c.loop-group.sum + adds_fields (view_groups groups))) c.args.groups.now c.loop-group.group-index c.loop-group-test.false in
    grind (arith, all, c.loop-group.invariant.0, c.loop-group.invariant.1)

pub adds_indexes-returns : goal.adds_indexes-returns
adds_indexes-returns t c =
    let all = at_drop_all (λ (types : List TypeDenoter). narrow (c.loop-one.sum + adds_indexes (view_denoters types))) c.args.all.now c.loop-one.one-index c.loop-one-test.false in
    grind (arith, all, c.loop-one.invariant.0, c.loop-one.invariant.1)

pub adds_structured-returns-in-Array : goal.adds_structured-returns-in-Array
adds_structured-returns-in-Array t c place =
    let same : c.deref.result.now ≡ c.in-Array.element.value = let e = c.deref.ensures in cc in
    let e = array_adds place c.args.tree.now c.in-Array.position c.in-Array.indexes c.in-Array.element c.deref.result.now c.in-Array.is same in
    let f = rw c.as_slice.ensures.value at c.adds_indexes.ensures in
    rw e (grind (arith, f, c.adds.ensures, c.saturating_add.ensures))

pub adds_structured-returns-in-Record : goal.adds_structured-returns-in-Record
adds_structured-returns-in-Record t c place =
    let e = record_adds place c.args.tree.now c.in-Record.position c.in-Record.fields c.in-Record.semicolon c.in-Record.is in
    let f = rw c.as_slice-in-Record.ensures.value at c.adds_fields.ensures in
    rw e (grind (arith, f, c.saturating_add-in-Record.ensures))
