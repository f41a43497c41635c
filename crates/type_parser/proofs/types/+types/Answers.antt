use Rattle.std.proofs.Common.{[], ◌∷◌, ◌++◌, sym, ◌∙◌}
use Rattle.std.proofs.lemmas.Result.{err_from_is_err_and}
use Rattle.pascal_grammar.specs.declared.kind.Kind.TheVariants as k
use Rattle.pascal_grammar.specs.Productions as p
use Rattle.syntax_tree.specs.Expressions.{Parsed, of}
use Rattle.expression_parser.proofs.Loop.{fails, ends, falls as comma_falls}
use Rattle.syntax_tree.specs.type_tree.Types.{of_type, index_type_list}
use Rattle.type_parser.specs.Reading.{type_at, typed_inside, index_list_at, groups_at}
use Rattle.type_parser.specs.Views.{group_of, groups_of}
use Rattle.type_parser.proofs.Listing.{indexes_start, indexes_next, groups_start, groups_next, groups_fail, groups_end, falls}
use Rattle.type_parser.proofs.Steps.{type_short, group_short, indexes_stop, indexes_open, indexes_end, fields_end, object_end}
use Rattle.type_parser.proofs.types.+types.Goals as goal

-- ---- index types

pub next_index_types-returns-in_err-all : goal.next_index_types-returns-in_err-all
next_index_types-returns-in_err-all t c =
    let p1 = err_from_is_err_and c.from_residual-in_err-all.result c.from_residual-in_err-all.ensures.1 in
    rw (p1.1, p1.2) (record { gives = indexes_stop c.in_ok-depth.depth c.in_err-all.field-0.0 c.args.depth c.args.lexemes.now c.in_ok-rest.rest.now c.in_ok-depth.ensures.less c.in_ok-rest.ensures.gives c.in_err-all.ensures.gives })

pub next_index_types-returns-in_err-rest-2 : goal.next_index_types-returns-in_err-rest-2
next_index_types-returns-in_err-rest-2 t c =
    let p1 = err_from_is_err_and c.from_residual-in_err-rest-2.result c.from_residual-in_err-rest-2.ensures.1 in
    rw (p1.1, p1.2) (record { gives = indexes_open c.in_ok-depth.depth c.in_err-rest-2.field-0.0 c.args.depth c.args.lexemes.now c.in_ok-rest.rest.now c.in_ok-all.rest.now (index_type_list c.in_ok-all.all.items.items (of p.no_index_types [])) c.in_ok-depth.ensures.less c.in_ok-rest.ensures.gives c.in_ok-all.ensures.gives c.in_err-rest-2.ensures.gives })

pub next_index_types-returns : goal.next_index_types-returns
next_index_types-returns t c = record { gives = indexes_end c.in_ok-depth.depth c.args.depth c.args.lexemes.now c.in_ok-rest.rest.now c.in_ok-all.rest.now c.in_ok-rest-2.rest.now (index_type_list c.in_ok-all.all.items.items (of p.no_index_types [])) c.in_ok-depth.ensures.less c.in_ok-rest.ensures.gives c.in_ok-all.ensures.gives c.in_ok-rest-2.ensures.gives }

pub next_index_list-commas-init : goal.next_index_list-commas-init
next_index_list-commas-init t c =
    let m = c.in_ok-push.ensures.ok in
    let one = rw c.new-all.ensures at m in
    record {
      goes = indexes_start c.args.depth c.args.lexemes.now c.in_ok-first.rest.now _ c.in_ok-first.first c.in_ok-first.ensures.gives one;
      some = (c.in_ok-first.first, [], one);
    }

pub next_index_list-returns-in_err-next : goal.next_index_list-returns-in_err-next
next_index_list-returns-in_err-next t c =
    let p1 = err_from_is_err_and c.from_residual-in_err-next.result c.from_residual-in_err-next.ensures.1 in
    let b = sym c.begins.ensures ∙ c.commas-test.true in
    let f = rw c.tail.ensures.gives at c.in_err-next.ensures.gives in
    rw (p1.1, p1.2) (record { gives = fails k.Comma p.no_index_types p.next_index_type (type_at c.args.depth (typed_inside c.args.depth)) c.in_err-next.field-0.0 (λ (z : Parsed). index_type_list c.commas.all.items.items z) c.commas.rest.now (index_list_at c.args.depth (typed_inside c.args.depth) c.args.lexemes.now) b f c.commas.invariant.goes })

pub next_index_list-commas-smaller : goal.next_index_list-commas-smaller
next_index_list-commas-smaller t c =
    let b = sym c.begins.ensures ∙ c.commas-test.true in
    let e = rw c.tail.ensures.gives at c.in_ok-next.ensures.gives in
    comma_falls k.Comma c.commas.rest.now c.in_ok-next.after.now b (type_short c.args.depth _ (of_type c.in_ok-next.next, c.in_ok-next.after.now) e)

pub next_index_list-commas-preserved : goal.next_index_list-commas-preserved
next_index_list-commas-preserved t c =
    let b = sym c.begins.ensures ∙ c.commas-test.true in
    let e = rw c.tail.ensures.gives at c.in_ok-next.ensures.gives in
    let l = type_short c.args.depth _ (of_type c.in_ok-next.next, c.in_ok-next.after.now) e in
    let i = c.commas.invariant in
    let m = c.in_ok-push-2.ensures.ok in
    record {
      goes = indexes_next c.args.depth c.args.lexemes.now c.commas.rest.now c.in_ok-next.after.now c.commas.all.items.items _ i.some.0 i.some.1 c.in_ok-next.next b e l i.some.2 m i.goes;
      some = (i.some.0, i.some.1 ++ (c.in_ok-next.next ∷ []), rw i.some.2 at m);
    }

pub next_index_list-returns : goal.next_index_list-returns
next_index_list-returns t c = record { gives = ends k.Comma p.no_index_types p.next_index_type (type_at c.args.depth (typed_inside c.args.depth)) (λ (z : Parsed). index_type_list c.commas.all.items.items z) c.commas.rest.now (index_list_at c.args.depth (typed_inside c.args.depth) c.args.lexemes.now) (sym c.begins.ensures ∙ c.commas-test.false) c.commas.invariant.goes }

-- ---- fields

pub next_groups-groups-init : goal.next_groups-groups-init
next_groups-groups-init t c =
    let m = c.in_ok-push.ensures.ok in
    let one = rw c.new-all.ensures at m in
    record { goes = groups_start c.args.depth c.args.lexemes.now c.in_ok-first.rest.now _ c.in_ok-first.first c.in_ok-first.ensures.gives one }

pub next_groups-returns-in_err-next : goal.next_groups-returns-in_err-next
next_groups-returns-in_err-next t c =
    let p1 = err_from_is_err_and c.from_residual-in_err-next.result c.from_residual-in_err-next.ensures.1 in
    let b = sym c.goes_on.ensures ∙ c.groups-test.true in
    let f = rw c.tail.ensures.gives at c.in_err-next.ensures.gives in
    rw (p1.1, p1.2) (record { gives = groups_fail (type_at c.args.depth (typed_inside c.args.depth)) c.in_err-next.field-0.0 (groups_of c.groups.all.items.items) c.groups.rest.now (groups_at (type_at c.args.depth (typed_inside c.args.depth)) c.args.lexemes.now) b f c.groups.invariant.goes })

pub next_groups-groups-smaller : goal.next_groups-groups-smaller
next_groups-groups-smaller t c =
    let b = sym c.goes_on.ensures ∙ c.groups-test.true in
    let e = rw c.tail.ensures.gives at c.in_ok-next.ensures.gives in
    falls c.groups.rest.now c.in_ok-next.after.now b (group_short c.args.depth _ (group_of c.in_ok-next.next, c.in_ok-next.after.now) e)

pub next_groups-groups-preserved : goal.next_groups-groups-preserved
next_groups-groups-preserved t c =
    let b = sym c.goes_on.ensures ∙ c.groups-test.true in
    let e = rw c.tail.ensures.gives at c.in_ok-next.ensures.gives in
    let l = group_short c.args.depth _ (group_of c.in_ok-next.next, c.in_ok-next.after.now) e in
    record { goes = groups_next c.args.depth c.args.lexemes.now c.groups.rest.now c.in_ok-next.after.now c.groups.all.items.items _ c.in_ok-next.next b e l c.in_ok-push-2.ensures.ok c.groups.invariant.goes }

pub next_groups-returns : goal.next_groups-returns
next_groups-returns t c = record { gives = groups_end (type_at c.args.depth (typed_inside c.args.depth)) (groups_of c.groups.all.items.items) c.groups.rest.now (groups_at (type_at c.args.depth (typed_inside c.args.depth)) c.args.lexemes.now) (sym c.goes_on.ensures ∙ c.groups-test.false) c.groups.invariant.goes }

pub next_fields-returns-then-begins_name : goal.next_fields-returns-then-begins_name
next_fields-returns-then-begins_name t c = record { gives = fields_end (type_at c.args.depth (typed_inside c.args.depth)) c.args.lexemes.now c.in_ok-groups.rest.now c.in_ok-semicolon.rest.now c.in_ok-groups.groups.items.items c.in_ok-semicolon.semicolon (sym c.begins_name.ensures ∙ c.if-begins_name.true) c.in_ok-groups.ensures.gives c.in_ok-semicolon.ensures.gives }

pub next_object_part-returns : goal.next_object_part-returns
next_object_part-returns t c = record { gives = object_end c.args.depth (type_at c.args.depth (typed_inside c.args.depth)) c.args.lexemes.now c.in_ok-groups.rest.now c.in_ok-semicolon.rest.now c.in_ok-groups.groups.items.items c.in_ok-semicolon.semicolon c.in_ok-semicolon.methods.items (sym c.begins_name.ensures ∙ c.if-not-begins_name.false) c.in_ok-groups.ensures.gives c.in_ok-semicolon.ensures.gives }
