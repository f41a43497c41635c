use Rattle.std.proofs.Common.{◌≤◌, [], ◌∷◌, ◌++◌, length, sym, ◌∙◌, arith}
use Rattle.std.proofs.lemmas.Result.{err_from_is_err_and}
use Rattle.pascal_grammar.specs.declared.kind.Kind.TheVariants as k
use Rattle.pascal_grammar.specs.Productions as p
use Rattle.syntax_tree.specs.Expressions.{Parsed}
use Rattle.expression_parser.proofs.Loop.{fails, ends, falls}
use Rattle.syntax_tree.specs.type_tree.Parameters.{group_list}
use Rattle.type_parser.specs.parameter_parser.Reading.{group_at, group_list_at}
use Rattle.type_parser.proofs.parameter_parser.Listing.{groups_start, groups_next}
use Rattle.type_parser.proofs.parameter_parser.parameter.groups.Goals as goal

pub semicolons-init : goal.semicolons-init
semicolons-init c =
    let m = c.in_ok-push.ensures.ok in
    let one = rw c.new-all.ensures.items at m in
    record {
      goes = groups_start c.args.lexemes.now c.in_ok-first.rest.now _ c.in_ok-first.first c.in_ok-first.ensures.gives one;
      some = (c.in_ok-first.first, [], one);
      shorter = c.in_ok-first.ensures.shorter;
    }

pub returns-in_err-next-clause-gives : goal.returns-in_err-next-clause-gives
returns-in_err-next-clause-gives c =
    let p1 = err_from_is_err_and c.from_residual-in_err-next.result c.from_residual-in_err-next.ensures.1 in
    let b = sym c.begins.ensures ∙ c.semicolons-test.true in
    let f = rw c.tail.ensures.gives at c.in_err-next.ensures.gives in
    rw (p1.1, p1.2) (fails k.Semicolon p.no_groups p.next_group group_at c.in_err-next.field-0.0 (λ (z : Parsed). group_list c.semicolons.all.items z) c.semicolons.rest.now (group_list_at c.args.lexemes.now) b f c.semicolons.invariant.goes)

pub semicolons-smaller : goal.semicolons-smaller
semicolons-smaller c =
    let b = sym c.begins.ensures ∙ c.semicolons-test.true in
    let l : length c.in_ok-next.after.now ≤ length c.tail.result.now = omega (arith, c.in_ok-next.ensures.shorter) in
    falls k.Semicolon c.semicolons.rest.now c.in_ok-next.after.now b (rw c.tail.ensures.gives at l)

pub semicolons-preserved : goal.semicolons-preserved
semicolons-preserved c =
    let b = sym c.begins.ensures ∙ c.semicolons-test.true in
    let e = rw c.tail.ensures.gives at c.in_ok-next.ensures.gives in
    let l : length c.in_ok-next.after.now ≤ length c.tail.result.now = omega (arith, c.in_ok-next.ensures.shorter) in
    let i = c.semicolons.invariant in
    let m = c.in_ok-push-2.ensures.ok in
    record {
      goes = groups_next c.args.lexemes.now c.semicolons.rest.now c.in_ok-next.after.now c.semicolons.all.items _ i.some.0 i.some.1 c.in_ok-next.next b e (rw c.tail.ensures.gives at l) i.some.2 m i.goes;
      some = (i.some.0, i.some.1 ++ (c.in_ok-next.next ∷ []), rw i.some.2 at m);
      shorter = omega (arith, l, c.tail.ensures.shorter, i.shorter);
    }

pub returns-clause-gives : goal.returns-clause-gives
returns-clause-gives c = ends k.Semicolon p.no_groups p.next_group group_at (λ (z : Parsed). group_list c.semicolons.all.items z) c.semicolons.rest.now (group_list_at c.args.lexemes.now) (sym c.begins.ensures ∙ c.semicolons-test.false) c.semicolons.invariant.goes
