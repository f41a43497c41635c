use Rattle.std.proofs.Common.{◌≡◌, ℕ, List, [], ◌∷◌, ◌++◌, length, Result, Ok, sym, ◌∙◌, arith}
use Rattle.std.proofs.lemmas.Result.{err_from_is_err_and}
use Rattle.pascal_grammar.specs.declared.kind.Kind.TheVariants as k
use Rattle.pascal_grammar.specs.Productions as p
use Rattle.syntax_tree.specs.Expressions.{Parsed, of, of_expression, of_simple, of_term, of_element, of_argument}
use Rattle.expression_parser.specs.Reading.{inside, element_at, elements_at, argument_at, argument_list_at}
use Rattle.expression_parser.specs.Views.{elements_of, argument_list, named_with, indexed_with}
use Rattle.expression_parser.proofs.Lists.{elements_next, arguments_next, arguments_stop, arguments_unclosed, arguments_end}
use Rattle.expression_parser.proofs.Loop.{fails, ends, falls}
use Rattle.expression_parser.proofs.Shorter.{element_short, argument_short}
use Rattle.expression_parser.proofs.Steps.{simple_first, index_first, index_next, index_end}
use Rattle.expression_parser.proofs.expressions.+expressions.Goals as goal

-- ---- terms

pub next_simple-terms-init : goal.next_simple-terms-init
next_simple-terms-init t c = record {
  gives = simple_first (of_simple c.leading-all.result) c.args.depth c.args.lexemes.now c.optional_sign-sign.result.1.now c.in_ok-first.rest.now c.optional_sign-sign.result.0 (of_term c.in_ok-first.first (of p.no_factors [])) c.optional_sign-sign.ensures.found c.optional_sign-sign.ensures.behind c.in_ok-first.ensures.gives c.leading-all.ensures;
  shallower = omega arith;
}

-- ---- elements

pub next_elements-returns-in_err-next : goal.next_elements-returns-in_err-next
next_elements-returns-in_err-next t c =
    let p1 = err_from_is_err_and c.from_residual-in_err-next.result c.from_residual-in_err-next.ensures.1 in
    let b = sym c.begins-in-commas.ensures ∙ c.commas-test.true in
    let f = rw c.tail.ensures.gives at c.in_err-next.ensures.gives in
    rw (p1.1, p1.2) (record { gives = fails k.Comma p.no_more_elements p.next_element (element_at (inside c.args.depth)) c.in_err-next.field-0.0 (λ (z : Parsed). elements_of c.commas.all.items.items z) c.commas.rest.now (elements_at (inside c.args.depth) c.args.lexemes.now) b f c.commas.invariant.goes })

pub next_elements-commas-smaller : goal.next_elements-commas-smaller
next_elements-commas-smaller t c =
    let b = sym c.begins-in-commas.ensures ∙ c.commas-test.true in
    let e = rw c.tail.ensures.gives at c.in_ok-next.ensures.gives in
    falls k.Comma c.commas.rest.now c.in_ok-next.after.now b (element_short c.args.depth _ (of_element c.in_ok-next.next, c.in_ok-next.after.now) e)

pub next_elements-commas-preserved : goal.next_elements-commas-preserved
next_elements-commas-preserved t c =
    let b = sym c.begins-in-commas.ensures ∙ c.commas-test.true in
    let e = rw c.tail.ensures.gives at c.in_ok-next.ensures.gives in
    let i = c.commas.invariant in
    let m = c.in_ok-push-2.ensures.ok in
    record {
      goes = elements_next c.args.depth c.args.lexemes.now c.commas.rest.now c.in_ok-next.after.now c.commas.all.items.items _ i.some.0 i.some.1 c.in_ok-next.next b e i.some.2 m i.goes;
      some = (i.some.0, i.some.1 ++ (c.in_ok-next.next ∷ []), rw i.some.2 at m);
    }

pub next_elements-returns : goal.next_elements-returns
next_elements-returns t c = record { gives = ends k.Comma p.no_more_elements p.next_element (element_at (inside c.args.depth)) (λ (z : Parsed). elements_of c.commas.all.items.items z) c.commas.rest.now (elements_at (inside c.args.depth) c.args.lexemes.now) (sym c.begins-in-commas.ensures ∙ c.commas-test.false) c.commas.invariant.goes }

-- ---- indexes

pub next_indexes-commas-init : goal.next_indexes-commas-init
next_indexes-commas-init t c = record {
  goes = index_first (named_with c.args.owner) (indexed_with c.in_ok-all.all) c.in_ok-left.left c.args.depth c.args.lexemes.now c.in_ok-position.rest.now c.in_ok-first.rest.now c.in_ok-position.position (of_expression c.in_ok-first.first) c.in_ok-left.ensures.less c.in_ok-position.ensures.gives c.in_ok-first.ensures.gives c.in_ok-all.ensures.ok;
  closes = c.in_ok-all.ensures.closes;
  shallower = omega (arith, c.in_ok-left.ensures.less);
}

pub next_indexes-commas-preserved : goal.next_indexes-commas-preserved
next_indexes-commas-preserved t c =
    let b = sym c.begins.ensures ∙ c.commas-test.true in
    record {
      goes = index_next (indexed_with c.commas.all) (indexed_with c.in_ok-all-2.all) _ c.in_ok-left-2.left c.commas.left c.commas.rest.now c.in_ok-position-2.after.now c.in_ok-next.after.now c.in_ok-position-2.position (of_expression c.in_ok-next.next) c.commas.invariant.goes c.in_ok-left-2.ensures.less b c.in_ok-position-2.ensures.gives c.in_ok-next.ensures.gives c.in_ok-all-2.ensures.ok;
      closes = c.in_ok-all-2.ensures.closes;
      shallower = omega (arith, c.in_ok-left-2.ensures.less, c.commas.invariant.shallower);
    }

pub next_indexes-returns-clause-goes : goal.next_indexes-returns-clause-goes
next_indexes-returns-clause-goes t c = index_end (indexed_with c.commas.all) (named_with c.commas.all) _ c.commas.left c.commas.rest.now c.in_ok-rest.rest.now c.commas.invariant.goes (sym c.begins.ensures ∙ c.commas-test.false) c.in_ok-rest.ensures.gives c.commas.invariant.closes

-- ---- arguments

pub next_arguments-returns-in_err-all : goal.next_arguments-returns-in_err-all
next_arguments-returns-in_err-all t c =
    let p1 = err_from_is_err_and c.from_residual-in_err-all.result c.from_residual-in_err-all.ensures.1 in
    rw (p1.1, p1.2) (record { gives = arguments_stop c.in_err-all.field-0.0 c.in_ok-depth.depth c.args.depth c.args.lexemes.now c.in_ok-rest.rest.now c.in_ok-depth.ensures.less c.in_ok-rest.ensures.gives c.in_err-all.ensures.gives })

pub next_arguments-returns-in_err-rest-2 : goal.next_arguments-returns-in_err-rest-2
next_arguments-returns-in_err-rest-2 t c =
    let p1 = err_from_is_err_and c.from_residual-in_err-rest-2.result c.from_residual-in_err-rest-2.ensures.1 in
    rw (p1.1, p1.2) (record { gives = arguments_unclosed c.in_err-rest-2.field-0.0 c.in_ok-depth.depth c.args.depth c.args.lexemes.now c.in_ok-rest.rest.now c.in_ok-all.rest.now (argument_list c.in_ok-all.all.items.items (of p.no_more_arguments [])) c.in_ok-depth.ensures.less c.in_ok-rest.ensures.gives c.in_ok-all.ensures.gives c.in_err-rest-2.ensures.gives })

pub next_arguments-returns : goal.next_arguments-returns
next_arguments-returns t c = record { gives = arguments_end c.in_ok-depth.depth c.args.depth c.args.lexemes.now c.in_ok-rest.rest.now c.in_ok-all.rest.now c.in_ok-rest-2.rest.now (argument_list c.in_ok-all.all.items.items (of p.no_more_arguments [])) c.in_ok-depth.ensures.less c.in_ok-rest.ensures.gives c.in_ok-all.ensures.gives c.in_ok-rest-2.ensures.gives }

pub next_argument_list-returns-in_err-next : goal.next_argument_list-returns-in_err-next
next_argument_list-returns-in_err-next t c =
    let p1 = err_from_is_err_and c.from_residual-in_err-next.result c.from_residual-in_err-next.ensures.1 in
    let b = sym c.begins.ensures ∙ c.commas-test.true in
    let f = rw c.tail.ensures.gives at c.in_err-next.ensures.gives in
    rw (p1.1, p1.2) (record { gives = fails k.Comma p.no_more_arguments p.next_argument (argument_at (inside c.args.depth)) c.in_err-next.field-0.0 (λ (z : Parsed). argument_list c.commas.all.items.items z) c.commas.rest.now (argument_list_at (inside c.args.depth) c.args.lexemes.now) b f c.commas.invariant.goes })

pub next_argument_list-commas-smaller : goal.next_argument_list-commas-smaller
next_argument_list-commas-smaller t c =
    let b = sym c.begins.ensures ∙ c.commas-test.true in
    let e = rw c.tail.ensures.gives at c.in_ok-next.ensures.gives in
    falls k.Comma c.commas.rest.now c.in_ok-next.after.now b (argument_short c.args.depth _ (of_argument c.in_ok-next.next, c.in_ok-next.after.now) e)

pub next_argument_list-commas-preserved : goal.next_argument_list-commas-preserved
next_argument_list-commas-preserved t c =
    let b = sym c.begins.ensures ∙ c.commas-test.true in
    let e = rw c.tail.ensures.gives at c.in_ok-next.ensures.gives in
    let i = c.commas.invariant in
    let m = c.in_ok-push-2.ensures.ok in
    record {
      goes = arguments_next c.args.depth c.args.lexemes.now c.commas.rest.now c.in_ok-next.after.now c.commas.all.items.items _ i.some.0 i.some.1 c.in_ok-next.next b e i.some.2 m i.goes;
      some = (i.some.0, i.some.1 ++ (c.in_ok-next.next ∷ []), rw i.some.2 at m);
    }

pub next_argument_list-returns : goal.next_argument_list-returns
next_argument_list-returns t c = record { gives = ends k.Comma p.no_more_arguments p.next_argument (argument_at (inside c.args.depth)) (λ (z : Parsed). argument_list c.commas.all.items.items z) c.commas.rest.now (argument_list_at (inside c.args.depth) c.args.lexemes.now) (sym c.begins.ensures ∙ c.commas-test.false) c.commas.invariant.goes }
