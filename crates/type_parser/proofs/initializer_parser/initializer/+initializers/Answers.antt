use Rattle.std.proofs.Common.{◌≤◌, [], ◌∷◌, ◌++◌, length, refl, sym, ◌∙◌, arith}
use Rattle.std.proofs.lemmas.Result.{err_from_is_err_and}
use Rattle.pascal_grammar.specs.declared.kind.Kind.TheVariants as k
use Rattle.pascal_grammar.specs.Productions as p
use Rattle.syntax_tree.specs.Expressions.{Parsed}
use Rattle.expression_parser.proofs.Loop.{fails, ends}
use Rattle.type_parser.proofs.parameter_parser.Loop as chain
use Rattle.syntax_tree.specs.type_tree.Initializers.{initializer_list, field_list}
use Rattle.type_parser.specs.initializer_parser.Reading.{value_list_at, more_field_values, field_list_at}
use Rattle.type_parser.proofs.initializer_parser.Going.{values}
use Rattle.type_parser.proofs.initializer_parser.Listing.{values_start, values_next, fields_start, fields_next, falls}
use Rattle.type_parser.proofs.initializer_parser.initializer.+initializers.Goals as goal

-- ---- values

pub next_value_list-commas-init : goal.next_value_list-commas-init
next_value_list-commas-init t c =
    let m = c.in_ok-push.ensures.ok in
    let one = rw c.new-all.ensures at m in
    record {
      goes = values_start c.args.depth c.args.lexemes.now c.in_ok-first.rest.now _ c.in_ok-first.first c.in_ok-first.ensures.gives one;
      some = (c.in_ok-first.first, [], one);
      shorter = c.in_ok-first.ensures.shorter;
    }

pub next_value_list-returns-in_err-next-clause-gives : goal.next_value_list-returns-in_err-next-clause-gives
next_value_list-returns-in_err-next-clause-gives t c =
    let p1 = err_from_is_err_and c.from_residual-in_err-next.result c.from_residual-in_err-next.ensures.1 in
    let b = sym c.begins.ensures ∙ c.commas-test.true in
    let f = rw c.tail.ensures.gives at c.in_err-next.ensures.gives in
    rw (p1.1, p1.2) (fails k.Comma p.no_initializers p.next_initializer (values c.args.depth) c.in_err-next.field-0.0 (λ (z : Parsed). initializer_list c.commas.all.items.items z) c.commas.rest.now (value_list_at (values c.args.depth) c.args.lexemes.now) b f c.commas.invariant.goes)

pub next_value_list-commas-smaller : goal.next_value_list-commas-smaller
next_value_list-commas-smaller t c =
    let b = sym c.begins.ensures ∙ c.commas-test.true in
    falls k.Comma c.commas.rest.now c.in_ok-next.after.now b (rw c.tail.ensures.gives at c.in_ok-next.ensures.shorter)

pub next_value_list-commas-preserved : goal.next_value_list-commas-preserved
next_value_list-commas-preserved t c =
    let b = sym c.begins.ensures ∙ c.commas-test.true in
    let e = rw c.tail.ensures.gives at c.in_ok-next.ensures.gives in
    let l = rw c.tail.ensures.gives at c.in_ok-next.ensures.shorter in
    let i = c.commas.invariant in
    let m = c.in_ok-push-2.ensures.ok in
    record {
      goes = values_next c.args.depth c.args.lexemes.now c.commas.rest.now c.in_ok-next.after.now c.commas.all.items.items _ i.some.0 i.some.1 c.in_ok-next.next b e l i.some.2 m i.goes;
      some = (i.some.0, i.some.1 ++ (c.in_ok-next.next ∷ []), rw i.some.2 at m);
      shorter = omega (arith, c.in_ok-next.ensures.shorter, c.tail.ensures.shorter, i.shorter);
    }

pub next_value_list-returns-clause-gives : goal.next_value_list-returns-clause-gives
next_value_list-returns-clause-gives t c = ends k.Comma p.no_initializers p.next_initializer (values c.args.depth) (λ (z : Parsed). initializer_list c.commas.all.items.items z) c.commas.rest.now (value_list_at (values c.args.depth) c.args.lexemes.now) (sym c.begins.ensures ∙ c.commas-test.false) c.commas.invariant.goes

-- ---- fields

pub next_field_list-semicolons-init : goal.next_field_list-semicolons-init
next_field_list-semicolons-init t c =
    let m = c.in_ok-push.ensures.ok in
    let one = rw c.new-all.ensures at m in
    record {
      goes = fields_start c.args.depth c.args.lexemes.now c.in_ok-first.rest.now _ c.in_ok-first.first c.in_ok-first.ensures.gives one;
      some = (c.in_ok-first.first, [], one);
      shorter = omega (arith, c.in_ok-first.ensures.shorter);
    }

pub next_field_list-returns-in_err-next-clause-gives : goal.next_field_list-returns-in_err-next-clause-gives
next_field_list-returns-in_err-next-clause-gives t c =
    let p1 = err_from_is_err_and c.from_residual-in_err-next.result c.from_residual-in_err-next.ensures.1 in
    let b = sym c.begins.ensures ∙ c.semicolons-test.true in
    let f = rw c.tail.ensures.gives at c.in_err-next.ensures.gives in
    rw (p1.1, p1.2) (chain.fails (more_field_values (values c.args.depth)) refl c.in_err-next.field-0.0 (λ (z : Parsed). field_list c.semicolons.all.items.items z) c.semicolons.rest.now (field_list_at (values c.args.depth) c.args.lexemes.now) b f c.semicolons.invariant.goes)

pub next_field_list-semicolons-smaller : goal.next_field_list-semicolons-smaller
next_field_list-semicolons-smaller t c =
    let b = sym c.begins.ensures ∙ c.semicolons-test.true in
    let l : length c.in_ok-next.after.now ≤ length c.tail.result.now = omega (arith, c.in_ok-next.ensures.shorter) in
    falls k.Semicolon c.semicolons.rest.now c.in_ok-next.after.now b (rw c.tail.ensures.gives at l)

pub next_field_list-semicolons-preserved : goal.next_field_list-semicolons-preserved
next_field_list-semicolons-preserved t c =
    let b = sym c.begins.ensures ∙ c.semicolons-test.true in
    let e = rw c.tail.ensures.gives at c.in_ok-next.ensures.gives in
    let l : length c.in_ok-next.after.now ≤ length c.tail.result.now = omega (arith, c.in_ok-next.ensures.shorter) in
    let i = c.semicolons.invariant in
    let m = c.in_ok-push-2.ensures.ok in
    record {
      goes = fields_next c.args.depth c.args.lexemes.now c.semicolons.rest.now c.in_ok-next.after.now c.semicolons.all.items.items _ i.some.0 i.some.1 c.in_ok-next.next b e (rw c.tail.ensures.gives at l) i.some.2 m i.goes;
      some = (i.some.0, i.some.1 ++ (c.in_ok-next.next ∷ []), rw i.some.2 at m);
      shorter = omega (arith, l, c.tail.ensures.shorter, i.shorter);
    }

pub next_field_list-returns-clause-gives : goal.next_field_list-returns-clause-gives
next_field_list-returns-clause-gives t c = chain.ends (more_field_values (values c.args.depth)) refl (λ (z : Parsed). field_list c.semicolons.all.items.items z) c.semicolons.rest.now (field_list_at (values c.args.depth) c.args.lexemes.now) (sym c.begins.ensures ∙ c.semicolons-test.false) c.semicolons.invariant.goes
