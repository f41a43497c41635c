use Rattle.std.proofs.Common.{◌<◌, [], ◌∷◌, ◌++◌, length, refl, sym, ◌∙◌, arith}
use Rattle.std.proofs.lemmas.Result.{err_from_is_err_and}
use Rattle.pascal_grammar.specs.Productions as p
use Rattle.syntax_tree.specs.Expressions.{Parsed}
use Rattle.syntax_tree.specs.source_tree.Declarations.{items_with, of_variable}
use Rattle.type_parser.proofs.parameter_parser.Loop.{fails, ends}
use Rattle.tp_parser.specs.declaration_parser.Reading.{variable_at, more_variables, variables_at}
use Rattle.tp_parser.proofs.declaration_parser.Items.{items_next, variables_start}
use Rattle.tp_parser.proofs.declaration_parser.list.next_variables.Goals as goal

pub names-init : goal.names-init
names-init c =
    let m = c.in_ok-push.ensures.ok in
    let one = rw c.new-all.ensures.items at m in
    record {
      goes = variables_start c.args.depth _ c.in_ok-first.first c.args.lexemes.now c.in_ok-first.rest.now c.in_ok-first.ensures.gives one;
      some = (c.in_ok-first.first, [], one);
      shorter = c.in_ok-first.ensures.shorter;
    }

pub returns-in_err-next-clause-gives : goal.returns-in_err-next-clause-gives
returns-in_err-next-clause-gives c =
    let p1 = err_from_is_err_and c.from_residual-in_err-next.result c.from_residual-in_err-next.ensures.1 in
    let b = sym c.is_named.ensures ∙ c.names-test.true in
    rw (p1.1, p1.2) (fails (more_variables c.args.depth) refl c.in_err-next.field-0.0 (λ (z : Parsed). items_with of_variable p.next_variable c.names.all.items z) c.names.rest.now (variables_at c.args.depth c.args.lexemes.now) b c.in_err-next.ensures.gives c.names.invariant.goes)

pub names-preserved : goal.names-preserved
names-preserved c =
    let b = sym c.is_named.ensures ∙ c.names-test.true in
    let i = c.names.invariant in
    let m = c.in_ok-push-2.ensures.ok in
    let l : length c.in_ok-next.after.now < length c.names.rest.now = c.in_ok-next.ensures.shorter in
    record {
      goes = items_next of_variable p.next_variable p.no_variables (variable_at c.args.depth) c.names.rest.now c.in_ok-next.after.now (variables_at c.args.depth c.args.lexemes.now) c.names.all.items _ i.some.0 i.some.1 c.in_ok-next.next b c.in_ok-next.ensures.gives l i.some.2 m i.goes;
      some = (i.some.0, i.some.1 ++ (c.in_ok-next.next ∷ []), rw i.some.2 at m);
      shorter = omega (arith, l, i.shorter);
    }

pub returns-clause-gives : goal.returns-clause-gives
returns-clause-gives c = ends (more_variables c.args.depth) refl (λ (z : Parsed). items_with of_variable p.next_variable c.names.all.items z) c.names.rest.now (variables_at c.args.depth c.args.lexemes.now) (sym c.is_named.ensures ∙ c.names-test.false) c.names.invariant.goes
