use Rattle.std.proofs.Common.{◌≤◌, [], ◌∷◌, ◌++◌, length, sym, ◌∙◌, arith}
use Rattle.std.proofs.lemmas.Result.{err_from_is_err_and}
use Rattle.pascal_grammar.specs.declared.kind.Kind.TheVariants as k
use Rattle.pascal_grammar.specs.Productions as p
use Rattle.syntax_tree.specs.Expressions.{Parsed}
use Rattle.expression_parser.specs.Gives.{name_at}
use Rattle.expression_parser.proofs.Loop.{fails, ends, falls}
use Rattle.syntax_tree.specs.type_tree.Parameters.{identifiers_with}
use Rattle.type_parser.specs.parameter_parser.Reading.{identifiers_at}
use Rattle.type_parser.proofs.parameter_parser.Listing.{names_next}
use Rattle.type_parser.proofs.parameter_parser.names.next_identifiers.Goals as goal

pub returns-in_err-next-clause-gives : goal.returns-in_err-next-clause-gives
returns-in_err-next-clause-gives c =
    let p1 = err_from_is_err_and c.from_residual-in_err-next.result c.from_residual-in_err-next.ensures.1 in
    let b = sym c.begins.ensures ∙ c.commas-test.true in
    let f = rw c.tail.ensures.gives at c.in_err-next.ensures.gives in
    rw (p1.1, p1.2) (fails k.Comma p.no_identifiers p.next_identifier name_at c.in_err-next.field-0.0 (λ (z : Parsed). identifiers_with c.commas.all.items z) c.commas.rest.now (identifiers_at c.args.lexemes.now) b f c.commas.invariant.goes)

pub commas-smaller : goal.commas-smaller
commas-smaller c =
    let b = sym c.begins.ensures ∙ c.commas-test.true in
    let l : length c.in_ok-next.after.now ≤ length c.tail.result.now = omega (arith, c.in_ok-next.ensures.shorter) in
    falls k.Comma c.commas.rest.now c.in_ok-next.after.now b (rw c.tail.ensures.gives at l)

pub commas-preserved : goal.commas-preserved
commas-preserved c =
    let b = sym c.begins.ensures ∙ c.commas-test.true in
    let e = rw c.tail.ensures.gives at c.in_ok-next.ensures.gives in
    let l : length c.in_ok-next.after.now ≤ length c.tail.result.now = omega (arith, c.in_ok-next.ensures.shorter) in
    let i = c.commas.invariant in
    let m = c.in_ok-push-2.ensures.ok in
    record {
      goes = names_next c.args.lexemes.now c.commas.rest.now c.in_ok-next.after.now c.commas.all.items _ i.some.0 i.some.1 c.in_ok-next.next b e (rw c.tail.ensures.gives at l) i.some.2 m i.goes;
      some = (i.some.0, i.some.1 ++ (c.in_ok-next.next ∷ []), rw i.some.2 at m);
      shorter = omega (arith, l, c.tail.ensures.shorter, i.shorter);
    }

pub returns-clause-gives : goal.returns-clause-gives
returns-clause-gives c = ends k.Comma p.no_identifiers p.next_identifier name_at (λ (z : Parsed). identifiers_with c.commas.all.items z) c.commas.rest.now (identifiers_at c.args.lexemes.now) (sym c.begins.ensures ∙ c.commas-test.false) c.commas.invariant.goes
