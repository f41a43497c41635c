use Rattle.std.proofs.Common.{refl, sym, ◌∙◌, arith}
use Rattle.std.proofs.lemmas.Result.{err_from_is_err_and}
use Rattle.syntax_tree.specs.Expressions.{Parsed}
use Rattle.expression_parser.specs.Reading.{inside}
use Rattle.syntax_tree.specs.type_tree.Parameters.{methods_with}
use Rattle.type_parser.specs.parameter_parser.Reading.{methods, methods_at}
use Rattle.type_parser.proofs.parameter_parser.Listing.{methods_start, methods_next}
use Rattle.type_parser.proofs.parameter_parser.Loop.{fails, ends}
use Rattle.type_parser.proofs.parameter_parser.method.next_methods.Goals as goal

pub methods-init : goal.methods-init
methods-init c = record { goes = methods_start c.args.depth c.args.lexemes.now _ c.new-all.ensures.items; shorter = omega arith }

pub returns-in_err-next-clause-gives : goal.returns-in_err-next-clause-gives
returns-in_err-next-clause-gives c =
    let p1 = err_from_is_err_and c.from_residual.result c.from_residual.ensures.1 in
    let b = sym c.begins_method.ensures ∙ c.methods-test.true in
    rw (p1.1, p1.2) (fails (methods (inside c.args.depth)) refl c.in_err-next.field-0.0 (λ (z : Parsed). methods_with c.methods.all.items z) c.methods.rest.now (methods_at (inside c.args.depth) c.args.lexemes.now) b c.in_err-next.ensures.gives c.methods.invariant.goes)

pub methods-preserved : goal.methods-preserved
methods-preserved c =
    let b = sym c.begins_method.ensures ∙ c.methods-test.true in
    let i = c.methods.invariant in
    record {
      goes = methods_next c.args.depth c.args.lexemes.now c.methods.rest.now c.in_ok-next.after.now c.methods.all.items _ c.in_ok-next.next b c.in_ok-next.ensures.gives c.in_ok-next.ensures.shorter c.in_ok-push.ensures.ok i.goes;
      shorter = omega (arith, c.in_ok-next.ensures.shorter, i.shorter);
    }

pub returns-clause-gives : goal.returns-clause-gives
returns-clause-gives c = ends (methods (inside c.args.depth)) refl (λ (z : Parsed). methods_with c.methods.all.items z) c.methods.rest.now (methods_at (inside c.args.depth) c.args.lexemes.now) (sym c.begins_method.ensures ∙ c.methods-test.false) c.methods.invariant.goes
