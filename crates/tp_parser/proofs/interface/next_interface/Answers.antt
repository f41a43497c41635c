use Rattle.std.proofs.Common.{◌<◌, length, refl, sym, ◌∙◌, arith}
use Rattle.std.proofs.lemmas.Result.{err_from_is_err_and}
use Rattle.syntax_tree.specs.Expressions.{Parsed}
use Rattle.syntax_tree.specs.source_tree.Sources.{interface_with}
use Rattle.type_parser.proofs.parameter_parser.Loop.{fails, ends}
use Rattle.tp_parser.specs.Reading.{interface, interface_at}
use Rattle.tp_parser.proofs.Listing.{interface_start, interface_next}
use Rattle.tp_parser.proofs.interface.next_interface.Goals as goal

pub declarations-init : goal.declarations-init
declarations-init c = record {
  goes = interface_start c.args.depth c.args.lexemes.now _ c.new-all.ensures.items;
  shorter = omega arith;
}

pub returns-in_err-next-clause-gives : goal.returns-in_err-next-clause-gives
returns-in_err-next-clause-gives c =
    let p1 = err_from_is_err_and c.from_residual.result c.from_residual.ensures.1 in
    let b = sym c.begins_interface.ensures ∙ c.declarations-test.true in
    rw (p1.1, p1.2) (fails (interface c.args.depth) refl c.in_err-next.field-0.0 (λ (z : Parsed). interface_with c.declarations.all.items z) c.declarations.rest.now (interface_at c.args.depth c.args.lexemes.now) b c.in_err-next.ensures.gives c.declarations.invariant.goes)

pub declarations-preserved : goal.declarations-preserved
declarations-preserved c =
    let b = sym c.begins_interface.ensures ∙ c.declarations-test.true in
    let i = c.declarations.invariant in
    let l : length c.in_ok-next.after.now < length c.declarations.rest.now = c.in_ok-next.ensures.shorter in
    record {
      goes = interface_next c.args.depth c.args.lexemes.now c.declarations.rest.now c.in_ok-next.after.now c.declarations.all.items _ c.in_ok-next.next b c.in_ok-next.ensures.gives l c.in_ok-push.ensures.ok i.goes;
      shorter = omega (arith, l, i.shorter);
    }

pub returns-clause-gives : goal.returns-clause-gives
returns-clause-gives c = ends (interface c.args.depth) refl (λ (z : Parsed). interface_with c.declarations.all.items z) c.declarations.rest.now (interface_at c.args.depth c.args.lexemes.now) (sym c.begins_interface.ensures ∙ c.declarations-test.false) c.declarations.invariant.goes
