use Rattle.std.proofs.Common.{refl, sym, ◌∙◌, arith}
use Rattle.std.proofs.lemmas.Result.{err_from_is_err_and}
use Rattle.syntax_tree.specs.Expressions.{Parsed}
use Rattle.syntax_tree.specs.source_tree.Declarations.{declarations_with}
use Rattle.type_parser.proofs.parameter_parser.Loop.{fails, ends}
use Rattle.tp_parser.specs.declaration_parser.Reading.{nested, declarations, declarations_at}
use Rattle.tp_parser.proofs.declaration_parser.Items.{declarations_start, declarations_next}
use Rattle.tp_parser.proofs.declaration_parser.routine.+routines.Goals as goal

pub next_declarations-declarations-init : goal.next_declarations-declarations-init
next_declarations-declarations-init t c = record { goes = declarations_start c.args.depth c.args.lexemes.now _ c.new-all.ensures.items; shorter = omega arith }

pub next_declarations-returns-in_err-next-clause-gives : goal.next_declarations-returns-in_err-next-clause-gives
next_declarations-returns-in_err-next-clause-gives t c =
    let p1 = err_from_is_err_and c.from_residual.result c.from_residual.ensures.1 in
    let b = sym c.begins_declaration.ensures ∙ c.declarations-test.true in
    rw (p1.1, p1.2) (fails (declarations c.args.depth (nested c.args.depth)) refl c.in_err-next.field-0.0 (λ (z : Parsed). declarations_with c.declarations.all.items z) c.declarations.rest.now (declarations_at c.args.depth (nested c.args.depth) c.args.lexemes.now) b c.in_err-next.ensures.gives c.declarations.invariant.goes)

pub next_declarations-declarations-preserved : goal.next_declarations-declarations-preserved
next_declarations-declarations-preserved t c =
    let b = sym c.begins_declaration.ensures ∙ c.declarations-test.true in
    let i = c.declarations.invariant in
    record {
      goes = declarations_next c.args.depth c.args.lexemes.now c.declarations.rest.now c.in_ok-next.after.now c.declarations.all.items _ c.in_ok-next.next b c.in_ok-next.ensures.gives c.in_ok-next.ensures.shorter c.in_ok-push.ensures.ok i.goes;
      shorter = omega (arith, c.in_ok-next.ensures.shorter, i.shorter);
    }

pub next_declarations-returns-clause-gives : goal.next_declarations-returns-clause-gives
next_declarations-returns-clause-gives t c = ends (declarations c.args.depth (nested c.args.depth)) refl (λ (z : Parsed). declarations_with c.declarations.all.items z) c.declarations.rest.now (declarations_at c.args.depth (nested c.args.depth) c.args.lexemes.now) (sym c.begins_declaration.ensures ∙ c.declarations-test.false) c.declarations.invariant.goes
