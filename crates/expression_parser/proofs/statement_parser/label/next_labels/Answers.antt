use Rattle.std.proofs.Common.{◌≡◌, [], ◌∷◌, ◌++◌, refl, sym, ap, ◌∙◌}
use Rattle.std.proofs.lemmas.Result.{err_from_is_err_and}
use Rattle.pascal_grammar.specs.declared.kind.Kind.TheVariants as k
use Rattle.pascal_grammar.specs.Parts as n
use Rattle.syntax_tree.specs.Expressions.{Parsed}
use Rattle.syntax_tree.specs.Statements.{first_label, other_labels}
use Rattle.expression_parser.specs.statement_parser.Chains.{chain_at}
use Rattle.expression_parser.specs.statement_parser.Reading.{labels, label_at}
use Rattle.expression_parser.proofs.statement_parser.Lists.{labels_start, labels_next, labels_first}
use Rattle.expression_parser.proofs.statement_parser.Loop.{fails, ends, falls_read}
use Rattle.expression_parser.proofs.statement_parser.Sound.{label_reads}
use Rattle.expression_parser.proofs.statement_parser.label.next_labels.Goals as goal

pub commas-init : goal.commas-init
commas-init c =
    let m = c.in_ok-push.ensures.ok in
    let one = rw c.new-all.ensures at m in
    record {
      goes = labels_start c.args.depth _ c.args.first c.args.lexemes.now one;
      some = (c.args.first, [], one);
      first = ap first_label one;
    }

pub returns-in_err-next-clause-gives : goal.returns-in_err-next-clause-gives
returns-in_err-next-clause-gives c =
    let p = err_from_is_err_and c.from_residual-in_err-next.result c.from_residual-in_err-next.ensures.1 in
    let b = sym c.begins.ensures ∙ c.commas-test.true in
    let f = rw c.tail.ensures.gives at c.in_err-next.ensures.gives in
    rw (p.1, p.2) (fails (labels c.args.depth) refl c.in_err-next.field-0.0 (λ (z : Parsed). other_labels c.commas.all.items.items z) c.commas.rest.now _ b f c.commas.invariant.goes)

pub commas-smaller : goal.commas-smaller
commas-smaller c =
    let b = sym c.begins.ensures ∙ c.commas-test.true in
    let e = rw c.tail.ensures.gives at c.in_ok-next.ensures.gives in
    falls_read n.label c.args.depth (label_at c.args.depth) (label_reads c.args.depth) k.Comma c.commas.rest.now _ b e

pub commas-preserved : goal.commas-preserved
commas-preserved c =
    let b = sym c.begins.ensures ∙ c.commas-test.true in
    let e = rw c.tail.ensures.gives at c.in_ok-next.ensures.gives in
    let i = c.commas.invariant in
    let m = c.in_ok-push-2.ensures.ok in
    record {
      goes = labels_next c.args.depth c.commas.rest.now c.in_ok-next.after.now (chain_at (labels c.args.depth) c.args.lexemes.now) c.commas.all.items.items _ i.some.0 i.some.1 c.in_ok-next.next b e i.some.2 m i.goes;
      some = (i.some.0, i.some.1 ++ (c.in_ok-next.next ∷ []), rw i.some.2 at m);
      first = labels_first c.commas.all.items.items _ i.some.0 i.some.1 c.in_ok-next.next _ i.some.2 m i.first;
    }

pub returns-clause-gives : goal.returns-clause-gives
returns-clause-gives c = ends (labels c.args.depth) refl (λ (z : Parsed). other_labels c.commas.all.items.items z) c.commas.rest.now (chain_at (labels c.args.depth) c.args.lexemes.now) (sym c.begins.ensures ∙ c.commas-test.false) c.commas.invariant.goes
