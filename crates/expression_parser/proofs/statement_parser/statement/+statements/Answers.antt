use Rattle.std.proofs.Common.{◌≡◌, [], ◌∷◌, ◌++◌, refl, sym, ap, ◌∙◌}
use Rattle.std.proofs.lemmas.Result.{err_from_is_err_and}
use Rattle.pascal_grammar.specs.declared.kind.Kind.TheVariants as k
use Rattle.pascal_grammar.specs.Parts as n
use Rattle.syntax_tree.specs.Expressions.{Parsed}
use Rattle.syntax_tree.specs.Statements.{of_statement, of_arm, statements_of, first_of, others_of}
use Rattle.expression_parser.specs.statement_parser.Chains.{chain_at}
use Rattle.expression_parser.specs.statement_parser.Reading.{within, statement_at, more_statements, statements_at, arm_at, more_arms}
use Rattle.expression_parser.proofs.statement_parser.Lists.{statements_start, statements_next, arms_start, arms_next, arms_first}
use Rattle.expression_parser.proofs.statement_parser.Loop.{with_front, fails, ends, falls_read, falls_arm_read}
use Rattle.expression_parser.proofs.statement_parser.Sound.{whole_statement_reads, whole_arm_reads}
use Rattle.expression_parser.proofs.statement_parser.statement.+statements.Goals as goal

-- ---- statements

pub next_statements-semicolons-init : goal.next_statements-semicolons-init
next_statements-semicolons-init t c =
    let m = c.in_ok-push.ensures.ok in
    let one = rw c.new-all.ensures at m in
    record {
      goes = statements_start c.args.depth _ c.in_ok-first.first c.args.lexemes.now c.in_ok-first.rest.now c.in_ok-first.ensures.gives one;
      some = (c.in_ok-first.first, [], one);
    }

pub next_statements-returns-in_err-next : goal.next_statements-returns-in_err-next
next_statements-returns-in_err-next t c =
    let p1 = err_from_is_err_and c.from_residual-in_err-next.result c.from_residual-in_err-next.ensures.1 in
    let b = sym c.begins.ensures ∙ c.semicolons-test.true in
    let f = rw c.tail.ensures.gives at c.in_err-next.ensures.gives in
    rw (p1.1, p1.2) (record { gives = fails (more_statements c.args.depth (within c.args.depth)) refl c.in_err-next.field-0.0 (λ (z : Parsed). statements_of c.semicolons.all.items.items z) c.semicolons.rest.now (statements_at c.args.depth (within c.args.depth) c.args.lexemes.now) b f c.semicolons.invariant.goes })

pub next_statements-semicolons-smaller : goal.next_statements-semicolons-smaller
next_statements-semicolons-smaller t c =
    let b = sym c.begins.ensures ∙ c.semicolons-test.true in
    let e = rw c.tail.ensures.gives at c.in_ok-next.ensures.gives in
    falls_read n.statement c.args.depth (statement_at c.args.depth (within c.args.depth)) (whole_statement_reads c.args.depth) k.Semicolon c.semicolons.rest.now (of_statement c.in_ok-next.next, c.in_ok-next.after.now) b e

pub next_statements-semicolons-preserved : goal.next_statements-semicolons-preserved
next_statements-semicolons-preserved t c =
    let b = sym c.begins.ensures ∙ c.semicolons-test.true in
    let e = rw c.tail.ensures.gives at c.in_ok-next.ensures.gives in
    let i = c.semicolons.invariant in
    let m = c.in_ok-push-2.ensures.ok in
    record {
      goes = statements_next c.args.depth c.semicolons.rest.now c.in_ok-next.after.now (statements_at c.args.depth (within c.args.depth) c.args.lexemes.now) c.semicolons.all.items.items _ i.some.0 i.some.1 c.in_ok-next.next b e i.some.2 m i.goes;
      some = (i.some.0, i.some.1 ++ (c.in_ok-next.next ∷ []), rw i.some.2 at m);
    }

pub next_statements-returns : goal.next_statements-returns
next_statements-returns t c = record { gives = ends (more_statements c.args.depth (within c.args.depth)) refl (λ (z : Parsed). statements_of c.semicolons.all.items.items z) c.semicolons.rest.now (statements_at c.args.depth (within c.args.depth) c.args.lexemes.now) (sym c.begins.ensures ∙ c.semicolons-test.false) c.semicolons.invariant.goes }

-- ---- arms

pub next_arms-arms-init : goal.next_arms-arms-init
next_arms-arms-init t c =
    let m = c.in_ok-push.ensures.ok in
    let one = rw c.new-all.ensures at m in
    record {
      goes = arms_start c.args.depth _ c.args.first c.args.lexemes.now one;
      some = (c.args.first, [], one);
      first = ap first_of one;
    }

pub next_arms-returns-in_err-next-clause-gives : goal.next_arms-returns-in_err-next-clause-gives
next_arms-returns-in_err-next-clause-gives t c =
    let p1 = err_from_is_err_and c.from_residual-in_err-next.result c.from_residual-in_err-next.ensures.1 in
    let b = sym c.arm_follows.ensures ∙ c.arms-test.true in
    let f = rw c.tail.ensures.gives at c.in_err-next.ensures.gives in
    rw (p1.1, p1.2) (fails (more_arms c.args.depth (within c.args.depth)) refl c.in_err-next.field-0.0 (λ (z : Parsed). others_of c.arms.all.items.items z) c.arms.rest.now (chain_at (more_arms c.args.depth (within c.args.depth)) c.args.lexemes.now) b f c.arms.invariant.goes)

pub next_arms-arms-smaller : goal.next_arms-arms-smaller
next_arms-arms-smaller t c =
    let b = sym c.arm_follows.ensures ∙ c.arms-test.true in
    let e = rw c.tail.ensures.gives at c.in_ok-next.ensures.gives in
    falls_arm_read n.arm c.args.depth (arm_at c.args.depth (within c.args.depth)) (whole_arm_reads c.args.depth) c.arms.rest.now (of_arm c.in_ok-next.next, c.in_ok-next.after.now) b e

pub next_arms-arms-preserved : goal.next_arms-arms-preserved
next_arms-arms-preserved t c =
    let b = sym c.arm_follows.ensures ∙ c.arms-test.true in
    let e = rw c.tail.ensures.gives at c.in_ok-next.ensures.gives in
    let i = c.arms.invariant in
    let m = c.in_ok-push-2.ensures.ok in
    record {
      goes = arms_next c.args.depth c.arms.rest.now c.in_ok-next.after.now (chain_at (more_arms c.args.depth (within c.args.depth)) c.args.lexemes.now) c.arms.all.items.items _ i.some.0 i.some.1 c.in_ok-next.next b e i.some.2 m i.goes;
      some = (i.some.0, i.some.1 ++ (c.in_ok-next.next ∷ []), rw i.some.2 at m);
      first = arms_first c.arms.all.items.items _ i.some.0 i.some.1 c.in_ok-next.next _ i.some.2 m i.first;
    }

pub next_arms-returns-clause-gives : goal.next_arms-returns-clause-gives
next_arms-returns-clause-gives t c =
    ends (more_arms c.args.depth (within c.args.depth)) refl (λ (z : Parsed). others_of c.arms.all.items.items z) c.arms.rest.now (chain_at (more_arms c.args.depth (within c.args.depth)) c.args.lexemes.now) (sym c.arm_follows.ensures ∙ c.arms-test.false) c.arms.invariant.goes
    ∙ ap (with_front (λ (z : Parsed). others_of c.arms.all.items.items z)) c.last_semicolon-semicolon.ensures
