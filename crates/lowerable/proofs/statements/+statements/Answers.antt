use Rattle.std.proofs.Common.{◌&&◌, sym, ap, ◌∙◌}
use Rattle.typed_tree.specs.declared.statements.Stmt.{Stmt}
use Rattle.typed_tree.specs.Expressions.{view_expr}
use Rattle.typed_tree.specs.Statements.{view_stmt, view_arms}
use Rattle.lowerable.specs.Farness.{is_linkable, is_linkable_statement, are_linkable_arms}
use Rattle.lowerable.proofs.Trees.{linkable_case, behind_two, stopped_one, stopped_two}
use Rattle.lowerable.proofs.statements.+statements.Goals.{is_linkable_statement-then-is_linkable-2, is_linkable_statement-else-is_linkable-2}
use Rattle.lowerable.proofs.statements.+statements.Goals as goal

pub is_linkable_statement-returns-then-are_linkable_arms : goal.is_linkable_statement-returns-then-are_linkable_arms
is_linkable_statement-returns-then-are_linkable_arms t c =
    let units = c.args.units.now in
    let unit = c.args.unit.now in
    let selector = is_linkable units unit (view_expr c.in-Case.selector.value) in
    let arms = are_linkable_arms units unit (view_arms c.in-Case.arms.items) in
    let other = is_linkable_statement units unit (view_stmt c.in-Case.other.value) in
    let e = ap (λ (x : Stmt). is_linkable_statement units unit (view_stmt x)) c.in-Case.is ∙ linkable_case units unit c.in-Case.selector c.in-Case.arms c.in-Case.other in
    let s = rw c.deref-in-Case.ensures at c.is_linkable-in-Case.ensures in
    let o = rw c.deref-then-are_linkable_arms.ensures at c.is_linkable_statement-then-are_linkable_arms.ensures in
    elim c.if-is_linkable-2.branch [
      | is_linkable_statement-then-is_linkable-2 w ↦
          let a = rw w.as_slice-then-is_linkable-2.ensures.value at w.are_linkable_arms.ensures in
          o ∙ behind_two selector arms other (sym s ∙ w.if-is_linkable-2.true) (sym a ∙ sym w.value-is ∙ c.if-are_linkable_arms.true) ∙ sym e
      | is_linkable_statement-else-is_linkable-2 w ↦ absurd cc
    ]

pub is_linkable_statement-returns-else-are_linkable_arms : goal.is_linkable_statement-returns-else-are_linkable_arms
is_linkable_statement-returns-else-are_linkable_arms t c =
    let units = c.args.units.now in
    let unit = c.args.unit.now in
    let selector = is_linkable units unit (view_expr c.in-Case.selector.value) in
    let arms = are_linkable_arms units unit (view_arms c.in-Case.arms.items) in
    let other = is_linkable_statement units unit (view_stmt c.in-Case.other.value) in
    let e = ap (λ (x : Stmt). is_linkable_statement units unit (view_stmt x)) c.in-Case.is ∙ linkable_case units unit c.in-Case.selector c.in-Case.arms c.in-Case.other in
    let s = rw c.deref-in-Case.ensures at c.is_linkable-in-Case.ensures in
    elim c.if-is_linkable-2.branch [
      | is_linkable_statement-then-is_linkable-2 w ↦
          let a = rw w.as_slice-then-is_linkable-2.ensures.value at w.are_linkable_arms.ensures in
          c.if-are_linkable_arms.false ∙ stopped_two selector arms other (sym s ∙ w.if-is_linkable-2.true) (sym a ∙ sym w.value-is ∙ c.if-are_linkable_arms.false) ∙ sym e
      | is_linkable_statement-else-is_linkable-2 w ↦
          c.if-are_linkable_arms.false ∙ stopped_one selector (arms && other) (sym s ∙ w.if-is_linkable-2.false) ∙ sym e
    ]
