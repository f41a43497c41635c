use Rattle.std.proofs.Common.{◌≡◌, [], ◌∷◌, ap, ◌∙◌, arith}
use Rattle.std.proofs.lemmas.Grind.{common_steps}
use Rattle.syntax_tree.specs.declared.expression.Argument.TheVariants as argument
use Rattle.syntax_tree.specs.declared.expression.Factor.{Factor}
use Rattle.syntax_tree.specs.expression_tree.Trees.{set, call, begins, view_factor, view_designator, view_arguments, view_elements}
use Rattle.constant_checker.specs.constant_expressions.Constants.{judged}
use Rattle.constant_checker.proofs.constant_expressions.CallSteps.{call_judged, set_judged}
use Rattle.constant_checker.proofs.constant_expressions.expressions.+parts.Goals as goal

pub of_factor-returns-in-Set : goal.of_factor-returns-in-Set
of_factor-returns-in-Set t c =
    let g = c.args.scope.now in
    let e : (judged g (view_factor c.args.tree.now)).run ≡ (judged g (set c.in-Set.position (view_elements c.in-Set.elements.items))).run =
    ap (λ (x : Factor). (judged g (view_factor x)).run) c.in-Set.is ∙ set_judged g c.in-Set.position c.in-Set.elements in
    let n = rw c.as_slice-in-Set.ensures.value at c.of_set.ensures in
    rw e n

pub of_factor-returns-in-Call : goal.of_factor-returns-in-Call
of_factor-returns-in-Call t c =
    let g = c.args.scope.now in
    let e : (judged g (view_factor c.args.tree.now)).run ≡ (judged g (call (begins c.in-Call.callee) (view_designator c.in-Call.callee) (view_arguments c.in-Call.arguments.items))).run =
    ap (λ (x : Factor). (judged g (view_factor x)).run) c.in-Call.is ∙ call_judged g c.in-Call.callee c.in-Call.arguments in
    let n = rw c.as_slice-in-Call.ensures.value at c.of_call.ensures in
    rw e n

pub sole_meant-returns-in-empty : goal.sole_meant-returns-in-empty
sole_meant-returns-in-empty t c =
    let e : c.args.arguments.now ≡ argument.Plain c.in-Plain.one ∷ [] = grind (arith, common_steps, c.in-Plain.one-is, c.in-Plain.len_at_least, c.in-empty.len_below) in
    let n = rw e at c.meant_by_expression.ensures in
    rw e n
