use Rattle.std.proofs.Common.{◌≡◌, true, false, Some, None, ◌+◌, ◌<◌, [], ◌∷◌, ◌++◌, map, length, drop, drop-cons, add-one, ap, sym, ◌∙◌, arith}
use Rattle.std.proofs.lemmas.Grind.{common_steps}
use Rattle.std.proofs.lemmas.List.{map-append}
use Rattle.std.proofs.lemmas.Result.{err_from_is_err_and}
use Rattle.syntax_tree.specs.declared.expression.Argument.{Argument}
use Rattle.syntax_tree.specs.declared.expression.Argument.TheVariants as argument
use Rattle.syntax_tree.specs.declared.expression.Element.{Element}
use Rattle.syntax_tree.specs.declared.expression.Factor.{Factor}
use Rattle.syntax_tree.specs.expression_tree.Trees.{set, view_factor, view_elements, view_expression}
use Rattle.typed_tree.specs.Expressions.{view_expr}
use Rattle.call_rules.specs.set_rules.Sets.{view_item}
use Rattle.call_rules.specs.standard_rules.Sizes.{is_size}
use Rattle.tp_check_expr.specs.Owners.{type_in}
use Rattle.tp_check_expr.specs.Calls.{view_callable}
use Rattle.tp_check_expr.specs.Typed.{judged_as}
use Rattle.tp_check_expr.proofs.ListSteps.{item_step, argument_step}
use Rattle.tp_check_expr.proofs.CallSteps.{set_judged, target_fails, call_made}
use Rattle.tp_check_expr.proofs.expressions.+parts.Goals as goal

pub factor_as-returns-in-Set : goal.factor_as-returns-in-Set
factor_as-returns-in-Set t c =
    let g = c.args.scope.now in
    let for = c.args.purpose in
    let e : (judged_as g for (view_factor c.args.tree.now)).run ≡ (judged_as g for (set c.in-Set.position (view_elements c.in-Set.elements.items))).run =
    ap (λ (x : Factor). (judged_as g for (view_factor x)).run) c.in-Set.is ∙ set_judged g for c.in-Set.position c.in-Set.elements in
    let n = rw c.as_slice-in-Set.ensures.value at c.judged_set.ensures in
    rw e n

pub factor_as-returns-in_err-target-in-Call : goal.factor_as-returns-in_err-target-in-Call
factor_as-returns-in_err-target-in-Call t c =
    let p = err_from_is_err_and c.from_residual-in_err-target-in-Call.result c.from_residual-in_err-target-in-Call.ensures.1 in
    let one = c.in-Call in
    let e = rw c.begins-here.ensures at c.in_err-target-in-Call.ensures in
    rw (p.1, p.2, one.is) (target_fails c.args.scope.now c.args.purpose one.callee one.arguments c.in_err-target-in-Call.field-0.0 e)

pub factor_as-returns-in_ok-target-in-Call : goal.factor_as-returns-in_ok-target-in-Call
factor_as-returns-in_ok-target-in-Call t c =
    let one = c.in-Call in
    let e = rw c.begins-here.ensures at c.in_ok-target-in-Call.ensures in
    let n = rw (c.begins-here.ensures, c.as_slice-in-Call.ensures.value) at c.applied.ensures in
    rw one.is (call_made c.args.scope.now c.args.purpose one.callee one.arguments (view_callable c.in_ok-target-in-Call.target) c.applied.result e n)

pub items-loop-element-preserved : goal.items-loop-element-preserved
items-loop-element-preserved t c =
    let at = c.loop-element in
    let all = c.args.elements.now in
    let i = at.element-index in
    let one = c.element-item.result in
    let within : i < length all = c.loop-element-test.true in
    let front : drop i all ≡ one ∷ drop (i + 1) all =
    drop-cons all i one within ∙ rw (← add-one i) (ap (λ (x : Element). x ∷ drop (i + 1) all) (sym c.element-item.is)) in
    let more : map view_item c.push.new.self.items ≡ map view_item at.items.items ++ (view_item c.in_ok-one.one ∷ []) =
    ap (map view_item) c.in_ok-push.ensures.items ∙ map-append view_item at.items.items (c.in_ok-one.one ∷ []) in
    item_step c.args.scope.now (map view_item at.items.items) (map view_item c.push.new.self.items) all i one (view_item c.in_ok-one.one) front c.in_ok-one.ensures more
    ∙ at.invariant

pub operands-loop-argument-preserved : goal.operands-loop-argument-preserved
operands-loop-argument-preserved t c =
    let at = c.loop-argument in
    let all = c.args.arguments.now in
    let i = at.argument-index in
    let one = c.argument-item.result in
    let within : i < length all = c.loop-argument-test.true in
    let front : drop i all ≡ one ∷ drop (i + 1) all =
    drop-cons all i one within ∙ rw (← add-one i) (ap (λ (x : Argument). x ∷ drop (i + 1) all) (sym c.argument-item.is)) in
    let made = rw c.first_param.ensures at c.in_ok-value.ensures in
    let more : map view_expr c.push.new.self.items ≡ map view_expr at.operands.items ++ (view_expr c.in_ok-value.value ∷ []) =
    ap (map view_expr) c.in_ok-push.ensures.items ∙ map-append view_expr at.operands.items (c.in_ok-value.value ∷ []) in
    argument_step c.args.scope.now c.args.here at.left.now c.rest_params-left.result.now (map view_expr at.operands.items) (map view_expr c.push.new.self.items) all i one
    (view_expr c.in_ok-value.value) front made c.rest_params-left.ensures more
    ∙ at.invariant

pub special-returns-then-is_size : goal.special-returns-then-is_size
special-returns-then-is_size t c =
    let e : c.args.arguments.now ≡ argument.Plain c.in-Plain.one ∷ [] = grind (arith, common_steps, c.in-Plain.one-is, c.in-Plain.len_at_least, c.in-empty-rest.len_below) in
    let h : is_size c.args.number ≡ true = sym c.is_size.ensures ∙ c.if-is_size.true in
    let n = rw e at c.size_asked.ensures in
    rw (e, h) n

pub special-returns-in-None : goal.special-returns-in-None
special-returns-in-None t c =
    let e : c.args.arguments.now ≡ argument.Plain c.in-Plain.one ∷ [] = grind (arith, common_steps, c.in-Plain.one-is, c.in-Plain.len_at_least, c.in-empty-rest.len_below) in
    let h : is_size c.args.number ≡ false = sym c.is_size.ensures ∙ c.if-is_size.false in
    let told = rw e at c.type_at.ensures in
    let none : type_in c.args.scope.now (view_expression c.in-Plain.one) ≡ None = sym told ∙ c.in-None.is in
    let n = rw e at c.misplaced.ensures in
    rw (e, h, none) n

pub special-returns-in-Some-type_at : goal.special-returns-in-Some-type_at
special-returns-in-Some-type_at t c =
    let e : c.args.arguments.now ≡ argument.Plain c.in-Plain.one ∷ (argument.Plain c.in-Plain-rest.two ∷ []) =
    grind (arith, common_steps, c.in-Plain.one-is, c.in-Plain.len_at_least, c.in-Plain-rest.two-is, c.in-Plain-rest.len_at_least, c.in-empty-more.len_below) in
    let h : is_size c.args.number ≡ false = sym c.is_size-in-empty-more.ensures ∙ c.if-is_size-2.false in
    let told = rw e at c.type_at-in-empty-more.ensures in
    let some : type_in c.args.scope.now (view_expression c.in-Plain.one) ≡ Some c.in-Some-type_at.named = sym told ∙ c.in-Some-type_at.is in
    let n = rw e at c.made_by.ensures in
    rw (e, h, some) n

pub special-returns-in-None-type_at : goal.special-returns-in-None-type_at
special-returns-in-None-type_at t c =
    let e : c.args.arguments.now ≡ argument.Plain c.in-Plain.one ∷ (argument.Plain c.in-Plain-rest.two ∷ []) =
    grind (arith, common_steps, c.in-Plain.one-is, c.in-Plain.len_at_least, c.in-Plain-rest.two-is, c.in-Plain-rest.len_at_least, c.in-empty-more.len_below) in
    let h : is_size c.args.number ≡ false = sym c.is_size-in-empty-more.ensures ∙ c.if-is_size-2.false in
    let told = rw e at c.type_at-in-empty-more.ensures in
    let none : type_in c.args.scope.now (view_expression c.in-Plain.one) ≡ None = sym told ∙ c.in-None-type_at.is in
    let n = rw e at c.misplaced-in-None-type_at.ensures in
    rw (e, h, none) n
