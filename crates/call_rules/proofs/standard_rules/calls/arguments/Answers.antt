use Rattle.std.proofs.Common.{◌≡◌, List, [], ◌∷◌, length, map, refl, sym, ap, ◌∙◌, append_assoc, append-nil, arith}
use Rattle.std.specs.Vec.Iter.{into_iter_items}
use Rattle.typed_tree.specs.Expressions.{view_expr}
use Rattle.call_rules.specs.Given.{view_handed}
use Rattle.call_rules.specs.standard_rules.Standard.{handed}
use Rattle.call_rules.proofs.standard_rules.Nodes.{made_more}
use Rattle.call_rules.proofs.standard_rules.calls.arguments.Goals as goal

nothing_left : {X : Type 0} (l : List X) → length l ≡ 0 → l ≡ []
nothing_left [] h = refl
nothing_left (x ∷ xs) h = absurd (omega arith)

pub loop-value-preserved : goal.loop-value-preserved
loop-value-preserved c =
    let at = c.loop-value in
    let x = c.in-Some.value in
    let steps : into_iter_items at.value-iterator ≡ x ∷ into_iter_items c.next.new.self = c.in-Some.ensures.steps.0 in
    let one : handed c.args.types.now.types c.args.text (view_expr x) ≡ view_handed c.in_ok-arg.arg = (let g = c.in_ok-arg.ensures in cc) in
    record {
      made = rw c.in_ok-push.ensures.items (made_more (handed c.args.types.now.types c.args.text) at.args.items c.in_ok-arg.arg at.yielded x at.invariant.made one);
      whole = append_assoc at.yielded (x ∷ []) _ ∙ rw (← steps) at.invariant.whole;
      long = (let was = at.invariant.long in let gone = c.in-Some.ensures.steps.1 in let short = ap length steps in omega arith);
    }

pub returns : goal.returns
returns c =
    let at = c.loop-value in
    let none = c.in-None.ensures.steps in
    let empty : into_iter_items at.value-iterator ≡ [] = nothing_left _ (sym at.invariant.long ∙ none.0) in
    let all = sym (append-nil at.yielded) ∙ rw empty at at.invariant.whole ∙ c.into_iter-value-iterator.ensures.into_iter_gives.0 in
    let made : map view_handed at.args.items ≡ map (handed c.args.types.now.types c.args.text) (map view_expr c.args.values.items) = rw all at at.invariant.made in
    rw made refl
