use Rattle.std.proofs.Common.{◌≡◌, List, [], ◌∷◌, length, map, refl, sym, ap, ◌∙◌, append_assoc, append-nil, arith}
use Rattle.std.specs.Vec.Iter.{into_iter_items}
use Rattle.call_rules.specs.set_rules.Sets.{view_item, ranged_item}
use Rattle.call_rules.proofs.set_rules.Nodes.{made_more}
use Rattle.call_rules.proofs.set_rules.sets.ranged_items.Goals as goal

nothing_left : {X : Type 0} (l : List X) → length l ≡ 0 → l ≡ []
nothing_left [] h = refl
nothing_left (x ∷ xs) h = absurd (omega arith)

pub loop-item-preserved : goal.loop-item-preserved
loop-item-preserved c =
    let at = c.loop-item in
    let x = c.in-Some.item in
    let steps : into_iter_items at.item-iterator ≡ x ∷ into_iter_items c.next.new.self = c.in-Some.ensures.steps.0 in
    let one : ranged_item c.args.checked (view_item x) ≡ view_item c.in_ok-tested.tested = (let g = c.in_ok-tested.ensures in cc) in
    record {
      made = rw c.in_ok-push.ensures.items (made_more (ranged_item c.args.checked) at.made.items c.in_ok-tested.tested at.yielded x at.invariant.made one);
      whole = append_assoc at.yielded (x ∷ []) _ ∙ rw (← steps) at.invariant.whole;
      long = (let was = at.invariant.long in let gone = c.in-Some.ensures.steps.1 in let short = ap length steps in omega arith);
    }

pub returns : goal.returns
returns c =
    let at = c.loop-item in
    let none = c.in-None.ensures.steps in
    let empty : into_iter_items at.item-iterator ≡ [] = nothing_left _ (sym at.invariant.long ∙ none.0) in
    let all = sym (append-nil at.yielded) ∙ rw empty at at.invariant.whole ∙ c.into_iter-item-iterator.ensures.into_iter_gives.0 in
    let made : map view_item at.made.items ≡ map (ranged_item c.args.checked) (map view_item c.args.items.items) = rw all at at.invariant.made in
    rw made refl
