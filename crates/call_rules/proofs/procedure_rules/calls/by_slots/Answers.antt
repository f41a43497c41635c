use Rattle.std.proofs.Common.{◌≡◌, ◌<◌, List, [], ◌∷◌, ◌++◌, map, length, ap, refl, sym, ◌∙◌, arith}
use Rattle.std.specs.Vec.Iter.{into_iter_items}
use Rattle.std.proofs.lemmas.List.{map-append}
use Rattle.call_rules.specs.declared.standard_rules.signatures.Want.TheVariants.{Integer}
use Rattle.typed_tree.specs.Expressions.{view_expr}
use Rattle.call_rules.specs.Given.{view_handed}
use Rattle.call_rules.specs.declared.procedure_rules.rows.Slot.TheVariants.{Value}
use Rattle.call_rules.proofs.procedure_rules.SlotSteps.{missing, another}
use Rattle.call_rules.proofs.procedure_rules.calls.by_slots.Goals as goal

nothing_left : {X : Type 0} (l : List X) → length l ≡ 0 → l ≡ []
nothing_left [] h = refl
nothing_left (x ∷ xs) h = absurd (omega arith)

pub returns-in-None : goal.returns-in-None
returns-in-None c =
    let at = c.loop-slot in
    let h : at.slot-index < length c.args.slots.now = omega (arith, c.loop-slot-test.true) in
    let none : length (into_iter_items at.values) ≡ 0 = sym at.invariant.long ∙ c.in-None.ensures.cases.0 in
    let e : map view_expr (into_iter_items at.values) ≡ [] = ap (map view_expr) (nothing_left (into_iter_items at.values) none) in
    rw c.broken.ensures (missing c.args.types.now.types c.args.place c.args.slots.now at.slot-index (map view_handed at.args.items) (map view_expr (into_iter_items at.values)) _ h e at.invariant.goes)

pub loop-slot-preserved : goal.loop-slot-preserved
loop-slot-preserved c =
    let at = c.loop-slot in
    let h : at.slot-index < length c.args.slots.now = omega (arith, c.loop-slot-test.true) in
    let some = c.in-Some.ensures in
    let items : into_iter_items at.values ≡ c.in-Some.value ∷ into_iter_items c.next.new.self = some.items in
    let m : map view_handed c.push.new.self.items ≡ map view_handed at.args.items ++ (view_handed c.in_ok-arg-in-Some.arg ∷ []) =
    ap (map view_handed) c.in_ok-push-in-Some.ensures.items ∙ map-append view_handed at.args.items (c.in_ok-arg-in-Some.arg ∷ []) in
    record {
      goes = another c.args.types.now.types c.args.place c.args.slots.now at.slot-index (Value Integer) (map view_handed at.args.items) (map view_handed c.push.new.self.items)
          (view_expr c.in-Some.value) (map view_expr (into_iter_items at.values)) (map view_expr (into_iter_items c.next.new.self)) (view_handed c.in_ok-arg-in-Some.arg) _
          h c.in_ok-arg-in-Some.ensures (ap (map view_expr) items) m at.invariant.goes;
      long = (let short = ap length items in omega (arith, some.len, at.invariant.long, short));
    }
