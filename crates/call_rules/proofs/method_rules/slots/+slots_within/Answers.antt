use Rattle.std.proofs.Common.{◌≡◌, ℕ, suc, ◌-◌, IfOk, List, Option, Some, ap, sym, ◌∙◌, subst, arith}
use Rattle.type_layout.specs.declared.definitions.TypeId.{TypeId}
use Rattle.type_layout.specs.declared.definitions.Method.{Method}
use Rattle.typed_tree.specs.type_fits.Fits.{definition, parent_of}
use Rattle.object_vmt.specs.Slots.{slots_from, slots_of}
use Rattle.call_rules.specs.method_rules.Slots.{methods_of, methods_within}
use Rattle.call_rules.proofs.method_rules.SlotSteps.{next_slots}
use Rattle.call_rules.proofs.method_rules.slots.+slots_within.Goals as goal

pub returns-in_ok-above-in-Some : goal.returns-in_ok-above-in-Some
returns-in_ok-above-in-Some t c =
    let types = c.args.types.now.types in
    let class = c.in-Some.ty in
    let p : c.args.room ≡ suc (c.args.room - 1) = omega (arith, c.if-room-eq0.false) in
    let parent : c.parent_of.result ≡ parent_of (definition types class) = c.parent_of.ensures ∙ ap parent_of c.definition-one.ensures in
    let own : c.methods_of.result.now ≡ methods_of (definition types class) = c.methods_of.ensures ∙ ap methods_of c.definition-one.ensures in
    let above : c.in_ok-above-in-Some.above ≡ slots_of (methods_within (c.args.room - 1) types (parent_of (definition types class))) =
    c.in_ok-above-in-Some.ensures ∙ ap (λ (o : Option TypeId). slots_of (methods_within (c.args.room - 1) types o)) parent in
    let next : slots_from c.in_ok-above-in-Some.above (methods_of (definition types class)) ≡ slots_of (methods_within c.args.room types (Some class)) =
    next_slots types c.args.room (c.args.room - 1) class c.in_ok-above-in-Some.above p above in
    let whole : slots_from c.in_ok-above-in-Some.above c.methods_of.result.now ≡ slots_of (methods_within c.args.room types c.args.ty) =
    ap (λ (ms : List Method). slots_from c.in_ok-above-in-Some.above ms) own ∙ next
    ∙ ap (λ (o : Option TypeId). slots_of (methods_within c.args.room types o)) (sym c.in-Some.is) in
    subst (λ (z : List (List ℕ)). IfOk c.with_slots.result (λ slots. slots ≡ z)) whole c.with_slots.ensures
