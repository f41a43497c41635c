use Rattle.std.proofs.Common.{◌≡◌, ◌∙◌, List, [], ◌∷◌, length, map, sym, ap, arith}
use Rattle.std.proofs.lemmas.List.{map-append}
use Rattle.std.proofs.lemmas.Result.{err_from_is_err_and}
use Rattle.std.specs.Vec.Iter.{into_iter_items}
use Rattle.tp_check_decl.specs.declared.routines.drafts.Slot.{Slot}
use Rattle.tp_check_decl.specs.routines.Drafts.{view_slot}
use Rattle.tp_check_decl.specs.Units.{view_routine}
use Rattle.tp_check_decl.specs.Endings.{all_finished}
use Rattle.tp_check_decl.proofs.Finishing.{nothing_left, finished_more, finished_fails, finished_all}
use Rattle.tp_check_decl.proofs.endings.all_finished.Goals as goal

pub loop-slot-preserved : goal.loop-slot-preserved
loop-slot-preserved c =
    let at = c.loop-slot in
    let x = c.in-Some.slot in
    let types = c.args.types.now.types in
    let one = c.in_ok-routine.routine in
    let rest = map view_slot (into_iter_items c.next.new.self) in
    let steps : into_iter_items at.slot-iterator ≡ x ∷ into_iter_items c.next.new.self = c.in-Some.ensures.steps.0 in
    let more = ap (map view_routine) c.in_ok-push.ensures.ok ∙ map-append view_routine at.all (one ∷ []) in
    record {
      goes = finished_more types (map view_routine at.all) _ (view_slot x) rest (view_routine one) _ c.in_ok-routine.ensures more (rw steps at at.invariant.goes);
      long = (let was = at.invariant.long in let gone = c.in-Some.ensures.steps.1 in let short = ap length steps in omega arith);
    }

pub returns-in_err-routine : goal.returns-in_err-routine
returns-in_err-routine c =
    let p = err_from_is_err_and c.from_residual.result c.from_residual.ensures.1 in
    let at = c.loop-slot in
    let x = c.in-Some.slot in
    let types = c.args.types.now.types in
    let rest = map view_slot (into_iter_items c.next.new.self) in
    let steps : into_iter_items at.slot-iterator ≡ x ∷ into_iter_items c.next.new.self = c.in-Some.ensures.steps.0 in
    let whole = ap (λ (l : List Slot). (all_finished types (map view_slot l)).run) c.into_iter-slot-iterator.ensures.into_iter_gives.0 in
    rw (p.1, p.2) (finished_fails types (map view_routine at.all) _ (view_slot x) rest _ c.in_err-routine.ensures (rw steps at at.invariant.goes ∙ whole))

pub returns : goal.returns
returns c =
    let at = c.loop-slot in
    let types = c.args.types.now.types in
    let none = c.in-None.ensures.steps in
    let empty : into_iter_items at.slot-iterator ≡ [] = nothing_left _ (sym at.invariant.long ∙ none.0) in
    let whole = ap (λ (l : List Slot). (all_finished types (map view_slot l)).run) c.into_iter-slot-iterator.ensures.into_iter_gives.0 in
    finished_all types (map view_routine at.all) _ (map view_slot (into_iter_items at.slot-iterator)) (ap (map view_slot) empty) (at.invariant.goes ∙ whole)
