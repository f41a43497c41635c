use Rattle.std.proofs.Common.{refl, subst, w32}
use Rattle.std.specs.Prelude.{ℤ}
use Rattle.std.proofs.lemmas.Int.{to_z-of_z}
use Rattle.interpreter_store.specs.typed_cells.Sorts.{view_sort, view_reached}
use Rattle.tp_meaning.specs.Expressions.{element_between}
use Rattle.interpreter_steps.specs.Running.{Comes}
use Rattle.interpreter_steps.proofs.state.Interpreter.array_element.Goals as goal

pub returns : goal.returns
returns c = λ s.
    let of = view_reached c.args.at.now in
    let found = c.element_between.result in
    let x = c.element_between.ensures s of refl in
    let y = subst (λ (z : ℤ). Comes view_reached found s (element_between of c.bounds_at-bounds.result (view_sort c.args.sort) c.args.checked z s)) (to_z-of_z w32 c.args.z c.ranges.z) x in
    subst (λ (bounds : ℤ × ℤ). Comes view_reached found s (element_between of bounds (view_sort c.args.sort) c.args.checked c.args.z s)) c.bounds_at-bounds.ensures y
