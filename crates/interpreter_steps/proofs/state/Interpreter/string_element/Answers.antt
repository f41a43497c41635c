use Rattle.std.proofs.Common.{◌≡◌, refl, subst, arith, rules, w32, to_z, of_z, pos}
use Rattle.std.specs.Prelude.{ℤ}
use Rattle.std.proofs.lemmas.Int.{ints, to_z-of_z}
use Rattle.interpreter_store.specs.typed_cells.Sorts.{view_sort, view_reached}
use Rattle.tp_meaning.specs.Programs.{Sort}
use Rattle.tp_meaning.specs.Expressions.{element_between}
use Rattle.interpreter_steps.specs.Running.{Comes}
use Rattle.interpreter_steps.proofs.state.Interpreter.string_element.Goals as goal

pub returns : goal.returns
returns c = λ s.
    let of = view_reached c.args.at.now in
    let found = c.element_between.result in
    let max : to_z w32 (of_z w32 c.from.result) ≡ pos c.args.max = first_of (search rules, grind (arith, ints, to_z-of_z)) in
    let x = c.element_between.ensures s of refl in
    let sort = c.char_sort-sort.result in
    let y = subst (λ (z : ℤ). Comes view_reached found s (element_between of (pos 0, to_z w32 (of_z w32 c.from.result)) (view_sort sort) c.args.checked z s)) (to_z-of_z w32 c.args.z c.ranges.z) x in
    let w = subst (λ (high : ℤ). Comes view_reached found s (element_between of (pos 0, high) (view_sort sort) c.args.checked c.args.z s)) max y in
    subst (λ (sort : Sort). Comes view_reached found s (element_between of (pos 0, pos c.args.max) sort c.args.checked c.args.z s)) c.char_sort-sort.ensures w
