use Rattle.std.proofs.Common.{◌≡◌, Option, Some, refl, subst, w32}
use Rattle.std.specs.Prelude.{ℤ}
use Rattle.std.proofs.lemmas.Int.{to_z-of_z}
use Rattle.type_layout.specs.declared.definitions.TypeDef.{TypeDef}
use Rattle.interpreter_store.specs.typed_cells.Sorts.{view_reached}
use Rattle.tp_meaning.specs.Expressions.{element_in}
use Rattle.interpreter_steps.specs.declared.state.Over.TheVariants as over
use Rattle.interpreter_steps.specs.Running.{Comes, Ends}
use Rattle.interpreter_steps.proofs.state.Interpreter.element_of.Goals as goal

pub returns-in-None : goal.returns-in-None
returns-in-None c = λ s. subst (λ (one : Option TypeDef). Ends over.Stuck s (element_in (view_reached c.args.at.now) c.args.checked c.args.z one s)) c.in-None.ensures refl

pub returns-in-Some : goal.returns-in-Some
returns-in-Some c = λ s.
    subst (λ (one : Option TypeDef). Comes view_reached c.element_by.result s (element_in (view_reached c.args.at.now) c.args.checked c.args.z one s)) c.in-Some.ensures
    (subst (λ (z : ℤ). Comes view_reached c.element_by.result s (element_in (view_reached c.args.at.now) c.args.checked z (Some c.in-Some.one.now) s)) (to_z-of_z w32 c.args.z c.ranges.z) (c.element_by.ensures s))
