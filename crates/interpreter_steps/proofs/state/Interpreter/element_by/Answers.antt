use Rattle.std.proofs.Common.{◌≡◌, subst, sym, w32}
use Rattle.std.proofs.lemmas.Int.{to_z-of_z}
use Rattle.type_layout.specs.Layouts.{bounds_at}
use Rattle.type_layout.specs.declared.table.Types.{Types}
use Rattle.interpreter_store.specs.typed_cells.Sorts.{view_reached}
use Rattle.tp_meaning.specs.Expressions.{element_between}
use Rattle.interpreter_steps.specs.Running.{Comes}
use Rattle.interpreter_steps.proofs.state.Interpreter.element_by.Goals as goal

pub returns-in-ArrayOf : goal.returns-in-ArrayOf
returns-in-ArrayOf c = λ s.
    let x = rw (to_z-of_z w32 c.args.z c.ranges.z, sym c.requires) at (c.array_element.ensures s) in
    rw c.in-ArrayOf.is x

pub returns-in-Str : goal.returns-in-Str
returns-in-Str c = λ s. rw c.in-Str.is (rw (to_z-of_z w32 c.args.z c.ranges.z) at (c.string_element.ensures s))
