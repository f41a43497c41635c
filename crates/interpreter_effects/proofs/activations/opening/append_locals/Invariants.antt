-- The trees of the variables so far are appended.
use Rattle.std.proofs.Common.{◌≡◌, ◌++◌, map, take}
use Rattle.tp_meaning.specs.Shapes.{new_tree}
use Rattle.interpreter_store.specs.cell_store.Views.{view_tree}
use Rattle.interpreter_effects.proofs.activations.opening.append_locals.Given as goal

abbrev pub invariant-locals : goal.invariant-locals
invariant-locals l = map view_tree l.to.items ≡ map view_tree l.fn.to.items ++ map (new_tree l.types.types) (take l.ty-index l.locals)
