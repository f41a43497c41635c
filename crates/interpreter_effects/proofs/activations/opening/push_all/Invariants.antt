-- The variables so far are made.
use Rattle.std.proofs.Common.{◌≡◌, map}
use Rattle.interpreter_store.specs.cell_store.Views.{view_tree, view_store}
use Rattle.tp_meaning.specs.Store.{with_new}
use Rattle.tp_meaning.specs.Activations.{variable_object}
use Rattle.interpreter_effects.proofs.activations.opening.push_all.Given as goal

abbrev pub invariant-trees : goal.invariant-trees
invariant-trees l = view_store l.store ≡ with_new (view_store l.fn.store) (map variable_object (map view_tree l.yielded))
