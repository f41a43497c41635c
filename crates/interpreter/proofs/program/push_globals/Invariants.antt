-- The globals so far are made.
use Rattle.std.proofs.Common.{◌≡◌, take}
use Rattle.tp_meaning.specs.Store.{with_new}
use Rattle.interpreter_store.specs.cell_store.Views.{view_store}
use Rattle.interpreter.specs.Whole.{global_objects}
use Rattle.interpreter.proofs.program.push_globals.Given as goal

abbrev pub invariant-globals : goal.invariant-globals
invariant-globals l = view_store l.store ≡ with_new (view_store l.fn.store) (global_objects l.types.types (take l.global-index l.globals))
