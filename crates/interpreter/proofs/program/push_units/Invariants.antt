-- The globals of the units so far are made.
use Rattle.std.proofs.Common.{◌≡◌, take}
use Rattle.std.specs.List.{flat_map}
use Rattle.tp_meaning.specs.Store.{with_new}
use Rattle.tp_meaning.specs.Meaning.{unit_objects}
use Rattle.interpreter_store.specs.cell_store.Views.{view_store}
use Rattle.interpreter.proofs.program.push_units.Given as goal

abbrev pub invariant-units : goal.invariant-units
invariant-units l = view_store l.store ≡ with_new (view_store l.fn.store) (flat_map unit_objects (take l.unit-index l.units))
