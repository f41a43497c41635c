use Rattle.std.proofs.Common.{arith, List, ap, ◌∙◌}
use Rattle.typed_tree.specs.declared.units.Global.{Global}
use Rattle.tp_meaning.specs.Store.{with_new}
use Rattle.interpreter.specs.Whole.{global_objects}
use Rattle.interpreter_store.specs.cell_store.Views.{view_store}
use Rattle.interpreter.proofs.Starts.{none_made, unit_made}
use Rattle.interpreter.proofs.program.push_units.Goals as goal

pub units-init : goal.units-init
units-init c = none_made (view_store c.args.store.now)

pub units-preserved : goal.units-preserved
units-preserved c =
    unit_made c.args.units.now c.units.unit-index c.unit-item.result (view_store c.args.store.now) (view_store c.units.store) (view_store c.push_globals.new.store)
    (omega arith) c.unit-item.is c.units.invariant
    (c.in_ok-push_globals.ensures ∙ ap (λ (globals : List Global). with_new (view_store c.units.store) (global_objects c.unit-item.result.types.types globals)) c.as_slice.ensures)
