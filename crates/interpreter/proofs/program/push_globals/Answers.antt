use Rattle.std.proofs.Common.{arith}
use Rattle.interpreter_store.specs.cell_store.Views.{view_store, view_tree}
use Rattle.interpreter.proofs.Starts.{none_made, global_made}
use Rattle.interpreter.proofs.program.push_globals.Goals as goal

pub globals-init : goal.globals-init
globals-init c = none_made (view_store c.args.store.now)

pub globals-preserved : goal.globals-preserved
globals-preserved c =
    global_made c.args.types.now.types c.args.globals.now c.globals.global-index c.global-item.result (view_tree c.in_ok-tree.tree) (view_store c.args.store.now) (view_store c.globals.store) (view_store c.push.new.self)
    (omega arith) c.global-item.is c.in_ok-tree.ensures c.globals.invariant c.in_ok-push.ensures.ok
