use Rattle.std.proofs.Common.{Ok, ap}
use Rattle.typed_tree.specs.Expressions.{Expression}
use Rattle.call_rules.proofs.method_rules.Nodes.{routine_called, slot_called}
use Rattle.call_rules.proofs.method_rules.calls.node_of.Goals as goal

pub returns-in-Routine : goal.returns-in-Routine
returns-in-Routine c =
    ap (λ (n : Expression). Ok n)
    (routine_called c.in_ok-own.own c.args.ty c.args.checked c.args.args c.args.callee c.in-Routine.routine c.args.own c.in-Routine.is c.in_ok-own.ensures.ok)

pub returns-in-Slot : goal.returns-in-Slot
returns-in-Slot c =
    ap (λ (n : Expression). Ok n)
    (slot_called c.in_ok-own.own c.args.ty c.args.checked c.args.args c.args.callee c.in-Slot.slot c.args.own c.in-Slot.is c.in_ok-own.ensures.ok)
