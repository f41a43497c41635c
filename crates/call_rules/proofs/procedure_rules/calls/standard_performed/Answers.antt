use Rattle.std.proofs.Common.{◌≡◌, length, Some, arith}
use Rattle.call_rules.specs.procedure_rules.Rows.{slots_of}
use Rattle.call_rules.proofs.procedure_rules.Nodes.{performed_gives}
use Rattle.call_rules.proofs.procedure_rules.calls.standard_performed.Goals as goal

pub returns : goal.returns
returns c =
    let m : c.len-count.result ≡ length c.args.values.items = omega (arith, c.len-count.ensures) in
    let h : slots_of c.args.number c.len-count.result ≡ Some c.in-Some.slots = cc (c.slots_of.ensures, c.in-Some.is) in
    performed_gives c.args.types.now.types c.args.place c.args.number c.args.values.items c.len-count.result c.in-Some.slots c.in_ok-args.args m h c.in_ok-args.ensures
