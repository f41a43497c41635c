use Rattle.std.proofs.Common.{false, ◌≡◌, ℕ, ◌<◌, sym, refl, subst, ◌∙◌, ap, cond, eqb, arith}
use Rattle.std.specs.Prelude.{is_ok, IsOk, IsTrue}
use Rattle.return_repair.specs.Chain.{chain, goes_on}
use Rattle.return_repair.proofs.ChainLaws.{chain-end, chain-bad, sound-on, bad-on}
use Rattle.return_repair.proofs.chain.check_chain.Goals as goal

pub returns-clause-sound : goal.returns-clause-sound
returns-clause-sound c = c.loop-link.invariant.sound (rw (c.loop-link-test.false, chain-end c.args.marked c.args.machine.now.memory c.args.machine.now.registers.ss) refl)

pub returns-then-not-goes_on-clause-bad : goal.returns-then-not-goes_on-clause-bad
returns-then-not-goes_on-clause-bad c =
    let off : goes_on c.loop-link.link c.next_link-next.result ≡ false = cc in
    c.loop-link.invariant.bad c.loop-link.link (chain-bad c.args.marked c.args.machine.now.memory c.args.machine.now.registers.ss c.loop-link.link c.next_link-next.result (omega arith) c.loop-link.invariant.small c.next_link-next.ensures off)

pub loop-link-preserved : goal.loop-link-preserved
loop-link-preserved c =
    let memory = c.args.machine.now.memory in
    let ss = c.args.machine.now.registers.ss in
    let on : IsTrue (goes_on c.loop-link.link c.next_link-next.result) = cc in
    record {
      small = c.next_link-next.type_inv;
      sound = λ sound. c.loop-link.invariant.sound (sound-on c.args.marked memory ss c.loop-link.link c.next_link-next.result (omega arith) c.loop-link.invariant.small c.next_link-next.ensures on sound);
      bad = λ place bad. c.loop-link.invariant.bad place (bad-on c.args.marked memory ss c.loop-link.link c.next_link-next.result place (omega arith) c.loop-link.invariant.small c.next_link-next.ensures on bad);
    }
