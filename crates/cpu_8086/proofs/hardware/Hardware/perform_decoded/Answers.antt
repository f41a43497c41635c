use Rattle.std.proofs.Common.{sym, ap, ◌∙◌, inl, drop}
use Rattle.std.specs.Int.{w64, to_le_bytes}
use Rattle.cpu_8086.specs.State.{State}
use Rattle.cpu_8086.specs.declared.machine.Event.{Event}
use Rattle.cpu_8086.proofs.DirectLaws.{effect_direct}
use Rattle.cpu_8086.proofs.hardware.Hardware.perform_decoded.Goals as goal

pub returns : goal.returns
returns c =
    let law = sym (effect_direct c.args.self.now c.args.decoded.now.instr) in
    inl (record {
      instruction = c.args.decoded.now.instr;
      rest = drop c.args.decoded.now.count (to_le_bytes w64 c.args.decoded.now.bytes);
      spelled = sym c.requires ∙ c.args.decoded.now.spelled;
      state = c.perform.ensures.state ∙ ap (λ (o : State × Event). o.0) law;
      reports = c.perform.ensures.event ∙ ap (λ (o : State × Event). o.1) law;
    })
