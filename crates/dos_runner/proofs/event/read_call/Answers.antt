use Rattle.std.proofs.Common.{◌≡◌, ◌∙◌, refl}
use Rattle.cpu_8086.specs.Process.{answered}
use Rattle.std.specs.Prelude.{true}
use Rattle.dos_runner.specs.Outside.{Outside}
use Rattle.dos_runner.specs.Run.{IsService}
use Rattle.dos_runner.proofs.Answered.{outside, goes_quietly}
use Rattle.dos_runner.proofs.Services.{read_goes_on, read_fails, reads_nowhere}
use Rattle.dos_runner.proofs.event.read_call.Goals as goal

pub returns-then-reg-ne0-clause-served : goal.returns-then-reg-ne0-clause-served
returns-then-reg-ne0-clause-served g c before rest =
    let o : Outside = outside (g.S.Source.remaining c.args.input.now) rest.output rest.errors (g.S.Source.faults c.args.input.now) rest.output_faults rest.errors_faults in
    goes_quietly (IsService before c.args.machine.now 33 c.args.over.now) c.answer.new.machine (answered c.args.machine.now 6 true) c.args.over.now o o c.answer.ensures
    (reads_nowhere before c.args.machine.now c.args.over.now c.requires (λ e. c.if-reg-ne0.true (c.reg.ensures ∙ e)))
    (record { input = refl; output = refl; errors = refl })

pub returns-in-Ok-clause-served : goal.returns-in-Ok-clause-served
returns-in-Ok-clause-served g c before rest =
    let o : Outside = outside (g.S.Source.remaining c.args.input.now) rest.output rest.errors (g.S.Source.faults c.args.input.now) rest.output_faults rest.errors_faults in
    let o' : Outside = outside (g.S.Source.remaining c.read_bytes.new.source) rest.output rest.errors (g.S.Source.faults c.read_bytes.new.source) rest.output_faults rest.errors_faults in
    let handle : c.args.machine.now.registers.bx ≡ 0 = cc (c.reg.ensures, c.if-reg-ne0.false) in
    read_goes_on before c.args.machine.now c.read_bytes.new.machine c.answer-in-Ok.new.machine c.reg-segment.result c.reg-offset.result c.reg-count.result c.in-Ok.done
    c.args.over.now c.read_bytes.new.over o o' c.requires handle c.reg-segment.ensures c.reg-offset.ensures c.reg-count.ensures
    c.in-Ok.ensures.read c.answer-in-Ok.ensures refl refl

pub returns-in-Err-clause-served : goal.returns-in-Err-clause-served
returns-in-Err-clause-served g c before rest =
    let o : Outside = outside (g.S.Source.remaining c.args.input.now) rest.output rest.errors (g.S.Source.faults c.args.input.now) rest.output_faults rest.errors_faults in
    let o' : Outside = outside (g.S.Source.remaining c.read_bytes.new.source) rest.output rest.errors (g.S.Source.faults c.read_bytes.new.source) rest.output_faults rest.errors_faults in
    let handle : c.args.machine.now.registers.bx ≡ 0 = cc (c.reg.ensures, c.if-reg-ne0.false) in
    read_fails before c.args.machine.now c.reg-count.result c.args.over.now c.read_bytes.new.over o o' c.requires handle c.reg-count.ensures c.in-Err.ensures.less refl refl c.in-Err.ensures.failed c.in-Err.ensures.not_over
