use Rattle.std.proofs.Common.{◌∙◌, refl}
use Rattle.std.specs.Prelude.{true}
use Rattle.cpu_8086.specs.Process.{answered}
use Rattle.dos_runner.specs.Outside.{Outside}
use Rattle.dos_runner.specs.Run.{IsService}
use Rattle.dos_runner.proofs.Answered.{outside, goes_quietly}
use Rattle.dos_runner.proofs.Services.{writes_nowhere}
use Rattle.dos_runner.proofs.event.write_call.Goals as goal

pub returns-then-handle-eq1-clause-served : goal.returns-then-handle-eq1-clause-served
returns-then-handle-eq1-clause-served g c before over rest =
    c.write_output.ensures.served before over (record rest { errors = g.E.Sink.contents c.args.errors.now; errors_faults = g.E.Sink.faults c.args.errors.now })

pub returns-then-handle-eq2-clause-served : goal.returns-then-handle-eq2-clause-served
returns-then-handle-eq2-clause-served g c before over rest =
    c.write_errors.ensures.served before over (record rest { output = g.K.Sink.contents c.args.output.now; output_faults = g.K.Sink.faults c.args.output.now })

pub returns-clause-served : goal.returns-clause-served
returns-clause-served g c before over rest =
    let t = c.args.machine.now in
    let o : Outside = outside rest.input (g.K.Sink.contents c.args.output.now) (g.E.Sink.contents c.args.errors.now) rest.input_faults (g.K.Sink.faults c.args.output.now) (g.E.Sink.faults c.args.errors.now) in
    goes_quietly (IsService before t 33 over) c.answer.new.machine (answered t 6 true) over o o c.answer.ensures
    (writes_nowhere before t over c.requires (λ e. c.if-handle-eq1.false (c.reg-handle.ensures ∙ e)) (λ e. c.if-handle-eq2.false (c.reg-handle.ensures ∙ e)))
    (record { input = refl; output = refl; errors = refl })
