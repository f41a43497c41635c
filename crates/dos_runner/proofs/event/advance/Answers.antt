use Rattle.std.proofs.Common.{sym}
use Rattle.dos_runner.specs.Outside.{Outside}
use Rattle.dos_runner.specs.Run.{IsEvent, IsFinish}
use Rattle.dos_runner.proofs.Answered.{outside, advances_so}
use Rattle.dos_runner.proofs.Services.{is_finished}
use Rattle.dos_runner.proofs.event.advance.Goals as goal

pub returns-clause-advanced : goal.returns-clause-advanced
returns-clause-advanced g c =
    let t = c.args.machine.now in
    let o : Outside = outside (g.S.Source.remaining c.args.input.now) (g.K.Sink.contents c.args.output.now) (g.E.Sink.contents c.args.errors.now) (g.S.Source.faults c.args.input.now) (g.K.Sink.faults c.args.output.now) (g.E.Sink.faults c.args.errors.now) in
    let o' : Outside = outside (g.S.Source.remaining c.finish_step.new.input) (g.K.Sink.contents c.finish_step.new.output) (g.E.Sink.contents c.finish_step.new.errors) (g.S.Source.faults c.finish_step.new.input) (g.K.Sink.faults c.finish_step.new.output) (g.E.Sink.faults c.finish_step.new.errors) in
    advances_so (IsFinish t c.step-event.new.self c.step-event.result c.finish_step.new.over) (IsEvent t c.finish_step.new.over) c.finish_step.result c.finish_step.new.machine c.args.over.now c.finish_step.new.over o o'
    (λ progress. is_finished t c.step-event.new.self c.step-event.result c.finish_step.new.over progress c.step-event.ensures)
    (c.finish_step.ensures.finished t (sym c.reg-segment.ensures) (sym c.reg-offset.ensures))
