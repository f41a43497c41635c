use Rattle.std.proofs.Common.{sym, subst}
use Rattle.cpu_8086.specs.declared.machine.Event.{Event}
use Rattle.cpu_8086.specs.declared.registers.Far.{Far}
use Rattle.cpu_8086.specs.Step.{Steps}
use Rattle.dos_runner.specs.Outside.{Outside}
use Rattle.dos_runner.specs.Run.{IsFinish}
use Rattle.dos_runner.proofs.Answered.{outside}
use Rattle.dos_runner.proofs.overlay_runner.EventLaws.{ran-event, service-event, plain-event, plain-rises}
use Rattle.dos_runner.proofs.overlay_runner.course.Course.advance.Goals as goal

pub returns-in-Ran-clause-advanced : goal.returns-in-Ran-clause-advanced
returns-in-Ran-clause-advanced g c =
    let o : Outside = outside (g.S.Source.remaining c.args.input.now) (g.K.Sink.contents c.args.output.now) (g.E.Sink.contents c.args.errors.now) (g.S.Source.faults c.args.input.now) (g.K.Sink.faults c.args.output.now) (g.E.Sink.faults c.args.errors.now) in
    ran-event (g.F.Files.folder c.args.files.now) c.args.self.now c.step.new.self c.args.traps.now o
    (subst (λ (event : Event). Steps c.args.self.now.machine c.step.new.self event) c.in-Ran.is c.step.ensures)

pub returns-in-Service-clause-advanced : goal.returns-in-Service-clause-advanced
returns-in-Service-clause-advanced g c =
    let o : Outside = outside (g.S.Source.remaining c.args.input.now) (g.K.Sink.contents c.args.output.now) (g.E.Sink.contents c.args.errors.now) (g.S.Source.faults c.args.input.now) (g.K.Sink.faults c.args.output.now) (g.E.Sink.faults c.args.errors.now) in
    let o' : Outside = outside (g.S.Source.remaining c.serve.new.input) (g.K.Sink.contents c.serve.new.output) (g.E.Sink.contents c.serve.new.errors) (g.S.Source.faults c.serve.new.input) (g.K.Sink.faults c.serve.new.output) (g.E.Sink.faults c.serve.new.errors) in
    let at : Far = record { offset = c.reg-offset.result; segment = c.reg-segment.result } in
    service-event (g.F.Files.folder c.args.files.now) c.args.self.now c.step.new.self c.in-Service.number c.serve.new.self at c.serve.result c.args.traps.now c.serve.new.traps o o'
    c.in-Service.ensures (sym c.reg-segment.ensures) (sym c.reg-offset.ensures) c.serve.ensures.served

pub returns-in_default-clause-advanced : goal.returns-in_default-clause-advanced
returns-in_default-clause-advanced g c =
    let o : Outside = outside (g.S.Source.remaining c.args.input.now) (g.K.Sink.contents c.args.output.now) (g.E.Sink.contents c.args.errors.now) (g.S.Source.faults c.args.input.now) (g.K.Sink.faults c.args.output.now) (g.E.Sink.faults c.args.errors.now) in
    let o' : Outside = outside (g.S.Source.remaining c.finish_step.new.input) (g.K.Sink.contents c.finish_step.new.output) (g.E.Sink.contents c.finish_step.new.errors) (g.S.Source.faults c.finish_step.new.input) (g.K.Sink.faults c.finish_step.new.output) (g.E.Sink.faults c.finish_step.new.errors) in
    let at : Far = record { offset = c.reg-offset.result; segment = c.reg-segment.result } in
    plain-event (g.F.Files.folder c.args.files.now) c.args.self.now c.step.new.self c.step.result c.finish_step.new.machine c.finish_step.new.over at c.finish_step.result c.args.traps.now o o'
    c.step.ensures c.in_default.not-Service
    (sym c.reg-segment.ensures) (sym c.reg-offset.ensures) (λ before segment offset. c.finish_step.ensures.finished before segment offset)

pub returns-in_default-clause-rises : goal.returns-in_default-clause-rises
returns-in_default-clause-rises g c =
    let o : Outside = outside (g.S.Source.remaining c.args.input.now) (g.K.Sink.contents c.args.output.now) (g.E.Sink.contents c.args.errors.now) (g.S.Source.faults c.args.input.now) (g.K.Sink.faults c.args.output.now) (g.E.Sink.faults c.args.errors.now) in
    let o' : Outside = outside (g.S.Source.remaining c.finish_step.new.input) (g.K.Sink.contents c.finish_step.new.output) (g.E.Sink.contents c.finish_step.new.errors) (g.S.Source.faults c.finish_step.new.input) (g.K.Sink.faults c.finish_step.new.output) (g.E.Sink.faults c.finish_step.new.errors) in
    plain-rises (IsFinish c.args.self.now.machine c.step.new.self c.step.result c.finish_step.new.over) c.finish_step.result c.finish_step.new.machine c.args.self.now.over c.finish_step.new.over o o' (g.F.Files.faults c.args.files.now)
    (c.finish_step.ensures.finished c.args.self.now.machine (sym c.reg-segment.ensures) (sym c.reg-offset.ensures))
