use Rattle.std.proofs.Common.{refl}
use Rattle.cpu_8086.specs.declared.machine.Event.TheVariants as events
use Rattle.cpu_8086.specs.State.{State}
use Rattle.dos_runner.specs.Outside.{Outside}
use Rattle.dos_runner.specs.Run.{IsFinish}
use Rattle.dos_runner.proofs.Answered.{outside}
use Rattle.dos_runner.specs.declared.overlay_runner.course.Course.{Course}
use Rattle.dos_runner.proofs.overlay_runner.EventLaws.{trap-advances, clear-advances, other-advances, plain-rises}
use Rattle.dos_runner.proofs.overlay_runner.course.Course.serve.Goals as goal

pub returns-then-number-eq63-clause-served : goal.returns-then-number-eq63-clause-served
returns-then-number-eq63-clause-served g c =
    let o : Outside = outside (g.S.Source.remaining c.args.input.now) (g.K.Sink.contents c.args.output.now) (g.E.Sink.contents c.args.errors.now) (g.S.Source.faults c.args.input.now) (g.K.Sink.faults c.args.output.now) (g.E.Sink.faults c.args.errors.now) in
    let old : Course = c.args.self.now in
    let new : Course = record { machine = c.trap.new.machine; ovr = c.trap.new.ovr; over = old.over } in
    trap-advances (g.F.Files.folder c.args.files.now) c.args.number c.trap.result c.args.at old new c.args.traps.now c.trap.new.traps o
    c.if-number-eq63.true refl c.trap.ensures.quiet c.trap.ensures.trapped c.trap.ensures.found c.trap.ensures.tally c.trap.ensures.served

pub returns-then-number-eq96-clause-served : goal.returns-then-number-eq96-clause-served
returns-then-number-eq96-clause-served g c =
    let o : Outside = outside (g.S.Source.remaining c.args.input.now) (g.K.Sink.contents c.args.output.now) (g.E.Sink.contents c.args.errors.now) (g.S.Source.faults c.args.input.now) (g.K.Sink.faults c.args.output.now) (g.E.Sink.faults c.args.errors.now) in
    let old : Course = c.args.self.now in
    let new : Course = record { machine = c.clear.new.machine; ovr = c.clear.new.ovr; over = old.over } in
    clear-advances (g.F.Files.folder c.args.files.now) c.args.number c.clear.result c.args.at old new c.args.traps.now o
    c.if-number-eq96.true refl c.clear.ensures.quiet (c.clear.ensures.cleared c.args.traps.now) c.clear.ensures.no_fault

pub returns-clause-served : goal.returns-clause-served
returns-clause-served g c =
    let o : Outside = outside (g.S.Source.remaining c.args.input.now) (g.K.Sink.contents c.args.output.now) (g.E.Sink.contents c.args.errors.now) (g.S.Source.faults c.args.input.now) (g.K.Sink.faults c.args.output.now) (g.E.Sink.faults c.args.errors.now) in
    let o' : Outside = outside (g.S.Source.remaining c.finish_step.new.input) (g.K.Sink.contents c.finish_step.new.output) (g.E.Sink.contents c.finish_step.new.errors) (g.S.Source.faults c.finish_step.new.input) (g.K.Sink.faults c.finish_step.new.output) (g.E.Sink.faults c.finish_step.new.errors) in
    other-advances (g.F.Files.folder c.args.files.now) c.args.number c.finish_step.result c.args.at c.args.self.now c.finish_step.new.machine c.finish_step.new.over c.args.traps.now o o'
    c.if-number-eq63.false c.if-number-eq96.false (λ before segment offset. c.finish_step.ensures.finished before segment offset)

pub returns-clause-rises : goal.returns-clause-rises
returns-clause-rises g c =
    let o : Outside = outside (g.S.Source.remaining c.args.input.now) (g.K.Sink.contents c.args.output.now) (g.E.Sink.contents c.args.errors.now) (g.S.Source.faults c.args.input.now) (g.K.Sink.faults c.args.output.now) (g.E.Sink.faults c.args.errors.now) in
    let o' : Outside = outside (g.S.Source.remaining c.finish_step.new.input) (g.K.Sink.contents c.finish_step.new.output) (g.E.Sink.contents c.finish_step.new.errors) (g.S.Source.faults c.finish_step.new.input) (g.K.Sink.faults c.finish_step.new.output) (g.E.Sink.faults c.finish_step.new.errors) in
    let t = c.args.self.now.machine in
    let before : State = record t { registers = record t.registers { ip = c.args.at.offset }; cs = c.args.at.segment } in
    plain-rises (IsFinish before t (events.Service c.args.number) c.finish_step.new.over) c.finish_step.result c.finish_step.new.machine c.args.self.now.over c.finish_step.new.over o o' (g.F.Files.faults c.args.files.now)
    (c.finish_step.ensures.finished before refl refl)
