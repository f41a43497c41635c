use Rattle.std.proofs.Common.{refl}
use Rattle.cpu_8086.specs.declared.process.Why.TheVariants as why
use Rattle.cpu_8086.specs.declared.machine.Event.TheVariants as events
use Rattle.dos_runner.specs.Outside.{Outside}
use Rattle.dos_runner.specs.Run.{IsFinish}
use Rattle.dos_runner.proofs.Answered.{outside, goes_quietly, stops_quietly}
use Rattle.dos_runner.proofs.Services.{finishes_running, divides_by_zero, meets_unknown}
use Rattle.dos_runner.proofs.event.finish_step.Goals as goal

pub returns-in-Ran-clause-finished : goal.returns-in-Ran-clause-finished
returns-in-Ran-clause-finished g c before segment offset =
    let t = c.args.machine.now in
    let o : Outside = outside (g.S.Source.remaining c.args.input.now) (g.K.Sink.contents c.args.output.now) (g.E.Sink.contents c.args.errors.now) (g.S.Source.faults c.args.input.now) (g.K.Sink.faults c.args.output.now) (g.E.Sink.faults c.args.errors.now) in
    rw c.in-Ran.is
    (goes_quietly (IsFinish before t events.Ran c.args.over.now) t t c.args.over.now o o refl
    (finishes_running before t c.args.over.now)
    (record { input = refl; output = refl; errors = refl }))

pub returns-in-Service-clause-finished : goal.returns-in-Service-clause-finished
returns-in-Service-clause-finished g c before segment offset = rw c.in-Service.is (c.serve.ensures.served before segment offset)

pub returns-in-Divide-clause-finished : goal.returns-in-Divide-clause-finished
returns-in-Divide-clause-finished g c before segment offset =
    let t = c.args.machine.now in
    let o : Outside = outside (g.S.Source.remaining c.args.input.now) (g.K.Sink.contents c.args.output.now) (g.E.Sink.contents c.args.errors.now) (g.S.Source.faults c.args.input.now) (g.K.Sink.faults c.args.output.now) (g.E.Sink.faults c.args.errors.now) in
    rw c.in-Divide.is
    (stops_quietly (IsFinish before t events.Divide c.args.over.now) t before c.args.at.segment c.args.at.offset why.Divide c.args.over.now o o
    (divides_by_zero before t c.args.over.now c.args.at.segment c.args.at.offset segment offset)
    (record { input = refl; output = refl; errors = refl }))

pub returns-in-Unknown-clause-finished : goal.returns-in-Unknown-clause-finished
returns-in-Unknown-clause-finished g c before segment offset =
    let t = c.args.machine.now in
    let o : Outside = outside (g.S.Source.remaining c.args.input.now) (g.K.Sink.contents c.args.output.now) (g.E.Sink.contents c.args.errors.now) (g.S.Source.faults c.args.input.now) (g.K.Sink.faults c.args.output.now) (g.E.Sink.faults c.args.errors.now) in
    stops_quietly (IsFinish before t c.args.event c.args.over.now) t before c.args.at.segment c.args.at.offset why.Opcode c.args.over.now o o
    (meets_unknown before t c.args.event c.args.over.now c.args.at.segment c.args.at.offset _ _ c.in-Unknown.is segment offset)
    (record { input = refl; output = refl; errors = refl })
