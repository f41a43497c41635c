use Rattle.std.proofs.Common.{refl}
use Rattle.cpu_8086.specs.declared.process.Why.TheVariants as why
use Rattle.dos_runner.specs.Outside.{Outside}
use Rattle.dos_runner.specs.Run.{IsService}
use Rattle.dos_runner.proofs.Answered.{outside, goes_quietly, stops_quietly}
use Rattle.dos_runner.proofs.Services.{only_goes_on, has_no_stub, has_no_service}
use Rattle.dos_runner.proofs.event.serve.Goals as goal

pub returns-then-number-eq96-clause-served : goal.returns-then-number-eq96-clause-served
returns-then-number-eq96-clause-served g c before segment offset =
    let t = c.args.machine.now in
    let o : Outside = outside (g.S.Source.remaining c.args.input.now) (g.K.Sink.contents c.args.output.now) (g.E.Sink.contents c.args.errors.now) (g.S.Source.faults c.args.input.now) (g.K.Sink.faults c.args.output.now) (g.E.Sink.faults c.args.errors.now) in
    goes_quietly (IsService before t c.args.number c.args.over.now) t t c.args.over.now o o refl
    (only_goes_on before t c.args.number c.args.over.now c.if-number-eq96.true)
    (record { input = refl; output = refl; errors = refl })

pub returns-then-number-eq63-clause-served : goal.returns-then-number-eq63-clause-served
returns-then-number-eq63-clause-served g c before segment offset =
    let t = c.args.machine.now in
    let o : Outside = outside (g.S.Source.remaining c.args.input.now) (g.K.Sink.contents c.args.output.now) (g.E.Sink.contents c.args.errors.now) (g.S.Source.faults c.args.input.now) (g.K.Sink.faults c.args.output.now) (g.E.Sink.faults c.args.errors.now) in
    stops_quietly (IsService before t c.args.number c.args.over.now) t before c.args.at.segment c.args.at.offset why.NoStub c.args.over.now o o
    (has_no_stub before t c.args.number c.args.over.now c.args.at.segment c.args.at.offset segment offset c.if-number-eq63.true)
    (record { input = refl; output = refl; errors = refl })

pub returns-else-number-eq63-clause-served : goal.returns-else-number-eq63-clause-served
returns-else-number-eq63-clause-served g c before segment offset =
    let t = c.args.machine.now in
    let o : Outside = outside (g.S.Source.remaining c.args.input.now) (g.K.Sink.contents c.args.output.now) (g.E.Sink.contents c.args.errors.now) (g.S.Source.faults c.args.input.now) (g.K.Sink.faults c.args.output.now) (g.E.Sink.faults c.args.errors.now) in
    stops_quietly (IsService before t c.args.number c.args.over.now) t before c.args.at.segment c.args.at.offset (why.Interrupt c.args.number) c.args.over.now o o
    (has_no_service before t c.args.number c.args.over.now c.args.at.segment c.args.at.offset segment offset c.if-number-eq33.false c.if-number-eq96.false c.if-number-eq63.false)
    (record { input = refl; output = refl; errors = refl })
