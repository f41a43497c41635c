use Rattle.std.proofs.Common.{ℕ, ◌∙◌, ◌/◌, ◌%◌, refl, sym, ap}
use Rattle.cpu_8086.specs.declared.process.Why.TheVariants as why
use Rattle.dos_runner.specs.Outside.{Outside}
use Rattle.dos_runner.specs.Run.{IsService}
use Rattle.dos_runner.proofs.Answered.{outside, ends_quietly, stops_quietly}
use Rattle.dos_runner.proofs.Services.{exits, has_no_function}
use Rattle.dos_runner.proofs.event.dos_call.Goals as goal

pub returns-then-function-eq64-clause-served : goal.returns-then-function-eq64-clause-served
returns-then-function-eq64-clause-served g c before segment offset =
    c.write_call.ensures.served before c.args.over.now
    (outside (g.S.Source.remaining c.args.input.now) (g.K.Sink.contents c.args.output.now) (g.E.Sink.contents c.args.errors.now) (g.S.Source.faults c.args.input.now) (g.K.Sink.faults c.args.output.now) (g.E.Sink.faults c.args.errors.now))

pub returns-then-function-eq63-clause-served : goal.returns-then-function-eq63-clause-served
returns-then-function-eq63-clause-served g c before segment offset =
    c.read_call.ensures.served before
    (outside (g.S.Source.remaining c.args.input.now) (g.K.Sink.contents c.args.output.now) (g.E.Sink.contents c.args.errors.now) (g.S.Source.faults c.args.input.now) (g.K.Sink.faults c.args.output.now) (g.E.Sink.faults c.args.errors.now))

pub returns-then-function-eq76-clause-served : goal.returns-then-function-eq76-clause-served
returns-then-function-eq76-clause-served g c before segment offset =
    let t = c.args.machine.now in
    let o : Outside = outside (g.S.Source.remaining c.args.input.now) (g.K.Sink.contents c.args.output.now) (g.E.Sink.contents c.args.errors.now) (g.S.Source.faults c.args.input.now) (g.K.Sink.faults c.args.output.now) (g.E.Sink.faults c.args.errors.now) in
    ends_quietly (IsService before t 33 c.args.over.now) t t (c.reg-ax.result % 256) c.args.over.now o o
    (exits before t c.args.over.now (c.reg-ax.result % 256) (ap (λ (x : ℕ). x / 256) (sym c.reg-ax.ensures) ∙ c.if-function-eq76.true) (ap (λ (x : ℕ). x % 256) c.reg-ax.ensures))
    (record { input = refl; output = refl; errors = refl })

pub returns-clause-served : goal.returns-clause-served
returns-clause-served g c before segment offset =
    let t = c.args.machine.now in
    let o : Outside = outside (g.S.Source.remaining c.args.input.now) (g.K.Sink.contents c.args.output.now) (g.E.Sink.contents c.args.errors.now) (g.S.Source.faults c.args.input.now) (g.K.Sink.faults c.args.output.now) (g.E.Sink.faults c.args.errors.now) in
    stops_quietly (IsService before t 33 c.args.over.now) t before c.args.at.segment c.args.at.offset (why.Function (c.reg-ax.result / 256)) c.args.over.now o o
    (has_no_function before t c.args.over.now c.args.at.segment c.args.at.offset (c.reg-ax.result / 256) segment offset (ap (λ (x : ℕ). x / 256) (sym c.reg-ax.ensures)) c.if-function-eq64.false c.if-function-eq63.false c.if-function-eq76.false)
    (record { input = refl; output = refl; errors = refl })
