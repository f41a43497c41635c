use Rattle.std.proofs.Common.{arith}
use Rattle.dos_runner.specs.Outside.{Outside, Counts}
use Rattle.dos_runner.proofs.Answered.{outside}
use Rattle.dos_runner.proofs.Composition.{started, goes_on, ends_by}
use Rattle.dos_runner.proofs.runner.run.Goals as goal

pub loop-event-init : goal.loop-event-init
loop-event-init g c =
    let o : Outside = outside (g.S.Source.remaining c.args.input.now) (g.K.Sink.contents c.args.output.now) (g.E.Sink.contents c.args.errors.now) (g.S.Source.faults c.args.input.now) (g.K.Sink.faults c.args.output.now) (g.E.Sink.faults c.args.errors.now) in
    record { run = started c.args.machine.now o; counts = record { input = omega arith; output = omega arith; errors = omega arith } }

pub returns-in-Some-clause-run : goal.returns-in-Some-clause-run
returns-in-Some-clause-run g c =
    let o : Outside = outside (g.S.Source.remaining c.args.input.now) (g.K.Sink.contents c.args.output.now) (g.E.Sink.contents c.args.errors.now) (g.S.Source.faults c.args.input.now) (g.K.Sink.faults c.args.output.now) (g.E.Sink.faults c.args.errors.now) in
    let o1 : Outside = outside (g.S.Source.remaining c.loop-event.input) (g.K.Sink.contents c.loop-event.output) (g.E.Sink.contents c.loop-event.errors) (g.S.Source.faults c.loop-event.input) (g.K.Sink.faults c.loop-event.output) (g.E.Sink.faults c.loop-event.errors) in
    let o2 : Outside = outside (g.S.Source.remaining c.advance.new.input) (g.K.Sink.contents c.advance.new.output) (g.E.Sink.contents c.advance.new.errors) (g.S.Source.faults c.advance.new.input) (g.K.Sink.faults c.advance.new.output) (g.E.Sink.faults c.advance.new.errors) in
    ends_by c.in-Some.end c.loop-event.event c.args.limit c.args.machine.now c.loop-event.machine c.advance.new.machine c.loop-event.over c.advance.new.over o o1 o2
    c.loop-event-test.true c.loop-event.invariant.counts c.loop-event.invariant.run c.in-Some.ensures.advanced

pub loop-event-preserved : goal.loop-event-preserved
loop-event-preserved g c =
    let o : Outside = outside (g.S.Source.remaining c.args.input.now) (g.K.Sink.contents c.args.output.now) (g.E.Sink.contents c.args.errors.now) (g.S.Source.faults c.args.input.now) (g.K.Sink.faults c.args.output.now) (g.E.Sink.faults c.args.errors.now) in
    let o1 : Outside = outside (g.S.Source.remaining c.loop-event.input) (g.K.Sink.contents c.loop-event.output) (g.E.Sink.contents c.loop-event.errors) (g.S.Source.faults c.loop-event.input) (g.K.Sink.faults c.loop-event.output) (g.E.Sink.faults c.loop-event.errors) in
    let o2 : Outside = outside (g.S.Source.remaining c.advance.new.input) (g.K.Sink.contents c.advance.new.output) (g.E.Sink.contents c.advance.new.errors) (g.S.Source.faults c.advance.new.input) (g.K.Sink.faults c.advance.new.output) (g.E.Sink.faults c.advance.new.errors) in
    let before : Counts o o1 = c.loop-event.invariant.counts in
    record {
      run = goes_on c.loop-event.event c.args.machine.now c.loop-event.machine c.advance.new.machine c.loop-event.over c.advance.new.over o o1 o2
          before c.loop-event.invariant.run c.in-None.ensures.advanced;
      counts = record {
        input = omega (arith, before.input, c.advance.ensures.input_counted);
        output = omega (arith, before.output, c.advance.ensures.output_counted);
        errors = omega (arith, before.errors, c.advance.ensures.errors_counted);
      };
    }
