use Rattle.std.proofs.Common.{false, None}
use Rattle.dos_runner.specs.Run.{IsRun}
use Rattle.dos_runner.specs.Outside.{Outside, Counts, Progresses}
use Rattle.dos_runner.proofs.runner.run.Given as goal

abbrev pub invariant-loop-event : goal.invariant-loop-event
invariant-loop-event g l =
    let before : Outside = record {
      input = g.S.Source.remaining l.initial.input;
      output = g.K.Sink.contents l.initial.output;
      errors = g.E.Sink.contents l.initial.errors;
      input_faults = g.S.Source.faults l.initial.input;
      output_faults = g.K.Sink.faults l.initial.output;
      errors_faults = g.E.Sink.faults l.initial.errors;
    } in
    let now : Outside = record {
      input = g.S.Source.remaining l.input;
      output = g.K.Sink.contents l.output;
      errors = g.E.Sink.contents l.errors;
      input_faults = g.S.Source.faults l.input;
      output_faults = g.K.Sink.faults l.output;
      errors_faults = g.E.Sink.faults l.errors;
    } in
    record {
      run : Progresses (IsRun l.event l.initial.machine l.over) None l.machine false l.over before now;
      counts : Counts before now;
    }
