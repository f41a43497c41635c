use Rattle.std.proofs.Common.{◌≡◌, ◌≤◌, IfSome}
use Rattle.tp_outside.specs.Folder.{bytes_of}
use Rattle.dos_runner.specs.Outside.{Outside, Counts}
use Rattle.dos_runner.proofs.overlay_runner.CourseLaws.{SoFar}
use Rattle.dos_runner.proofs.overlay_runner.course.Course.run.Given as goal

abbrev pub invariant-loop-event : goal.invariant-loop-event
invariant-loop-event g l =
    let known = g.F.Files.folder l.initial.files in
    let before : Outside = record {
      input = g.S.Source.remaining l.initial.input;
      output = g.K.Sink.contents l.initial.output;
      errors = g.E.Sink.contents l.initial.errors;
      input_faults = g.S.Source.faults l.initial.input;
      output_faults = g.K.Sink.faults l.initial.output;
      errors_faults = g.E.Sink.faults l.initial.errors;
    } in
    let now : Outside = record {
      input = g.S.Source.remaining l.input;
      output = g.K.Sink.contents l.output;
      errors = g.E.Sink.contents l.errors;
      input_faults = g.S.Source.faults l.input;
      output_faults = g.K.Sink.faults l.output;
      errors_faults = g.E.Sink.faults l.errors;
    } in
    record {
      run : IfSome known (λ held. SoFar (bytes_of held l.initial.self.ovr.name) l.event l.traps l.initial.self l.self before now);
      name : IfSome known (λ held. l.self.ovr.name ≡ l.initial.self.ovr.name);
      folder : g.F.Files.folder l.files ≡ known;
      counts : Counts before now;
      files : g.F.Files.faults l.initial.files ≤ g.F.Files.faults l.files;
      few : l.traps ≤ l.event;
    }
