use Rattle.std.proofs.Common.{ℕ, ◌+◌, IfSome, refl, sym, subst, ◌∙◌, arith}
use Rattle.tp_outside.specs.Folder.{bytes_of}
use Rattle.dos_runner.specs.Outside.{Outside, Counts}
use Rattle.dos_runner.proofs.Answered.{outside}
use Rattle.dos_runner.specs.overlay_runner.Course.{Courses}
use Rattle.dos_runner.proofs.overlay_runner.CourseLaws.{started, goes-on, names-kept, same-name, ends-so}
use Rattle.dos_runner.proofs.overlay_runner.course.Course.run.Goals as goal

pub loop-event-init : goal.loop-event-init
loop-event-init g c =
    let known = g.F.Files.folder c.args.files.now in
    let o : Outside = outside (g.S.Source.remaining c.args.input.now) (g.K.Sink.contents c.args.output.now) (g.E.Sink.contents c.args.errors.now) (g.S.Source.faults c.args.input.now) (g.K.Sink.faults c.args.output.now) (g.E.Sink.faults c.args.errors.now) in
    record {
      run = started known c.args.self.now o;
      name = same-name known c.args.self.now.ovr.name;
      folder = refl;
      counts = record { input = omega arith; output = omega arith; errors = omega arith };
      files = omega arith;
      few = omega arith;
    }

pub returns-in-Some-clause-courses : goal.returns-in-Some-clause-courses
returns-in-Some-clause-courses g c =
    let known = g.F.Files.folder c.args.files.now in
    let old = c.args.self.now in
    let o : Outside = outside (g.S.Source.remaining c.args.input.now) (g.K.Sink.contents c.args.output.now) (g.E.Sink.contents c.args.errors.now) (g.S.Source.faults c.args.input.now) (g.K.Sink.faults c.args.output.now) (g.E.Sink.faults c.args.errors.now) in
    let o1 : Outside = outside (g.S.Source.remaining c.loop-event.input) (g.K.Sink.contents c.loop-event.output) (g.E.Sink.contents c.loop-event.errors) (g.S.Source.faults c.loop-event.input) (g.K.Sink.faults c.loop-event.output) (g.E.Sink.faults c.loop-event.errors) in
    let o2 : Outside = outside (g.S.Source.remaining c.advance.new.input) (g.K.Sink.contents c.advance.new.output) (g.E.Sink.contents c.advance.new.errors) (g.S.Source.faults c.advance.new.input) (g.K.Sink.faults c.advance.new.output) (g.E.Sink.faults c.advance.new.errors) in
    let before = c.loop-event.invariant in
    subst (λ (n : ℕ). IfSome known (λ held. Courses (bytes_of held old.ovr.name) c.in-Some.end (c.loop-event.event + n) c.advance.new.traps c.args.limit old c.advance.new.self o o2)) (sym c.events_in.ensures.value)
    (ends-so known (g.F.Files.folder c.loop-event.files) c.in-Some.end c.loop-event.event c.loop-event.traps c.advance.new.traps c.args.limit old c.loop-event.self c.advance.new.self o o1 o2
    before.folder c.loop-event-test.true before.counts before.run before.name c.in-Some.ensures.advanced)

pub loop-event-preserved : goal.loop-event-preserved
loop-event-preserved g c =
    let known = g.F.Files.folder c.args.files.now in
    let old = c.args.self.now in
    let o : Outside = outside (g.S.Source.remaining c.args.input.now) (g.K.Sink.contents c.args.output.now) (g.E.Sink.contents c.args.errors.now) (g.S.Source.faults c.args.input.now) (g.K.Sink.faults c.args.output.now) (g.E.Sink.faults c.args.errors.now) in
    let o1 : Outside = outside (g.S.Source.remaining c.loop-event.input) (g.K.Sink.contents c.loop-event.output) (g.E.Sink.contents c.loop-event.errors) (g.S.Source.faults c.loop-event.input) (g.K.Sink.faults c.loop-event.output) (g.E.Sink.faults c.loop-event.errors) in
    let o2 : Outside = outside (g.S.Source.remaining c.advance.new.input) (g.K.Sink.contents c.advance.new.output) (g.E.Sink.contents c.advance.new.errors) (g.S.Source.faults c.advance.new.input) (g.K.Sink.faults c.advance.new.output) (g.E.Sink.faults c.advance.new.errors) in
    let before = c.loop-event.invariant in
    let counts : Counts o o1 = before.counts in
    record {
      run = goes-on known (g.F.Files.folder c.loop-event.files) c.loop-event.event c.loop-event.traps c.advance.new.traps old c.loop-event.self c.advance.new.self o o1 o2
          before.folder counts before.run before.name c.in-None.ensures.advanced;
      name = names-kept known (g.F.Files.folder c.loop-event.files) old.ovr.name c.loop-event.self.ovr.name c.advance.new.self.ovr.name before.folder before.name c.advance.ensures.name;
      folder = c.advance.ensures.unchanged ∙ before.folder;
      counts = record {
        input = omega (arith, counts.input, c.advance.ensures.input_counted);
        output = omega (arith, counts.output, c.advance.ensures.output_counted);
        errors = omega (arith, counts.errors, c.advance.ensures.errors_counted);
      };
      files = omega (arith, before.files, c.advance.ensures.files_counted);
      few = omega (arith, before.few, c.advance.ensures.few);
    }
