use Rattle.std.proofs.Common.{ℕ, List, Option, map}
use Rattle.std.specs.Prelude.{string_bytes}
use Rattle.commands.specs.World.{World, world}
use Rattle.commands.proofs.TurboLaws.{with_line, without_line}
use Rattle.commands.proofs.top.turbo.Goals as goal

pub returns-in-Ok : goal.returns-in-Ok
returns-in-Ok g c =
    let words : List (List ℕ) = map string_bytes c.args.words.now in
    let old : World = world (g.F.Files.folder c.args.files.now) (g.F.Files.faults c.args.files.now) (g.S.Source.remaining c.args.input.now) (g.K.Sink.contents c.args.output.now) (g.E.Sink.contents c.args.errors.now) (g.S.Source.faults c.args.input.now) (g.K.Sink.faults c.args.output.now) (g.E.Sink.faults c.args.errors.now) in
    let mid : World = world (g.F.Files.folder c.perform-outcome.new.files) (g.F.Files.faults c.perform-outcome.new.files) (g.S.Source.remaining c.perform-outcome.new.input) (g.K.Sink.contents c.perform-outcome.new.output) (g.E.Sink.contents c.perform-outcome.new.errors) (g.S.Source.faults c.perform-outcome.new.input) (g.K.Sink.faults c.perform-outcome.new.output) (g.E.Sink.faults c.perform-outcome.new.errors) in
    record {
      promises =
          with_line c.perform-outcome.result words old mid (g.E.Sink.contents c.write_line.new.errors) (g.E.Sink.faults c.write_line.new.errors)
          c.perform-outcome.ensures.performs c.in-Ok.ensures.written c.write_line.ensures.counted;
    }

pub returns-in-Err : goal.returns-in-Err
returns-in-Err g c =
    let words : List (List ℕ) = map string_bytes c.args.words.now in
    let old : World = world (g.F.Files.folder c.args.files.now) (g.F.Files.faults c.args.files.now) (g.S.Source.remaining c.args.input.now) (g.K.Sink.contents c.args.output.now) (g.E.Sink.contents c.args.errors.now) (g.S.Source.faults c.args.input.now) (g.K.Sink.faults c.args.output.now) (g.E.Sink.faults c.args.errors.now) in
    let mid : World = world (g.F.Files.folder c.perform-outcome.new.files) (g.F.Files.faults c.perform-outcome.new.files) (g.S.Source.remaining c.perform-outcome.new.input) (g.K.Sink.contents c.perform-outcome.new.output) (g.E.Sink.contents c.perform-outcome.new.errors) (g.S.Source.faults c.perform-outcome.new.input) (g.K.Sink.faults c.perform-outcome.new.output) (g.E.Sink.faults c.perform-outcome.new.errors) in
    record {
      promises =
          without_line c.perform-outcome.result words old mid (g.E.Sink.contents c.write_line.new.errors) (g.E.Sink.faults c.write_line.new.errors)
          c.perform-outcome.ensures.performs c.write_line.ensures.prefix c.perform-outcome.ensures.errors_counted c.in-Err.ensures.failed;
    }
