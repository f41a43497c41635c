use Rattle.std.proofs.Common.{inr, ap, ◌∙◌}
use Rattle.dos_runner.specs.declared.overlay_runner.runner.Runner.{Runner}
use Rattle.commands.specs.World.{World, world}
use Rattle.commands.proofs.RanLaws.{ran_from, rises_behind}
use Rattle.commands.proofs.run.run_program.Goals as goal

pub returns-in-Ok-clause-did : goal.returns-in-Ok-clause-did
returns-in-Ok-clause-did g c =
    let old : World = world (g.F.Files.folder c.args.files.now) (g.F.Files.faults c.args.files.now) (g.S.Source.remaining c.args.input.now) (g.K.Sink.contents c.args.output.now) (g.E.Sink.contents c.args.errors.now) (g.S.Source.faults c.args.input.now) (g.K.Sink.faults c.args.output.now) (g.E.Sink.faults c.args.errors.now) in
    let new : World = world (g.F.Files.folder c.run.new.files) (g.F.Files.faults c.run.new.files) (g.S.Source.remaining c.run.new.input) (g.K.Sink.contents c.run.new.output) (g.E.Sink.contents c.run.new.errors) (g.S.Source.faults c.run.new.input) (g.K.Sink.faults c.run.new.output) (g.E.Sink.faults c.run.new.errors) in
    let opened_files = c.open_named.new.files in
    let idle = ap (λ (r : Runner). r.end) c.set_retry.ensures ∙ c.in-Ok.ensures.idle in
    inr (
      c.run.result,
      c.outcome_of.ensures,
      record {
        run = ran_from (g.F.Files.folder c.args.files.now) (g.F.Files.folder opened_files) c.run.result c.args.name.now c.args.options c.in-Ok.runner c.set_retry.new.self c.run.new.self c.unwrap_or.result c.unwrap_or-limit.result old.streams new.streams
            c.in-Ok.ensures.unchanged c.set_retry.ensures c.unwrap_or.ensures c.unwrap_or-limit.ensures c.in-Ok.ensures.begins (c.run.ensures.runs idle);
        rises = rises_behind c.run.result old.streams new.streams old.files_faults (g.F.Files.faults opened_files) new.files_faults c.in-Ok.ensures.counted (c.run.ensures.rises idle);
        folder = c.run.ensures.unchanged ∙ c.in-Ok.ensures.unchanged;
      },
    )
