use Rattle.std.proofs.Common.{◌≡◌, ℕ, List, Option, inl, inr, map, refl, subst}
use Rattle.std.specs.Prelude.{string_bytes}
use Rattle.command_line.specs.declared.command.RunOptions.{RunOptions}
use Rattle.commands.specs.Go.{GoDid}
use Rattle.commands.specs.Mean.{MeanDid}
use Rattle.commands.specs.Run.{RunDid}
use Rattle.commands.specs.World.{World, world}
use Rattle.commands.proofs.TextLaws.{no_text}
use Rattle.commands.proofs.perform.perform.Goals as goal

pub returns-in-Ok-Some-Go-clause-performs : goal.returns-in-Ok-Some-Go-clause-performs
returns-in-Ok-Some-Go-clause-performs g c =
    let old : World = world (g.F.Files.folder c.args.files.now) (g.F.Files.faults c.args.files.now) (g.S.Source.remaining c.args.input.now) (g.K.Sink.contents c.args.output.now) (g.E.Sink.contents c.args.errors.now) (g.S.Source.faults c.args.input.now) (g.K.Sink.faults c.args.output.now) (g.E.Sink.faults c.args.errors.now) in
    let new : World = world (g.F.Files.folder c.go.new.files) (g.F.Files.faults c.go.new.files) (g.S.Source.remaining c.go.new.input) (g.K.Sink.contents c.go.new.output) (g.E.Sink.contents c.go.new.errors) (g.S.Source.faults c.go.new.input) (g.K.Sink.faults c.go.new.output) (g.E.Sink.faults c.go.new.errors) in
    inr (inl (record {
      name = c.in-Ok-Some-Go.name;
      options = c.in-Ok-Some-Go.options;
      asked =
          let found = rw c.in-Ok-Some-Go.field-0-is at c.in-Ok-Some-Go.ensures.found in
          rw c.in-Ok-Some-Go.field-0-0-is at found;
      did = λ name options asked.
          let found = c.in-Ok-Some-Go.ensures.go name options asked in
          let some = c.in-Ok-Some-Go.field-0-is in
          let is = c.in-Ok-Some-Go.field-0-0-is in
          let names : c.in-Ok-Some-Go.name ≡ name = cc in
          let same : c.in-Ok-Some-Go.options ≡ options = cc in
          subst (λ (o : RunOptions). GoDid c.go.result name o old new) same (subst (λ (n : List ℕ). GoDid c.go.result n c.in-Ok-Some-Go.options old new) names c.go.ensures.did);
    }))

pub returns-in-Ok-Some-Run-clause-performs : goal.returns-in-Ok-Some-Run-clause-performs
returns-in-Ok-Some-Run-clause-performs g c =
    let old : World = world (g.F.Files.folder c.args.files.now) (g.F.Files.faults c.args.files.now) (g.S.Source.remaining c.args.input.now) (g.K.Sink.contents c.args.output.now) (g.E.Sink.contents c.args.errors.now) (g.S.Source.faults c.args.input.now) (g.K.Sink.faults c.args.output.now) (g.E.Sink.faults c.args.errors.now) in
    let new : World = world (g.F.Files.folder c.run_program.new.files) (g.F.Files.faults c.run_program.new.files) (g.S.Source.remaining c.run_program.new.input) (g.K.Sink.contents c.run_program.new.output) (g.E.Sink.contents c.run_program.new.errors) (g.S.Source.faults c.run_program.new.input) (g.K.Sink.faults c.run_program.new.output) (g.E.Sink.faults c.run_program.new.errors) in
    inr (inr (inl (record {
      name = c.in-Ok-Some-Run.name;
      options = c.in-Ok-Some-Run.options;
      asked =
          let found = rw c.in-Ok-Some-Run.field-0-is at c.in-Ok-Some-Run.ensures.found in
          rw c.in-Ok-Some-Run.field-0-0-is at found;
      did = λ name options asked.
          let found = c.in-Ok-Some-Run.ensures.run name options asked in
          let some = c.in-Ok-Some-Run.field-0-is in
          let is = c.in-Ok-Some-Run.field-0-0-is in
          let names : c.in-Ok-Some-Run.name ≡ name = cc in
          let same : c.in-Ok-Some-Run.options ≡ options = cc in
          subst (λ (o : RunOptions). RunDid c.run_program.result name o old new) same (subst (λ (n : List ℕ). RunDid c.run_program.result n c.in-Ok-Some-Run.options old new) names c.run_program.ensures.did);
    })))

pub returns-in-Ok-Some-Mean-clause-performs : goal.returns-in-Ok-Some-Mean-clause-performs
returns-in-Ok-Some-Mean-clause-performs g c =
    let old : World = world (g.F.Files.folder c.args.files.now) (g.F.Files.faults c.args.files.now) (g.S.Source.remaining c.args.input.now) (g.K.Sink.contents c.args.output.now) (g.E.Sink.contents c.args.errors.now) (g.S.Source.faults c.args.input.now) (g.K.Sink.faults c.args.output.now) (g.E.Sink.faults c.args.errors.now) in
    let new : World = world (g.F.Files.folder c.mean.new.files) (g.F.Files.faults c.mean.new.files) (g.S.Source.remaining c.mean.new.input) (g.K.Sink.contents c.mean.new.output) (g.E.Sink.contents c.mean.new.errors) (g.S.Source.faults c.mean.new.input) (g.K.Sink.faults c.mean.new.output) (g.E.Sink.faults c.mean.new.errors) in
    inr (inr (inr (inr (inr (record {
      name = c.in-Ok-Some-Mean.name;
      turns = c.in-Ok-Some-Mean.turns;
      asked =
          let found = rw c.in-Ok-Some-Mean.field-0-is at c.in-Ok-Some-Mean.ensures.found in
          rw c.in-Ok-Some-Mean.field-0-0-is at found;
      did = λ name turns asked.
          let found = c.in-Ok-Some-Mean.ensures.mean name turns asked in
          let some = c.in-Ok-Some-Mean.field-0-is in
          let is = c.in-Ok-Some-Mean.field-0-0-is in
          let names : c.in-Ok-Some-Mean.name ≡ name = cc in
          let same : c.in-Ok-Some-Mean.turns ≡ turns = cc in
          subst (λ (t : Option ℕ). MeanDid c.mean.result name t old new) same (subst (λ (n : List ℕ). MeanDid c.mean.result n c.in-Ok-Some-Mean.turns old new) names c.mean.ensures.did);
    })))))

pub returns-in-Ok-None-clause-performs : goal.returns-in-Ok-None-clause-performs
returns-in-Ok-None-clause-performs g c =
    let none = c.in-Ok-None.field-0-is in
    let is = c.in-Ok-None.is in
    inl (record {
      is = refl;
      none = record {
        go = λ name options asked. let found = c.in-Ok-None.ensures.go name options asked in cc;
        run = λ name options asked. let found = c.in-Ok-None.ensures.run name options asked in cc;
        mean = λ name turns asked. let found = c.in-Ok-None.ensures.mean name turns asked in cc;
        text = no_text (map string_bytes c.args.words.now)
            (λ help. let found = c.in-Ok-None.ensures.help help in cc)
            (λ version. let found = c.in-Ok-None.ensures.version version in cc);
      };
      untouched = record { folder = refl; streams = refl };
    })
