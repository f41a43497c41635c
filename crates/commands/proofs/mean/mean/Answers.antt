use Rattle.std.proofs.Common.{ℕ, Err, inl, inr, refl, ap, subst}
use Rattle.front_end.specs.declared.outcomes.outcome.Outcome.{Outcome}
use Rattle.commands.specs.mean_program.Shown.{Shows}
use Rattle.commands.specs.Mean.{sinks_of}
use Rattle.commands.specs.World.{World, world}
use Rattle.commands.proofs.HeldLaws.{none_found, program_in}
use Rattle.commands.proofs.mean.mean.Goals as goal

pub show_meaning-requires : goal.show_meaning-requires
show_meaning-requires g c = record { sound = c.sound_program_laws.ensures.all c.in-Ok.found.program c.in-Ok.ensures.formed.typed }

pub returns-in-Ok-clause-did : goal.returns-in-Ok-clause-did
returns-in-Ok-clause-did g c =
    let old : World = world (g.F.Files.folder c.args.files.now) (g.F.Files.faults c.args.files.now) (g.S.Source.remaining c.args.input.now) (g.K.Sink.contents c.args.output.now) (g.E.Sink.contents c.args.errors.now) (g.S.Source.faults c.args.input.now) (g.K.Sink.faults c.args.output.now) (g.E.Sink.faults c.args.errors.now) in
    let files = c.formed_sources.new.files in
    let new : World = world (g.F.Files.folder files) (g.F.Files.faults files) (g.S.Source.remaining c.show_meaning.new.input) (g.K.Sink.contents c.show_meaning.new.output) (g.E.Sink.contents c.show_meaning.new.errors) (g.S.Source.faults c.show_meaning.new.input) (g.K.Sink.faults c.show_meaning.new.output) (g.E.Sink.faults c.show_meaning.new.errors) in
    inr (record {
      program = c.in-Ok.found.program;
      is = program_in old.folder c.args.name.now c.in-Ok.found c.in-Ok.ensures.found;
      formed = c.in-Ok.ensures.formed;
      shows = subst (λ (turns : ℕ). Shows c.in-Ok.found.program turns c.show_meaning.result old.streams.input new.streams.input old.streams.input_faults new.streams.input_faults (sinks_of old.streams) (sinks_of new.streams))
          c.unwrap_or-turns.ensures c.show_meaning.ensures.shown;
      folder = c.in-Ok.ensures.unchanged;
    })

pub returns-in-Err-clause-did : goal.returns-in-Err-clause-did
returns-in-Err-clause-did g c = inl (record {
  reason = none_found (g.F.Files.folder c.args.files.now) c.args.name.now c.in-Err.outcome c.in-Err.ensures.cause;
  declines = c.in-Err.ensures.declines;
  counted = λ is. c.in-Err.ensures.failed (ap (λ (o : Outcome). Err o) is);
  untouched = record { folder = c.in-Err.ensures.unchanged; streams = refl };
})
