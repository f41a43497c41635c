use Rattle.commands.proofs.mean_program.ShownLaws.{stands_somewhere}
use Rattle.commands.proofs.mean_program.shown.show_meaning.Goals as goal

pub write_meaning-requires : goal.write_meaning-requires
write_meaning-requires g c = stands_somewhere c.args.program.now c.args.turns _ c.as_slice-given.result.now c.requires.sound c.of_bytes.ensures c.in-Ok-mean.ensures
