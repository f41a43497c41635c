use Rattle.dos_runner.proofs.opened_program.MatchLaws.{each-fits}
use Rattle.dos_runner.proofs.opened_program.opening.start.Goals as goal

pub new-requires-clause-fit : goal.new-requires-clause-fit
new-requires-clause-fit c = each-fits c.args.room c.args.overlays.now c.requires.some c.requires.fit.enough
