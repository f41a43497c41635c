use Rattle.checked_front_end.proofs.Founds.{none_for_memory}
use Rattle.checked_front_end.proofs.sources.formed_sources.Goals as goal

pub returns-then-are_formed-clause-formed : goal.returns-then-are_formed-clause-formed
returns-then-are_formed-clause-formed g c = c.are_formed.ensures.formed c.if-are_formed.true c.in-Ok.ensures.some.0 c.args.name.now c.in-Ok.ensures.some.1

pub returns-else-are_formed-clause-cause : goal.returns-else-are_formed-clause-cause
returns-else-are_formed-clause-cause g c = none_for_memory (g.F.Files.folder c.args.files.now) c.args.name.now
