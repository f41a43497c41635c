use Rattle.dos_runner.proofs.opened_program.MatchLaws.{some-found}
use Rattle.dos_runner.proofs.opened_program.opening.read_overlays.Goals as goal

pub returns-in_ok-read_ovr-in-Some-clause-some : goal.returns-in_ok-read_ovr-in-Some-clause-some
returns-in_ok-read_ovr-in-Some-clause-some g c =
    let found = c.in_ok-read_ovr-in-Some.ensures.found in
    some-found _ _ found.0 found.2
