use Rattle.resident_machine.proofs.RunLaws.{runs_once, astray_stops, goes_or_strays, runs_compose, framed_runs}
use Rattle.resident_machine.proofs.laws.run_law.Goals as goal

pub returns-clause-one : goal.returns-clause-one
returns-clause-one c = runs_once

pub returns-clause-compose : goal.returns-clause-compose
returns-clause-compose c = runs_compose

pub returns-clause-framed : goal.returns-clause-framed
returns-clause-framed c = framed_runs

pub returns-clause-astray : goal.returns-clause-astray
returns-clause-astray c = astray_stops

pub returns-clause-either : goal.returns-clause-either
returns-clause-either c = goes_or_strays
