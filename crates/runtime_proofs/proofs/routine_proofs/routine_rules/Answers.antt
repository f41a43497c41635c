use Rattle.runtime_proofs.proofs.routine_proofs.Steps.{straight-comes}
use Rattle.runtime_proofs.proofs.routine_proofs.Calls.{computes-so}
use Rattle.runtime_proofs.proofs.routine_proofs.routine_rules.Goals as goal

pub returns-clause-straight : goal.returns-clause-straight
returns-clause-straight c = straight-comes

pub returns-clause-computes : goal.returns-clause-computes
returns-clause-computes c = λ program choice key unit r held_so fits stack words turns work g. computes-so program choice key unit r stack words turns work g held_so fits
