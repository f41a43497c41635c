use Rattle.overlay_simulation.proofs.FoundLaws.{found, returns}
use Rattle.overlay_simulation.proofs.found_law.Goals as goal

pub returns-clause-found : goal.returns-clause-found
returns-clause-found c = λ p table told. found p table told

pub returns-clause-denoted : goal.returns-clause-denoted
returns-clause-denoted c = λ p table records told leads. returns p table told records leads
