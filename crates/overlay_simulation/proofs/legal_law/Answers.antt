use Rattle.overlay_simulation.proofs.LegalLaws.{told}
use Rattle.overlay_simulation.proofs.legal_law.Goals as goal

pub returns : goal.returns
returns c = λ p m seats manages segments sound. told p m seats manages segments sound
