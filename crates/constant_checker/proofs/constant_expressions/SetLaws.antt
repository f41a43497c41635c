-- Which elements a constant set has.
use Rattle.std.proofs.Common.{◌≡◌, ℕ, ◌&&◌, ap, ◌∙◌, arith, leb}
use Rattle.std.proofs.lemmas.Bool.{le-leb}
use Rattle.common_values.specs.Sets.{contains}
use Rattle.common_values.proofs.SetLemmas.{element_laws}
use Rattle.constant_checker.specs.constant_expressions.Values.{every_byte}
use Rattle.constant_checker.specs.constant_expressions.Laws.{AreSetsOf}

every : (e : ℕ) → contains every_byte e ≡ leb e 255
unfolding every_byte
every e = element_laws.between 0 255 e ∙ ap (λ v. v && leb e 255) (le-leb 0 e (omega arith))

pub sets : AreSetsOf
sets ty elements e = element_laws.intersection every_byte elements e ∙ ap (λ v. v && contains elements e) (every e)
