use Rattle.std.proofs.Common.{◌∙◌, refl}
use Rattle.std.proofs.lemmas.Result.{IfOk-weaker}
use Rattle.tp_gen.specs.Units.{unit_text}
use Rattle.tp_gen.proofs.units.unit_text.Goals as goal

pub returns : goal.returns
unfolding unit_text
returns c =
    IfOk-weaker c.format.result _ _
    (λ text is. is ∙ rw (c.in_ok-header.ensures, c.in_ok-uses.ensures, c.in_ok-statement.ensures) refl) c.format.ensures.ok
