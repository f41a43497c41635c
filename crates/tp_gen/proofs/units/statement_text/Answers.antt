use Rattle.std.proofs.Common.{◌∙◌, refl}
use Rattle.std.proofs.lemmas.Result.{IfOk-weaker}
use Rattle.tp_gen.specs.Units.{statement_text}
use Rattle.tp_gen.proofs.units.statement_text.Goals as goal

pub returns : goal.returns
unfolding statement_text
returns c = IfOk-weaker c.format.result _ _ (λ text is. is ∙ rw c.in_ok-calls.ensures refl) c.format.ensures.ok
