use Rattle.std.proofs.Common.{◌∙◌, refl}
use Rattle.std.proofs.lemmas.Result.{IfOk-weaker}
use Rattle.tp_gen.specs.Programs.{program_text}
use Rattle.tp_gen.proofs.program.program_text.Goals as goal

pub returns : goal.returns
unfolding program_text
returns c = IfOk-weaker c.format.result _ _ (λ text is. is ∙ rw (c.in_ok-used.ensures, c.in_ok-directives.ensures) refl) c.format.ensures.ok
