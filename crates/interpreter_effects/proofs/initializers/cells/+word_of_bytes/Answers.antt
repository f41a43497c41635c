use Rattle.std.proofs.Common.{arith}
use Rattle.std.proofs.lemmas.Grind.{common_steps}
use Rattle.interpreter_effects.proofs.initializers.Numbers.{byte_fits}
use Rattle.interpreter_effects.proofs.initializers.cells.+word_of_bytes.Goals as goal

pub overflow_mul-result : goal.overflow_mul-result
overflow_mul-result t c = let w = byte_fits _ _ c.word_of_bytes.ensures.limit (grind (arith, common_steps)) in omega (arith, w)

pub overflow_add-result : goal.overflow_add-result
overflow_add-result t c = let w = byte_fits _ _ c.word_of_bytes.ensures.limit (grind (arith, common_steps)) in omega (arith, w)
