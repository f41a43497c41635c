use Rattle.std.proofs.Common.{◌∙◌}
use Rattle.std.proofs.lemmas.Int.{to_z-of_z}
use Rattle.std.specs.Int.{w64}
use Rattle.common_values.proofs.OrdinalLemmas.{zeros_is, zeros_fit}
use Rattle.common_values.proofs.ordinals.with_zeros.Goals as goal

pub overflow_mul-result : goal.overflow_mul-result
overflow_mul-result c = zeros_fit c.args.value _ c.args.places c.ranges.value c.requires c.from.ensures

pub returns : goal.returns
returns c = to_z-of_z w64 _ (zeros_fit c.args.value _ c.args.places c.ranges.value c.requires c.from.ensures) ∙ zeros_is c.args.value _ c.args.places c.ranges.value c.requires c.from.ensures
