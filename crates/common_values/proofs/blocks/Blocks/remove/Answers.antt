use Rattle.std.proofs.Common.{sym, ap, ◌∙◌, subst}
use Rattle.common_values.specs.Blocks.{block_sum}
use Rattle.common_values.specs.BlockLaws.{IsCounted}
use Rattle.common_values.proofs.BlockLemmas.{sum_laws, counted_without}
use Rattle.common_values.proofs.blocks.Blocks.remove.Goals as goal

pub invariant_of-self : goal.invariant_of-self
invariant_of-self c =
    let rows = c.remove_block.ensures in
    (subst IsCounted (sym rows) (counted_without c.rounded.result c.self.inside.rows.items c.self.invariant.0), c.self.invariant.1 ∙ sym (sum_laws.stays c.rounded.result c.self.inside.rows.items) ∙ ap block_sum (sym rows))
