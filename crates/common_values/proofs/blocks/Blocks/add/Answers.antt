use Rattle.std.proofs.Common.{◌≡◌, ◌<◌, ◌^◌, List, sym, ap, ◌∙◌, subst, arith}
use Rattle.common_values.specs.declared.blocks.Row.{Row}
use Rattle.common_values.specs.Blocks.{block_sum, with_block}
use Rattle.common_values.specs.BlockLaws.{IsCounted}
use Rattle.common_values.proofs.BlockLemmas.{few_live, counted_with, sum_laws}
use Rattle.common_values.proofs.blocks.Blocks.add.Goals as goal

pub add_block-requires : goal.add_block-requires
add_block-requires c =
    let grown = sum_laws.grows c.rounded-size.result c.self.inside.rows.items c.self.invariant.0 in
    let seen : c.sum_with-sum.result ≡ block_sum (with_block c.rounded-size.result c.self.inside.rows.items) = c.sum_with-sum.ensures ∙ ap (λ (l : List Row). block_sum (with_block c.rounded-size.result l)) (sym c.self.view_is) in
    let small : block_sum c.self.inside.rows.items < 2 ^ 32 = omega arith in
    few_live c.rounded-size.result c.self.inside.rows.items (omega arith) c.self.invariant.0 small

pub invariant_of-self-2 : goal.invariant_of-self-2
invariant_of-self-2 c =
    let rows = c.in_ok-add_block.ensures.ok in
    let seen : block_sum (with_block c.rounded-size.result c.args.self.now) ≡ block_sum c.add_block.new.rows.items = ap (λ (l : List Row). block_sum (with_block c.rounded-size.result l)) (sym c.self.view_is) ∙ ap block_sum (sym rows) in
    (subst IsCounted (sym rows) (counted_with c.rounded-size.result c.self.inside.rows.items c.self.invariant.0), c.sum_with-sum.ensures ∙ seen)
