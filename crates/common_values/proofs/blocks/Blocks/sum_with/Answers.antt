use Rattle.std.proofs.Common.{◌≡◌, ◌+◌, List, sym, ap, ◌∙◌, arith}
use Rattle.common_values.specs.declared.blocks.Row.{Row}
use Rattle.common_values.specs.Blocks.{block_sum, live_of, most_of, with_block}
use Rattle.common_values.proofs.BlockLemmas.{sum_same, sum_more}
use Rattle.common_values.proofs.blocks.Blocks.sum_with.Goals as goal

pub returns-then-live_of-most_of : goal.returns-then-live_of-most_of
returns-then-live_of-most_of c =
    let live : c.live_of.result ≡ live_of c.args.size c.self.inside.rows.items = c.live_of.ensures ∙ ap (live_of c.args.size) c.deref.ensures.value in
    let most : c.most_of.result ≡ most_of c.args.size c.self.inside.rows.items = c.most_of.ensures ∙ ap (most_of c.args.size) c.deref-2.ensures.value in
    let same = sum_same c.args.size c.self.inside.rows.items c.self.invariant.0 (omega arith) in
    c.from-sum.ensures ∙ c.self.invariant.1 ∙ sym same ∙ ap (λ (l : List Row). block_sum (with_block c.args.size l)) c.self.view_is

pub returns-else-live_of-most_of : goal.returns-else-live_of-most_of
returns-else-live_of-most_of c =
    let live : c.live_of.result ≡ live_of c.args.size c.self.inside.rows.items = c.live_of.ensures ∙ ap (live_of c.args.size) c.deref.ensures.value in
    let most : c.most_of.result ≡ most_of c.args.size c.self.inside.rows.items = c.most_of.ensures ∙ ap (most_of c.args.size) c.deref-2.ensures.value in
    let more = sum_more c.args.size c.self.inside.rows.items c.self.invariant.0 (omega arith) in
    let sum : c.from-sum.result + c.from.result ≡ block_sum (with_block c.args.size c.self.inside.rows.items) = omega (arith, c.self.invariant.1) in
    sum ∙ ap (λ (l : List Row). block_sum (with_block c.args.size l)) c.self.view_is
