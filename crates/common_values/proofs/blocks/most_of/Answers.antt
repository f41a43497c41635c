use Rattle.std.proofs.Common.{sym, ◌∙◌}
use Rattle.common_values.proofs.BlockLemmas.{placed, nowhere}
use Rattle.common_values.proofs.blocks.most_of.Goals as goal

pub returns-in-Some : goal.returns-in-Some
returns-in-Some c = sym (placed c.args.size c.args.rows.now c.in-Some.place _ (sym c.place_of.ensures.value ∙ c.in-Some.is)).most

pub returns-in-None : goal.returns-in-None
returns-in-None c = sym (nowhere c.args.size c.args.rows.now (sym c.place_of.ensures.value ∙ c.in-None.is)).most
