use Rattle.common_values.proofs.BlockLemmas.{history_laws, sum_laws}
use Rattle.common_values.proofs.blocks.block_laws.Goals as goal

pub returns-clause-history : goal.returns-clause-history
returns-clause-history c = history_laws

pub returns-clause-sums : goal.returns-clause-sums
returns-clause-sums c = sum_laws
