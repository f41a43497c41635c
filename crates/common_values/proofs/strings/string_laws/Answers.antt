use Rattle.common_values.proofs.StringLemmas.{piece_laws, position_laws, join_laws, order_laws}
use Rattle.common_values.proofs.strings.string_laws.Goals as goal

pub returns-clause-pieces : goal.returns-clause-pieces
returns-clause-pieces c = piece_laws

pub returns-clause-positions : goal.returns-clause-positions
returns-clause-positions c = position_laws

pub returns-clause-joins : goal.returns-clause-joins
returns-clause-joins c = join_laws

pub returns-clause-order : goal.returns-clause-order
returns-clause-order c = order_laws
