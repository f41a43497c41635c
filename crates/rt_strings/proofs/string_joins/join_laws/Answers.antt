use Rattle.rt_strings.proofs.string_joins.Joining.{joins}
use Rattle.rt_strings.proofs.string_joins.Inserting.{inserts}
use Rattle.rt_strings.proofs.string_joins.join_laws.Goals as goal

pub returns-clause-concat : goal.returns-clause-concat
returns-clause-concat c = joins

pub returns-clause-insert : goal.returns-clause-insert
returns-clause-insert c = inserts
