use Rattle.statement_simulation.proofs.stores.Stores.{store_word_runs, store_byte_runs}
use Rattle.statement_simulation.proofs.stores.laws.store_law.Goals as goal

pub returns-clause-word : goal.returns-clause-word
returns-clause-word c = store_word_runs

pub returns-clause-byte : goal.returns-clause-byte
returns-clause-byte c = store_byte_runs
