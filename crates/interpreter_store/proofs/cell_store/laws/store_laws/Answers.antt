use Rattle.interpreter_store.proofs.cell_store.Heaps.{made_is}
use Rattle.interpreter_store.proofs.cell_store.laws.store_laws.Goals as goal

pub returns : goal.returns
returns c = made_is
