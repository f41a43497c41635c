use Rattle.address_independence.proofs.spelling.Trees.{typed_alike, shown_alike}
use Rattle.address_independence.proofs.spelling.laws.spelled_trees_laws.Goals as goal

pub returns-clause-typed : goal.returns-clause-typed
returns-clause-typed c = typed_alike

pub returns-clause-shown : goal.returns-clause-shown
returns-clause-shown c = shown_alike
