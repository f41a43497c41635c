use Rattle.std.proofs.Common.{arith}
use Rattle.std.proofs.lemmas.Int.{to_z-of_z}
use Rattle.interpreter_store.proofs.value_operators.Bitwise.{exclusive_is}
use Rattle.interpreter_store.proofs.value_operators.numbers.exclusive_disjunction.Goals as goal

pub returns : goal.returns
returns c = grind (arith, to_z-of_z, exclusive_is)
