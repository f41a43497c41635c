use Rattle.lowering_simulation.proofs.Waits.{context_laws, zero_turn_laws}
use Rattle.lowering_simulation.proofs.Meets.{following_laws}
use Rattle.lowering_simulation.proofs.Nodes.{node_laws}
use Rattle.lowering_simulation.proofs.Routines.{call_laws}
use Rattle.lowering_simulation.proofs.Loops.{while_follows}
use Rattle.lowering_simulation.proofs.Programs.{program_follows}
use Rattle.lowering_simulation.proofs.Examples.{example_follows}
use Rattle.lowering_simulation.proofs.lowering_simulation_laws.Goals as goal

pub returns-clause-zero_turns : goal.returns-clause-zero_turns
returns-clause-zero_turns g c = zero_turn_laws

pub returns-clause-contexts : goal.returns-clause-contexts
returns-clause-contexts g c = context_laws

pub returns-clause-following : goal.returns-clause-following
returns-clause-following g c = λ few. following_laws few g.A.Related.related g.A.Related.wider g.B.Related.related

pub returns-clause-nodes : goal.returns-clause-nodes
returns-clause-nodes g c = λ few program choice f. node_laws few program choice f g.A.Related.related g.B.Related.related

pub returns-clause-calls : goal.returns-clause-calls
returns-clause-calls g c = λ few program choice f. call_laws few program choice f g.R.Represented.returned

pub returns-clause-loops : goal.returns-clause-loops
returns-clause-loops g c = while_follows g.R.Represented.between g.R.Represented.decided g.R.Represented.ran g.R.Represented.ended

pub returns-clause-programs : goal.returns-clause-programs
returns-clause-programs g c = program_follows g.R.Represented.between

pub returns-clause-example : goal.returns-clause-example
returns-clause-example g c = example_follows
