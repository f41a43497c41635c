use Rattle.flat_code.proofs.Whole.{flat_run-IsRun}
use Rattle.flat_code.proofs.Nodes.{node_laws}
use Rattle.flat_code.proofs.Shut.{run-shut}
use Rattle.flat_code.proofs.PlainLegal.{plain_legal}
use Rattle.flat_code.proofs.Negation.{computes}
use Rattle.flat_code.proofs.Sums.{weight-then}
use Rattle.flat_code.proofs.flat_laws.Goals as goal

pub returns-clause-runs : goal.returns-clause-runs
returns-clause-runs c = flat_run-IsRun

pub returns-clause-nodes : goal.returns-clause-nodes
returns-clause-nodes c = node_laws

pub returns-clause-shut : goal.returns-clause-shut
returns-clause-shut c = run-shut

pub returns-clause-plain : goal.returns-clause-plain
returns-clause-plain c = plain_legal

pub returns-clause-runtime : goal.returns-clause-runtime
returns-clause-runtime c = computes

pub returns-clause-weights : goal.returns-clause-weights
returns-clause-weights c = weight-then
