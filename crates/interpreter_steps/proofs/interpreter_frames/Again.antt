-- The equation that a whole run solves.
use Rattle.std.proofs.Common.{◌≡◌}
use Rattle.typed_tree.specs.declared.units.Program.{Program}
use Rattle.tp_meaning.specs.Outcomes.{State}
use Rattle.tp_meaning.specs.Activations.{Activation}
use Rattle.tp_meaning.specs.Calls.{Task}
use Rattle.tp_meaning.specs.Statements.{task}
use Rattle.tp_meaning.specs.Meaning.{run}
use Rattle.tp_meaning.proofs.Steps.{run_laws}

pub again : (p : Program) (one : Task) (f : Activation) (s : State) → run p one f s ≡ task p (run p) one f s
again p one f s = (run_laws p).steps one f s
