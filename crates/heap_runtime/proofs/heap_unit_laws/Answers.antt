use Rattle.std.specs.Prelude.{IsTrue}
use Rattle.heap_runtime.proofs.Works.{heap-works}
use Rattle.heap_runtime.proofs.Places.{has-overlay, has-scratch, heap-places}
use Rattle.heap_runtime.proofs.Leaves.{leaves}
use Rattle.heap_runtime.proofs.Starting.{starts, scratch-starts, fits-runtime}
use Rattle.heap_runtime.proofs.heap_unit_laws.Goals as goal

pub returns-clause-works : goal.returns-clause-works
returns-clause-works c = heap-works

pub returns-clause-places : goal.returns-clause-places
returns-clause-places c = λ program choice reached legal holds. heap-places program choice (λ mention. IsTrue (reached mention)) legal holds

pub returns-clause-overlay : goal.returns-clause-overlay
returns-clause-overlay c = λ program choice reached legal holds. has-overlay program choice (λ mention. IsTrue (reached mention)) legal holds

pub returns-clause-starts : goal.returns-clause-starts
returns-clause-starts c = λ program choice reached. starts program choice (λ mention. IsTrue (reached mention))

pub returns-clause-scratch : goal.returns-clause-scratch
returns-clause-scratch c = λ program choice reached legal holds. has-scratch program choice (λ mention. IsTrue (reached mention)) legal holds

pub returns-clause-scratch_starts : goal.returns-clause-scratch_starts
returns-clause-scratch_starts c = λ program choice reached. scratch-starts program choice (λ mention. IsTrue (reached mention))

pub returns-clause-fits : goal.returns-clause-fits
returns-clause-fits c = fits-runtime

pub returns-clause-leaves : goal.returns-clause-leaves
returns-clause-leaves c = leaves
