use Rattle.std.specs.Prelude.{IsTrue}
use Rattle.heap_runtime.proofs.heap.Places as places
use Rattle.heap_runtime.proofs.heap.memory_laws.Goals as goal

pub returns-clause-places : goal.returns-clause-places
returns-clause-places c = λ program choice reached. places.places-of program choice (λ mention. IsTrue (reached mention))

pub returns-clause-begins : goal.returns-clause-begins
returns-clause-begins c = places.begins

pub returns-clause-kept : goal.returns-clause-kept
returns-clause-kept c = places.stays
