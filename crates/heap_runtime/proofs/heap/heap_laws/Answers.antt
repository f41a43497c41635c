use Rattle.heap_runtime.proofs.heap.Among.{of-contains}
use Rattle.heap_runtime.proofs.heap.Few.{few-lists}
use Rattle.heap_runtime.proofs.heap.Sound as sound
use Rattle.heap_runtime.proofs.heap.heap_laws.Goals as goal

pub returns-clause-made_sound : goal.returns-clause-made_sound
returns-clause-made_sound c = sound.made-sound

pub returns-clause-made_counts : goal.returns-clause-made_counts
returns-clause-made_counts c = sound.made-counts

pub returns-clause-disposed_sound : goal.returns-clause-disposed_sound
returns-clause-disposed_sound c = λ b h s live. sound.disposed-sound b h s (of-contains b h.live live)

pub returns-clause-disposed_counts : goal.returns-clause-disposed_counts
returns-clause-disposed_counts c = λ b h rows s live. sound.disposed-counts b h rows s (of-contains b h.live live)

pub returns-clause-few : goal.returns-clause-few
returns-clause-few c = few-lists
