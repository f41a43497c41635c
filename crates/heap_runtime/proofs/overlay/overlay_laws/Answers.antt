use Rattle.heap_runtime.proofs.overlay.Installing.{installs}
use Rattle.heap_runtime.proofs.overlay.Clearing.{sets-buffer, clears-buffer}
use Rattle.heap_runtime.proofs.overlay.overlay_laws.Goals as goal

pub returns-clause-init : goal.returns-clause-init
returns-clause-init c = installs

pub returns-clause-set_buffer : goal.returns-clause-set_buffer
returns-clause-set_buffer c = sets-buffer

pub returns-clause-clear_buffer : goal.returns-clause-clear_buffer
returns-clause-clear_buffer c = clears-buffer
