-- The parts get fewer.
use Rattle.std.proofs.Common.{◌+◌, ◌*◌, length}
use Rattle.interpreter_store.proofs.typed_cells.assignment.+over.Given as goal

abbrev pub decreases-append_over : goal.decreases-append_over
decreases-append_over l = 3 * length l.parts.now

abbrev pub decreases-append_part : goal.decreases-append_part
decreases-append_part l = 3 * length l.parts.now + 2

abbrev pub decreases-append_kept : goal.decreases-append_kept
decreases-append_kept l = 3 * length l.parts.now + 1
