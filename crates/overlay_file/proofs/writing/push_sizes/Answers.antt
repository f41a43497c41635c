use Rattle.std.proofs.Common.{arith}
use Rattle.overlay_file.proofs.EntryLaws.{few_fixups}
use Rattle.overlay_file.proofs.writing.push_sizes.Goals as goal

pub overflow_cast-len-2 : goal.overflow_cast-len-2
overflow_cast-len-2 c = omega (arith, few_fixups c.args.overlay.now c.requires, c.len-2.ensures)
