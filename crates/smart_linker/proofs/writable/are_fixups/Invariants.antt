use Rattle.std.proofs.Common.{drop}
use Rattle.overlay_file.specs.Format.{AreFixups}
use Rattle.smart_linker.proofs.writable.are_fixups.Given as goal

-- all are fixups if those that are left are
abbrev pub invariant-loop-fixup : goal.invariant-loop-fixup
invariant-loop-fixup l = AreFixups l.size l.least (drop l.fixup-index l.fixups) → AreFixups l.size 0 l.fixups
