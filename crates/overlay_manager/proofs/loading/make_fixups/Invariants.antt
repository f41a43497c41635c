use Rattle.std.proofs.Common.{◌≡◌, ◌-◌, ◌*◌}
use Rattle.mz_file.specs.Words.{words_at}
use Rattle.overlay_manager.specs.Code.{with_fixups}
use Rattle.overlay_manager.proofs.loading.make_fixups.Given as goal

-- the fixups made and those that are left are all
abbrev pub invariant-loop-k : goal.invariant-loop-k
invariant-loop-k l =
    record l.machine { memory = with_fixups l.size l.segment l.machine.memory (words_at l.bytes (2 * l.k) (l.count - l.k)) }
    ≡ record l.initial.machine { memory = with_fixups l.size l.segment l.initial.machine.memory (words_at l.bytes 0 l.count) }
