use Rattle.std.proofs.Common.{◌≡◌, ℕ, ◌+◌, ◌-◌, ◌*◌, ◌<◌, ◌≤◌, length, IfSome}
use Rattle.mz_file.specs.Words.{words_at}
use Rattle.tp_outside.specs.Folder.{bytes_of}
use Rattle.overlay_manager.specs.Code.{with_fixups}
use Rattle.overlay_manager.specs.Loading.{LiesWithin, OnlyWithin}
use Rattle.overlay_manager.proofs.loading.load_fixups.Given as goal

-- so many of the fixups are made
abbrev pub invariant-loop-done : goal.invariant-loop-done
invariant-loop-done g l = record {
  bound : l.done ≤ l.all;
  block : length l.block ≡ 512;
  unchanged : g.F.Files.folder l.files ≡ g.F.Files.folder l.initial.files;
  counted : g.F.Files.faults l.initial.files ≤ g.F.Files.faults l.files;
  told : IfSome (g.F.Files.folder l.initial.files) (λ held. l.machine ≡ record l.initial.machine { memory = with_fixups l.size l.segment l.initial.machine.memory (words_at (bytes_of held l.name) l.place l.done) });
  whole : IfSome (g.F.Files.folder l.initial.files) (λ held. 0 < l.done → l.place + 2 * l.done ≤ length (bytes_of held l.name));
  others : l.machine ≡ record l.initial.machine { memory = l.machine.memory };
  within : (low high : ℕ) → LiesWithin low high l.segment l.size → OnlyWithin low high l.initial.machine.memory l.machine.memory;
}

abbrev pub decreases-loop-done : goal.decreases-loop-done
decreases-loop-done g l = l.all - l.done
