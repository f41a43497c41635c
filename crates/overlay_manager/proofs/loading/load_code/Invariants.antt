use Rattle.std.proofs.Common.{◌≡◌, ℕ, ◌+◌, ◌-◌, ◌<◌, ◌≤◌, length, IfSome}
use Rattle.cpu_8086.specs.Process.{with_bytes}
use Rattle.tp_outside.specs.Folder.{bytes_of}
use Rattle.overlay_manager.specs.Code.{part_of}
use Rattle.overlay_manager.specs.Loading.{LiesWithin, OnlyWithin}
use Rattle.overlay_manager.proofs.loading.load_code.Given as goal

-- so much of the code is loaded
abbrev pub invariant-loop-done : goal.invariant-loop-done
invariant-loop-done g l = record {
  bound : l.done ≤ l.size;
  block : length l.block ≡ 512;
  unchanged : g.F.Files.folder l.files ≡ g.F.Files.folder l.initial.files;
  counted : g.F.Files.faults l.initial.files ≤ g.F.Files.faults l.files;
  told : IfSome (g.F.Files.folder l.initial.files) (λ held. l.machine ≡ record l.initial.machine { memory = with_bytes l.initial.machine.memory l.segment 0 (part_of (bytes_of held l.name) l.place l.done) });
  whole : IfSome (g.F.Files.folder l.initial.files) (λ held. 0 < l.done → l.place + l.done ≤ length (bytes_of held l.name));
  others : l.machine ≡ record l.initial.machine { memory = l.machine.memory };
  within : (low high : ℕ) → LiesWithin low high l.segment l.size → OnlyWithin low high l.initial.machine.memory l.machine.memory;
}

abbrev pub decreases-loop-done : goal.decreases-loop-done
decreases-loop-done g l = l.size - l.done
