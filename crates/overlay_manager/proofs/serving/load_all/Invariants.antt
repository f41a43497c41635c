use Rattle.std.proofs.Common.{◌≡◌, ℕ, ◌<◌, ◌≤◌, length, drop, IfSome}
use Rattle.std.specs.Prelude.{IsTrue, slice_get}
use Rattle.tp_outside.specs.Folder.{bytes_of}
use Rattle.return_repair.specs.Follows.{overlay_at}
use Rattle.overlay_manager.specs.Loading.{is_moved, with_loads, IsWhole, OnlyWithin}
use Rattle.overlay_manager.specs.Stops.{LieWithin}
use Rattle.overlay_manager.proofs.serving.load_all.Given as goal

-- what is loaded and what is left are all
abbrev pub invariant-loop-number : goal.invariant-loop-number
invariant-loop-number g l = record {
  block : length l.block ≡ 512;
  unchanged : g.F.Files.folder l.files ≡ g.F.Files.folder l.initial.files;
  counted : g.F.Files.faults l.initial.files ≤ g.F.Files.faults l.files;
  told : IfSome (g.F.Files.folder l.initial.files) (λ held.
      record l.machine { memory = with_loads (bytes_of held l.name) (drop l.number l.entries) (drop l.number l.tables.old.items) (drop l.number l.tables.new.items) l.machine.memory }
      ≡ record l.initial.machine { memory = with_loads (bytes_of held l.name) l.entries l.tables.old.items l.tables.new.items l.initial.machine.memory });
  whole : IfSome (g.F.Files.folder l.initial.files) (λ held. (v : ℕ) → v < l.number → IsTrue (is_moved (overlay_at l.tables.old.items v) (overlay_at l.tables.new.items v))
      → IfSome (slice_get l.entries v) (λ entry. 0 < entry.size → IsWhole (bytes_of held l.name) entry));
  others : l.machine ≡ record l.initial.machine { memory = l.machine.memory };
  within : (low high : ℕ) → LieWithin low high l.entries l.tables.old.items l.tables.new.items → OnlyWithin low high l.initial.machine.memory l.machine.memory;
}
