use Rattle.std.proofs.Common.{◌≡◌, ◌-◌, ◌≤◌, take, length, IfSome}
use Rattle.tp_outside.specs.Folder.{bytes_of}
use Rattle.overlay_manager.specs.Code.{part_of}
use Rattle.overlay_manager.proofs.filling.fill.Given as goal

abbrev pub invariant-loop-done : goal.invariant-loop-done
invariant-loop-done g l = (l.done ≤ length l.into)
    × (g.F.Files.folder l.files ≡ g.F.Files.folder l.initial.files)
    × (g.F.Files.faults l.initial.files ≤ g.F.Files.faults l.files)
    × IfSome (g.F.Files.folder l.initial.files) (λ held. take l.done l.into ≡ part_of (bytes_of held l.name) l.place l.done)

abbrev pub decreases-loop-done : goal.decreases-loop-done
decreases-loop-done g l = length l.into - l.done
