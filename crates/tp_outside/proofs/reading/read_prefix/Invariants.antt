use Rattle.std.proofs.Common.{◌-◌, ◌≡◌, ◌≤◌, take, IfSome}
use Rattle.tp_outside.specs.Folder.{bytes_of}
use Rattle.tp_outside.proofs.reading.read_prefix.Given as goal

abbrev pub invariant-loop-at : goal.invariant-loop-at
invariant-loop-at g l = (l.at ≤ l.size)
    × (g.F.Files.folder l.files ≡ g.F.Files.folder l.initial.files)
    × (g.F.Files.faults l.initial.files ≤ g.F.Files.faults l.files)
    × IfSome (g.F.Files.folder l.initial.files) (λ held. l.bytes.items ≡ take l.at (bytes_of held l.name))

abbrev pub decreases-loop-at : goal.decreases-loop-at
decreases-loop-at g l = l.size - l.at
