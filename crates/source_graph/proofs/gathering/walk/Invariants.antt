use Rattle.std.proofs.Common.{◌≡◌, ◌≤◌, ◌<◌, ◌-◌, ◌^◌, IfSome, length}
use Rattle.source_graph.proofs.AnswerLaws.{IsOn}
use Rattle.source_graph.proofs.FolderLaws.{InSome}
use Rattle.source_graph.proofs.gathering.walk.Given as goal

-- the walk has come to what is wanted
abbrev pub invariant-loop-next : goal.invariant-loop-next
invariant-loop-next g l =
    IfSome (g.F.Files.folder l.initial.files) (λ held. IsOn held l.name l.texts l.sources.items l.wanted.items)
    × (g.F.Files.folder l.files ≡ g.F.Files.folder l.initial.files)
    × (g.F.Files.faults l.initial.files ≤ g.F.Files.faults l.files)
    × (length l.sources.items < 2 ^ 32)
    × InSome (λ held. IsOn held l.name l.texts l.sources.items l.wanted.items)

abbrev pub decreases-loop-next : goal.decreases-loop-next
decreases-loop-next g l = 2 ^ 32 - length l.sources.items
