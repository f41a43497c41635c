use Rattle.std.proofs.Common.{◌≡◌, ◌≤◌, ◌-◌, ◌^◌, IfSome, length}
use Rattle.source_graph.proofs.AnswerLaws.{HasIncluded}
use Rattle.source_graph.proofs.FolderLaws.{InSome}
use Rattle.source_graph.proofs.lexing.tokens_of.Given as goal

-- some of what the text includes was read
abbrev pub invariant-includes : goal.invariant-includes
invariant-includes g l =
    IfSome (g.F.Files.folder l.initial.files) (λ held. HasIncluded held l.main l.initial.texts l.texts)
    × (g.F.Files.folder l.files ≡ g.F.Files.folder l.initial.files)
    × (g.F.Files.faults l.initial.files ≤ g.F.Files.faults l.files)
    × (length l.initial.texts ≤ length l.texts)
    × InSome (λ held. HasIncluded held l.main l.initial.texts l.texts)

abbrev pub decreases-includes : goal.decreases-includes
decreases-includes g l = 2 ^ 32 - length l.texts
