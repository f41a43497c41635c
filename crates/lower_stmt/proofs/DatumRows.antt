-- Literals of one part behind those of another.
use Rattle.std.proofs.Common.{◌≡◌, List, ◌++◌, sym, ap, ◌∙◌}
use Rattle.std.proofs.lemmas.List.{append_assoc}
use Rattle.flat_code.specs.Program.{Datum}

pub both_parts : (old between one other all : List Datum) → between ≡ old ++ one → all ≡ one ++ other → between ++ other ≡ old ++ all
both_parts old between one other all first both = ap (λ z. z ++ other) first ∙ append_assoc old one other ∙ ap (λ z. old ++ z) (sym both)
