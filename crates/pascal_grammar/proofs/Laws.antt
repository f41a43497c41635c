-- The laws of the grammar.
use Rattle.std.proofs.Common.{refl}
use Rattle.ll1_grammar.proofs.Unique.{at_most_one}
use Rattle.pascal_grammar.specs.Parts as n
use Rattle.pascal_grammar.specs.Rules.{grammar}
use Rattle.pascal_grammar.specs.Choices.{choose}
use Rattle.pascal_grammar.specs.Laws.{IsPredicted, IsInhabited, IsUnambiguous}
use Rattle.pascal_grammar.proofs.Tables.{Follow, predict}
use Rattle.pascal_grammar.proofs.Somes.{some, joins}

pub is_predicted : IsPredicted
is_predicted = predict

pub is_inhabited : IsInhabited
is_inhabited m h f w = let s = some m in (s.tree, s.more, s.fits h w f, s.has)

pub is_unambiguous : IsUnambiguous
is_unambiguous t u l a b = at_most_one grammar Follow choose predict joins n.source refl t u l a b
