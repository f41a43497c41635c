-- That one lexeme ahead decides, and that lexemes spell one tree at most.
use Rattle.std.specs.Prelude.{◌≡◌, List, Option, Some, true}
use Rattle.ll1_grammar.specs.Grammar.{Tree, part, node, front, Fit, Has, Belongs}
use Rattle.ll1_grammar.specs.Sources.{Spells}
use Rattle.pascal_grammar.specs.declared.kind.Kind.{Kind}
use Rattle.pascal_grammar.specs.declared.lexeme.Lexeme.{Lexeme}
use Rattle.pascal_grammar.specs.Parts.{Part}
use Rattle.pascal_grammar.specs.Parts as n
use Rattle.pascal_grammar.specs.Productions.{Production}
use Rattle.pascal_grammar.specs.Lexemes.{Kept}
use Rattle.pascal_grammar.specs.Rules.{grammar}
use Rattle.pascal_grammar.specs.Choices.{choose}
use Rattle.pascal_grammar.specs.Follows.{follows}

-- the first lexeme of a tree's spelling, or what comes behind if it has none, chooses the tree's production
abbrev pub IsPredicted : Type 0
IsPredicted = (m : Part) (q : Production) (t : Tree Kept Production) (l : List Lexeme) (h : Option Kind) → Fit grammar (part m) (node q t) l h → follows m h ≡ true → choose m (front grammar l h) ≡ Some q

-- each part has a tree of the profile, which may stand before all that may follow the part, but an else
abbrev pub IsInhabited : Type 0
IsInhabited = (m : Part) (h : Option Kind) → follows m h ≡ true → ((q : Production) → grammar.allows q h ≡ true) → (t : Tree Kept Production) × (l : List Lexeme) × Fit grammar (part m) t l h × Has (Belongs grammar) t

-- at most one tree is spelled
abbrev pub IsUnambiguous : Type 0
IsUnambiguous = (t u : Tree Kept Production) (l : List Lexeme) → Spells grammar n.source t l → Spells grammar n.source u l → t ≡ u
