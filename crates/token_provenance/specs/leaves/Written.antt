-- Trees as sources spell them: what is kept of each lexeme is what the lexer may give.
use Rattle.std.specs.Prelude.{◌≤◌, ◌<◌, ℕ, IsTrue, All, List}
use Rattle.source_graph.specs.type_layout.declared.definitions.Host.TheVariants as host
use Rattle.source_graph.specs.type_layout.Storage.{holds}
use Rattle.source_graph.specs.tp_lexer.declared.token.Text.{Text}
use Rattle.source_graph.specs.ll1_grammar.Grammar.{Tree, nil, pair, leaf, node, deep}
use Rattle.source_graph.specs.ll1_grammar.whole_trees.Whole.{IsWhole}
use Rattle.source_graph.specs.pascal_grammar.Lexemes.{Kept}
use Rattle.source_graph.specs.pascal_grammar.Lexemes as v
use Rattle.source_graph.specs.pascal_grammar.Rules.{grammar}
use Rattle.source_graph.specs.syntax_tree.Expressions.{Parsed}
use Rattle.source_graph.specs.tp_parser.Parsing.{limit}
use Rattle.units_well_formed.specs.bodies_well_formed.expressions.Literals.{IsText}

-- a number has 32 bits, a string constant and a name at most 255 bytes
abbrev pub IsWrittenLeaf : Kept → Type 0
IsWrittenLeaf (v.number n here) = IsTrue (holds host.LongInt n n)
IsWrittenLeaf (v.text bytes here) = IsText bytes
IsWrittenLeaf (v.named name here) = IsText name
IsWrittenLeaf other = Unit {0}

-- each leaf is one of these
abbrev pub HasLeaves : {V P : Type 0} → (V → Type 0) → Tree V P → Type 0
HasLeaves A nil = Unit {0}
HasLeaves A (pair t u) = HasLeaves A t × HasLeaves A u
HasLeaves A (leaf v) = A v
HasLeaves A (node p t) = HasLeaves A t

-- What the lexer gives is in each leaf, no part is lost, and no more constructs are open at once than may be.
pub record IsSpelled (t : Parsed) : Type 0 where
  pub leaves : HasLeaves IsWrittenLeaf t
  pub whole : IsWhole t
  pub deep : deep grammar t ≤ limit

-- a text is made of bytes
abbrev pub IsOfBytes : Text → Type 0
IsOfBytes text = All (λ (byte : ℕ). byte < 256) text.bytes

abbrev pub AreTexts : List Text → Type 0
AreTexts texts = All IsOfBytes texts
