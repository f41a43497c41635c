-- What the reader of sources says of a whole list of lexemes.
use Rattle.std.proofs.Common.{◌≡◌, ℕ, ◌≤◌, true, List, None, Ok, refl}
use Rattle.pascal_grammar.specs.declared.lexeme.Lexeme.{Lexeme}
use Rattle.pascal_grammar.specs.Parts as n
use Rattle.pascal_grammar.specs.Productions.{Production, allows}
use Rattle.pascal_grammar.specs.Productions as p
use Rattle.pascal_grammar.specs.Rules.{grammar}
use Rattle.pascal_grammar.proofs.Tables.{Follow}
use Rattle.ll1_grammar.specs.Grammar.{Has, Belongs, deep}
use Rattle.ll1_grammar.specs.Readers.{◌>>=◌}
use Rattle.ll1_grammar.specs.Sources.{Spells, ended}
use Rattle.ll1_grammar.proofs.Whole.{AllMeets, all_meets, all_only}
use Rattle.syntax_tree.specs.Expressions.{Parsed}
use Rattle.tp_parser.specs.Reading.{source_at}
use Rattle.tp_parser.proofs.Sound.{source_reads}

-- each production may stand at the end
pub welcome : (x : Production) → allows x None ≡ true
welcome p.without_else = refl
welcome x = refl

-- What is read is a tree that the lexemes spell, within the limit, and a fault is the first one.
pub source_meets : (d : ℕ) (ts : List Lexeme) → AllMeets grammar Follow n.source refl welcome d ts (source_at d ts >>= ended grammar n.source)
source_meets d ts = all_meets grammar Follow n.source refl welcome d ts (source_at d ts) (source_reads d ts)

-- What is spelled within the limit is read.
pub source_only : (d : ℕ) (ts : List Lexeme) (t : Parsed) → Spells grammar n.source t ts → Has (Belongs grammar) t → deep grammar t ≤ d → (source_at d ts >>= ended grammar n.source) ≡ Ok t
source_only d ts t s b h = all_only grammar Follow n.source refl welcome d ts (source_at d ts) (source_reads d ts) t s b h
