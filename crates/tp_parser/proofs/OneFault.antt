-- Tokens have one fault at most, and none where they spell a source.
use Rattle.std.proofs.Common.{◌≡◌, ℕ, List, refl, sym, ap, ◌∙◌}
use Rattle.type_layout.specs.declared.texts.Place.{Place}
use Rattle.pascal_grammar.specs.Parts as n
use Rattle.pascal_grammar.specs.Rules.{grammar}
use Rattle.pascal_grammar.specs.Omissions.{omitted}
use Rattle.ll1_grammar.specs.Readers as f
use Rattle.ll1_grammar.proofs.Faults as faults
use Rattle.tp_lexer.specs.declared.token.Token.{Token}
use Rattle.pascal_grammar.specs.lexeme_list.Lexemes.{lexemes_of}
use Rattle.syntax_tree.specs.Expressions.{Parsed}
use Rattle.tp_parser.specs.Parsing.{limit, IsSource, place_at, IsFault, AreAlike}
use Rattle.tp_parser.specs.declared.error.ParseError.{ParseError}
use Rattle.tp_parser.specs.declared.error.ParseError.TheVariants as e

module _ (tokens : List Token) where
  abbrev at : ℕ → Place
  at left = place_at tokens (lexemes_of tokens) left

  pub alike : (x y : ParseError) → IsFault tokens x → IsFault tokens y → AreAlike x y
  alike e.NoMemory y i j = tt
  alike (e.Syntax a) e.NoMemory i j = tt
  alike (e.Syntax a) (e.Syntax b) i j = i.2 ∙ ap at (faults.one_fault grammar n.source limit (lexemes_of tokens) (f.Syntax i.0) (f.Syntax j.0) i.1 j.1) ∙ sym j.2
  alike (e.Syntax a) (e.NotInProfile b w) i j = faults.one_fault grammar n.source limit (lexemes_of tokens) (f.Syntax i.0) (f.LeftOut (omitted j.0) j.1) i.1 j.2
  alike (e.Syntax a) (e.TooDeep b) i j = faults.one_fault grammar n.source limit (lexemes_of tokens) (f.Syntax i.0) (f.TooDeep j.0) i.1 j.1
  alike (e.NotInProfile a v) e.NoMemory i j = tt
  alike (e.NotInProfile a v) (e.Syntax b) i j = faults.one_fault grammar n.source limit (lexemes_of tokens) (f.LeftOut (omitted i.0) i.1) (f.Syntax j.0) i.2 j.1
  alike (e.NotInProfile a v) (e.NotInProfile b w) i j = i.3 ∙ ap at (faults.one_fault grammar n.source limit (lexemes_of tokens) (f.LeftOut (omitted i.0) i.1) (f.LeftOut (omitted j.0) j.1) i.2 j.2) ∙ sym j.3
  alike (e.NotInProfile a v) (e.TooDeep b) i j = faults.one_fault grammar n.source limit (lexemes_of tokens) (f.LeftOut (omitted i.0) i.1) (f.TooDeep j.0) i.2 j.1
  alike (e.TooDeep a) e.NoMemory i j = tt
  alike (e.TooDeep a) (e.Syntax b) i j = faults.one_fault grammar n.source limit (lexemes_of tokens) (f.TooDeep i.0) (f.Syntax j.0) i.1 j.1
  alike (e.TooDeep a) (e.NotInProfile b w) i j = faults.one_fault grammar n.source limit (lexemes_of tokens) (f.TooDeep i.0) (f.LeftOut (omitted j.0) j.1) i.1 j.2
  alike (e.TooDeep a) (e.TooDeep b) i j = i.2 ∙ ap at (faults.one_fault grammar n.source limit (lexemes_of tokens) (f.TooDeep i.0) (f.TooDeep j.0) i.1 j.1) ∙ sym j.2

  pub none : (t : Parsed) (x : ParseError) → IsSource tokens t → IsFault tokens x → x ≡ e.NoMemory
  none t e.NoMemory s i = refl
  none t (e.Syntax a) s i = absurd (faults.no_tree grammar n.source limit (lexemes_of tokens) (f.Syntax i.0) i.1 t s.spells s.has s.deep)
  none t (e.NotInProfile a w) s i = absurd (faults.no_tree grammar n.source limit (lexemes_of tokens) (f.LeftOut (omitted i.0) i.1) i.2 t s.spells s.has s.deep)
  none t (e.TooDeep a) s i = absurd (faults.no_tree grammar n.source limit (lexemes_of tokens) (f.TooDeep i.0) i.1 t s.spells s.has s.deep)
