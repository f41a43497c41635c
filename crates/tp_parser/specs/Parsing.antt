-- What it is for tokens to be a source, and for one of them to be at fault.
use Rattle.std.specs.Prelude.{◌≡◌, ℕ, ◌-◌, ◌≤◌, List, length, Option, Some, None, Result, Ok, Err}
use Rattle.std.specs.List.{slice_get}
use Rattle.type_layout.specs.declared.texts.Place.{Place}
use Rattle.tp_lexer.specs.declared.token.Token.{Token}
use Rattle.ll1_grammar.specs.Grammar.{Has, Belongs, deep}
use Rattle.ll1_grammar.specs.Sources.{Spells, IsSyntax, IsLeftOut, IsTooDeep, place}
use Rattle.pascal_grammar.specs.declared.lexeme.Lexeme.{Lexeme}
use Rattle.pascal_grammar.specs.declared.omission.Omission.{Omission}
use Rattle.pascal_grammar.specs.Omissions.{omitted, feature}
use Rattle.pascal_grammar.specs.Parts as n
use Rattle.pascal_grammar.specs.Rules.{grammar}
use Rattle.pascal_grammar.specs.lexeme_list.Lexemes.{lexemes_of}
use Rattle.syntax_tree.specs.Expressions.{Parsed}
use Rattle.syntax_tree.specs.declared.source_tree.source.Tree.{Tree}
use Rattle.syntax_tree.specs.source_tree.Sources.{of_tree}
use Rattle.expression_parser.specs.declared.error.ReadError.{ReadError}
use Rattle.expression_parser.specs.declared.error.ReadError.TheVariants as r
use Rattle.tp_parser.specs.declared.error.ParseError.{ParseError}
use Rattle.tp_parser.specs.declared.error.ParseError.TheVariants as e

-- the most constructs that may be open at once
abbrev pub limit : ℕ
limit = 200

-- The tokens, with the directives that may stand between them, spell the tree: it has nothing that is left out, and no more
-- constructs are open at once than may be.
pub record IsSource (tokens : List Token) (t : Parsed) : Type 0 where
  pub spells : Spells grammar n.source t (lexemes_of tokens)
  pub has : Has (Belongs grammar) t
  pub deep : deep grammar t ≤ limit

-- the answer is this tree, or out of memory
abbrev pub IsReadAs : Result Tree ParseError → Parsed → Type 0
IsReadAs (Ok tree) t = of_tree tree ≡ t
IsReadAs (Err e.NoMemory) t = Unit {0}
IsReadAs (Err x) t = ⊥

-- ---- faults and their places

abbrev pub token_place : Option Token → Place
token_place (Some token) = token.place
token_place None = record { text = 0; line = 1; column = 1 }

-- the place of the last token, and where there is none the first place of all
abbrev pub last_place : List Token → Place
last_place tokens = token_place (slice_get tokens (length tokens - 1))

abbrev pub place_or : Option Lexeme → Place → Place
place_or (Some lexeme) end = lexeme.position.place
place_or None end = end

-- the place of the lexeme from which so many are left, and at the end that of the last token
abbrev pub place_at : List Token → List Lexeme → ℕ → Place
place_at tokens lexemes left = place_or (slice_get lexemes (place lexemes left)) (last_place tokens)

-- what is answered where lexemes have a fault
abbrev pub placed : List Token → List Lexeme → ReadError → ParseError
placed tokens lexemes r.NoMemory = e.NoMemory
placed tokens lexemes (r.Syntax left) = e.Syntax (place_at tokens lexemes left)
placed tokens lexemes (r.LeftOut omission left) = e.NotInProfile (place_at tokens lexemes left) (feature omission)
placed tokens lexemes (r.TooDeep left) = e.TooDeep (place_at tokens lexemes left)

-- The fault is the first one, and stands at its place: the tokens before it begin a source within the limit, and
-- with the token there, or the end, they begin none. Then they either begin none in the full language; or they do, by what is
-- left out; or they do, but each has more constructs open by then than may be.
abbrev pub IsFault : List Token → ParseError → Type 0
IsFault tokens e.NoMemory = Unit {0}
IsFault tokens (e.Syntax at) = (left : ℕ) × IsSyntax grammar n.source limit (lexemes_of tokens) left × (at ≡ place_at tokens (lexemes_of tokens) left)
IsFault tokens (e.NotInProfile at what) = (omission : Omission) × (left : ℕ) × IsLeftOut grammar n.source limit (lexemes_of tokens) (omitted omission) left × (at ≡ place_at tokens (lexemes_of tokens) left) × (what ≡ feature omission)
IsFault tokens (e.TooDeep at) = (left : ℕ) × IsTooDeep grammar n.source limit (lexemes_of tokens) left × (at ≡ place_at tokens (lexemes_of tokens) left)

-- the same kind of fault at the same place; out of memory is like any
abbrev pub AreAlike : ParseError → ParseError → Type 0
AreAlike e.NoMemory y = Unit {0}
AreAlike x e.NoMemory = Unit {0}
AreAlike (e.Syntax a) (e.Syntax b) = a ≡ b
AreAlike (e.NotInProfile a what) (e.NotInProfile b other) = a ≡ b
AreAlike (e.TooDeep a) (e.TooDeep b) = a ≡ b
AreAlike x y = ⊥
