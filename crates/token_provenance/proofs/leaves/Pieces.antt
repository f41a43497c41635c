-- The tokens that pieces of a text give are what the lexer may give.
use Rattle.std.proofs.Common.{ℕ, Bool, true, false, cond, IsTrue, ◌==◌, List, [], ◌∷◌, drop, slice_index, Option, Some, None}
use Rattle.std.specs.List.{All}
use Rattle.std.specs.Option.{option_map_or}
use Rattle.std.proofs.lemmas.List.Elements.{All-nil, All-cons}
use Rattle.source_graph.specs.type_layout.declared.definitions.Host.TheVariants as host
use Rattle.source_graph.specs.type_layout.Storage.{holds}
use Rattle.source_graph.specs.type_layout.declared.texts.Place.{Place}
use Rattle.source_graph.specs.tp_lexer.declared.token.Token.{Token}
use Rattle.source_graph.specs.tp_lexer.declared.token.TokenKind.{TokenKind}
use Rattle.source_graph.specs.tp_lexer.declared.token.TokenKind.TheVariants as t
use Rattle.source_graph.specs.tp_lexer.declared.symbol.Symbol.{Symbol}
use Rattle.source_graph.specs.tp_lexer.declared.shape.Shape.{Shape}
use Rattle.source_graph.specs.tp_lexer.declared.shape.Shape.TheVariants as s
use Rattle.source_graph.specs.tp_lexer.declared.condition.Condition.{Condition}
use Rattle.source_graph.specs.tp_lexer.declared.directive.Changes.{Changes}
use Rattle.source_graph.specs.tp_lexer.declared.directive.Directive.{Directive}
use Rattle.source_graph.specs.tp_lexer.declared.directive.Directive.TheVariants as d
use Rattle.source_graph.specs.tp_lexer.declared.directive.Keyword.{Keyword}
use Rattle.source_graph.specs.tp_lexer.declared.directive.Keyword.TheVariants as k
use Rattle.source_graph.specs.tp_lexer.declared.piece.Piece.{Piece}
use Rattle.source_graph.specs.tp_lexer.declared.piece.Piece.TheVariants as p
use Rattle.source_graph.specs.tp_lexer.declared.piece.Passed.{Passed}
use Rattle.source_graph.specs.tp_lexer.declared.piece.Passed.TheVariants as x
use Rattle.source_graph.specs.tp_lexer.Words.{name_of, is_reserved}
use Rattle.source_graph.specs.tp_lexer.Numbers.{number_of}
use Rattle.source_graph.specs.tp_lexer.Contents.{content_of}
use Rattle.source_graph.specs.tp_lexer.Symbols.{symbol_of}
use Rattle.source_graph.specs.tp_lexer.Directives.{no_changes, changes_from, word_at, after_word, keyed, keyword_of, or_bad, switches_piece, keyword_piece, directive_piece}
use Rattle.source_graph.specs.tp_lexer.Pieces.{symbol_piece, number_piece, constant_piece, word_piece, body_of, comment_piece, piece_of, passed_of}
use Rattle.source_graph.specs.tp_lexer.Effects.{Context, Effect, goes, includes, fails, is_read, token, switches_after, turned, closed, conditioned, directed, effect_of, passed_effect}
use Rattle.source_graph.specs.tp_lexer.Tokens.{effect_at}
use Rattle.units_well_formed.specs.bodies_well_formed.expressions.Literals.{IsText}
use Rattle.token_provenance.proofs.leaves.Contents.{IsByte, IsTextOrNone, name_of_text, number_held, content_text}

-- what a token holds is what the lexer may give
abbrev pub IsWrittenKind : TokenKind → Type 0
IsWrittenKind (t.Word name) = IsText name
IsWrittenKind (t.Number n) = IsTrue (holds host.LongInt n n)
IsWrittenKind (t.Chars bytes) = IsText bytes
IsWrittenKind kind = Unit {0}

abbrev pub IsWrittenToken : Token → Type 0
IsWrittenToken token = IsWrittenKind token.kind

abbrev pub IsWrittenEffect : Effect → Type 0
IsWrittenEffect (goes tokens next) = All IsWrittenToken tokens
IsWrittenEffect (includes name) = Unit {0}
IsWrittenEffect (fails error) = Unit {0}

-- ---- pieces

abbrev IsWrittenPiece : Piece → Type 0
IsWrittenPiece (p.Token kind) = IsWrittenKind kind
IsWrittenPiece piece = Unit {0}

word_written : (name : Option (List ℕ)) → IsTextOrNone name → IsWrittenPiece (word_piece name)
word_written None is = tt
word_written (Some name) is = by (is_reserved name)
  where
    by : (b : Bool) → IsWrittenPiece (p.Token (cond b (t.Reserved name) (t.Word name)))
    by true = tt
    by false = is

number_written : (n : Option ℕ) → IsWrittenPiece (number_piece n)
number_written None = tt
number_written (Some n) = number_held n

constant_written : (text : Option (List ℕ)) → IsTextOrNone text → IsWrittenPiece (constant_piece text)
constant_written None is = tt
constant_written (Some text) is = is

symbol_written : (symbol : Option Symbol) → IsWrittenPiece (symbol_piece symbol)
symbol_written None = tt
symbol_written (Some symbol) = tt

or_bad_written : (directive : Option Directive) → IsWrittenPiece (or_bad directive)
or_bad_written None = tt
or_bad_written (Some directive) = tt

switches_written : (changes : Changes) → IsWrittenPiece (switches_piece changes)
switches_written changes = either changes.left_out _ _ tt tt
  where
    either : (b : Bool) (one other : Piece) → IsWrittenPiece one → IsWrittenPiece other → IsWrittenPiece (cond b one other)
    either true one other left right = left
    either false one other left right = right

keyword_written : (keyword : Option Keyword) (rest : List ℕ) → IsWrittenPiece (keyword_piece keyword rest)
keyword_written None rest = tt
keyword_written (Some k.Link) rest = tt
keyword_written (Some keyword) rest = or_bad_written (keyed keyword rest)

directive_written : (body : List ℕ) → IsWrittenPiece (directive_piece body)
directive_written body = by (changes_from no_changes (word_at body)) (keyword_written (keyword_of (word_at body)) (after_word body))
  where
    by : (changes : Option Changes) → IsWrittenPiece (keyword_piece (keyword_of (word_at body)) (after_word body))
        → IsWrittenPiece (option_map_or switches_piece changes (keyword_piece (keyword_of (word_at body)) (after_word body)))
    by None other = other
    by (Some changes) other = switches_written changes

comment_written : (body : List ℕ) → IsWrittenPiece (comment_piece body)
comment_written body = by (slice_index body 0 == 36)
  where
    by : (b : Bool) → IsWrittenPiece (cond b (directive_piece (drop 1 body)) p.Gap)
    by true = directive_written (drop 1 body)
    by false = tt

piece_written : (shape : Shape) (bytes : List ℕ) → All IsByte bytes → IsWrittenPiece (piece_of shape bytes)
piece_written s.Word bytes all = word_written (name_of bytes) (name_of_text bytes)
piece_written s.Decimal bytes all = number_written (number_of bytes)
piece_written s.Hexadecimal bytes all = number_written (number_of bytes)
piece_written s.Constant bytes all = constant_written (content_of bytes) (content_text bytes all)
piece_written s.Comment bytes all = comment_written (body_of bytes)
piece_written s.Symbol bytes all = symbol_written (symbol_of bytes)
piece_written shape bytes all = tt

-- ---- effects

nothing : All IsWrittenToken []
nothing = All-nil IsWrittenToken

alone : (one : Token) → IsWrittenToken one → All IsWrittenToken (one ∷ [])
alone one is = All-cons IsWrittenToken one [] is nothing

conditioned_written : (place : Place) (context : Context) (conditions : Option (List Condition)) → IsWrittenEffect (conditioned place context conditions)
conditioned_written place context None = tt
conditioned_written place context (Some conditions) = nothing

directed_written : (place : Place) (context : Context) (directive : Directive) → IsWrittenEffect (directed place context directive)
directed_written place context (d.Switches changes) = alone (token place (t.Switch (switches_after changes context.settings.switches))) tt
directed_written place context (d.Memory stack max) = alone (token place (t.Memory stack max)) tt
directed_written place context (d.Overlaid name) = alone (token place (t.Overlaid name)) tt
directed_written place context (d.Include name) = tt
directed_written place context (d.Define name) = nothing
directed_written place context (d.Undefine name) = nothing
directed_written place context (d.If test) = nothing
directed_written place context d.Else = conditioned_written place context (turned context.conditions)
directed_written place context d.EndIf = conditioned_written place context (closed context.conditions)

effect_written : (place : Place) (context : Context) (piece : Piece) → IsWrittenPiece piece → IsWrittenEffect (effect_of place context piece)
effect_written place context p.Gap is = nothing
effect_written place context (p.Token kind) is = alone (token place kind) is
effect_written place context (p.Directive directive) is = directed_written place context directive
effect_written place context (p.Fault fault) is = tt

passed_written : (place : Place) (context : Context) (passed : Passed) → IsWrittenEffect (passed_effect place context passed)
passed_written place context x.Nothing = nothing
passed_written place context x.Opens = nothing
passed_written place context x.Else = conditioned_written place context (turned context.conditions)
passed_written place context x.EndIf = conditioned_written place context (closed context.conditions)
passed_written place context x.OpenComment = tt

pub spelling_written : (place : Place) (context : Context) (shape : Shape) (spelling : List ℕ) → All IsByte spelling → IsWrittenEffect (effect_at place context shape spelling)
spelling_written place context shape spelling all = by (is_read context.conditions)
  where
    by : (b : Bool) → IsWrittenEffect (cond b (effect_of place context (piece_of shape spelling)) (passed_effect place context (passed_of shape spelling)))
    by true = effect_written place context (piece_of shape spelling) (piece_written shape spelling all)
    by false = passed_written place context (passed_of shape spelling)
