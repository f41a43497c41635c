-- The lexemes of a list of tokens.
use Rattle.std.specs.Prelude.{ℕ, false, if◌then◌else◌, List, [], ◌∷◌, Option, Some, None}
use Rattle.tp_lexer.specs.declared.token.Switches.{Switches}
use Rattle.tp_lexer.specs.declared.token.TokenKind.{TokenKind}
use Rattle.tp_lexer.specs.declared.token.TokenKind.TheVariants as t
use Rattle.tp_lexer.specs.declared.token.Token.{Token}
use Rattle.pascal_grammar.specs.declared.kind.Kind.{Kind}
use Rattle.pascal_grammar.specs.declared.kind.Kind.TheVariants as k
use Rattle.pascal_grammar.specs.declared.lexeme.Position.{Position}
use Rattle.pascal_grammar.specs.declared.lexeme.Terminal.{Terminal}
use Rattle.pascal_grammar.specs.declared.lexeme.Terminal.TheVariants as x
use Rattle.pascal_grammar.specs.declared.lexeme.Lexeme.{Lexeme}
use Rattle.pascal_grammar.specs.Lexemes.{kind_of}
use Rattle.pascal_grammar.specs.declared.lexeme_list.phase.Phase.{Phase}
use Rattle.pascal_grammar.specs.lexeme_list.Phases.{first_phase, phase_after, takes_memory, takes_overlaid}
use Rattle.pascal_grammar.specs.lexeme_list.Words.{reserved_kind, symbol_kind, class_of}

-- what a token is to the grammar: a directive is nothing where it may stand, and else what can stand nowhere
abbrev pub given : Phase → TokenKind → Option Terminal
given phase (t.Word name) = Some (x.Name (class_of name) name)
given phase (t.Reserved name) = Some (x.Word (reserved_kind name))
given phase (t.Number value) = Some (x.Number value)
given phase t.Real = Some (x.Word k.Real)
given phase (t.Chars bytes) = Some (x.Text bytes)
given phase (t.Symbol symbol) = Some (x.Word (symbol_kind symbol))
given phase (t.Switch now) = None
given phase (t.Memory stack most) = if takes_memory phase then None else Some (x.Word k.Stray)
given phase (t.Overlaid name) = if takes_overlaid phase then None else Some (x.Word k.Stray)

-- the switches behind a token
abbrev pub switches_behind : Switches → TokenKind → Switches
switches_behind now (t.Switch next) = next
switches_behind now kind = now

abbrev pub placed : Option Terminal → Position → Option Lexeme
placed None here = None
placed (Some terminal) here = Some (record { terminal = terminal; position = here })

-- the lexeme that the token is
abbrev pub lexeme_at : Phase → Switches → Token → Option Lexeme
lexeme_at phase now token = placed (given phase token.kind) (record { place = token.place; switches = now })

abbrev pub phase_behind : Phase → Option Lexeme → Phase
phase_behind phase None = phase
phase_behind phase (Some lexeme) = phase_after phase (kind_of lexeme)

abbrev pub and_then : Option Lexeme → List Lexeme → List Lexeme
and_then None rest = rest
and_then (Some lexeme) rest = lexeme ∷ rest

-- the lexemes from a phase on, where these switches hold
abbrev pub lexemes_from : Phase → Switches → List Token → List Lexeme
lexemes_from phase now [] = []
lexemes_from phase now (token ∷ tokens) =
    let lexeme = lexeme_at phase now token in
    and_then lexeme (lexemes_from (phase_behind phase lexeme) (switches_behind now token.kind) tokens)

abbrev pub kind_or : TokenKind → Option Kind → Option Kind
kind_or (t.Switch now) rest = rest
kind_or (t.Memory stack most) rest = rest
kind_or (t.Overlaid name) rest = rest
kind_or (t.Reserved name) rest = Some (reserved_kind name)
kind_or kind rest = Some k.Stray

-- the kind of the first token that is no directive, where it is a reserved word
abbrev pub first_kind : List Token → Option Kind
first_kind [] = None
first_kind (token ∷ tokens) = kind_or token.kind (first_kind tokens)

abbrev pub no_switches : Switches
no_switches = record { r = false; b = false; f = false; o = false }

abbrev pub lexemes_of : List Token → List Lexeme
lexemes_of tokens = lexemes_from (first_phase (first_kind tokens)) no_switches tokens
