-- What the grammar keeps of the lexemes of a source is what the lexer may give.
use Rattle.std.proofs.Common.{◌≡◌, Bool, true, false, cond, IsTrue, List, [], ◌∷◌, Option, Some, None, subst}
use Rattle.std.specs.List.{All}
use Rattle.std.proofs.lemmas.List.Elements.{All-nil, All-cons, All-head, All-tail}
use Rattle.source_graph.specs.type_layout.declared.definitions.Host.TheVariants as host
use Rattle.source_graph.specs.type_layout.Storage.{holds}
use Rattle.source_graph.specs.tp_lexer.declared.token.Switches.{Switches}
use Rattle.source_graph.specs.tp_lexer.declared.token.TokenKind.{TokenKind}
use Rattle.source_graph.specs.tp_lexer.declared.token.TokenKind.TheVariants as t
use Rattle.source_graph.specs.tp_lexer.declared.token.Token.{Token}
use Rattle.source_graph.specs.pascal_grammar.declared.kind.Kind.TheVariants as k
use Rattle.source_graph.specs.pascal_grammar.declared.lexeme.Position.{Position}
use Rattle.source_graph.specs.pascal_grammar.declared.lexeme.Terminal.{Terminal}
use Rattle.source_graph.specs.pascal_grammar.declared.lexeme.Terminal.TheVariants as x
use Rattle.source_graph.specs.pascal_grammar.declared.lexeme.Lexeme.{Lexeme}
use Rattle.source_graph.specs.pascal_grammar.Asked.{Asked, accepts}
use Rattle.source_graph.specs.pascal_grammar.Asked as q
use Rattle.source_graph.specs.pascal_grammar.Operators.{relator_of, adder_of, multiplier_of, sign_of, direction_of}
use Rattle.source_graph.specs.pascal_grammar.Lexemes.{Kept, kind_of, kept_or, content, kept, value}
use Rattle.source_graph.specs.pascal_grammar.Lexemes as v
use Rattle.source_graph.specs.pascal_grammar.declared.lexeme_list.phase.Phase.{Phase}
use Rattle.source_graph.specs.pascal_grammar.lexeme_list.Phases.{first_phase, takes_memory, takes_overlaid}
use Rattle.source_graph.specs.pascal_grammar.lexeme_list.Lexemes.{given, placed, lexeme_at, and_then, phase_behind, switches_behind, lexemes_from, lexemes_of, first_kind, no_switches}
use Rattle.units_well_formed.specs.bodies_well_formed.expressions.Literals.{IsText}
use Rattle.token_provenance.specs.leaves.Written.{IsWrittenLeaf}
use Rattle.token_provenance.proofs.leaves.Pieces.{IsWrittenKind, IsWrittenToken}

abbrev IsWrittenTerminal : Terminal → Type 0
IsWrittenTerminal (x.Word kind) = Unit {0}
IsWrittenTerminal (x.Name class name) = IsText name
IsWrittenTerminal (x.Number n) = IsTrue (holds host.LongInt n n)
IsWrittenTerminal (x.Text bytes) = IsText bytes

abbrev pub IsWrittenLexeme : Lexeme → Type 0
IsWrittenLexeme lexeme = IsWrittenTerminal lexeme.terminal

-- ---- the lexemes of tokens

abbrev IsWrittenOrNone : Option Terminal → Type 0
IsWrittenOrNone None = Unit {0}
IsWrittenOrNone (Some terminal) = IsWrittenTerminal terminal

directive_written : (b : Bool) → IsWrittenOrNone (cond b None (Some (x.Word k.Stray)))
directive_written true = tt
directive_written false = tt

given_written : (phase : Phase) (kind : TokenKind) → IsWrittenKind kind → IsWrittenOrNone (given phase kind)
given_written phase (t.Word name) is = is
given_written phase (t.Reserved name) is = tt
given_written phase (t.Number n) is = is
given_written phase t.Real is = tt
given_written phase (t.Chars bytes) is = is
given_written phase (t.Symbol symbol) is = tt
given_written phase (t.Switch now) is = tt
given_written phase (t.Memory stack most) is = directive_written (takes_memory phase)
given_written phase (t.Overlaid name) is = directive_written (takes_overlaid phase)

and_written : (terminal : Option Terminal) (here : Position) (rest : List Lexeme) → IsWrittenOrNone terminal → All IsWrittenLexeme rest → All IsWrittenLexeme (and_then (placed terminal here) rest)
and_written None here rest is all = all
and_written (Some terminal) here rest is all = All-cons IsWrittenLexeme (record { terminal = terminal; position = here }) rest is all

from_written : (phase : Phase) (now : Switches) (tokens : List Token) → All IsWrittenToken tokens → All IsWrittenLexeme (lexemes_from phase now tokens)
from_written phase now [] all = All-nil IsWrittenLexeme
from_written phase now (token ∷ tokens) all =
    and_written (given phase token.kind) (record { place = token.place; switches = now }) _ (given_written phase token.kind (All-head IsWrittenToken token tokens all))
    (from_written (phase_behind phase (lexeme_at phase now token)) (switches_behind now token.kind) tokens (All-tail IsWrittenToken token tokens all))

pub lexemes_written : (tokens : List Token) → All IsWrittenToken tokens → All IsWrittenLexeme (lexemes_of tokens)
lexemes_written tokens all = from_written (first_phase (first_kind tokens)) no_switches tokens all

-- ---- what is kept of a lexeme

content_written : (terminal : Terminal) (here : Position) → IsWrittenTerminal terminal → IsWrittenLeaf (content terminal here)
content_written (x.Word kind) here is = tt
content_written (x.Name class name) here is = is
content_written (x.Number n) here is = is
content_written (x.Text bytes) here is = is

operator_written : {A : Type 0} (make : A → Position → Kept) → ((a : A) (here : Position) → IsWrittenLeaf (make a here)) → (found : Option A) (here : Position) → IsWrittenLeaf (kept_or make found here)
operator_written make plain None here = tt
operator_written make plain (Some a) here = plain a here

kept_written : (asked : Asked) (lexeme : Lexeme) → IsWrittenLexeme lexeme → IsWrittenLeaf (kept asked lexeme)
kept_written (q.word want) lexeme is = tt
kept_written (q.mark want) lexeme is = tt
kept_written q.relator lexeme is = operator_written v.relator (λ a here. tt) (relator_of (kind_of lexeme)) lexeme.position
kept_written q.adder lexeme is = operator_written v.adder (λ a here. tt) (adder_of (kind_of lexeme)) lexeme.position
kept_written q.multiplier lexeme is = operator_written v.multiplier (λ a here. tt) (multiplier_of (kind_of lexeme)) lexeme.position
kept_written q.sign lexeme is = operator_written v.sign (λ a here. tt) (sign_of (kind_of lexeme)) lexeme.position
kept_written q.direction lexeme is = operator_written v.direction (λ a here. tt) (direction_of (kind_of lexeme)) lexeme.position
kept_written asked lexeme is = content_written lexeme.terminal lexeme.position is

pub value_written : (asked : Asked) (lexeme : Lexeme) (leaf : Kept) → IsWrittenLexeme lexeme → value asked lexeme ≡ Some leaf → IsWrittenLeaf leaf
value_written asked lexeme leaf is keeps = by (accepts asked (kind_of lexeme)) keeps
  where
    by : (b : Bool) → cond b (Some (kept asked lexeme)) None ≡ Some leaf → IsWrittenLeaf leaf
    by true e =
        let same : kept asked lexeme ≡ leaf = cc in
        subst IsWrittenLeaf same (kept_written asked lexeme is)
    by false e = absurd cc
