-- The kinds of lexemes, and what a tree keeps of a lexeme.
use Rattle.std.specs.Prelude.{ℕ, ℤ, cond, List, [], ◌∷◌, Option, Some, None}
use Rattle.pascal_grammar.specs.declared.kind.Kind.{Kind}
use Rattle.pascal_grammar.specs.declared.kind.Kind.TheVariants as k
use Rattle.pascal_grammar.specs.declared.lexeme.NameClass.{NameClass}
use Rattle.pascal_grammar.specs.declared.lexeme.NameClass.TheVariants as c
use Rattle.pascal_grammar.specs.declared.lexeme.Position.{Position}
use Rattle.pascal_grammar.specs.declared.lexeme.Terminal.{Terminal}
use Rattle.pascal_grammar.specs.declared.lexeme.Terminal.TheVariants as t
use Rattle.pascal_grammar.specs.declared.lexeme.Lexeme.{Lexeme}
use Rattle.pascal_grammar.specs.declared.operator.Relator.{Relator}
use Rattle.pascal_grammar.specs.declared.operator.Adder.{Adder}
use Rattle.pascal_grammar.specs.declared.operator.Multiplier.{Multiplier}
use Rattle.pascal_grammar.specs.declared.operator.Sign.{Sign}
use Rattle.pascal_grammar.specs.declared.operator.Direction.{Direction}
use Rattle.pascal_grammar.specs.Operators.{relator_of, adder_of, multiplier_of, sign_of, direction_of}
use Rattle.pascal_grammar.specs.Asked.{Asked, accepts}
use Rattle.pascal_grammar.specs.Asked as q

abbrev pub class_kind : NameClass → Kind
class_kind c.Letter = k.Letter
class_kind c.Absolute = k.Absolute
class_kind c.External = k.External
class_kind c.Forward = k.Forward
class_kind c.Interrupt = k.Interrupt
class_kind c.Other = k.Name

-- what has a content of its own is no word
abbrev pub word_kind : Kind → Kind
word_kind k.Letter = k.Stray
word_kind k.Absolute = k.Stray
word_kind k.External = k.Stray
word_kind k.Forward = k.Stray
word_kind k.Interrupt = k.Stray
word_kind k.Name = k.Stray
word_kind k.Number = k.Stray
word_kind k.Text = k.Stray
word_kind x = x

abbrev pub terminal_kind : Terminal → Kind
terminal_kind (t.Word x) = word_kind x
terminal_kind (t.Name class name) = class_kind class
terminal_kind (t.Number n) = k.Number
terminal_kind (t.Text bytes) = k.Text

abbrev pub kind_of : Lexeme → Kind
kind_of x = terminal_kind x.terminal

abbrev pub front_kind : List Lexeme → Option Kind
front_kind [] = None
front_kind (x ∷ xs) = Some (kind_of x)

-- what a tree keeps of one lexeme
pub data Kept : Type 0 where
  nothing : Kept
  position : Position → Kept
  named : List ℕ → Position → Kept
  number : ℤ → Position → Kept
  text : List ℕ → Position → Kept
  relator : Relator → Position → Kept
  adder : Adder → Position → Kept
  multiplier : Multiplier → Position → Kept
  sign : Sign → Position → Kept
  direction : Direction → Position → Kept

abbrev pub kept_or : {A : Type 0} → (A → Position → Kept) → Option A → Position → Kept
kept_or make (Some a) here = make a here
kept_or make None here = nothing

abbrev pub content : Terminal → Position → Kept
content (t.Word x) here = nothing
content (t.Name class name) here = named name here
content (t.Number n) here = number n here
content (t.Text bytes) here = text bytes here

abbrev pub kept : Asked → Lexeme → Kept
kept (q.word want) x = nothing
kept (q.mark want) x = position x.position
kept q.relator x = kept_or relator (relator_of (kind_of x)) x.position
kept q.adder x = kept_or adder (adder_of (kind_of x)) x.position
kept q.multiplier x = kept_or multiplier (multiplier_of (kind_of x)) x.position
kept q.sign x = kept_or sign (sign_of (kind_of x)) x.position
kept q.direction x = kept_or direction (direction_of (kind_of x)) x.position
kept asked x = content x.terminal x.position

-- what the tree keeps of a lexeme that is what was asked for
abbrev pub value : Asked → Lexeme → Option Kept
value asked x = cond (accepts asked (kind_of x)) (Some (kept asked x)) None
