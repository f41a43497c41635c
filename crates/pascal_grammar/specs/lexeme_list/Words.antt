-- The kinds of reserved words and symbols, and the classes of names.
use Rattle.std.specs.Prelude.{ℕ, Bool, ◌==◌, if◌then◌else◌, List, [], ◌∷◌, codes, length, nat_eq, position, slice_index_or, Option, Some, None}
use Rattle.std.specs.Cmp.Lexicographic.{pointwise}
use Rattle.pascal_grammar.specs.declared.kind.Kind.{Kind}
use Rattle.pascal_grammar.specs.declared.kind.Kind.TheVariants as k
use Rattle.pascal_grammar.specs.declared.lexeme.NameClass.{NameClass}
use Rattle.pascal_grammar.specs.declared.lexeme.NameClass.TheVariants as c
use Rattle.tp_lexer.specs.declared.symbol.Symbol.{Symbol}
use Rattle.tp_lexer.specs.declared.symbol.Symbol.TheVariants as y
use Rattle.tp_lexer.specs.Words.{reserved}

-- in the order of the reserved words
abbrev pub reserved_kinds : List Kind
reserved_kinds = k.And ∷ k.Array ∷ k.Begin ∷ k.Case ∷ k.Const ∷ k.Constructor ∷ k.Destructor ∷ k.Div ∷ k.Do ∷ k.Downto ∷ k.Else ∷ k.End
    ∷ k.File ∷ k.For ∷ k.Function ∷ k.Goto ∷ k.If ∷ k.Implementation ∷ k.In ∷ k.Inline ∷ k.Interface ∷ k.Label ∷ k.Mod ∷ k.Nil
    ∷ k.Not ∷ k.Object ∷ k.Of ∷ k.Or ∷ k.Packed ∷ k.Procedure ∷ k.Program ∷ k.Record ∷ k.Repeat ∷ k.Set ∷ k.Shl ∷ k.Shr
    ∷ k.String ∷ k.Then ∷ k.To ∷ k.Type ∷ k.Unit ∷ k.Until ∷ k.Uses ∷ k.Var ∷ k.Virtual ∷ k.While ∷ k.With ∷ k.Xor ∷ []

abbrev pub kind_at : Option ℕ → Kind
kind_at None = k.Stray
kind_at (Some place) = slice_index_or reserved_kinds place k.Stray

-- what is no reserved word can stand nowhere
abbrev pub reserved_kind : List ℕ → Kind
reserved_kind name = kind_at (position (λ word. pointwise nat_eq name word) reserved)

abbrev pub symbol_kind : Symbol → Kind
symbol_kind y.Plus = k.Plus
symbol_kind y.Minus = k.Minus
symbol_kind y.Times = k.Times
symbol_kind y.Divide = k.Slash
symbol_kind y.Equal = k.Equal
symbol_kind y.Less = k.Less
symbol_kind y.Greater = k.Greater
symbol_kind y.LessEqual = k.AtMost
symbol_kind y.GreaterEqual = k.AtLeast
symbol_kind y.NotEqual = k.Unequal
symbol_kind y.OpenParenthesis = k.Open
symbol_kind y.CloseParenthesis = k.Close
symbol_kind y.OpenBracket = k.OpenBracket
symbol_kind y.CloseBracket = k.CloseBracket
symbol_kind y.Dot = k.Dot
symbol_kind y.Comma = k.Comma
symbol_kind y.Semicolon = k.Semicolon
symbol_kind y.Colon = k.Colon
symbol_kind y.Becomes = k.Becomes
symbol_kind y.Range = k.Dots
symbol_kind y.Caret = k.Caret
symbol_kind y.At = k.Address

abbrev pub class_of : List ℕ → NameClass
class_of name =
    if length name == 1 then c.Letter
    else if pointwise nat_eq name (codes "ABSOLUTE") then c.Absolute
    else if pointwise nat_eq name (codes "EXTERNAL") then c.External
    else if pointwise nat_eq name (codes "FORWARD") then c.Forward
    else if pointwise nat_eq name (codes "INTERRUPT") then c.Interrupt
    else c.Other
