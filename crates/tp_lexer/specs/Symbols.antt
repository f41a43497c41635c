-- The symbols and their spellings.
use Rattle.std.specs.Prelude.{ℕ, List, [], ◌∷◌, codes, nat_eq, Option}
use Rattle.std.specs.Cmp.Lexicographic.{pointwise}
use Rattle.std.specs.Map.{lookup}
use Rattle.tp_lexer.specs.declared.symbol.Symbol.{Symbol}
use Rattle.tp_lexer.specs.declared.symbol.Symbol.TheVariants as y

abbrev pub spellings : List (List ℕ × Symbol)
spellings = (codes "+", y.Plus) ∷ (codes "-", y.Minus) ∷ (codes "*", y.Times) ∷ (codes "/", y.Divide)
    ∷ (codes "=", y.Equal) ∷ (codes "<", y.Less) ∷ (codes ">", y.Greater)
    ∷ (codes "<=", y.LessEqual) ∷ (codes ">=", y.GreaterEqual) ∷ (codes "<>", y.NotEqual)
    ∷ (codes "(", y.OpenParenthesis) ∷ (codes ")", y.CloseParenthesis)
    ∷ (codes "[", y.OpenBracket) ∷ (codes "]", y.CloseBracket)
    ∷ (codes "(.", y.OpenBracket) ∷ (codes ".)", y.CloseBracket)
    ∷ (codes ".", y.Dot) ∷ (codes ",", y.Comma) ∷ (codes ";", y.Semicolon) ∷ (codes ":", y.Colon)
    ∷ (codes ":=", y.Becomes) ∷ (codes "..", y.Range) ∷ (codes "^", y.Caret) ∷ (codes "@", y.At) ∷ []

-- the symbol that a list of bytes spells
abbrev pub symbol_of : List ℕ → Option Symbol
symbol_of bytes = lookup (pointwise nat_eq bytes) spellings
