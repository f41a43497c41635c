-- What it is for the first of some lexemes to spell a tree.
use Rattle.std.specs.Prelude.{◌≡◌, ℕ, ◌≤◌, List, ◌++◌}
use Rattle.pascal_grammar.specs.declared.lexeme.Lexeme.{Lexeme}
use Rattle.pascal_grammar.specs.Lexemes.{front_kind}
use Rattle.pascal_grammar.specs.Parts.{Part}
use Rattle.pascal_grammar.specs.Rules.{grammar}
use Rattle.ll1_grammar.specs.Grammar.{part, Fit, Has, Belongs, deep}
use Rattle.syntax_tree.specs.Expressions.{Parsed}

-- Those before the rest spell a tree of the part, of the language and with nothing that is left out, in which at most limit
-- constructs are open at once.
pub record Spelled (n : Part) (limit : ℕ) (ts : List Lexeme) (t : Parsed) (rest : List Lexeme) : Type 0 where
  pub text : List Lexeme
  pub parts : ts ≡ text ++ rest
  pub fits : Fit grammar (part n) t text (front_kind rest)
  pub has : Has (Belongs grammar) t
  pub deep : deep grammar t ≤ limit
