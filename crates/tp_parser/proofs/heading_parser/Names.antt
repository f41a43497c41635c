-- Names that were read are at least one.
use Rattle.std.proofs.Common.{◌≡◌, List, [], ◌∷◌, Result, Ok, Err, refl, ap}
use Rattle.pascal_grammar.specs.declared.lexeme.Lexeme.{Lexeme}
use Rattle.pascal_grammar.specs.Productions.{Production}
use Rattle.pascal_grammar.specs.Productions as p
use Rattle.ll1_grammar.specs.Grammar.{nil, node}
use Rattle.ll1_grammar.specs.Readers.{Fault, ◌>>=◌, through}
use Rattle.syntax_tree.specs.declared.identifier.Identifier.{Identifier}
use Rattle.syntax_tree.specs.Expressions.{Parsed, of, word}
use Rattle.expression_parser.specs.Gives.{name_at}
use Rattle.syntax_tree.specs.type_tree.Parameters.{identifiers_of}
use Rattle.type_parser.specs.parameter_parser.Reading.{more_identifiers_at, identifiers_at}
use Rattle.syntax_tree.specs.source_tree.Sources.{uses_clause, files_of}

abbrev End : Type 0
End = Parsed × List Lexeme

abbrev made_of : Production → End → Result End (Fault Production)
made_of x y = Ok (node x y.0, y.1)

abbrev no_tree : List Lexeme → Result End (Fault Production)
no_tree rest = Ok (nil, rest)

-- a production is no empty tree
never_nil : (x : Production) (r : Result End (Fault Production)) (rest : List Lexeme) → (r >>= made_of x) ≡ no_tree rest → ⊥
never_nil x (Ok y) rest e =
    let both : (node x y.0, y.1) ≡ (nil, rest) = cc in
    let tree : node x y.0 ≡ nil = ap (λ (z : End). z.0) both in
    absurd cc
never_nil x (Err f) rest e = absurd cc

some_name : (ts rest : List Lexeme) → identifiers_at ts ≡ no_tree rest → ⊥
unfolding identifiers_at
some_name ts rest e = never_nil p.identifiers (through (name_at ∷ more_identifiers_at ∷ []) ts) rest e

pub uses_named : (ts rest : List Lexeme) (all : List Identifier) → identifiers_at ts ≡ Ok (identifiers_of all, rest) → uses_clause all ≡ of p.uses_clause (word ∷ identifiers_of all ∷ word ∷ [])
uses_named ts rest [] e = absurd (some_name ts rest e)
uses_named ts rest (i ∷ all) e = refl

pub files_named : (ts rest : List Lexeme) (all : List Identifier) → identifiers_at ts ≡ Ok (identifiers_of all, rest) → files_of all ≡ of p.files (word ∷ identifiers_of all ∷ word ∷ [])
files_named ts rest [] e = absurd (some_name ts rest e)
files_named ts rest (i ∷ all) e = refl
