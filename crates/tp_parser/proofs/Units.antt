-- The two uses clauses of a unit, in one list.
use Rattle.std.proofs.Common.{◌≡◌, ℕ, List, [], ◌∷◌, ◌++◌, length, take, drop, Option, Vec, Global, ap, ◌∙◌}
use Rattle.std.proofs.lemmas.List.{take_at, drop_at}
use Rattle.pascal_grammar.specs.Productions as p
use Rattle.pascal_grammar.specs.declared.lexeme.Position.{Position}
use Rattle.syntax_tree.specs.declared.identifier.Identifier.{Identifier}
use Rattle.syntax_tree.specs.declared.statement.CompoundStatement.{CompoundStatement}
use Rattle.syntax_tree.specs.Expressions.{of, word, mark_at, name_of}
use Rattle.syntax_tree.specs.declared.source_tree.declaration.Declaration.{Declaration}
use Rattle.syntax_tree.specs.declared.source_tree.source.InterfaceDeclaration.{InterfaceDeclaration}
use Rattle.syntax_tree.specs.declared.source_tree.source.Tree.TheVariants as t
use Rattle.syntax_tree.specs.source_tree.Declarations.{declarations_of}
use Rattle.syntax_tree.specs.source_tree.Sources.{uses_clause, interface_of, unit_body_of, of_tree}

-- a unit whose list has the names of the first clause and then those of the second
pub unit_is : (here : Position) (name : Identifier) (uses : Vec Identifier Global) (interface : Vec InterfaceDeclaration Global) (all : Vec Declaration Global) (body : Option CompoundStatement) (n : ℕ) (outer inner : List Identifier)
    → length outer ≡ n → uses.items ≡ outer ++ inner
    → of_tree (t.Unit here name uses n interface all body) ≡ of p.unit (mark_at here ∷ name_of name ∷ word ∷ word ∷ uses_clause outer ∷ interface_of interface.items ∷ word ∷ uses_clause inner ∷ declarations_of all.items ∷ unit_body_of body ∷ word ∷ [])
unit_is here name uses interface all body n outer inner l e =
    let first : take n uses.items ≡ outer = ap (λ (x : List Identifier). take n x) e ∙ take_at outer inner n l in
    let second : drop n uses.items ≡ inner = ap (λ (x : List Identifier). drop n x) e ∙ drop_at outer inner n l in
    ap (λ (x : List Identifier). of p.unit (mark_at here ∷ name_of name ∷ word ∷ word ∷ uses_clause x ∷ interface_of interface.items ∷ word ∷ uses_clause (drop n uses.items) ∷ declarations_of all.items ∷ unit_body_of body ∷ word ∷ [])) first
    ∙ ap (λ (x : List Identifier). of p.unit (mark_at here ∷ name_of name ∷ word ∷ word ∷ uses_clause outer ∷ interface_of interface.items ∷ word ∷ uses_clause x ∷ declarations_of all.items ∷ unit_body_of body ∷ word ∷ [])) second
