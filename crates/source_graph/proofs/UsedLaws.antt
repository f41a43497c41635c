-- What a source uses is told by what the grammar makes of it.
use Rattle.std.proofs.Common.{◌≡◌, ℕ, List, [], ◌∷◌, ◌++◌, take, drop, refl, sym, ap₂, ◌∙◌}
use Rattle.std.proofs.lemmas.List.{take-append-drop}
use Rattle.pascal_grammar.specs.declared.lexeme.Position.{Position}
use Rattle.pascal_grammar.specs.Productions as p
use Rattle.syntax_tree.specs.declared.identifier.Identifier.{Identifier}
use Rattle.syntax_tree.specs.Expressions.{Parsed, of, name_of}
use Rattle.syntax_tree.specs.type_tree.Parameters.{next_identifiers}
use Rattle.syntax_tree.specs.declared.source_tree.source.Tree.{Tree}
use Rattle.syntax_tree.specs.declared.source_tree.source.Tree.TheVariants as t
use Rattle.syntax_tree.specs.source_tree.Sources.{of_tree, uses_clause, used}

name_once : (i j : Identifier) → name_of i ≡ name_of j → i ≡ j
name_once i j same =
    let names : i.name ≡ j.name = cc in
    let positions : i.position ≡ j.position = cc in
    let identifier : List ℕ → Position → Identifier = λ name position. record { name = name; position = position } in
    ap₂ identifier names positions

abbrev no_more : Parsed
no_more = of p.no_identifiers []

next_once : (xs ys : List Identifier) → next_identifiers xs no_more ≡ next_identifiers ys no_more → xs ≡ ys
next_once [] [] same = refl
next_once [] (y ∷ ys) same = absurd cc
next_once (x ∷ xs) [] same = absurd cc
next_once (x ∷ xs) (y ∷ ys) same =
    let names : name_of x ≡ name_of y = cc in
    let rests : next_identifiers xs no_more ≡ next_identifiers ys no_more = cc in
    let first : x ≡ y = name_once x y names in
    let rest : xs ≡ ys = next_once xs ys rests in cc

clause_once : (xs ys : List Identifier) → uses_clause xs ≡ uses_clause ys → xs ≡ ys
clause_once [] [] same = refl
clause_once [] (y ∷ ys) same = absurd cc
clause_once (x ∷ xs) [] same = absurd cc
clause_once (x ∷ xs) (y ∷ ys) same =
    let names : name_of x ≡ name_of y = cc in
    let rests : next_identifiers xs no_more ≡ next_identifiers ys no_more = cc in
    let first : x ≡ y = name_once x y names in
    let rest : xs ≡ ys = next_once xs ys rests in cc

pub used_once : (x y : Tree) → of_tree x ≡ of_tree y → used x ≡ used y
used_once (t.Program h uses all body) (t.Program h' uses' all' body') same =
    let clauses : uses_clause uses.items ≡ uses_clause uses'.items = cc in
    clause_once uses.items uses'.items clauses
used_once (t.Program h uses all body) (t.Unit here' name' uses' n' interface' all' body') same = absurd cc
used_once (t.Unit here name uses n interface all body) (t.Program h' uses' all' body') same = absurd cc
used_once (t.Unit here name uses n interface all body) (t.Unit here' name' uses' n' interface' all' body') same =
    let outer : uses_clause (take n uses.items) ≡ uses_clause (take n' uses'.items) = cc in
    let inner : uses_clause (drop n uses.items) ≡ uses_clause (drop n' uses'.items) = cc in
    sym (take-append-drop n uses.items)
    ∙ ap₂ (λ (xs ys : List Identifier). xs ++ ys) (clause_once _ _ outer) (clause_once _ _ inner)
    ∙ take-append-drop n' uses'.items
