-- Trees that are spelled alike use the same units in each of their parts.
use Rattle.std.proofs.Common.{◌≡◌, ℕ, List, [], ◌∷◌, length, take, drop, refl, ap, ap₂}
use Rattle.pascal_grammar.specs.declared.lexeme.Position.{Position}
use Rattle.pascal_grammar.specs.Productions as p
use Rattle.syntax_tree.specs.declared.identifier.Identifier.{Identifier}
use Rattle.syntax_tree.specs.Expressions.{Parsed, of, name_of}
use Rattle.syntax_tree.specs.type_tree.Parameters.{next_identifiers}
use Rattle.syntax_tree.specs.declared.source_tree.source.Tree.TheVariants as t
use Rattle.syntax_tree.specs.source_tree.Sources.{uses_clause}
use Rattle.source_graph.proofs.UsedLaws.{used_once}
use Rattle.source_graph.specs.determinism.Laws.{AlikeUses}

abbrev no_more : Parsed
no_more = of p.no_identifiers []

name_once : (i j : Identifier) → name_of i ≡ name_of j → i ≡ j
name_once i j same =
    let names : i.name ≡ j.name = cc in
    let positions : i.position ≡ j.position = cc in
    let identifier : List ℕ → Position → Identifier = λ name position. record { name = name; position = position } in
    ap₂ identifier names positions

next_once : (xs ys : List Identifier) → next_identifiers xs no_more ≡ next_identifiers ys no_more → xs ≡ ys
next_once [] [] same = refl
next_once [] (y ∷ ys) same = absurd cc
next_once (x ∷ xs) [] same = absurd cc
next_once (x ∷ xs) (y ∷ ys) same =
    let names : name_of x ≡ name_of y = cc in
    let rests : next_identifiers xs no_more ≡ next_identifiers ys no_more = cc in
    ap₂ (λ (z : Identifier) (zs : List Identifier). z ∷ zs) (name_once x y names) (next_once xs ys rests)

clause_once : (xs ys : List Identifier) → uses_clause xs ≡ uses_clause ys → xs ≡ ys
clause_once [] [] same = refl
clause_once [] (y ∷ ys) same = absurd cc
clause_once (x ∷ xs) [] same = absurd cc
clause_once (x ∷ xs) (y ∷ ys) same =
    let names : name_of x ≡ name_of y = cc in
    let rests : next_identifiers xs no_more ≡ next_identifiers ys no_more = cc in
    ap₂ (λ (z : Identifier) (zs : List Identifier). z ∷ zs) (name_once x y names) (next_once xs ys rests)

all_taken : (xs ys : List Identifier) → xs ≡ ys → take (length xs) xs ≡ take (length ys) ys
all_taken xs ys same = ap (λ (zs : List Identifier). take (length zs) zs) same

all_dropped : (xs ys : List Identifier) → xs ≡ ys → drop (length xs) xs ≡ drop (length ys) ys
all_dropped xs ys same = ap (λ (zs : List Identifier). drop (length zs) zs) same

pub uses_alike : AlikeUses
uses_alike (t.Program h uses all body) (t.Program h' uses' all' body') same =
    let clauses : uses_clause uses.items ≡ uses_clause uses'.items = cc in
    let is = clause_once uses.items uses'.items clauses in
    record { all = is; outer = all_taken uses.items uses'.items is; inner = all_dropped uses.items uses'.items is }
uses_alike (t.Program h uses all body) (t.Unit here' name' uses' n' interface' all' body') same = absurd cc
uses_alike (t.Unit here name uses n interface all body) (t.Program h' uses' all' body') same = absurd cc
uses_alike (t.Unit here name uses n interface all body) (t.Unit here' name' uses' n' interface' all' body') same =
    let outer : uses_clause (take n uses.items) ≡ uses_clause (take n' uses'.items) = cc in
    let inner : uses_clause (drop n uses.items) ≡ uses_clause (drop n' uses'.items) = cc in
    record { all = used_once (t.Unit here name uses n interface all body) (t.Unit here' name' uses' n' interface' all' body') same; outer = clause_once (take n uses.items) (take n' uses'.items) outer; inner = clause_once (drop n uses.items) (drop n' uses'.items) inner }
