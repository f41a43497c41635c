-- Declarations inside a routine, as a list.
use Rattle.std.proofs.Common.{◌≡◌, List, [], ◌∷◌, ◌++◌, refl, ap, ◌∙◌}
use Rattle.pascal_grammar.specs.Productions.{Production}
use Rattle.pascal_grammar.specs.Productions as p
use Rattle.syntax_tree.specs.declared.identifier.Identifier.{Identifier}
use Rattle.syntax_tree.specs.Expressions.{Parsed, of, word}
use Rattle.syntax_tree.specs.declared.type_tree.parameter.MethodHeader.{MethodHeader}
use Rattle.syntax_tree.specs.declared.source_tree.declaration.RoutineHeader.{RoutineHeader}
use Rattle.syntax_tree.specs.declared.source_tree.declaration.Block.{Block}
use Rattle.syntax_tree.specs.declared.source_tree.declaration.Declaration.{Declaration}
use Rattle.syntax_tree.specs.declared.source_tree.declaration.Routine.{Routine, Row_of-Declaration, end_of-Declaration, more_of-Declaration, items-the_row-Declaration, items_hidden-the_row-Declaration-0}
use Rattle.syntax_tree.specs.declared.source_tree.declaration.Routine.TheVariants as r
use Rattle.syntax_tree.specs.source_tree.Declarations.{next_items, items_with, routine_of, method_of, block_with, block_of, of_routine, of_declaration, of_declarations, declarations_with, declarations_of}

all_are : (n : _) (row : Row_of-Declaration n) → of_declarations row ≡ declarations_of (items-the_row-Declaration n row)
all_are n end_of-Declaration = refl
all_are n (more_of-Declaration x all) = ap (λ (z : Parsed). of_declaration x z) (all_are _ all)

abbrev row_of : Routine → (n : _) × Row_of-Declaration n
row_of (r.Plain' x shape row body) = (_, row)
row_of (r.Method' x owner shape row body) = (_, row)
row_of x = (_, end_of-Declaration)

-- a routine's block is that of its declarations and statements
pub routine_is : (x : RoutineHeader) (b : Block) → of_routine (r.Plain x b) ≡ routine_of x (of p.own_block (block_of b ∷ word ∷ []))
routine_is x b =
    let row = row_of (r.Plain x b) in
    ap (λ (z : Parsed). routine_of x (of p.own_block (block_with z b.body ∷ word ∷ []))) (all_are row.0 row.1 ∙ ap declarations_of (items_hidden-the_row-Declaration-0 b.declarations))

pub method_is : (x : MethodHeader) (owner : Identifier) (b : Block) → of_routine (r.Method x owner b) ≡ method_of x owner (block_of b)
method_is x owner b =
    let row = row_of (r.Method x owner b) in
    ap (λ (z : Parsed). method_of x owner (block_with z b.body)) (all_are row.0 row.1 ∙ ap declarations_of (items_hidden-the_row-Declaration-0 b.declarations))

-- one declaration more at the end
pub declarations_pushed : (all : List Declaration) (x : Declaration) (more : Parsed) → declarations_with (all ++ (x ∷ [])) more ≡ declarations_with all (of_declaration x more)
declarations_pushed [] x more = refl
declarations_pushed (y ∷ all) x more = ap (λ (z : Parsed). of_declaration y z) (declarations_pushed all x more)

-- ---- the items of a part

next_pushed : {X : Type 0} (view : X → Parsed) (q : Production) (all : List X) (x : X) (more : Parsed) → next_items view q (all ++ (x ∷ [])) more ≡ next_items view q all (of q (view x ∷ more ∷ []))
next_pushed view q [] x more = refl
next_pushed view q (y ∷ all) x more = ap (λ (z : Parsed). of q (view y ∷ z ∷ [])) (next_pushed view q all x more)

-- one item more at the end, behind a first
pub items_pushed : {X : Type 0} (view : X → Parsed) (q : Production) (first : X) (others : List X) (x : X) (more : Parsed) → items_with view q ((first ∷ others) ++ (x ∷ [])) more ≡ items_with view q (first ∷ others) (of q (view x ∷ more ∷ []))
items_pushed view q first others x more = ap (λ (z : Parsed). (view first, z)) (next_pushed view q others x more)
