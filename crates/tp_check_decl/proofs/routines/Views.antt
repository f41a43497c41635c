-- Routines whose declarations lie in a vector.
use Rattle.std.proofs.Common.{◌≡◌, List, [], ◌∷◌, ap, refl, ◌∙◌}
use Rattle.syntax_tree.specs.declared.identifier.Identifier.{Identifier}
use Rattle.syntax_tree.specs.declared.type_tree.parameter.MethodHeader.{MethodHeader}
use Rattle.syntax_tree.specs.declared.source_tree.declaration.RoutineHeader.{RoutineHeader}
use Rattle.syntax_tree.specs.declared.source_tree.declaration.Block.{Block}
use Rattle.syntax_tree.specs.declared.source_tree.declaration.Declaration.{Declaration}
use Rattle.syntax_tree.specs.declared.source_tree.declaration.Routine.{Routine, Row_of-Declaration, end_of-Declaration, more_of-Declaration, items-the_row-Declaration, items_hidden-the_row-Declaration-0}
use Rattle.syntax_tree.specs.declared.source_tree.declaration.Routine.TheVariants as r
use Rattle.tp_check_decl.specs.routines.Trees.{Works, plain, method, view_routine, with_declaration, view_declaration_row, view_declarations}

declaration_row : (n : _) (row : Row_of-Declaration n) → view_declaration_row row ≡ view_declarations (items-the_row-Declaration n row)
declaration_row n end_of-Declaration = refl
declaration_row n (more_of-Declaration x rest) = ap (λ (z : Works). with_declaration x z) (declaration_row _ rest)

abbrev row_of : Routine → (n : _) × Row_of-Declaration n
row_of (r.Plain' x shape row body) = (_, row)
row_of (r.Method' x owner shape row body) = (_, row)
row_of x = (_, end_of-Declaration)

-- a routine with its block, by the list of its declarations
pub view_plain : (x : RoutineHeader) (b : Block) → view_routine (r.Plain x b) ≡ plain x (view_declarations b.declarations.items) b.body
view_plain x b =
    let row = row_of (r.Plain x b) in
    ap (λ (z : Works). plain x z b.body) (declaration_row row.0 row.1 ∙ ap view_declarations (items_hidden-the_row-Declaration-0 b.declarations))

-- a method with its block, by the list of its declarations
pub view_method : (x : MethodHeader) (owner : Identifier) (b : Block) → view_routine (r.Method x owner b) ≡ method x owner (view_declarations b.declarations.items) b.body
view_method x owner b =
    let row = row_of (r.Method x owner b) in
    ap (λ (z : Works). method x owner z b.body) (declaration_row row.0 row.1 ∙ ap view_declarations (items_hidden-the_row-Declaration-0 b.declarations))
