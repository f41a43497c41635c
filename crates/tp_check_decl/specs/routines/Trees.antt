-- Routines and declarations as they are written, without where they lie in memory.
use Rattle.std.specs.Prelude.{List, [], ◌∷◌}
use Rattle.syntax_tree.specs.declared.identifier.Identifier.{Identifier}
use Rattle.syntax_tree.specs.declared.type_tree.parameter.MethodHeader.{MethodHeader}
use Rattle.syntax_tree.specs.declared.source_tree.declaration.DeclarationPart.{DeclarationPart}
use Rattle.syntax_tree.specs.declared.source_tree.declaration.RoutineHeader.{RoutineHeader}
use Rattle.syntax_tree.specs.declared.source_tree.declaration.Routine.{Routine, Row_of-Declaration, end_of-Declaration, more_of-Declaration}
use Rattle.syntax_tree.specs.declared.source_tree.declaration.Routine.TheVariants as r
use Rattle.syntax_tree.specs.declared.source_tree.declaration.Declaration.{Declaration}
use Rattle.syntax_tree.specs.declared.source_tree.declaration.Declaration.TheVariants as d
use Rattle.syntax_tree.specs.declared.statement.CompoundStatement.{CompoundStatement}

mutual
  -- a header whose block stands further on; a routine with its block; a method of the object type that is named
  pub data Work : Type 0 where
    forward : RoutineHeader → Work
    plain : RoutineHeader → Works → CompoundStatement → Work
    method : MethodHeader → Identifier → Works → CompoundStatement → Work

  pub data Works : Type 0 where
    no_works : Works
    and_part : DeclarationPart → Works → Works
    and_work : Work → Works → Works

abbrev mutual
  pub view_routine : Routine → Work
  view_routine (r.Forward x) = forward x
  view_routine (r.Plain' x shape all body) = plain x (view_declaration_row all) body
  view_routine (r.Method' x owner shape all body) = method x owner (view_declaration_row all) body

  -- a declaration, and those behind it
  pub with_declaration : Declaration → Works → Works
  with_declaration (d.Part x) rest = and_part x rest
  with_declaration (d.Routine x) rest = and_work (view_routine x) rest

  pub view_declaration_row : {n : _} → Row_of-Declaration n → Works
  view_declaration_row end_of-Declaration = no_works
  view_declaration_row (more_of-Declaration x rest) = with_declaration x (view_declaration_row rest)

-- the declarations of a list
abbrev pub view_declarations : List Declaration → Works
view_declarations [] = no_works
view_declarations (x ∷ rest) = with_declaration x (view_declarations rest)
