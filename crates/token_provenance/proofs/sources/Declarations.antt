-- Literals of constants and of bodies in declarations that are spelled.
use Rattle.std.proofs.Common.{List, [], ◌∷◌}
use Rattle.source_graph.specs.pascal_grammar.Productions as p
use Rattle.source_graph.specs.syntax_tree.declared.identifier.Identifier.{Identifier}
use Rattle.source_graph.specs.syntax_tree.Expressions.{Parsed, of}
use Rattle.source_graph.specs.syntax_tree.declared.type_tree.parameter.MethodHeader.{MethodHeader}
use Rattle.source_graph.specs.syntax_tree.declared.type_tree.parameter.MethodHeader.TheVariants as m
use Rattle.source_graph.specs.syntax_tree.declared.source_tree.declaration.ConstantDeclaration.{ConstantDeclaration}
use Rattle.source_graph.specs.syntax_tree.declared.source_tree.declaration.ConstantDeclaration.TheVariants as c
use Rattle.source_graph.specs.syntax_tree.declared.source_tree.declaration.DeclarationPart.{DeclarationPart}
use Rattle.source_graph.specs.syntax_tree.declared.source_tree.declaration.DeclarationPart.TheVariants as part
use Rattle.source_graph.specs.syntax_tree.declared.source_tree.declaration.RoutineHeader.{RoutineHeader}
use Rattle.source_graph.specs.syntax_tree.declared.source_tree.declaration.RoutineHeader.TheVariants as h
use Rattle.source_graph.specs.syntax_tree.declared.source_tree.declaration.Routine.{Routine, Row_of-Declaration, end_of-Declaration, more_of-Declaration}
use Rattle.source_graph.specs.syntax_tree.declared.source_tree.declaration.Routine.TheVariants as r
use Rattle.source_graph.specs.syntax_tree.declared.source_tree.declaration.Declaration.{Declaration}
use Rattle.source_graph.specs.syntax_tree.declared.source_tree.declaration.Declaration.TheVariants as d
use Rattle.source_graph.specs.syntax_tree.source_tree.Declarations.{of_constant, next_items, constants_of, Words, in_block, of_part, routine_of, method_of, block_with, of_routine, of_declarations, declarations_of}
use Rattle.units_well_formed.specs.tp_check_decl.routines.Trees.{view_routine, view_declaration_row, view_declarations}
use Rattle.units_well_formed.specs.units.BelowMore.{HasLiterals}
use Rattle.units_well_formed.specs.units.Below.{AreWritten, HasBodies, HaveBodies}
use Rattle.token_provenance.specs.sources.Variables.{HasFewInside, EachHasFew}
use Rattle.token_provenance.proofs.sources.Full.{IsFull}
use Rattle.token_provenance.proofs.sources.Expressions.{simple_written}
use Rattle.token_provenance.proofs.sources.Depths.{body_kept}

-- ---- constants

with_constant : (one : ConstantDeclaration) (more : List ConstantDeclaration) → IsFull (of_constant one) → AreWritten more → AreWritten (one ∷ more)
with_constant (c.Plain name x) more s k = ((simple_written x (of p.no_terms []) s.2.0.2.0).0, k)
with_constant (c.Typed name denoter x) more s k = k

next_constants_written : (all : List ConstantDeclaration) → IsFull (next_items of_constant p.next_constant all (of p.no_constants [])) → AreWritten all
next_constants_written [] s = tt
next_constants_written (one ∷ all) s = with_constant one all s.0 (next_constants_written all s.2.0)

constants_written : (all : List ConstantDeclaration) → IsFull (constants_of all).0 → IsFull (constants_of all).1 → AreWritten all
constants_written [] s k = tt
constants_written (one ∷ all) s k = with_constant one all s (next_constants_written all k)

-- ---- parts

pub part_written : (w : Words) (one : DeclarationPart) (more : Parsed) → IsFull (of_part w one more) → HasLiterals one
part_written w (part.Constants here all) more s = constants_written all.items s.2.0 s.2.2.0
part_written w (part.Types here all) more s = tt
part_written w (part.Variables here all) more s = tt

pub behind_part : (w : Words) (one : DeclarationPart) (more : Parsed) → IsFull (of_part w one more) → IsFull more
behind_part w (part.Constants here all) more s = s.2.2.2.0
behind_part w (part.Types here all) more s = s.2.2.2.0
behind_part w (part.Variables here all) more s = s.2.2.2.0

-- ---- routines

behind_routine : (one : RoutineHeader) (body : Parsed) → IsFull (routine_of one body) → IsFull body
behind_routine (h.Procedure here name groups) body s = s.2.2.0.2.2.0
behind_routine (h.Function here name groups result) body s = s.2.2.0.2.2.2.0

behind_method : (one : MethodHeader) (owner : Identifier) (block : Parsed) → IsFull (method_of one owner block) → IsFull block
behind_method (m.Procedure here name groups) owner block s = s.2.2.0.2.2.2.2.0
behind_method (m.Function here name groups result) owner block s = s.2.2.0.2.2.2.2.2.0
behind_method (m.Constructor here name groups) owner block s = s.2.2.2.2.2.2.0
behind_method (m.Destructor here name groups) owner block s = s.2.2.2.2.2.2.0

mutual
  routine_kept : (one : Routine) → IsFull (of_routine one) → HasFewInside (view_routine one) → HasBodies (view_routine one)
  routine_kept (r.Forward x) s few = tt
  routine_kept (r.Plain' x shape all body) s few =
      let block : IsFull (block_with (of_declarations all) body) = (behind_routine x _ s).0 in
      (row_kept all block.0 few.1, few.0, body_kept body block.2.0 block.2.1)
  routine_kept (r.Method' x owner shape all body) s few =
      let block : IsFull (block_with (of_declarations all) body) = behind_method x owner _ s in
      (row_kept all block.0 few.1, few.0, body_kept body block.2.0 block.2.1)

  row_kept : {n : _} (all : Row_of-Declaration n) → IsFull (of_declarations all) → EachHasFew (view_declaration_row all) → HaveBodies (view_declaration_row all)
  row_kept end_of-Declaration s few = tt
  row_kept (more_of-Declaration (d.Part x) all) s few =
      (part_written in_block x (of_declarations all) s, row_kept all (behind_part in_block x (of_declarations all) s) few)
  row_kept (more_of-Declaration (d.Routine x) all) s few = (routine_kept x s.0 few.0, row_kept all s.2.0 few.1)

-- the declarations of a list
pub declarations_kept : (all : List Declaration) → IsFull (declarations_of all) → EachHasFew (view_declarations all) → HaveBodies (view_declarations all)
declarations_kept [] s few = tt
declarations_kept (d.Part x ∷ all) s few =
    (part_written in_block x (declarations_of all) s, declarations_kept all (behind_part in_block x (declarations_of all) s) few)
declarations_kept (d.Routine x ∷ all) s few = (routine_kept x s.0 few.0, declarations_kept all s.2.0 few.1)
