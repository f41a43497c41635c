-- What sources keep of the declarations and statements of routines.
use Rattle.std.specs.Prelude.{ℕ, ◌+◌, ◌<◌, ◌≤◌, ◌^◌, List, [], ◌∷◌, length}
use Rattle.declarations_well_formed.specs.syntax_tree.declared.statement.CompoundStatement.{CompoundStatement}
use Rattle.declarations_well_formed.specs.syntax_tree.declared.source_tree.declaration.VariableDeclaration.{VariableDeclaration}
use Rattle.declarations_well_formed.specs.syntax_tree.declared.source_tree.declaration.DeclarationPart.{DeclarationPart}
use Rattle.declarations_well_formed.specs.syntax_tree.declared.source_tree.declaration.DeclarationPart.TheVariants as part_of
use Rattle.declarations_well_formed.specs.syntax_tree.statement_tree.Trees.{view_statements}
use Rattle.declarations_well_formed.specs.tp_check_decl.routines.Trees.{Work, Works, forward, plain, method, no_works, and_part, and_work}
use Rattle.declarations_well_formed.specs.bodies_well_formed.statements.Trees.{HaveLiterals, depth_in}
use Rattle.declarations_well_formed.specs.values.Literals.{HasLiterals}

-- the literals of a body, and no more `with`s inside one another than are numbered
pub record IsKept (body : CompoundStatement) : Type 0 where
  pub literals : HaveLiterals (view_statements body.statements.items)
  pub depth : depth_in (view_statements body.statements.items) ≤ 2 ^ 31

-- how many variables are declared
abbrev pub names_in : List VariableDeclaration → ℕ
names_in [] = 0
names_in (one ∷ rest) = length one.names.items + names_in rest

abbrev pub variables_of : DeclarationPart → ℕ
variables_of (part_of.Variables here all) = names_in all.items
variables_of _ = 0

abbrev pub variables_in : Works → ℕ
variables_in no_works = 0
variables_in (and_part one rest) = variables_of one + variables_in rest
variables_in (and_work one rest) = variables_in rest

-- literals of constants and of bodies, and not too many variables in the block of a routine
abbrev mutual
  pub HasBodies : Work → Type 0
  HasBodies (forward one) = Unit {0}
  HasBodies (plain one all body) = HaveBodies all × (variables_in all < 2 ^ 31) × IsKept body
  HasBodies (method one owner all body) = HaveBodies all × (variables_in all < 2 ^ 31) × IsKept body

  pub HaveBodies : Works → Type 0
  HaveBodies no_works = Unit {0}
  HaveBodies (and_part one rest) = HasLiterals one × HaveBodies rest
  HaveBodies (and_work one rest) = HasBodies one × HaveBodies rest
