-- Parts of declarations put names to what is there.
use Rattle.std.specs.Prelude.{ℕ, ◌≤◌, List, Option, length}
use Rattle.bodies_well_formed.specs.syntax_tree.declared.source_tree.declaration.DeclarationPart.{DeclarationPart}
use Rattle.imported_types_agree.specs.declaration_checker.declared.declarations.homes.Home.{Home}
use Rattle.imported_types_agree.specs.declaration_checker.declarations.Progress.{Progress}
use Rattle.imported_types_agree.specs.declaration_checker.declarations.Parts.{part_declared}
use Rattle.imported_types_agree.specs.tables_closed.constants.Bounds.{IsWellScopedEnvironment}
use Rattle.declarations_well_formed.specs.tables.Laws.{IsFit, HasPredeclared}
use Rattle.declarations_well_formed.specs.values.Literals.{HasLiterals}
use Rattle.declarations_well_formed.specs.values.Values.{HasValues, Gives}

-- in an open block, where the scope has all that it names, and behind the part the table is within its bounds
abbrev pub ValueLaw : Type 0
ValueLaw = (unit : List ℕ) (home : Home) (next : Option ℕ) (p q : Progress) (one : DeclarationPart) → (part_declared unit home next p one).holds q → 1 ≤ length p.scope.blocks → HasPredeclared p.scope.types.types
    → IsWellScopedEnvironment p.scope → HasValues p.scope → HasLiterals one → IsFit q.scope.types.types → Gives home p q
