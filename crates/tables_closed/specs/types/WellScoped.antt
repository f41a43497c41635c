-- Scopes stay closed where types are declared, and tables ordered.
use Rattle.std.specs.Prelude.{ℕ, ◌<◌, List, [], Option, length}
use Rattle.tp_check_decl.specs.syntax_tree.declared.source_tree.declaration.TypeDeclaration.{TypeDeclaration}
use Rattle.tp_check_decl.specs.scopes.Environment.{Environment}
use Rattle.tp_check_decl.specs.declaration_checker.type_denoters.Trees.{Denoter}
use Rattle.tp_check_decl.specs.declaration_checker.type_denoters.Additions.{Denoted}
use Rattle.tp_check_decl.specs.declaration_checker.type_denoters.Denoters.{ground, judged}
use Rattle.tp_check_decl.specs.declaration_checker.type_parts.Parts.{type_part}
use Rattle.tables_closed.specs.constants.Bounds.{IsWellScopedEnvironment}
use Rattle.tables_closed.specs.constants.Ordered.{IsOrdered}

-- Behind a type, or a part of type declarations, the table has each type that is named, where it had before.
pub record StayWellScoped : Type 0 where
  pub type : (unit : List ℕ) (g : Environment) (one : Denoter) (made : Denoted) → (judged (ground unit []) g one).holds made → IsWellScopedEnvironment g
      → IsWellScopedEnvironment made.scope × (made.ty.0 < length made.scope.types.types)
  pub part : (unit : List ℕ) (next : Option ℕ) (g : Environment) (all : List TypeDeclaration) (h : Environment) → (type_part unit next g all).holds h → IsWellScopedEnvironment g → IsWellScopedEnvironment h

-- The table stays ordered.
pub record StayOrdered : Type 0 where
  pub type : (unit : List ℕ) (g : Environment) (one : Denoter) (made : Denoted) → (judged (ground unit []) g one).holds made → IsOrdered g.types → IsOrdered made.scope.types
  pub part : (unit : List ℕ) (next : Option ℕ) (g : Environment) (all : List TypeDeclaration) (h : Environment) → (type_part unit next g all).holds h → IsOrdered g.types → IsOrdered h.types
