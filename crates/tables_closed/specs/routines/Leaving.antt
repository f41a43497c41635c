-- Scopes stay closed behind the declarations of a block.
use Rattle.std.specs.Prelude.{ℕ, Bool, List}
use Rattle.tp_check_decl.specs.syntax_tree.declared.source_tree.declaration.RoutineHeader.{RoutineHeader}
use Rattle.tp_check_decl.specs.declared.routines.drafts.Site.{Site}
use Rattle.tp_check_decl.specs.routines.Trees.{Works}
use Rattle.tp_check_decl.specs.routines.Drafts.{Drafted, Stage}
use Rattle.tp_check_decl.specs.routines.Headings.{heading}
use Rattle.tp_check_decl.specs.routines.Blocks.{all_judged}
use Rattle.tables_closed.specs.constants.Bounds.{IsWellScopedEnvironment}
use Rattle.tables_closed.specs.constants.Ordered.{IsOrdered}

-- Behind a header, and behind declarations with their routines, the table has each type that is named, where it had before, and
-- stays ordered.
pub record LeaveWellScoped : Type 0 where
  pub header : (far : Bool) (site : Site) (d : Drafted) (one : RoutineHeader) (made : Drafted) → (heading far site d one).holds made → IsWellScopedEnvironment d.scope → IsWellScopedEnvironment made.scope
  pub declarations : (unit : List ℕ) (site : Site) (s : Stage) (all : Works) (made : Stage) → (all_judged unit site s all).holds made → IsWellScopedEnvironment s.draft.scope → IsWellScopedEnvironment made.draft.scope
  pub ordered : (unit : List ℕ) (site : Site) (s : Stage) (all : Works) (made : Stage) → (all_judged unit site s all).holds made → IsOrdered s.draft.scope.types → IsOrdered made.draft.scope.types
