-- What a well-typed program asks can be met by a program of several units.
use Rattle.std.specs.Prelude.{◌≡◌}
use Rattle.unit_references.specs.typed_tree.declared.statements.Stmt.{Stmt}
use Rattle.unit_references.specs.typed_tree.Statements.{view_stmt}
use Rattle.unit_references.specs.tp_meaning.ShownCalls.{Boxed}
use Rattle.unit_references.specs.program_typing.programs.WellTyped.{IsWellTyped}
use Rattle.program_samples.specs.Sample.{init_body, tell_body, main_body, sample}

-- Wherever its trees lie, the program with these bodies is well-typed, and there are trees of these bodies.
pub record IsMet (init tell main : Stmt) : Type 0 where
  pub init_is : view_stmt init ≡ init_body
  pub tell_is : view_stmt tell ≡ tell_body
  pub main_is : view_stmt main ≡ main_body
  pub typed : IsWellTyped (sample init tell main)

abbrev pub CanBeMet : Type 0
CanBeMet = (b : Boxed) → (init : Stmt) × (tell : Stmt) × (main : Stmt) × IsMet init tell main
