-- Each statement that is typed by the rules has a node that is well formed.
use Rattle.std.specs.Prelude.{◌+◌, ◌≤◌, ◌^◌, length}
use Rattle.tp_check_stmt.specs.typed_tree.Statements.{Statement}
use Rattle.rules_well_formed.specs.well_formed.Scopes.{Scope}
use Rattle.rules_well_formed.specs.well_formed.WellFormed.{IsStatement}
use Rattle.tp_check_stmt.specs.scopes.Environment.{Environment}
use Rattle.tp_check_stmt.specs.syntax_tree.statement_tree.Trees.{Task}
use Rattle.tp_check_stmt.specs.Typed.{IsStatedAs}
use Rattle.bodies_well_formed.specs.statements.Trees.{HasLiterals, depth_of}
use Rattle.bodies_well_formed.specs.statements.Within.{AgreesWithin}

-- `with`s are numbered by the places behind 2^31, of which there are so many: those that are open and those of the statement.
abbrev pub StatementLaw : Type 0
StatementLaw =
    (g : Environment) (s : Scope) → AgreesWithin g s → (task : Task) (one : Statement) → HasLiterals task → depth_of task + length s.withs ≤ 2 ^ 31
    → IsStatedAs g task one → IsStatement s one
