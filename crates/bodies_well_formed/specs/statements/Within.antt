-- When what is known inside a routine agrees with what trees may name there.
use Rattle.std.specs.Prelude.{◌≡◌, ℕ, ◌+◌, Bool, true, List, Option, Some, length}
use Rattle.tp_check_stmt.specs.type_layout.declared.definitions.TypeId.{TypeId}
use Rattle.tp_check_stmt.specs.type_layout.declared.definitions.RoutineId.{RoutineId}
use Rattle.tp_check_stmt.specs.type_layout.declared.definitions.Header.{Header}
use Rattle.tp_check_stmt.specs.type_layout.declared.definitions.Method.{Method}
use Rattle.rules_well_formed.specs.well_formed.Scopes.{Scope, HasVariable}
use Rattle.tp_check_stmt.specs.scopes.declared.entries.Entry.TheVariants as entry
use Rattle.tp_check_stmt.specs.scopes.declared.entries.BlockKind.TheVariants as block
use Rattle.tp_check_stmt.specs.scopes.Members.{narrow}
use Rattle.tp_check_stmt.specs.scopes.Environment.{Environment, named, find, kind_of, block_count}
use Rattle.tp_check_stmt.specs.call_rules.method_rules.Methods.{method_in, routine_in}
use Rattle.tp_check_stmt.specs.tp_check_expr.Names.{variable}
use Rattle.tp_check_stmt.specs.tp_check_expr.Owners.{with_depth}
use Rattle.tp_check_stmt.specs.Assignments.{is_inside, is_numbered}
use Rattle.bodies_well_formed.specs.expressions.Agreeing.{Agrees}

-- Besides what expressions ask: open `with`s are held in their order; within the body of a function its result is a variable behind
-- the parameters, and within that of a method one behind Self.
pub record AgreesWithin (g : Environment) (s : Scope) : Type 0 where
  pub agrees : Agrees g s
  pub depth : with_depth g (block_count g) ≡ length s.withs
  pub results : (name : List ℕ) (number : ℕ) (routine : RoutineId) (level : ℕ) (header : Header) (far : Bool) (ty : TypeId)
      → find g name ≡ Some (named number (entry.Code routine level header far)) → header.result ≡ Some ty → is_inside g routine ≡ true
      → HasVariable s (variable g 0 (narrow (level + 1)) (narrow (length header.params))) ty
  pub methods : (number own : ℕ) (owner : Option TypeId) (class : TypeId) (name : List ℕ) (method : Method) (ty : TypeId)
      → kind_of g number ≡ Some (block.Routine own owner) → method_in g.types.types class name ≡ Some method
      → is_numbered own (routine_in g method.routine) ≡ true → method.header.result ≡ Some ty
      → HasVariable s (variable g 0 1 (narrow (length method.header.params + 1))) ty
