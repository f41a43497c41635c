-- Trees of the program.
use Rattle.std.proofs.Common.{◌≡◌, ℕ, ◌<◌, false, pos, List, [], ◌∷◌, length, Some, None, Vec, Global, refl, ap₂, ◌∙◌, arith}
use Rattle.std.specs.Prelude.{codes}
use Rattle.unit_references.specs.typed_tree.declared.expressions.Value.TheVariants as constant
use Rattle.unit_references.specs.typed_tree.declared.expressions.BinaryOp.TheVariants as two
use Rattle.unit_references.specs.typed_tree.declared.expressions.Expr.{Expr}
use Rattle.unit_references.specs.typed_tree.declared.expressions.Expr.TheVariants as expr
use Rattle.unit_references.specs.typed_tree.declared.expressions.PlaceExpr.{PlaceExpr}
use Rattle.unit_references.specs.typed_tree.declared.expressions.PlaceExpr.TheVariants as place
use Rattle.unit_references.specs.typed_tree.declared.expressions.SetElement.TheVariants as element
use Rattle.unit_references.specs.typed_tree.declared.expressions.Arg.TheVariants as arg
use Rattle.unit_references.specs.typed_tree.declared.statements.Stmt.{Stmt}
use Rattle.unit_references.specs.typed_tree.declared.statements.Stmt.TheVariants as stmt
use Rattle.unit_references.specs.typed_tree.Expressions.{Expression, Binary, Load, FieldOf}
use Rattle.unit_references.specs.typed_tree.Statements.{Statement, Run, If, Block, Then, NoStatements, view_stmt}
use Rattle.unit_references.specs.tp_meaning.ShownCalls.{Boxed, boxed}
use Rattle.typed_tree.proofs.Views.{view_set, view_call, view_call_virtual}
use Rattle.typed_tree.proofs.StatementViews.{view_block}
use Rattle.program_samples.specs.Sample.{byte, boolean, text, set_of_byte, tell_body, main_body, local}

module _ (b : Boxed) where
  -- a vector of these elements
  abbrev vector : {X : Type 0} (all : List X) → length all < 16 → Vec X Global
  vector all few = record { ptr = b.ptr; len = length all; cap = length all; alloc = b.alloc; items = all; ok = (refl, omega arith); small = omega (arith, few) }

  abbrev global_tree : ℕ → PlaceExpr
  global_tree n = place.Var (record { unit = 0; level = 0; number = n })

  abbrev local_tree : ℕ → PlaceExpr
  local_tree n = place.Var (record { unit = 0; level = 1; number = n })

  abbrev number_tree : ℕ → Expr
  number_tree n = expr.Const byte (constant.Number (pos n))

  -- ---- the methods

  abbrev pub init_tree : Stmt
  init_tree = stmt.Assign (boxed b (place.FieldOf' b (local_tree 0) 0)) (boxed b (number_tree 4))

  abbrev set_tree : Expr
  set_tree = expr.SetOf set_of_byte (vector (element.One (number_tree 1) ∷ element.Span (number_tree 3) (number_tree 5) ∷ []) (omega arith))

  abbrev few_tree : Expr
  few_tree = expr.Binary' boolean two.In b (expr.Load' byte b (place.FieldOf' b (local_tree 1) 0)) b set_tree false

  abbrev nothing : Stmt
  nothing = stmt.Block (vector [] (omega arith))

  abbrev pub tell_tree : Stmt
  tell_tree = stmt.If' (boxed b few_tree) b (stmt.Assign (boxed b (local_tree 0)) (boxed b (expr.Const text (constant.Chars (codes "few"))))) b nothing

  pub tell_view : view_stmt tell_tree ≡ tell_body
  tell_view =
      ap₂ (λ (set : Expression) (none : Statement). If (Binary boolean two.In (Load byte (FieldOf (local 1) 0)) set false) (view_stmt (stmt.Assign (boxed b (local_tree 0)) (boxed b (expr.Const text (constant.Chars (codes "few")))))) none)
      (view_set set_of_byte _) (view_block _)

  -- ---- the main part

  abbrev init_call : Expr
  init_call = expr.Call None (record { unit = 1; number = 0 }) (Some (boxed b (global_tree 0))) (vector [] (omega arith))

  abbrev tell_call : Expr
  tell_call = expr.CallVirtual None (boxed b (global_tree 0)) 0 false (vector (arg.Place (global_tree 1) ∷ []) (omega arith))

  abbrev written : Stmt
  written = stmt.WriteItems (vector ((record { value = boxed b (expr.Load' text b (global_tree 1)); width = None }) ∷ []) (omega arith)) false

  abbrev pub main_tree : Stmt
  main_tree = stmt.Block (vector (stmt.Run (boxed b init_call) ∷ stmt.Run (boxed b tell_call) ∷ written ∷ []) (omega arith))

  pub main_view : view_stmt main_tree ≡ main_body
  main_view =
      view_block _
      ∙ ap₂ (λ (one : Expression) (other : Expression). Block (Then (Run one) (Then (Run other) (Then (view_stmt written) NoStatements))))
      (view_call None (record { unit = 1; number = 0 }) (Some (boxed b (global_tree 0))) _) (view_call_virtual None (boxed b (global_tree 0)) 0 false _)
