-- The node of a method's call, from its arguments.
use Rattle.std.proofs.Common.{◌≡◌, ℕ, Bool, Option, Some, map, ap, sym, ◌∙◌, Vec, Box, Global}
use Rattle.type_layout.specs.declared.definitions.TypeId.{TypeId}
use Rattle.type_layout.specs.declared.definitions.RoutineId.{RoutineId}
use Rattle.typed_tree.specs.declared.expressions.Arg.{Arg}
use Rattle.typed_tree.specs.declared.expressions.PlaceExpr.{PlaceExpr}
use Rattle.typed_tree.specs.declared.expressions.Expr.TheVariants as expr
use Rattle.typed_tree.specs.Expressions.{Arguments, Call, CallVirtual, Own, view_expr, view_place}
use Rattle.typed_tree.proofs.Views.{view_call, view_call_virtual}
use Rattle.call_rules.specs.Given.{view_handed, arguments_of}
use Rattle.call_rules.proofs.Nodes.{viewed}
use Rattle.call_rules.specs.declared.method_rules.methods.Callee.{Callee}
use Rattle.call_rules.specs.declared.method_rules.methods.Callee.TheVariants as callee
use Rattle.call_rules.specs.method_rules.Calls.{node_of}

module _ (own : Box PlaceExpr Global) (ty : Option TypeId) (checked : Bool) (args : Vec Arg Global) where
  routine_node : (routine : RoutineId)
      → view_expr (expr.Call ty routine (Some own) args) ≡ Call ty routine (Own (view_place own.value)) (arguments_of (map view_handed args.items))
  routine_node routine = view_call ty routine (Some own) args ∙ ap (λ (z : Arguments). Call ty routine (Own (view_place own.value)) z) (viewed args.items)

  slot_node : (slot : ℕ)
      → view_expr (expr.CallVirtual ty own slot checked args) ≡ CallVirtual ty (view_place own.value) slot checked (arguments_of (map view_handed args.items))
  slot_node slot = view_call_virtual ty own slot checked args ∙ ap (λ (z : Arguments). CallVirtual ty (view_place own.value) slot checked z) (viewed args.items)

  pub routine_called : (one : Callee) (routine : RoutineId) (at : PlaceExpr) → one ≡ callee.Routine routine → own.value ≡ at
      → node_of one (view_place at) ty checked (arguments_of (map view_handed args.items)) ≡ view_expr (expr.Call ty routine (Some own) args)
  routine_called one routine at e h = rw (e, ← h) (sym (routine_node routine))

  pub slot_called : (one : Callee) (slot : ℕ) (at : PlaceExpr) → one ≡ callee.Slot slot → own.value ≡ at
      → node_of one (view_place at) ty checked (arguments_of (map view_handed args.items)) ≡ view_expr (expr.CallVirtual ty own slot checked args)
  slot_called one slot at e h = rw (e, ← h) (sym (slot_node slot))
