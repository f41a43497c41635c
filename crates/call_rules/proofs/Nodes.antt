-- Arguments as a node has them, and the node of a call.
use Rattle.std.proofs.Common.{◌≡◌, Bool, List, [], ◌∷◌, Option, Some, None, Ok, map, refl, sym, ap, ◌∙◌, Vec, Global}
use Rattle.type_layout.specs.declared.definitions.TypeId.{TypeId}
use Rattle.type_layout.specs.declared.definitions.RoutineId.{RoutineId}
use Rattle.type_layout.specs.declared.definitions.Header.{Header}
use Rattle.type_layout.specs.declared.definitions.TypeDef.{TypeDef}
use Rattle.type_layout.specs.declared.texts.Place.{Place}
use Rattle.typed_tree.specs.declared.expressions.Arg.{Arg}
use Rattle.typed_tree.specs.declared.expressions.Arg.TheVariants as arg
use Rattle.typed_tree.specs.declared.expressions.Expr.TheVariants as expr
use Rattle.typed_tree.specs.Expressions.{Expression, Arguments, ByValue, ByPlace, Call, NoReceiver, view_expr, view_place, view_args}
use Rattle.typed_tree.proofs.Views.{view_call}
use Rattle.call_rules.specs.Given.{Handed, view_handed, arguments_of, given, result_called, called, result_performed, performed}

pub viewed : (args : List Arg) → view_args args ≡ arguments_of (map view_handed args)
viewed [] = refl
viewed (arg.Value one ∷ rest) = ap (λ (z : Arguments). ByValue (view_expr one) z) (viewed rest)
viewed (arg.Place at ∷ rest) = ap (λ (z : Arguments). ByPlace (view_place at) z) (viewed rest)

called_node : (ty : Option TypeId) (routine : RoutineId) (args : Vec Arg Global) → view_expr (expr.Call ty routine None args) ≡ Call ty routine NoReceiver (arguments_of (map view_handed args.items))
called_node ty routine args = view_call ty routine None args ∙ ap (λ (z : Arguments). Call ty routine NoReceiver z) (viewed args.items)

module _ (types : List TypeDef) (place : Place) (checked : Bool) (routine : RoutineId) (header : Header) (es : List Expression) where
  called_at : (result : Option TypeId) (ty : TypeId) (all : List Handed) → result ≡ Some ty → (given types place checked header.params es).run ≡ Ok all
      → (result_called types place checked routine header result es).run ≡ Ok (Call (Some ty) routine NoReceiver (arguments_of all))
  called_at None ty all e h = cc
  called_at (Some own) ty all e h = rw (e, h) refl

  performed_at : (result : Option TypeId) (all : List Handed) → result ≡ None → (given types place checked header.params es).run ≡ Ok all
      → (result_performed types place checked routine header result es).run ≡ Ok (Call None routine NoReceiver (arguments_of all))
  performed_at None all e h = rw h refl
  performed_at (Some own) all e h = cc

  -- the node of a function's call, from its arguments
  pub called_gives : (ty : TypeId) (args : Vec Arg Global) → header.result ≡ Some ty → (given types place checked header.params es).run ≡ Ok (map view_handed args.items)
      → (called types place checked routine header es).run ≡ Ok (view_expr (expr.Call (Some ty) routine None args))
  unfolding called
  called_gives ty args e h = called_at header.result ty (map view_handed args.items) e h ∙ ap (λ (n : Expression). Ok n) (sym (called_node (Some ty) routine args))

  -- that of a procedure's
  pub performed_gives : (args : Vec Arg Global) → header.result ≡ None → (given types place checked header.params es).run ≡ Ok (map view_handed args.items)
      → (performed types place checked routine header es).run ≡ Ok (view_expr (expr.Call None routine None args))
  unfolding performed
  performed_gives args e h = performed_at header.result (map view_handed args.items) e h ∙ ap (λ (n : Expression). Ok n) (sym (called_node None routine args))
