-- The node of a call through a place, from its arguments.
use Rattle.std.proofs.Common.{◌≡◌, Option, map, ap, sym, ◌∙◌, Vec, Box, Global}
use Rattle.type_layout.specs.declared.definitions.TypeId.{TypeId}
use Rattle.typed_tree.specs.declared.expressions.Arg.{Arg}
use Rattle.typed_tree.specs.declared.expressions.PlaceExpr.{PlaceExpr}
use Rattle.typed_tree.specs.declared.expressions.Expr.TheVariants as expr
use Rattle.typed_tree.specs.Expressions.{Arguments, CallThrough, view_expr, view_place}
use Rattle.typed_tree.proofs.Views.{view_call_through}
use Rattle.call_rules.specs.Given.{view_handed, arguments_of}
use Rattle.call_rules.proofs.Nodes.{viewed}

pub through_node : (ty : Option TypeId) (place : Box PlaceExpr Global) (at : PlaceExpr) (args : Vec Arg Global) → place.value ≡ at
    → CallThrough ty (view_place at) (arguments_of (map view_handed args.items)) ≡ view_expr (expr.CallThrough ty place args)
through_node ty place at args e =
    rw (← e) (sym (view_call_through ty place args ∙ ap (λ (z : Arguments). CallThrough ty (view_place place.value) z) (viewed args.items)))
