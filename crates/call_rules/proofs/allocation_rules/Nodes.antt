-- The nodes of New and Dispose, from their arguments.
use Rattle.std.proofs.Common.{◌≡◌, List, [], Option, map, ap, ◌∙◌, Vec, Box, Global}
use Rattle.type_layout.specs.declared.definitions.TypeId.{TypeId}
use Rattle.type_layout.specs.declared.definitions.RoutineId.{RoutineId}
use Rattle.typed_tree.specs.declared.expressions.Arg.{Arg}
use Rattle.typed_tree.specs.declared.expressions.Expr.{Expr}
use Rattle.typed_tree.specs.declared.expressions.Expr.TheVariants as expr
use Rattle.typed_tree.specs.declared.statements.Destructor.{Destructor}
use Rattle.typed_tree.specs.declared.statements.Stmt.TheVariants as stmt
use Rattle.typed_tree.specs.Expressions.{Arguments, NoArguments, Std, Make, view_expr, view_args}
use Rattle.typed_tree.specs.Statements.{Unmake, view_stmt}
use Rattle.typed_tree.specs.Standard as routine
use Rattle.typed_tree.proofs.Views.{view_std, view_make}
use Rattle.call_rules.specs.Given.{view_handed, arguments_of}
use Rattle.call_rules.proofs.Nodes.{viewed}

pub blank_node : (ty : Option TypeId) (args : Vec Arg Global) → args.items ≡ [] → view_expr (expr.Std ty routine.new args) ≡ Std ty routine.new NoArguments
blank_node ty args e = view_std ty routine.new args ∙ ap (λ (l : List Arg). Std ty routine.new (view_args l)) e

pub make_node : (ty : TypeId) (routine : RoutineId) (args : Vec Arg Global) → view_expr (expr.Make ty routine args) ≡ Make ty routine (arguments_of (map view_handed args.items))
make_node ty routine args = view_make ty routine args ∙ ap (λ (z : Arguments). Make ty routine z) (viewed args.items)

pub unmake_node : (pointer : Box Expr Global) (one : Destructor) (args : Vec Arg Global)
    → view_stmt (stmt.Unmake pointer one args) ≡ Unmake (view_expr pointer.value) one (arguments_of (map view_handed args.items))
unmake_node pointer one args = ap (λ (z : Arguments). Unmake (view_expr pointer.value) one z) (viewed args.items)
