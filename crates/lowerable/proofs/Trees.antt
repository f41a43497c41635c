-- What trees round a list call, by the lists that lie in vectors.
use Rattle.std.proofs.Common.{◌≡◌, ℕ, Bool, true, false, ◌&&◌, List, ◌∷◌, Option, refl, ap, Vec, Box, Global}
use Rattle.type_layout.specs.declared.definitions.TypeId.{TypeId}
use Rattle.type_layout.specs.declared.definitions.RoutineId.{RoutineId}
use Rattle.typed_tree.specs.declared.units.Unit.{Unit as TypedUnit}
use Rattle.typed_tree.specs.declared.expressions.Expr.{Expr}
use Rattle.typed_tree.specs.declared.expressions.Expr.TheVariants as expr
use Rattle.typed_tree.specs.declared.expressions.PlaceExpr.{PlaceExpr}
use Rattle.typed_tree.specs.declared.expressions.SetElement.{SetElement}
use Rattle.typed_tree.specs.declared.expressions.SetElement.TheVariants as element
use Rattle.typed_tree.specs.declared.expressions.Arg.{Arg}
use Rattle.typed_tree.specs.declared.expressions.Arg.TheVariants as arg
use Rattle.typed_tree.specs.declared.statements.Stmt.{Stmt}
use Rattle.typed_tree.specs.declared.statements.Stmt.TheVariants as stmt
use Rattle.typed_tree.specs.declared.statements.Arm.{Arm}
use Rattle.typed_tree.specs.Expressions.{view_expr, view_place, view_receiver, view_args, view_elements}
use Rattle.typed_tree.specs.Statements.{view_stmt, view_stmts, view_arms}
use Rattle.typed_tree.proofs.Views.{view_set, view_call, view_call_virtual, view_call_through, view_std, view_make}
use Rattle.typed_tree.proofs.StatementViews.{view_block, view_case}
use Rattle.lowerable.specs.Farness.{is_callable, is_linkable, is_linkable_place, is_linkable_receiver, are_linkable_elements, are_linkable, is_linkable_element, is_linkable_argument, is_linkable_statement, are_linkable_statements, are_linkable_arms}

-- ---- one that holds leaves the rest to tell

pub behind_one : (first rest : Bool) → first ≡ true → rest ≡ (first && rest)
behind_one true rest h = refl
behind_one false rest h = absurd cc

pub behind_two : (first second rest : Bool) → first ≡ true → second ≡ true → rest ≡ (first && (second && rest))
behind_two true second rest h k = behind_one second rest k
behind_two false second rest h k = absurd cc

-- ---- one that doesn't hold decides

pub stopped_one : (first rest : Bool) → first ≡ false → false ≡ (first && rest)
stopped_one true rest h = absurd cc
stopped_one false rest h = refl

pub stopped_two : (first second rest : Bool) → first ≡ true → second ≡ false → false ≡ (first && (second && rest))
stopped_two true second rest h k = stopped_one second rest k
stopped_two false second rest h k = absurd cc

-- ---- trees round a list

pub linkable_set : (units : List TypedUnit) (unit : TypedUnit) (ty : TypeId) (elements : Vec SetElement Global)
    → is_linkable units unit (view_expr (expr.SetOf ty elements)) ≡ are_linkable_elements units unit (view_elements elements.items)
linkable_set units unit ty elements = ap (is_linkable units unit) (view_set ty elements)

pub linkable_call : (units : List TypedUnit) (unit : TypedUnit) (ty : Option TypeId) (routine : RoutineId) (own : Option (Box PlaceExpr Global)) (args : Vec Arg Global)
    → is_linkable units unit (view_expr (expr.Call ty routine own args)) ≡ (is_callable units unit routine && (is_linkable_receiver units unit (view_receiver own) && are_linkable units unit (view_args args.items)))
linkable_call units unit ty routine own args = ap (is_linkable units unit) (view_call ty routine own args)

pub linkable_virtual : (units : List TypedUnit) (unit : TypedUnit) (ty : Option TypeId) (own : Box PlaceExpr Global) (slot : ℕ) (checked : Bool) (args : Vec Arg Global)
    → is_linkable units unit (view_expr (expr.CallVirtual ty own slot checked args)) ≡ (is_linkable_place units unit (view_place own.value) && are_linkable units unit (view_args args.items))
linkable_virtual units unit ty own slot checked args = ap (is_linkable units unit) (view_call_virtual ty own slot checked args)

pub linkable_through : (units : List TypedUnit) (unit : TypedUnit) (ty : Option TypeId) (through : Box PlaceExpr Global) (args : Vec Arg Global)
    → is_linkable units unit (view_expr (expr.CallThrough ty through args)) ≡ (is_linkable_place units unit (view_place through.value) && are_linkable units unit (view_args args.items))
linkable_through units unit ty through args = ap (is_linkable units unit) (view_call_through ty through args)

pub linkable_std : (units : List TypedUnit) (unit : TypedUnit) (ty : Option TypeId) (number : ℕ) (args : Vec Arg Global)
    → is_linkable units unit (view_expr (expr.Std ty number args)) ≡ are_linkable units unit (view_args args.items)
linkable_std units unit ty number args = ap (is_linkable units unit) (view_std ty number args)

pub linkable_make : (units : List TypedUnit) (unit : TypedUnit) (ty : TypeId) (routine : RoutineId) (args : Vec Arg Global)
    → is_linkable units unit (view_expr (expr.Make ty routine args)) ≡ (is_callable units unit routine && are_linkable units unit (view_args args.items))
linkable_make units unit ty routine args = ap (is_linkable units unit) (view_make ty routine args)

pub linkable_block : (units : List TypedUnit) (unit : TypedUnit) (statements : Vec Stmt Global)
    → is_linkable_statement units unit (view_stmt (stmt.Block statements)) ≡ are_linkable_statements units unit (view_stmts statements.items)
linkable_block units unit statements = ap (is_linkable_statement units unit) (view_block statements)

pub linkable_case : (units : List TypedUnit) (unit : TypedUnit) (selector : Box Expr Global) (arms : Vec Arm Global) (other : Box Stmt Global)
    → is_linkable_statement units unit (view_stmt (stmt.Case selector arms other)) ≡ (is_linkable units unit (view_expr selector.value) && (are_linkable_arms units unit (view_arms arms.items) && is_linkable_statement units unit (view_stmt other.value)))
linkable_case units unit selector arms other = ap (is_linkable_statement units unit) (view_case selector arms other)

-- ---- one step of the loops

pub linkable_arguments_step : (units : List TypedUnit) (unit : TypedUnit) (one : Arg) (rest : List Arg)
    → are_linkable units unit (view_args (one ∷ rest)) ≡ (is_linkable_argument units unit one && are_linkable units unit (view_args rest))
linkable_arguments_step units unit (arg.Value value) rest = refl
linkable_arguments_step units unit (arg.Place at) rest = refl

pub linkable_elements_step : (units : List TypedUnit) (unit : TypedUnit) (one : SetElement) (rest : List SetElement)
    → are_linkable_elements units unit (view_elements (one ∷ rest)) ≡ (is_linkable_element units unit one && are_linkable_elements units unit (view_elements rest))
linkable_elements_step units unit (element.One one) rest = refl
linkable_elements_step units unit (element.Span low high) rest = refl
