-- Trees round a list that lies in a vector.
use Rattle.std.proofs.Common.{◌≡◌, ℕ, Bool, Option, Some, None, refl, ap, ◌∙◌, Vec, Box, Global}
use Rattle.type_layout.specs.declared.definitions.TypeId.{TypeId}
use Rattle.type_layout.specs.declared.definitions.RoutineId.{RoutineId}
use Rattle.typed_tree.specs.declared.expressions.Expr.{Expr, Row_of-Arg, end_of-Arg, more_of-Arg, Row_of-SetElement, end_of-SetElement, more_of-SetElement, items-the_row-Arg, items_hidden-the_row-Arg-1, items-the_row-SetElement, items_hidden-the_row-SetElement-0}
use Rattle.typed_tree.specs.declared.expressions.Expr.TheVariants as expr
use Rattle.typed_tree.specs.declared.expressions.PlaceExpr.{PlaceExpr}
use Rattle.typed_tree.specs.declared.expressions.SetElement.{SetElement}
use Rattle.typed_tree.specs.declared.expressions.Arg.{Arg}
use Rattle.typed_tree.specs.Expressions.{Arguments, Elements, Call, CallVirtual, CallThrough, Std, Make, SetOf, view_expr, view_place, view_receiver, view_arg, view_args, view_arg_row, view_element, view_elements, view_element_row}

arg_row : (n : _) (row : Row_of-Arg n) → view_arg_row row ≡ view_args (items-the_row-Arg n row)
arg_row n end_of-Arg = refl
arg_row n (more_of-Arg one rest) = ap (λ (z : Arguments). view_arg one z) (arg_row _ rest)

element_row : (n : _) (row : Row_of-SetElement n) → view_element_row row ≡ view_elements (items-the_row-SetElement n row)
element_row n end_of-SetElement = refl
element_row n (more_of-SetElement one rest) = ap (λ (z : Elements). view_element one z) (element_row _ rest)

abbrev args_of : Expr → (n : _) × Row_of-Arg n
args_of (expr.Call' ty routine own shape args) = (_, args)
args_of (expr.CallVirtual' ty p own slot checked shape args) = (_, args)
args_of (expr.CallThrough' ty p through shape args) = (_, args)
args_of (expr.Std' ty number shape args) = (_, args)
args_of (expr.Make' ty routine shape args) = (_, args)
args_of _ = (_, end_of-Arg)

abbrev elements_of : Expr → (n : _) × Row_of-SetElement n
elements_of (expr.SetOf' ty shape elements) = (_, elements)
elements_of _ = (_, end_of-SetElement)

pub view_set : (ty : TypeId) (elements : Vec SetElement Global) → view_expr (expr.SetOf ty elements) ≡ SetOf ty (view_elements elements.items)
view_set ty elements =
    let row = elements_of (expr.SetOf ty elements) in
    ap (λ (z : Elements). SetOf ty z) (element_row row.0 row.1 ∙ ap view_elements (items_hidden-the_row-SetElement-0 elements))

pub view_call : (ty : Option TypeId) (routine : RoutineId) (own : Option (Box PlaceExpr Global)) (args : Vec Arg Global)
    → view_expr (expr.Call ty routine own args) ≡ Call ty routine (view_receiver own) (view_args args.items)
view_call ty routine None args =
    let row = args_of (expr.Call ty routine None args) in
    ap (λ (z : Arguments). Call ty routine (view_receiver None) z) (arg_row row.0 row.1 ∙ ap view_args (items_hidden-the_row-Arg-1 args))
view_call ty routine (Some own) args =
    let row = args_of (expr.Call ty routine (Some own) args) in
    ap (λ (z : Arguments). Call ty routine (view_receiver (Some own)) z) (arg_row row.0 row.1 ∙ ap view_args (items_hidden-the_row-Arg-1 args))

pub view_call_virtual : (ty : Option TypeId) (own : Box PlaceExpr Global) (slot : ℕ) (checked : Bool) (args : Vec Arg Global)
    → view_expr (expr.CallVirtual ty own slot checked args) ≡ CallVirtual ty (view_place own.value) slot checked (view_args args.items)
view_call_virtual ty own slot checked args =
    let row = args_of (expr.CallVirtual ty own slot checked args) in
    ap (λ (z : Arguments). CallVirtual ty (view_place own.value) slot checked z) (arg_row row.0 row.1 ∙ ap view_args (items_hidden-the_row-Arg-1 args))

pub view_call_through : (ty : Option TypeId) (through : Box PlaceExpr Global) (args : Vec Arg Global)
    → view_expr (expr.CallThrough ty through args) ≡ CallThrough ty (view_place through.value) (view_args args.items)
view_call_through ty through args =
    let row = args_of (expr.CallThrough ty through args) in
    ap (λ (z : Arguments). CallThrough ty (view_place through.value) z) (arg_row row.0 row.1 ∙ ap view_args (items_hidden-the_row-Arg-1 args))

pub view_std : (ty : Option TypeId) (number : ℕ) (args : Vec Arg Global) → view_expr (expr.Std ty number args) ≡ Std ty number (view_args args.items)
view_std ty number args =
    let row = args_of (expr.Std ty number args) in
    ap (λ (z : Arguments). Std ty number z) (arg_row row.0 row.1 ∙ ap view_args (items_hidden-the_row-Arg-1 args))

pub view_make : (ty : TypeId) (routine : RoutineId) (args : Vec Arg Global) → view_expr (expr.Make ty routine args) ≡ Make ty routine (view_args args.items)
view_make ty routine args =
    let row = args_of (expr.Make ty routine args) in
    ap (λ (z : Arguments). Make ty routine z) (arg_row row.0 row.1 ∙ ap view_args (items_hidden-the_row-Arg-1 args))
