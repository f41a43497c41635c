-- Typed expressions and places without where they lie in memory.
use Rattle.std.specs.Prelude.{ℕ, ℤ, Bool, Option, Some, None, List, [], ◌∷◌}
use Rattle.std.proofs.Common.{Box, Global}
use Rattle.type_layout.specs.declared.definitions.TypeId.{TypeId}
use Rattle.type_layout.specs.declared.definitions.RoutineId.{RoutineId}
use Rattle.typed_tree.specs.declared.expressions.Value.{Value}
use Rattle.typed_tree.specs.declared.expressions.Variable.{Variable}
use Rattle.typed_tree.specs.declared.expressions.UnaryOp.{UnaryOp}
use Rattle.typed_tree.specs.declared.expressions.BinaryOp.{BinaryOp}
use Rattle.typed_tree.specs.declared.expressions.Expr.{Expr, Held-Expr-Call-2, None', Some', Row_of-Arg, end_of-Arg, more_of-Arg, Row_of-SetElement, end_of-SetElement, more_of-SetElement}
use Rattle.typed_tree.specs.declared.expressions.Expr.TheVariants as expr
use Rattle.typed_tree.specs.declared.expressions.PlaceExpr.{PlaceExpr}
use Rattle.typed_tree.specs.declared.expressions.PlaceExpr.TheVariants as place
use Rattle.typed_tree.specs.declared.expressions.SetElement.{SetElement}
use Rattle.typed_tree.specs.declared.expressions.SetElement.TheVariants as element
use Rattle.typed_tree.specs.declared.expressions.Arg.{Arg}
use Rattle.typed_tree.specs.declared.expressions.Arg.TheVariants as arg

mutual
  pub data Expression : Type 0 where
    Const : TypeId → Value → Expression
    RoutineValue : TypeId → RoutineId → Expression
    Load : TypeId → Place → Expression
    Unary : TypeId → UnaryOp → Expression → Expression
    Binary : TypeId → BinaryOp → Expression → Expression → Bool → Expression
    Convert : TypeId → Expression → Expression
    Range : TypeId → Expression → ℤ → ℤ → Expression
    SetOf : TypeId → Elements → Expression
    Call : Option TypeId → RoutineId → Receiver → Arguments → Expression
    CallVirtual : Option TypeId → Place → ℕ → Bool → Arguments → Expression
    CallThrough : Option TypeId → Place → Arguments → Expression
    Std : Option TypeId → ℕ → Arguments → Expression
    Make : TypeId → RoutineId → Arguments → Expression

  pub data Place : Type 0 where
    Var : Variable → Place
    Deref : Expression → Place
    Index : Place → Expression → Bool → Place
    FieldOf : Place → ℕ → Place

  -- the instance of a method that is called, if one is
  pub data Receiver : Type 0 where
    NoReceiver : Receiver
    Own : Place → Receiver

  -- what a set constructor lists, in order
  pub data Elements : Type 0 where
    NoElements : Elements
    One : Expression → Elements → Elements
    Span : Expression → Expression → Elements → Elements

  -- arguments, in order
  pub data Arguments : Type 0 where
    NoArguments : Arguments
    ByValue : Expression → Arguments → Arguments
    ByPlace : Place → Arguments → Arguments

abbrev mutual
  pub view_expr : Expr → Expression
  view_expr (expr.Const ty value) = Const ty value
  view_expr (expr.RoutineValue ty routine) = RoutineValue ty routine
  view_expr (expr.Load' ty p from) = Load ty (view_place from)
  view_expr (expr.Unary' ty op p operand) = Unary ty op (view_expr operand)
  view_expr (expr.Binary' ty op p left q right early) = Binary ty op (view_expr left) (view_expr right) early
  view_expr (expr.Convert' ty p operand) = Convert ty (view_expr operand)
  view_expr (expr.Range' ty p operand low high) = Range ty (view_expr operand) low high
  view_expr (expr.SetOf' ty shape elements) = SetOf ty (view_element_row elements)
  view_expr (expr.Call' ty routine own shape args) = Call ty routine (view_own own) (view_arg_row args)
  view_expr (expr.CallVirtual' ty p own slot checked shape args) = CallVirtual ty (view_place own) slot checked (view_arg_row args)
  view_expr (expr.CallThrough' ty p through shape args) = CallThrough ty (view_place through) (view_arg_row args)
  view_expr (expr.Std' ty number shape args) = Std ty number (view_arg_row args)
  view_expr (expr.Make' ty routine shape args) = Make ty routine (view_arg_row args)

  pub view_place : PlaceExpr → Place
  view_place (place.Var variable) = Var variable
  view_place (place.Deref' p pointer) = Deref (view_expr pointer)
  view_place (place.Index' p of q index checked) = Index (view_place of) (view_expr index) checked
  view_place (place.FieldOf' p of number) = FieldOf (view_place of) number

  pub view_own : Held-Expr-Call-2 → Receiver
  view_own None' = NoReceiver
  view_own (Some' p own) = Own (view_place own)

  pub view_element_row : {n : _} → Row_of-SetElement n → Elements
  view_element_row end_of-SetElement = NoElements
  view_element_row (more_of-SetElement one rest) = view_element one (view_element_row rest)

  pub view_element : SetElement → Elements → Elements
  view_element (element.One one) rest = One (view_expr one) rest
  view_element (element.Span low high) rest = Span (view_expr low) (view_expr high) rest

  pub view_arg_row : {n : _} → Row_of-Arg n → Arguments
  view_arg_row end_of-Arg = NoArguments
  view_arg_row (more_of-Arg one rest) = view_arg one (view_arg_row rest)

  pub view_arg : Arg → Arguments → Arguments
  view_arg (arg.Value value) rest = ByValue (view_expr value) rest
  view_arg (arg.Place at) rest = ByPlace (view_place at) rest

-- an expression in a box
abbrev pub view_boxed : Box Expr Global → Expression
view_boxed held = view_expr held.value

-- the elements of a list
abbrev pub view_elements : List SetElement → Elements
view_elements [] = NoElements
view_elements (one ∷ rest) = view_element one (view_elements rest)

-- the arguments of a list
abbrev pub view_args : List Arg → Arguments
view_args [] = NoArguments
view_args (one ∷ rest) = view_arg one (view_args rest)

-- the type of an expression, which a call of a procedure does not have
abbrev pub type_of : Expression → Option TypeId
type_of (Const ty value) = Some ty
type_of (RoutineValue ty routine) = Some ty
type_of (Load ty from) = Some ty
type_of (Unary ty op operand) = Some ty
type_of (Binary ty op left right early) = Some ty
type_of (Convert ty operand) = Some ty
type_of (Range ty operand low high) = Some ty
type_of (SetOf ty listed) = Some ty
type_of (Call ty routine own args) = ty
type_of (CallVirtual ty own slot checked args) = ty
type_of (CallThrough ty through args) = ty
type_of (Std ty number args) = ty
type_of (Make ty routine args) = Some ty

-- the instance of a method, if there is one
abbrev pub view_receiver : Option (Box PlaceExpr Global) → Receiver
view_receiver None = NoReceiver
view_receiver (Some own) = Own (view_place own.value)
