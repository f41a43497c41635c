-- A bound on the code that a tree asks for, in bytes.
use Rattle.std.specs.Prelude.{ℕ, ◌+◌, ◌-◌, ◌*◌, List, [], ◌∷◌, length, Option, Some, None}
use Rattle.typed_tree.specs.declared.expressions.Value.{Value}
use Rattle.typed_tree.specs.declared.expressions.Value.TheVariants.{Number, Chars, Nil, Elements as SetBytes}
use Rattle.typed_tree.specs.declared.expressions.SetElement.{SetElement}
use Rattle.typed_tree.specs.declared.expressions.SetElement.TheVariants as element
use Rattle.typed_tree.specs.declared.expressions.Arg.{Arg}
use Rattle.typed_tree.specs.declared.expressions.Arg.TheVariants as arg
use Rattle.typed_tree.specs.declared.statements.LabelRange.{LabelRange}
use Rattle.typed_tree.specs.Expressions.{view_expr, view_place, Expression, Place, Receiver, Elements, Arguments, Const, RoutineValue, Load, Unary, Binary, Convert, Range, SetOf, Call, CallVirtual, CallThrough, Std, Make, Var, Deref, Index, FieldOf, NoReceiver, Own, NoElements, One, Span, NoArguments, ByValue, ByPlace}
use Rattle.typed_tree.specs.Statements.{Statement, Statements, Arms, Written, Taken, Assign, CopyAll, Run, If, While, Repeat, Block, Case, For, With, WriteItems, ReadItems, Halt, Exit, Unmake, NoStatements, Then, NoArms, Branch}

abbrev pub value_weight : Value → ℕ
value_weight (Number value) = 24
value_weight (Chars bytes) = 24 + length bytes
value_weight Nil = 24
value_weight (SetBytes bytes) = 24 + length bytes

abbrev mutual
  -- the weight of an expression with all its parts; an instance that a method is called on counts as an argument
  pub weight : Expression → ℕ
  weight (Const ty value) = value_weight value
  weight (RoutineValue ty routine) = 24
  weight (Load ty from) = 32 + place_weight from
  weight (Unary ty op operand) = 48 + weight operand
  weight (Binary ty op left right early) = 96 + (weight left + weight right)
  weight (Convert ty operand) = 48 + weight operand
  weight (Range ty operand low high) = 64 + weight operand
  weight (SetOf ty elements) = 64 + elements_weight elements
  weight (Call ty routine own args) = 96 + (receiver_weight own + arguments_weight args)
  weight (CallVirtual ty own slot checked args) = 96 + (32 + place_weight own + arguments_weight args)
  weight (CallThrough ty through args) = 96 + (32 + place_weight through + arguments_weight args)
  weight (Std ty number args) = 96 + arguments_weight args
  weight (Make ty routine args) = 192 + arguments_weight args

  pub place_weight : Place → ℕ
  place_weight (Var variable) = 24 + 8 * (variable.level - 1)
  place_weight (Deref pointer) = 32 + weight pointer
  place_weight (Index at index checked) = 96 + (place_weight at + weight index)
  place_weight (FieldOf at number) = 24 + place_weight at

  pub receiver_weight : Receiver → ℕ
  receiver_weight NoReceiver = 0
  receiver_weight (Own own) = 32 + place_weight own

  pub elements_weight : Elements → ℕ
  elements_weight NoElements = 0
  elements_weight (One one rest) = 64 + weight one + elements_weight rest
  elements_weight (Span low high rest) = 64 + (weight low + weight high) + elements_weight rest

  pub arguments_weight : Arguments → ℕ
  arguments_weight NoArguments = 0
  arguments_weight (ByValue value rest) = 32 + weight value + arguments_weight rest
  arguments_weight (ByPlace at rest) = 32 + place_weight at + arguments_weight rest

abbrev pub width_weight : Option Expression → ℕ
width_weight None = 0
width_weight (Some width) = weight width

abbrev pub written_weight : List Written → ℕ
written_weight [] = 0
written_weight (item ∷ rest) = 64 + (weight item.value + width_weight item.width) + written_weight rest

abbrev pub taken_weight : List Taken → ℕ
taken_weight [] = 0
taken_weight (item ∷ rest) = 64 + place_weight item.at + taken_weight rest

abbrev pub labels_weight : List LabelRange → ℕ
labels_weight labels = length labels * 64

abbrev mutual
  -- the weight of a statement with all its parts
  pub statement_weight : Statement → ℕ
  statement_weight (Assign at value) = 64 + (place_weight at + weight value)
  statement_weight (CopyAll to from) = 64 + (place_weight to + place_weight from)
  statement_weight (Run call) = 16 + weight call
  statement_weight (If condition taken otherwise) =
      64 + (weight condition + (statement_weight taken + statement_weight otherwise))
  statement_weight (While condition body) = 64 + (weight condition + statement_weight body)
  statement_weight (Repeat body condition) = 64 + (weight condition + statement_weight body)
  statement_weight (Block statements) = 64 + statements_weight statements
  statement_weight (Case selector arms other) =
      64 + (weight selector + (arms_weight arms + statement_weight other))
  statement_weight (For variable ty from to down checked body) =
      192 + (weight from + (weight to + statement_weight body))
  statement_weight (With at body) = 48 + (place_weight at + statement_weight body)
  statement_weight (WriteItems items line) = 32 + written_weight items
  statement_weight (ReadItems items line) = 32 + taken_weight items
  statement_weight (Halt code) = 48 + weight code
  statement_weight Exit = 48
  statement_weight (Unmake pointer destructor args) = 192 + (weight pointer + arguments_weight args)

  pub statements_weight : Statements → ℕ
  statements_weight NoStatements = 0
  statements_weight (Then one rest) = statement_weight one + statements_weight rest

  pub arms_weight : Arms → ℕ
  arms_weight NoArms = 0
  arms_weight (Branch labels body rest) = labels_weight labels + statement_weight body + arms_weight rest

-- one element of a set constructor
abbrev pub element_weight : SetElement → ℕ
element_weight (element.One one) = 64 + weight (view_expr one)
element_weight (element.Span low high) = 64 + (weight (view_expr low) + weight (view_expr high))

-- one argument
abbrev pub argument_weight : Arg → ℕ
argument_weight (arg.Value value) = 32 + weight (view_expr value)
argument_weight (arg.Place at) = 32 + place_weight (view_place at)
