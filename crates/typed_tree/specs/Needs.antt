-- The greatest part of the evaluation stack that a tree uses.
use Rattle.std.specs.Prelude.{ℕ, ◌+◌, max, cond, List, [], ◌∷◌, Option, Some, None}
use Rattle.type_layout.specs.declared.definitions.TypeDef.{TypeDef}
use Rattle.typed_tree.specs.declared.expressions.SetElement.{SetElement}
use Rattle.typed_tree.specs.declared.expressions.SetElement.TheVariants as element
use Rattle.typed_tree.specs.declared.expressions.Arg.{Arg}
use Rattle.typed_tree.specs.declared.expressions.Arg.TheVariants as arg
use Rattle.typed_tree.specs.Expressions.{view_expr, view_place, Expression, Place, Receiver, Elements, Arguments, Const, RoutineValue, Load, Unary, Binary, Convert, Range, SetOf, Call, CallVirtual, CallThrough, Std, Make, Var, Deref, Index, FieldOf, NoReceiver, Own, NoElements, One, Span, NoArguments, ByValue, ByPlace}
use Rattle.typed_tree.specs.Statements.{Statement, Statements, Arms, Written, Taken, Assign, CopyAll, Run, If, While, Repeat, Block, Case, For, With, WriteItems, ReadItems, Halt, Exit, Unmake, NoStatements, Then, NoArms, Branch}
use Rattle.typed_tree.specs.Slots.{slot_of_type, slot_of_result, slot_of_constant, slot_of, is_var}

abbrev mutual
  -- what an expression uses above the slots that are taken already; its value is left in its slot
  pub need : List TypeDef → Expression → ℕ
  need types (Const ty value) = slot_of_constant types ty value
  need types (RoutineValue ty routine) = 4
  need types (Load ty from) = cond (is_var from) (slot_of_type types ty) (max (place_need types from) (slot_of_type types ty))
  need types (Unary ty op operand) = max (need types operand) (slot_of_type types ty)
  need types (Binary ty op left right early) =
      max (max (need types left) (slot_of types left + need types right)) (slot_of_type types ty)
  need types (Convert ty operand) = max (need types operand) (slot_of_type types ty)
  need types (Range ty operand low high) = need types operand
  need types (SetOf ty elements) = 32 + elements_need types elements
  need types (Call ty routine own args) =
      max (receiver_need types own) (arguments_need types (receiver_slot own) (slot_of_result types ty) args)
  need types (CallVirtual ty own slot checked args) = max (place_need types own) (arguments_need types 4 (slot_of_result types ty) args)
  need types (CallThrough ty through args) = max (place_need types through) (arguments_need types 4 (slot_of_result types ty) args)
  need types (Std ty number args) = arguments_need types 0 (slot_of_result types ty) args
  need types (Make ty routine args) = arguments_need types 4 0 args

  pub place_need : List TypeDef → Place → ℕ
  place_need types (Var variable) = 4
  place_need types (Deref pointer) = max 4 (need types pointer)
  place_need types (Index at index checked) = max (place_need types at) (4 + need types index)
  place_need types (FieldOf at number) = place_need types at

  -- an instance is evaluated before the arguments, and its place stays below them
  pub receiver_need : List TypeDef → Receiver → ℕ
  receiver_need types NoReceiver = 0
  receiver_need types (Own own) = place_need types own

  pub receiver_slot : Receiver → ℕ
  receiver_slot NoReceiver = 0
  receiver_slot (Own own) = 4

  pub elements_need : List TypeDef → Elements → ℕ
  elements_need types NoElements = 0
  elements_need types (One one rest) = max (need types one) (elements_need types rest)
  elements_need types (Span low high rest) =
      max (max (need types low) (slot_of types low + need types high)) (elements_need types rest)

  -- each argument above the slots of those before it, and the result above them all
  pub arguments_need : List TypeDef → ℕ → ℕ → Arguments → ℕ
  arguments_need types before result NoArguments = before + result
  arguments_need types before result (ByValue value rest) =
      max (before + need types value) (arguments_need types (before + slot_of types value) result rest)
  arguments_need types before result (ByPlace at rest) =
      max (before + place_need types at) (arguments_need types (before + 4) result rest)

-- a width is evaluated above the value that it belongs to
abbrev pub width_need : List TypeDef → ℕ → Option Expression → ℕ
width_need types slot None = 0
width_need types slot (Some width) = slot + need types width

abbrev pub written_need : List TypeDef → List Written → ℕ
written_need types [] = 0
written_need types (item ∷ rest) = max (max (need types item.value) (width_need types (slot_of types item.value) item.width)) (written_need types rest)

-- reading uses at least the slot of a place
abbrev pub taken_need : List TypeDef → List Taken → ℕ
taken_need types [] = 4
taken_need types (item ∷ rest) = max (place_need types item.at) (taken_need types rest)

abbrev mutual
  -- what a statement uses above the slots that are taken already
  pub statement_need : List TypeDef → Statement → ℕ
  statement_need types (Assign at value) = cond (is_var at) (need types value) (max (place_need types at) (4 + need types value))
  statement_need types (CopyAll to from) = max (place_need types to) (4 + place_need types from)
  statement_need types (Run call) = need types call
  statement_need types (If condition taken otherwise) =
      max (need types condition) (max (statement_need types taken) (statement_need types otherwise))
  statement_need types (While condition body) = max (need types condition) (statement_need types body)
  statement_need types (Repeat body condition) = max (statement_need types body) (need types condition)
  statement_need types (Block statements) = statements_need types statements
  statement_need types (Case selector arms other) =
      max (need types selector) (slot_of types selector + max (arms_need types arms) (statement_need types other))
  statement_need types (For variable ty from to down checked body) =
      max (need types from) (slot_of_type types ty + max (need types to) (statement_need types body))
  statement_need types (With at body) = max (place_need types at) (4 + statement_need types body)
  statement_need types (WriteItems items line) = written_need types items
  statement_need types (ReadItems items line) = taken_need types items
  statement_need types (Halt code) = need types code
  statement_need types Exit = 0
  statement_need types (Unmake pointer destructor args) = max (need types pointer) (arguments_need types 4 0 args)

  pub statements_need : List TypeDef → Statements → ℕ
  statements_need types NoStatements = 0
  statements_need types (Then one rest) = max (statement_need types one) (statements_need types rest)

  pub arms_need : List TypeDef → Arms → ℕ
  arms_need types NoArms = 0
  arms_need types (Branch labels body rest) = max (statement_need types body) (arms_need types rest)

-- one element of a set constructor
abbrev pub element_need : List TypeDef → SetElement → ℕ
element_need types (element.One one) = need types (view_expr one)
element_need types (element.Span low high) = max (need types (view_expr low)) (slot_of types (view_expr low) + need types (view_expr high))

-- one argument
abbrev pub argument_need : List TypeDef → Arg → ℕ
argument_need types (arg.Value value) = need types (view_expr value)
argument_need types (arg.Place at) = place_need types (view_place at)

abbrev pub argument_slot : List TypeDef → Arg → ℕ
argument_slot types (arg.Value value) = slot_of types (view_expr value)
argument_slot types (arg.Place at) = 4
