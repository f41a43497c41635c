-- The evaluation stack while a tree is evaluated: each part lies above the slots that were taken before it.
use Rattle.std.specs.Prelude.{ℕ, ◌+◌, ◌≤◌, cond, List, [], ◌∷◌, Option, Some, None}
use Rattle.type_layout.specs.declared.definitions.TypeDef.{TypeDef}
use Rattle.typed_tree.specs.Expressions.{Expression, Place, Receiver, Elements, Arguments, Const, RoutineValue, Load, Unary, Binary, Convert, Range, SetOf, Call, CallVirtual, CallThrough, Std, Make, Var, Deref, Index, FieldOf, NoReceiver, Own, NoElements, One, Span, NoArguments, ByValue, ByPlace}
use Rattle.typed_tree.specs.Statements.{Statement, Statements, Arms, Written, Taken, Assign, CopyAll, Run, If, While, Repeat, Block, Case, For, With, WriteItems, ReadItems, Halt, Exit, Unmake, NoStatements, Then, NoArms, Branch}
use Rattle.typed_tree.specs.Slots.{slot_of_type, slot_of_result, slot_of_constant, slot_of, is_var}
use Rattle.typed_tree.specs.Needs.{receiver_slot}

abbrev mutual
  -- an expression is evaluated above so many bytes, and no slot ends above the room
  pub FitsExpression : List TypeDef → ℕ → ℕ → Expression → Type 0
  FitsExpression types room below (Const ty value) = below + slot_of_constant types ty value ≤ room
  FitsExpression types room below (RoutineValue ty routine) = below + 4 ≤ room
  FitsExpression types room below (Load ty from) = FitsPlace types room below 0 from × (below + slot_of_type types ty ≤ room)
  FitsExpression types room below (Unary ty op operand) = FitsExpression types room below operand × (below + slot_of_type types ty ≤ room)
  FitsExpression types room below (Binary ty op left right early) =
      FitsExpression types room below left × FitsExpression types room (below + slot_of types left) right × (below + slot_of_type types ty ≤ room)
  FitsExpression types room below (Convert ty operand) = FitsExpression types room below operand × (below + slot_of_type types ty ≤ room)
  FitsExpression types room below (Range ty operand low high) = FitsExpression types room below operand
  FitsExpression types room below (SetOf ty elements) = (below + 32 ≤ room) × FitElements types room (below + 32) elements
  FitsExpression types room below (Call ty routine own args) =
      FitsReceiver types room below own × FitArguments types room (below + receiver_slot own) (slot_of_result types ty) args
  FitsExpression types room below (CallVirtual ty own slot checked args) =
      FitsPlace types room below 4 own × FitArguments types room (below + 4) (slot_of_result types ty) args
  FitsExpression types room below (CallThrough ty through args) =
      FitsPlace types room below 4 through × FitArguments types room (below + 4) (slot_of_result types ty) args
  FitsExpression types room below (Std ty number args) = FitArguments types room below (slot_of_result types ty) args
  FitsExpression types room below (Make ty routine args) = FitArguments types room (below + 4) 0 args

  -- a place, for which a variable itself takes so many bytes
  pub FitsPlace : List TypeDef → ℕ → ℕ → ℕ → Place → Type 0
  FitsPlace types room below bytes (Var variable) = below + bytes ≤ room
  FitsPlace types room below bytes (Deref pointer) = FitsExpression types room below pointer × (below + 4 ≤ room)
  FitsPlace types room below bytes (Index at index checked) = FitsPlace types room below 4 at × FitsExpression types room (below + 4) index
  FitsPlace types room below bytes (FieldOf at number) = FitsPlace types room below 4 at

  pub FitsReceiver : List TypeDef → ℕ → ℕ → Receiver → Type 0
  FitsReceiver types room below NoReceiver = Unit {0}
  FitsReceiver types room below (Own own) = FitsPlace types room below 4 own

  pub FitElements : List TypeDef → ℕ → ℕ → Elements → Type 0
  FitElements types room below NoElements = Unit {0}
  FitElements types room below (One one rest) = FitsExpression types room below one × FitElements types room below rest
  FitElements types room below (Span low high rest) =
      FitsExpression types room below low × FitsExpression types room (below + slot_of types low) high × FitElements types room below rest

  -- arguments stay while those after them are evaluated, and a result lies above them all
  pub FitArguments : List TypeDef → ℕ → ℕ → ℕ → Arguments → Type 0
  FitArguments types room below result NoArguments = below + result ≤ room
  FitArguments types room below result (ByValue value rest) =
      FitsExpression types room below value × FitArguments types room (below + slot_of types value) result rest
  FitArguments types room below result (ByPlace at rest) =
      FitsPlace types room below 4 at × FitArguments types room (below + 4) result rest

abbrev pub FitsWidth : List TypeDef → ℕ → ℕ → Option Expression → Type 0
FitsWidth types room below None = Unit {0}
FitsWidth types room below (Some width) = FitsExpression types room below width

abbrev pub FitWritten : List TypeDef → ℕ → ℕ → List Written → Type 0
FitWritten types room below [] = Unit {0}
FitWritten types room below (item ∷ rest) =
    FitsExpression types room below item.value × FitsWidth types room (below + slot_of types item.value) item.width × FitWritten types room below rest

abbrev pub FitTaken : List TypeDef → ℕ → ℕ → List Taken → Type 0
FitTaken types room below [] = below + 4 ≤ room
FitTaken types room below (item ∷ rest) = FitsPlace types room below 4 item.at × FitTaken types room below rest

-- the slot of a place that is assigned to; a variable itself has none
abbrev pub target_slot : Place → ℕ
target_slot at = cond (is_var at) 0 4

abbrev mutual
  -- a statement, likewise; what a `case`, a `for` or a `with` holds stays while its parts run
  pub FitsStatement : List TypeDef → ℕ → ℕ → Statement → Type 0
  FitsStatement types room below (Assign at value) =
      FitsPlace types room below 0 at × FitsExpression types room (below + target_slot at) value
  FitsStatement types room below (CopyAll to from) = FitsPlace types room below 4 to × FitsPlace types room (below + 4) 4 from
  FitsStatement types room below (Run call) = FitsExpression types room below call
  FitsStatement types room below (If condition taken otherwise) =
      FitsExpression types room below condition × FitsStatement types room below taken × FitsStatement types room below otherwise
  FitsStatement types room below (While condition body) = FitsExpression types room below condition × FitsStatement types room below body
  FitsStatement types room below (Repeat body condition) = FitsStatement types room below body × FitsExpression types room below condition
  FitsStatement types room below (Block statements) = FitStatements types room below statements
  FitsStatement types room below (Case selector arms other) =
      FitsExpression types room below selector × FitArms types room (below + slot_of types selector) arms
      × FitsStatement types room (below + slot_of types selector) other
  FitsStatement types room below (For variable ty from to down checked body) =
      FitsExpression types room below from × FitsExpression types room (below + slot_of_type types ty) to
      × FitsStatement types room (below + slot_of_type types ty) body
  FitsStatement types room below (With at body) = FitsPlace types room below 4 at × FitsStatement types room (below + 4) body
  FitsStatement types room below (WriteItems items line) = FitWritten types room below items
  FitsStatement types room below (ReadItems items line) = FitTaken types room below items
  FitsStatement types room below (Halt code) = FitsExpression types room below code
  FitsStatement types room below Exit = Unit {0}
  FitsStatement types room below (Unmake pointer destructor args) =
      FitsExpression types room below pointer × FitArguments types room (below + 4) 0 args

  pub FitStatements : List TypeDef → ℕ → ℕ → Statements → Type 0
  FitStatements types room below NoStatements = Unit {0}
  FitStatements types room below (Then one rest) = FitsStatement types room below one × FitStatements types room below rest

  pub FitArms : List TypeDef → ℕ → ℕ → Arms → Type 0
  FitArms types room below NoArms = Unit {0}
  FitArms types room below (Branch labels body rest) = FitsStatement types room below body × FitArms types room below rest
