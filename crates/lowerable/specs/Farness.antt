-- Which routines have to be far: those that another unit calls, those that are values, virtual methods, and the first routine of a unit.
use Rattle.std.specs.Prelude.{ℕ, ◌==◌, ◌&&◌, ◌||◌, not, Bool, true, false, List, [], ◌∷◌, Option, Some, None, slice_get}
use Rattle.std.specs.Option.{option_map_or}
use Rattle.std.specs.List.{list_all}
use Rattle.type_layout.specs.declared.definitions.RoutineId.{RoutineId}
use Rattle.type_layout.specs.declared.definitions.Method.{Method}
use Rattle.type_layout.specs.declared.definitions.TypeDef.{TypeDef}
use Rattle.type_layout.specs.declared.definitions.TypeDef.TheVariants as type
use Rattle.typed_tree.specs.declared.units.Routine.{Routine}
use Rattle.typed_tree.specs.declared.units.Unit.{Unit as TypedUnit}
use Rattle.typed_tree.specs.declared.expressions.SetElement.{SetElement}
use Rattle.typed_tree.specs.declared.expressions.SetElement.TheVariants as element
use Rattle.typed_tree.specs.declared.expressions.Arg.{Arg}
use Rattle.typed_tree.specs.declared.expressions.Arg.TheVariants as arg
use Rattle.typed_tree.specs.declared.statements.Destructor.{Destructor}
use Rattle.typed_tree.specs.declared.statements.Destructor.TheVariants as destructor
use Rattle.typed_tree.specs.Expressions.{view_expr, view_place, Expression, Place, Receiver, Elements, Arguments, Const, RoutineValue, Load, Unary, Binary, Convert, Range, SetOf, Call, CallVirtual, CallThrough, Std, Make, Var, Deref, Index, FieldOf, NoReceiver, Own, NoElements, One, Span, NoArguments, ByValue, ByPlace}
use Rattle.typed_tree.specs.Statements.{Statement, Statements, Arms, Written, Taken, Assign, CopyAll, Run, If, While, Repeat, Block, Case, For, With, WriteItems, ReadItems, Halt, Exit, Unmake, NoStatements, Then, NoArms, Branch}
use Rattle.tp_meaning.specs.Programs.{unit_in, is_overlay}

-- ---- routines

abbrev pub is_far_in : ℕ → Option TypedUnit → Bool
is_far_in number None = false
is_far_in number (Some unit) = option_map_or (λ (routine : Routine). routine.far) (slice_get unit.routines number) false

-- those of the unit Overlay are
abbrev pub is_far_named : List TypedUnit → ℕ → List ℕ → Bool
is_far_named units number name = is_overlay name || is_far_in number (unit_in units name)

-- the routine of a unit that a place among names leads to
abbrev pub is_far_at : List TypedUnit → List (List ℕ) → ℕ → ℕ → Bool
is_far_at units names place number = option_map_or (is_far_named units number) (slice_get names place) false

-- a routine as a value; one of the unit's own is found without its name
abbrev pub is_far : List TypedUnit → TypedUnit → RoutineId → Bool
is_far units unit routine = (routine.unit == 0 && is_far_in routine.number (Some unit)) || is_far_at units unit.names routine.unit routine.number

-- a routine that is called
abbrev pub is_callable : List TypedUnit → TypedUnit → RoutineId → Bool
is_callable units unit routine = routine.unit == 0 || is_far_at units unit.names routine.unit routine.number

-- ---- trees: what they call, and what they have as values

abbrev mutual
  pub is_linkable : List TypedUnit → TypedUnit → Expression → Bool
  is_linkable units unit (Const ty value) = true
  is_linkable units unit (RoutineValue ty routine) = is_far units unit routine
  is_linkable units unit (Load ty from) = is_linkable_place units unit from
  is_linkable units unit (Unary ty op operand) = is_linkable units unit operand
  is_linkable units unit (Binary ty op left right early) = is_linkable units unit left && is_linkable units unit right
  is_linkable units unit (Convert ty operand) = is_linkable units unit operand
  is_linkable units unit (Range ty operand low high) = is_linkable units unit operand
  is_linkable units unit (SetOf ty elements) = are_linkable_elements units unit elements
  is_linkable units unit (Call ty routine own args) = is_callable units unit routine && (is_linkable_receiver units unit own && are_linkable units unit args)
  is_linkable units unit (CallVirtual ty own slot checked args) = is_linkable_place units unit own && are_linkable units unit args
  is_linkable units unit (CallThrough ty through args) = is_linkable_place units unit through && are_linkable units unit args
  is_linkable units unit (Std ty number args) = are_linkable units unit args
  is_linkable units unit (Make ty routine args) = is_callable units unit routine && are_linkable units unit args

  pub is_linkable_place : List TypedUnit → TypedUnit → Place → Bool
  is_linkable_place units unit (Var variable) = true
  is_linkable_place units unit (Deref pointer) = is_linkable units unit pointer
  is_linkable_place units unit (Index at index checked) = is_linkable_place units unit at && is_linkable units unit index
  is_linkable_place units unit (FieldOf at number) = is_linkable_place units unit at

  pub is_linkable_receiver : List TypedUnit → TypedUnit → Receiver → Bool
  is_linkable_receiver units unit NoReceiver = true
  is_linkable_receiver units unit (Own own) = is_linkable_place units unit own

  pub are_linkable_elements : List TypedUnit → TypedUnit → Elements → Bool
  are_linkable_elements units unit NoElements = true
  are_linkable_elements units unit (One one rest) = is_linkable units unit one && are_linkable_elements units unit rest
  are_linkable_elements units unit (Span low high rest) = (is_linkable units unit low && is_linkable units unit high) && are_linkable_elements units unit rest

  pub are_linkable : List TypedUnit → TypedUnit → Arguments → Bool
  are_linkable units unit NoArguments = true
  are_linkable units unit (ByValue value rest) = is_linkable units unit value && are_linkable units unit rest
  are_linkable units unit (ByPlace at rest) = is_linkable_place units unit at && are_linkable units unit rest

-- one element of a set constructor
abbrev pub is_linkable_element : List TypedUnit → TypedUnit → SetElement → Bool
is_linkable_element units unit (element.One one) = is_linkable units unit (view_expr one)
is_linkable_element units unit (element.Span low high) = is_linkable units unit (view_expr low) && is_linkable units unit (view_expr high)

-- one argument
abbrev pub is_linkable_argument : List TypedUnit → TypedUnit → Arg → Bool
is_linkable_argument units unit (arg.Value value) = is_linkable units unit (view_expr value)
is_linkable_argument units unit (arg.Place at) = is_linkable_place units unit (view_place at)

abbrev pub is_linkable_width : List TypedUnit → TypedUnit → Option Expression → Bool
is_linkable_width units unit None = true
is_linkable_width units unit (Some width) = is_linkable units unit width

abbrev pub are_linkable_written : List TypedUnit → TypedUnit → List Written → Bool
are_linkable_written units unit [] = true
are_linkable_written units unit (item ∷ rest) = (is_linkable units unit item.value && is_linkable_width units unit item.width) && are_linkable_written units unit rest

abbrev pub are_linkable_taken : List TypedUnit → TypedUnit → List Taken → Bool
are_linkable_taken units unit [] = true
are_linkable_taken units unit (item ∷ rest) = is_linkable_place units unit item.at && are_linkable_taken units unit rest

abbrev pub is_callable_destructor : List TypedUnit → TypedUnit → Destructor → Bool
is_callable_destructor units unit (destructor.Routine routine) = is_callable units unit routine
is_callable_destructor units unit (destructor.Slot slot checked) = true

abbrev mutual
  pub is_linkable_statement : List TypedUnit → TypedUnit → Statement → Bool
  is_linkable_statement units unit (Assign at value) = is_linkable_place units unit at && is_linkable units unit value
  is_linkable_statement units unit (CopyAll to from) = is_linkable_place units unit to && is_linkable_place units unit from
  is_linkable_statement units unit (Run call) = is_linkable units unit call
  is_linkable_statement units unit (If condition taken otherwise) =
      is_linkable units unit condition && (is_linkable_statement units unit taken && is_linkable_statement units unit otherwise)
  is_linkable_statement units unit (While condition body) = is_linkable units unit condition && is_linkable_statement units unit body
  is_linkable_statement units unit (Repeat body condition) = is_linkable units unit condition && is_linkable_statement units unit body
  is_linkable_statement units unit (Block statements) = are_linkable_statements units unit statements
  is_linkable_statement units unit (Case selector arms other) =
      is_linkable units unit selector && (are_linkable_arms units unit arms && is_linkable_statement units unit other)
  is_linkable_statement units unit (For variable ty from to down checked body) =
      is_linkable units unit from && (is_linkable units unit to && is_linkable_statement units unit body)
  is_linkable_statement units unit (With at body) = is_linkable_place units unit at && is_linkable_statement units unit body
  is_linkable_statement units unit (WriteItems items line) = are_linkable_written units unit items
  is_linkable_statement units unit (ReadItems items line) = are_linkable_taken units unit items
  is_linkable_statement units unit (Halt code) = is_linkable units unit code
  is_linkable_statement units unit Exit = true
  is_linkable_statement units unit (Unmake pointer destructor args) =
      is_linkable units unit pointer && (is_callable_destructor units unit destructor && are_linkable units unit args)

  pub are_linkable_statements : List TypedUnit → TypedUnit → Statements → Bool
  are_linkable_statements units unit NoStatements = true
  are_linkable_statements units unit (Then one rest) = is_linkable_statement units unit one && are_linkable_statements units unit rest

  pub are_linkable_arms : List TypedUnit → TypedUnit → Arms → Bool
  are_linkable_arms units unit NoArms = true
  are_linkable_arms units unit (Branch labels body rest) = is_linkable_statement units unit body && are_linkable_arms units unit rest

-- ---- classes: the units of a table are named beside it

abbrev pub is_dispatchable : List TypedUnit → TypedUnit → Method → Bool
is_dispatchable units unit method = not method.is_virtual || is_far_at units unit.types.units method.routine.unit method.routine.number

abbrev pub has_far_methods : List TypedUnit → TypedUnit → TypeDef → Bool
has_far_methods units unit (type.ObjectOf parent dynamic fields methods) = list_all (is_dispatchable units unit) methods
has_far_methods units unit _ = true

-- ---- first routines

abbrev pub has_far_initial : TypedUnit → Bool
has_far_initial unit = option_map_or (λ number. is_far_in number (Some unit)) unit.initial true
