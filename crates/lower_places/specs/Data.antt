-- The data of a unit: its globals, and then its literals in the order of its trees.
use Rattle.std.specs.Prelude.{ℕ, ◌+◌, ◌-◌, ◌^◌, min, List, [], ◌∷◌, ◌++◌, map, take, length, Option, Some, None, codes}
use Rattle.std.specs.List.{range_with_len}
use Rattle.type_layout.specs.declared.definitions.TypeDef.{TypeDef}
use Rattle.type_layout.specs.Layouts.{size_of}
use Rattle.typed_tree.specs.declared.expressions.Value.{Value}
use Rattle.typed_tree.specs.declared.expressions.Value.TheVariants as value
use Rattle.typed_tree.specs.declared.units.Global.{Global}
use Rattle.typed_tree.specs.declared.units.Routine.{Routine}
use Rattle.typed_tree.specs.declared.units.Unit.{Unit as TypedUnit}
use Rattle.typed_tree.specs.Expressions.{Expression, Place, Receiver, Elements, Arguments, Const, RoutineValue, Load, Unary, Binary, Convert, Range, SetOf, Call, CallVirtual, CallThrough, Std, Make, Var, Deref, Index, FieldOf, NoReceiver, Own, NoElements, One, Span, NoArguments, ByValue, ByPlace}
use Rattle.typed_tree.specs.Statements.{view_stmt, Statement, Statements, Arms, Written, Taken, Assign, CopyAll, Run, If, While, Repeat, Block, Case, For, With, WriteItems, ReadItems, Halt, Exit, Unmake, NoStatements, Then, NoArms, Branch}
use Rattle.common_values.specs.Sets.{set_byte}
use Rattle.flat_code.specs.Program.{Datum}

-- ---- names: those of the unit, with itself first; the units that its types name; and the runtime's unit of overlays and the heap

abbrev pub flat_names : TypedUnit → List (List ℕ)
flat_names unit = unit.names ++ (unit.types.units ++ codes "OVERLAY" ∷ [])

-- the place among them of a unit that the types name by a place
abbrev pub type_unit_place : TypedUnit → ℕ → ℕ
type_unit_place unit place = length unit.names + place

abbrev pub overlay_place : TypedUnit → ℕ
overlay_place unit = length unit.names + length unit.types.units

-- ---- globals

abbrev pub first_bytes : Option (List ℕ) → List ℕ
first_bytes None = []
first_bytes (Some bytes) = bytes

abbrev pub global_datum : List TypeDef → Global → Datum
global_datum types global = record { size = size_of types global.ty; first = first_bytes global.first }

-- ---- literals: a string with its length, and a set of 32 bytes

abbrev pub string_datum : List ℕ → Datum
string_datum text = record { size = 1 + length (take 255 text); first = length (take 255 text) ∷ take 255 text }

abbrev pub set_datum : List ℕ → Datum
set_datum elements = record { size = 32; first = map (set_byte elements) (range_with_len 0 32) }

abbrev pub literals_of_value : Value → List Datum
literals_of_value (value.Number number) = []
literals_of_value (value.Chars text) = string_datum text ∷ []
literals_of_value value.Nil = []
literals_of_value (value.Elements elements) = set_datum elements ∷ []

abbrev mutual
  pub literals_of : Expression → List Datum
  literals_of (Const ty value) = literals_of_value value
  literals_of (RoutineValue ty routine) = []
  literals_of (Load ty from) = literals_of_place from
  literals_of (Unary ty op operand) = literals_of operand
  literals_of (Binary ty op left right early) = literals_of left ++ literals_of right
  literals_of (Convert ty operand) = literals_of operand
  literals_of (Range ty operand low high) = literals_of operand
  literals_of (SetOf ty elements) = literals_of_elements elements
  literals_of (Call ty routine own args) = literals_of_receiver own ++ literals_of_arguments args
  literals_of (CallVirtual ty own slot checked args) = literals_of_place own ++ literals_of_arguments args
  literals_of (CallThrough ty through args) = literals_of_place through ++ literals_of_arguments args
  literals_of (Std ty number args) = literals_of_arguments args
  literals_of (Make ty routine args) = literals_of_arguments args

  pub literals_of_place : Place → List Datum
  literals_of_place (Var variable) = []
  literals_of_place (Deref pointer) = literals_of pointer
  literals_of_place (Index at index checked) = literals_of_place at ++ literals_of index
  literals_of_place (FieldOf at number) = literals_of_place at

  pub literals_of_receiver : Receiver → List Datum
  literals_of_receiver NoReceiver = []
  literals_of_receiver (Own own) = literals_of_place own

  pub literals_of_elements : Elements → List Datum
  literals_of_elements NoElements = []
  literals_of_elements (One one rest) = literals_of one ++ literals_of_elements rest
  literals_of_elements (Span low high rest) = literals_of low ++ (literals_of high ++ literals_of_elements rest)

  pub literals_of_arguments : Arguments → List Datum
  literals_of_arguments NoArguments = []
  literals_of_arguments (ByValue value rest) = literals_of value ++ literals_of_arguments rest
  literals_of_arguments (ByPlace at rest) = literals_of_place at ++ literals_of_arguments rest

abbrev pub literals_of_width : Option Expression → List Datum
literals_of_width None = []
literals_of_width (Some width) = literals_of width

abbrev pub literals_of_written : List Written → List Datum
literals_of_written [] = []
literals_of_written (item ∷ rest) = literals_of item.value ++ (literals_of_width item.width ++ literals_of_written rest)

abbrev pub literals_of_taken : List Taken → List Datum
literals_of_taken [] = []
literals_of_taken (item ∷ rest) = literals_of_place item.at ++ literals_of_taken rest

abbrev mutual
  pub literals_in : Statement → List Datum
  literals_in (Assign at value) = literals_of_place at ++ literals_of value
  literals_in (CopyAll to from) = literals_of_place to ++ literals_of_place from
  literals_in (Run call) = literals_of call
  literals_in (If condition taken otherwise) = literals_of condition ++ (literals_in taken ++ literals_in otherwise)
  literals_in (While condition body) = literals_of condition ++ literals_in body
  literals_in (Repeat body condition) = literals_in body ++ literals_of condition
  literals_in (Block statements) = literals_in_all statements
  literals_in (Case selector arms other) = literals_of selector ++ (literals_in_arms arms ++ literals_in other)
  literals_in (For variable ty from to down checked body) = literals_of from ++ (literals_of to ++ literals_in body)
  literals_in (With at body) = literals_of_place at ++ literals_in body
  literals_in (WriteItems items line) = literals_of_written items
  literals_in (ReadItems items line) = literals_of_taken items
  literals_in (Halt code) = literals_of code
  literals_in Exit = []
  literals_in (Unmake pointer destructor args) = literals_of pointer ++ literals_of_arguments args

  pub literals_in_all : Statements → List Datum
  literals_in_all NoStatements = []
  literals_in_all (Then one rest) = literals_in one ++ literals_in_all rest

  pub literals_in_arms : Arms → List Datum
  literals_in_arms NoArms = []
  literals_in_arms (Branch labels body rest) = literals_in body ++ literals_in_arms rest

abbrev pub literals_of_routines : List Routine → List Datum
literals_of_routines [] = []
literals_of_routines (routine ∷ routines) = literals_in (view_stmt routine.body) ++ literals_of_routines routines

-- ---- all of them

abbrev pub global_data : TypedUnit → List Datum
global_data unit = map (global_datum unit.types.types) unit.globals

abbrev pub flat_data : TypedUnit → List Datum
flat_data unit = global_data unit ++ literals_of_routines unit.routines

-- how many literals there are, or the greatest number of 32 bits where they pass it
abbrev pub counted : List Datum → ℕ
counted literals = min (length literals) (2 ^ 32 - 1)

-- the number of the literal that so many others of the unit stand before
abbrev pub literal_number : TypedUnit → ℕ → ℕ
literal_number unit before = length unit.globals + before
