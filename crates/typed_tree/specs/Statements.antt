-- Typed statements without where they lie in memory.
use Rattle.std.specs.Prelude.{Bool, Option, List, [], ◌∷◌, map}
use Rattle.std.specs.Option.{option_map}
use Rattle.type_layout.specs.declared.definitions.TypeId.{TypeId}
use Rattle.typed_tree.specs.declared.expressions.Variable.{Variable}
use Rattle.typed_tree.specs.declared.statements.LabelRange.{LabelRange}
use Rattle.typed_tree.specs.declared.statements.Destructor.{Destructor}
use Rattle.typed_tree.specs.declared.statements.WriteItem.{WriteItem}
use Rattle.typed_tree.specs.declared.statements.ReadItem.{ReadItem}
use Rattle.typed_tree.specs.declared.statements.Stmt.{Stmt, Row_of-Stmt, end_of-Stmt, more_of-Stmt, Row_of-Arm, end_of-Arm, more_of-Arm}
use Rattle.typed_tree.specs.declared.statements.Stmt.TheVariants as stmt
use Rattle.typed_tree.specs.declared.statements.Arm.{Arm}
use Rattle.typed_tree.specs.Expressions.{Expression, Place, Arguments, view_expr, view_boxed, view_place, view_args}

-- a value that is written, and its width
pub record Written : Type 0 where
  pub value : Expression
  pub width : Option Expression

-- a place that is read, its type, and whether a number is tested against the bounds of the type
pub record Taken : Type 0 where
  pub at : Place
  pub ty : TypeId
  pub checked : Bool

mutual
  pub data Statement : Type 0 where
    Assign : Place → Expression → Statement
    CopyAll : Place → Place → Statement
    Run : Expression → Statement
    If : Expression → Statement → Statement → Statement
    While : Expression → Statement → Statement
    Repeat : Statement → Expression → Statement
    Block : Statements → Statement
    Case : Expression → Arms → Statement → Statement
    For : Variable → TypeId → Expression → Expression → Bool → Bool → Statement → Statement
    With : Place → Statement → Statement
    WriteItems : List Written → Bool → Statement
    ReadItems : List Taken → Bool → Statement
    Halt : Expression → Statement
    Exit : Statement
    Unmake : Expression → Destructor → Arguments → Statement

  pub data Statements : Type 0 where
    NoStatements : Statements
    Then : Statement → Statements → Statements

  pub data Arms : Type 0 where
    NoArms : Arms
    Branch : List LabelRange → Statement → Arms → Arms

abbrev pub view_written : WriteItem → Written
view_written item = record { value = view_expr item.value.value; width = option_map view_boxed item.width }

abbrev pub view_taken : ReadItem → Taken
view_taken item = record { at = view_place item.place.value; ty = item.ty; checked = item.checked }

abbrev mutual
  pub view_stmt : Stmt → Statement
  view_stmt (stmt.Assign place value) = Assign (view_place place.value) (view_expr value.value)
  view_stmt (stmt.CopyAll to from) = CopyAll (view_place to.value) (view_place from.value)
  view_stmt (stmt.Run call) = Run (view_expr call.value)
  view_stmt (stmt.If' condition p taken q otherwise) = If (view_expr condition.value) (view_stmt taken) (view_stmt otherwise)
  view_stmt (stmt.While' condition p body) = While (view_expr condition.value) (view_stmt body)
  view_stmt (stmt.Repeat' p body condition) = Repeat (view_stmt body) (view_expr condition.value)
  view_stmt (stmt.Block' shape statements) = Block (view_stmt_row statements)
  view_stmt (stmt.Case' selector shape arms p other) = Case (view_expr selector.value) (view_arm_row arms) (view_stmt other)
  view_stmt (stmt.For' variable ty from to down checked p body) = For variable ty (view_expr from.value) (view_expr to.value) down checked (view_stmt body)
  view_stmt (stmt.With' place p body) = With (view_place place.value) (view_stmt body)
  view_stmt (stmt.WriteItems items line) = WriteItems (map view_written items.items) line
  view_stmt (stmt.ReadItems items line) = ReadItems (map view_taken items.items) line
  view_stmt (stmt.Halt code) = Halt (view_expr code.value)
  view_stmt stmt.Exit = Exit
  view_stmt (stmt.Unmake pointer destructor args) = Unmake (view_expr pointer.value) destructor (view_args args.items)

  pub view_stmt_row : {n : _} → Row_of-Stmt n → Statements
  view_stmt_row end_of-Stmt = NoStatements
  view_stmt_row (more_of-Stmt one rest) = Then (view_stmt one) (view_stmt_row rest)

  pub view_arm_row : {n : _} → Row_of-Arm n → Arms
  view_arm_row end_of-Arm = NoArms
  view_arm_row (more_of-Arm labels body rest) = Branch labels.items (view_stmt body) (view_arm_row rest)

-- the statements of a list
abbrev pub view_stmts : List Stmt → Statements
view_stmts [] = NoStatements
view_stmts (one ∷ rest) = Then (view_stmt one) (view_stmts rest)

-- the branches of a list
abbrev pub view_arms : List Arm → Arms
view_arms [] = NoArms
view_arms (one ∷ rest) = Branch one.labels.items (view_stmt one.body) (view_arms rest)
