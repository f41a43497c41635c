-- Reading from left to right, as long as there is room for what is said.
use Rattle.std.specs.Prelude.{◌≡◌, ℕ, ◌+◌, ◌&&◌, ◌==◌, nat_le, Bool, true, false, if◌then◌else◌, List, [], ◌∷◌, ◌++◌, length, slice_get, Option, Some, None, is_none, option_and_then, Result, Ok, Err}
use Rattle.type_layout.specs.declared.definitions.TypeDef.{TypeDef}
use Rattle.typed_tree.specs.declared.units.Routine.{Routine}
use Rattle.typed_tree.specs.declared.units.Unit.{Unit as TypedUnit}
use Rattle.typed_tree.specs.declared.units.Program.{Program}
use Rattle.typed_tree.specs.Statements as typed
use Rattle.typed_tree.specs.Statements.{Written, Block, WriteItems, Halt, Statements, NoStatements, Then, view_stmt}
use Rattle.typed_tree.specs.Frames.{even, frame_of}
use Rattle.literal_programs.specs.declared.literal_code.image.Memory.{Memory}
use Rattle.literal_programs.specs.declared.literal_code.program.LiteralProgram.{LiteralProgram}
use Rattle.literal_programs.specs.literal_code.Statement.{Statement, write, halt, line_end, size_of}
use Rattle.literal_programs.specs.literal_code.LiteralProgram.{statements_of, IsFull}
use Rattle.literal_programs.specs.declared.reading.Unread.{Unread}
use Rattle.literal_programs.specs.declared.reading.Unread.TheVariants as why
use Rattle.literal_programs.specs.Literals.{item_text, end_code}

-- ---- statements, behind those that were said before

abbrev pub is_small : List Statement → Bool
is_small statements = nat_le (size_of statements) 8192 && nat_le (length statements) 4096

abbrev pub with_one : Statement → List Statement → Option (List Statement)
with_one one before = if is_small (before ++ one ∷ []) then Some (before ++ one ∷ []) else None

abbrev pub with_text : Option (List ℕ) → List Statement → Option (List Statement)
with_text (Some bytes) before = with_one (write bytes) before
with_text None before = None

abbrev pub with_items : List TypeDef → List Written → List Statement → Option (List Statement)
with_items types [] before = Some before
with_items types (item ∷ items) before = option_and_then (with_items types items) (with_text (item_text types item.value item.width) before)

abbrev pub with_line : Bool → List Statement → Option (List Statement)
with_line true before = with_one line_end before
with_line false before = Some before

abbrev pub with_end : Option ℕ → List Statement → Option (List Statement)
with_end (Some code) before = with_one (halt code) before
with_end None before = None

abbrev mutual
  pub with_statement : List TypeDef → typed.Statement → List Statement → Option (List Statement)
  with_statement types (Block parts) before = with_statements types parts before
  with_statement types (WriteItems items line) before = option_and_then (with_line line) (with_items types items before)
  with_statement types (Halt code) before = with_end (end_code code) before
  with_statement types other before = None

  pub with_statements : List TypeDef → Statements → List Statement → Option (List Statement)
  with_statements types NoStatements before = Some before
  with_statements types (Then one rest) before = option_and_then (with_statements types rest) (with_statement types one before)

-- ---- programs

abbrev pub unit_alone : ℕ → List TypedUnit → Option TypedUnit
unit_alone start [] = None
unit_alone start (unit ∷ []) = if start == 0 && length unit.overlaid == 0 then Some unit else None
unit_alone start (unit ∷ other ∷ others) = None

-- the unit of a program that has no other and overlays nothing
abbrev pub only_unit : Program → Option TypedUnit
only_unit program = unit_alone program.start program.units

abbrev pub is_plain : Routine → Bool
is_plain routine = length routine.header.params == 0 && is_none routine.header.result && is_none routine.owner && is_none routine.outer

abbrev pub has_room : TypedUnit → Routine → Bool
has_room unit routine = nat_le unit.stack 65520 && nat_le (frame_of unit.types.types routine + 512) (even unit.stack)

abbrev pub if_main : TypedUnit → Routine → Option Routine
if_main unit routine = if is_plain routine && has_room unit routine then Some routine else None

-- the main part of a unit
abbrev pub main_part : TypedUnit → Option Routine
main_part unit = option_and_then (if_main unit) (option_and_then (slice_get unit.routines) unit.initial)

abbrev pub said_in : TypedUnit → Option (List Statement)
said_in unit = option_and_then (λ (routine : Routine). with_statement unit.types.types (view_stmt routine.body) []) (main_part unit)

abbrev pub said_by : Program → Option (List Statement)
said_by program = option_and_then said_in (only_unit program)

-- ---- what was read

-- Why nothing was read: it is outside the form, or memory ran out.
abbrev pub Fails : Unread → Option (List Statement) → Type 0
Fails why.Other read = read ≡ None
Fails why.NoMemory read = Unit {0}

-- what a call added to a program of literals
abbrev pub Adds : Result (Unit {0}) Unread → LiteralProgram → Option (List Statement) → Type 0
Adds (Ok x) program read = (read ≡ Some (statements_of program)) × IsFull program
Adds (Err error) program read = Fails error read

-- what a call gave
abbrev pub Gives : Result (LiteralProgram × Memory) Unread → Option (List Statement) → Type 0
Gives (Ok given) read = read ≡ Some (statements_of given.0)
Gives (Err error) read = Fails error read
