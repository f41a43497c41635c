-- Which typed programs are programs of literals, and what they say.
use Rattle.std.specs.Prelude.{◌≡◌, ℕ, ◌+◌, ◌≤◌, ◌&&◌, nat_lt, Bool, true, false, if◌then◌else◌, pos, negsuc, List, [], ◌∷◌, ◌++◌, length, slice_get, Option, Some, None, option_and_then}
use Rattle.common_values.specs.integers.Words.{w8, word_of}
use Rattle.type_layout.specs.declared.definitions.Host.{Host}
use Rattle.type_layout.specs.declared.definitions.Host.TheVariants as host
use Rattle.type_layout.specs.declared.definitions.TypeId.{TypeId}
use Rattle.type_layout.specs.declared.definitions.TypeDef.{TypeDef}
use Rattle.type_layout.specs.declared.definitions.TypeDef.TheVariants as type
use Rattle.typed_tree.specs.declared.expressions.Value.{Value}
use Rattle.typed_tree.specs.declared.expressions.Value.TheVariants as value
use Rattle.typed_tree.specs.declared.units.Routine.{Routine}
use Rattle.typed_tree.specs.declared.units.Unit.{Unit as TypedUnit}
use Rattle.typed_tree.specs.declared.units.Program.{Program}
use Rattle.typed_tree.specs.Expressions.{Expression, Const}
use Rattle.typed_tree.specs.Statements as typed
use Rattle.typed_tree.specs.Statements.{Written, Block, WriteItems, Halt, Statements, NoStatements, Then, view_stmt}
use Rattle.typed_tree.specs.Frames.{even, is_string, frame_of}
use Rattle.literal_programs.specs.literal_code.Statement.{Statement, write, halt, line_end, size_of}

-- ---- texts

abbrev pub is_char_host : Host → Bool
is_char_host host.ShortInt = false
is_char_host host.Byte = false
is_char_host host.Integer = false
is_char_host host.Word = false
is_char_host host.LongInt = false
is_char_host host.Char = true
is_char_host host.Boolean = false
is_char_host host.Enumeration = false

abbrev pub is_char : Option TypeDef → Bool
is_char (Some (type.Ordinal h low high)) = is_char_host h
is_char (Some (type.Str max)) = false
is_char (Some (type.SetOf base)) = false
is_char (Some (type.ArrayOf index element)) = false
is_char (Some (type.RecordOf fields)) = false
is_char (Some (type.PointerTo target)) = false
is_char (Some (type.ObjectOf parent dynamic fields methods)) = false
is_char (Some (type.Procedural header)) = false
is_char None = false

-- the text of a constant of this type: a string, or a character
abbrev pub text_in : Option TypeDef → Value → Option (List ℕ)
text_in ty (value.Chars bytes) = if is_string ty then Some bytes else None
text_in ty (value.Number (pos byte)) = if is_char ty && nat_lt byte 256 then Some (byte ∷ []) else None
text_in ty (value.Number (negsuc n)) = None
text_in ty value.Nil = None
text_in ty (value.Elements elements) = None

-- a constant, and its type
abbrev pub constant_of : Expression → Option (TypeId × Value)
constant_of (Const ty v) = Some (ty, v)
constant_of other = None

abbrev pub text_of : List TypeDef → Option (TypeId × Value) → Option (List ℕ)
text_of types (Some constant) = text_in (slice_get types constant.0.0) constant.1
text_of types None = None

-- an item without width
abbrev pub item_text : List TypeDef → Expression → Option Expression → Option (List ℕ)
item_text types e None = text_of types (constant_of e)
item_text types e (Some width) = None

-- ---- statements

-- one list, and then another
abbrev pub joined : Option (List Statement) → Option (List Statement) → Option (List Statement)
joined (Some first) (Some others) = Some (first ++ others)
joined (Some first) None = None
joined None others = None

abbrev pub text_said : Option (List ℕ) → Option (List Statement)
text_said (Some bytes) = Some (write bytes ∷ [])
text_said None = None

abbrev pub items_said : List TypeDef → List Written → Option (List Statement)
items_said types [] = Some []
items_said types (item ∷ items) = joined (text_said (item_text types item.value item.width)) (items_said types items)

abbrev pub line_said : Bool → List Statement
line_said true = line_end ∷ []
line_said false = []

-- the end of a program has the low byte of a number
abbrev pub code_in : Value → Option ℕ
code_in (value.Number z) = Some (word_of w8 z)
code_in (value.Chars bytes) = None
code_in value.Nil = None
code_in (value.Elements elements) = None

abbrev pub end_code : Expression → Option ℕ
end_code e = option_and_then (λ (constant : TypeId × Value). code_in constant.1) (constant_of e)

abbrev pub halt_said : Option ℕ → Option (List Statement)
halt_said (Some code) = Some (halt code ∷ [])
halt_said None = None

-- what a typed statement says, if it is one of literals
abbrev mutual
  pub said : List TypeDef → typed.Statement → Option (List Statement)
  said types (Block parts) = all_said types parts
  said types (WriteItems items line) = joined (items_said types items) (Some (line_said line))
  said types (Halt code) = halt_said (end_code code)
  said types other = None

  pub all_said : List TypeDef → Statements → Option (List Statement)
  all_said types NoStatements = Some []
  all_said types (Then one rest) = joined (said types one) (all_said types rest)

-- ---- programs

-- The texts have at most 8,192 bytes, and there are at most 4,096 things to do.
pub record IsSmall (statements : List Statement) : Type 0 where
  pub bytes : size_of statements ≤ 8192
  pub count : length statements ≤ 4096

-- The main part of a unit is a routine without parameters, result, owner and outer routine, and the stack, of at most 65,520
-- bytes, has room for its frame and 512 bytes more.
pub record IsMain (unit : TypedUnit) (routine : Routine) : Type 0 where
  pub number : ℕ
  pub initial : unit.initial ≡ Some number
  pub there : slice_get unit.routines number ≡ Some routine
  pub params : routine.header.params ≡ []
  pub result : routine.header.result ≡ None
  pub owner : routine.owner ≡ None
  pub outer : routine.outer ≡ None
  pub stack : unit.stack ≤ 65520
  pub room : frame_of unit.types.types routine + 512 ≤ even unit.stack

-- A program of one unit that overlays nothing, whose main part says these few statements. Nothing is asked of what else the
-- unit declares.
pub record Says (program : Program) (statements : List Statement) : Type 0 where
  pub unit : TypedUnit
  pub alone : program.units ≡ unit ∷ []
  pub start : program.start ≡ 0
  pub plain : unit.overlaid ≡ []
  pub routine : Routine
  pub main : IsMain unit routine
  pub says : said unit.types.types (view_stmt routine.body) ≡ Some statements
  pub small : IsSmall statements

-- a program of literals
pub record IsLiteral (program : Program) : Type 0 where
  pub statements : List Statement
  pub says : Says program statements
