-- Words for small programs, which serve as examples: the statement of a main part over a unit's globals.
use Rattle.std.specs.Prelude.{ℕ, false, ℤ, pos, negsuc, List, [], ◌∷◌, ◌++◌, map, Some, None, codes}
use Rattle.common_values.specs.behaviour.Seen.{Seen, Standing, Ended}
use Rattle.type_layout.specs.declared.definitions.TypeId.{TypeId}
use Rattle.type_layout.specs.declared.definitions.TypeDef.{TypeDef}
use Rattle.type_layout.specs.declared.definitions.TypeDef.TheVariants as type
use Rattle.type_layout.specs.declared.definitions.Host.TheVariants as host
use Rattle.type_layout.specs.Table.{Table}
use Rattle.typed_tree.specs.declared.expressions.Variable.{Variable}
use Rattle.typed_tree.specs.declared.expressions.Value.TheVariants as constant
use Rattle.typed_tree.specs.declared.expressions.BinaryOp.{BinaryOp}
use Rattle.typed_tree.specs.declared.units.Global.{Global}
use Rattle.typed_tree.specs.declared.units.Unit.{Unit as TypedUnit}
use Rattle.typed_tree.specs.declared.units.Program.{Program}
use Rattle.typed_tree.specs.Expressions.{Expression, Const, Load, Binary, Std, Place, Var, Arguments}
use Rattle.typed_tree.specs.Statements.{Statement, Written, Block, WriteItems, Statements, NoStatements, Then}
use Rattle.tp_meaning.specs.Outcomes.{Outcome, Done, Over}
use Rattle.tp_meaning.specs.Calls.{Do, Flow}
use Rattle.tp_meaning.specs.Meaning.{run, start_state, start_activation, seen_so}

-- ---- a unit with these globals

-- Integer, Boolean, Char, string, Word, LongInt, string[3], Byte, set of Byte, 1..3, array[1..3] of Integer, a pointer to
-- Integer, and a record of an Integer and a string[3]
abbrev pub types : List TypeDef
types =
    type.Ordinal host.Integer (negsuc 32767) (pos 32767)
    ∷ type.Ordinal host.Boolean (pos 0) (pos 1)
    ∷ type.Ordinal host.Char (pos 0) (pos 255)
    ∷ type.Str 255
    ∷ type.Ordinal host.Word (pos 0) (pos 65535)
    ∷ type.Ordinal host.LongInt (negsuc 2147483647) (pos 2147483647)
    ∷ type.Str 3
    ∷ type.Ordinal host.Byte (pos 0) (pos 255)
    ∷ type.SetOf (record { 0 = 7 })
    ∷ type.Ordinal host.Integer (pos 1) (pos 3)
    ∷ type.ArrayOf (record { 0 = 9 }) (record { 0 = 0 })
    ∷ type.PointerTo (record { 0 = 0 })
    ∷ type.RecordOf ((record { name = codes "N"; ty = record { 0 = 0 } }) ∷ (record { name = codes "S"; ty = record { 0 = 6 } }) ∷ [])
    ∷ []

abbrev pub id : ℕ → TypeId
id n = record { 0 = n }

abbrev pub integer : TypeId
integer = id 0

abbrev pub boolean : TypeId
boolean = id 1

abbrev pub table : Table
table = record { types = types; origins = []; units = [] }

abbrev pub global : TypeId → Global
global ty = record { ty = ty; first = None }

abbrev pub unit_with : List Global → TypedUnit
unit_with globals = record {
  name = codes "A";
  names = codes "A" ∷ [];
  types = table;
  items = [];
  globals = globals;
  routines = [];
  initial = None;
  uses = [];
  overlayable = false;
  overlaid = [];
  stack = 16384;
  heap = 24;
}

abbrev pub program_with : List Global → Program
program_with globals = record { units = unit_with globals ∷ []; start = 0 }

-- where the statement ends, the program ends with code 0
abbrev pub seen : Outcome Flow → Seen
seen (Done flow s) = seen_so (Ended 0) s
seen (Over standing s) = seen_so standing s

-- what a statement shows over globals of these types, on an input, within so many turns
abbrev pub shown : List TypeId → Statement → List ℕ → ℕ → Seen
shown globals body input turns =
    let program = program_with (map global globals) in
    seen (run program (Do body) (start_activation (unit_with (map global globals))) (start_state program input turns))

abbrev pub ends : Standing → List ℕ → List ℕ → Seen
ends standing out err = record { out = out; err = err; end = standing }

abbrev pub error_line : List ℕ → List ℕ
error_line number = codes "Runtime error " ++ number ++ 13 ∷ 10 ∷ []

-- ---- words for trees

abbrev pub variable : ℕ → Variable
variable n = record { unit = 0; level = 0; number = n }

abbrev pub var : ℕ → Place
var n = Var (variable n)

abbrev pub load : TypeId → ℕ → Expression
load ty n = Load ty (var n)

abbrev pub int : ℕ → Expression
int n = Load integer (var n)

abbrev pub number : ℤ → Expression
number z = Const integer (constant.Number z)

abbrev pub on : BinaryOp → Expression → Expression → Expression
on op a b = Binary integer op a b false

abbrev pub chars : List ℕ → Expression
chars bytes = Const (id 3) (constant.Chars bytes)

abbrev pub item : Expression → Written
item e = record { value = e; width = None }

abbrev pub wide : Expression → ℤ → Written
wide e w = record { value = e; width = Some (number w) }

abbrev pub write : List Expression → Statement
write es = WriteItems (map item es) false

abbrev pub all : List Statement → Statements
all [] = NoStatements
all (one ∷ rest) = Then one (all rest)

abbrev pub block : List Statement → Statement
block parts = Block (all parts)

abbrev pub call : ℕ → Arguments → Expression
call n args = Std None n args

abbrev pub gives : TypeId → ℕ → Arguments → Expression
gives ty n args = Std (Some ty) n args

abbrev pub truth_of : BinaryOp → Expression → Expression → Expression
truth_of op a b = Binary boolean op a b false
