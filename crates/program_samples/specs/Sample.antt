-- A program of two units, as an example of what is well-typed.
--
--     unit A;                                              program P;
--     interface                                            uses A;
--     type                                                 var x: T; s: string;
--       T = object                                         begin
--         n: Byte;                                           x.Init;
--         constructor Init;                                  x.Tell(s);
--         procedure Tell(var s: string); virtual;            Write(s)
--       end;                                               end.
--     implementation
--     constructor T.Init; begin n := 4 end;
--     procedure T.Tell(var s: string); begin if n in [1, 3..5] then s := 'few' end;
--     end.
use Rattle.std.specs.Prelude.{ℕ, true, false, pos, List, [], ◌∷◌, Some, None, codes}
use Rattle.unit_references.specs.type_layout.declared.definitions.TypeId.{TypeId}
use Rattle.unit_references.specs.type_layout.declared.definitions.Header.{Header}
use Rattle.unit_references.specs.type_layout.declared.definitions.Method.{Method}
use Rattle.unit_references.specs.type_layout.declared.definitions.Kind.TheVariants as kind
use Rattle.unit_references.specs.type_layout.declared.definitions.Host.TheVariants as host
use Rattle.unit_references.specs.type_layout.declared.definitions.TypeDef.{TypeDef}
use Rattle.unit_references.specs.type_layout.declared.definitions.TypeDef.TheVariants as type
use Rattle.unit_references.specs.type_layout.Table.{Table}
use Rattle.unit_references.specs.typed_tree.declared.expressions.Value.TheVariants as constant
use Rattle.unit_references.specs.typed_tree.declared.expressions.BinaryOp.TheVariants as two
use Rattle.unit_references.specs.typed_tree.declared.statements.Stmt.{Stmt}
use Rattle.unit_references.specs.typed_tree.declared.units.Global.{Global}
use Rattle.unit_references.specs.typed_tree.declared.units.Routine.{Routine}
use Rattle.unit_references.specs.typed_tree.declared.units.Item.TheVariants as item
use Rattle.unit_references.specs.typed_tree.declared.units.Unit.{Unit as TypedUnit}
use Rattle.unit_references.specs.typed_tree.declared.units.Program.{Program}
use Rattle.unit_references.specs.typed_tree.Expressions.{Expression, Place, Const, Load, Binary, SetOf, Call, CallVirtual, Var, FieldOf, Own, One, Span, NoElements, NoArguments, ByPlace}
use Rattle.unit_references.specs.typed_tree.Statements.{Statement, Assign, Run, If, Block, WriteItems, NoStatements, Then}

-- ---- types, which both units have alike

abbrev pub id : ℕ → TypeId
id n = record { 0 = n }

abbrev pub byte : TypeId
byte = id 0

abbrev pub boolean : TypeId
boolean = id 1

abbrev pub text : TypeId
text = id 2

abbrev pub set_of_byte : TypeId
set_of_byte = id 3

abbrev pub class : TypeId
class = id 4

abbrev pub init_header : Header
init_header = record { kind = kind.Constructor; params = []; result = None }

abbrev pub tell_header : Header
tell_header = record { kind = kind.Procedure; params = (record { name = codes "S"; by_ref = true; ty = text }) ∷ []; result = None }

abbrev pub main_header : Header
main_header = record { kind = kind.Procedure; params = []; result = None }

abbrev pub init_method : Method
init_method = record { name = codes "INIT"; header = init_header; is_virtual = false; routine = record { unit = 1; number = 0 } }

abbrev pub tell_method : Method
tell_method = record { name = codes "TELL"; header = tell_header; is_virtual = true; routine = record { unit = 1; number = 1 } }

abbrev pub types : List TypeDef
types =
    type.Ordinal host.Byte (pos 0) (pos 255)
    ∷ type.Ordinal host.Boolean (pos 0) (pos 1)
    ∷ type.Str 255
    ∷ type.SetOf byte
    ∷ type.ObjectOf None true ((record { name = codes "N"; ty = byte }) ∷ []) (init_method ∷ tell_method ∷ [])
    ∷ []

-- the first four are predeclared
abbrev pub table : Table
table = record {
  types = types;
  origins =
      (record { unit = 0; number = 1 })
      ∷ (record { unit = 0; number = 6 })
      ∷ (record { unit = 0; number = 7 })
      ∷ (record { unit = 0; number = 8 })
      ∷ (record { unit = 1; number = 0 })
      ∷ [];
  units = codes "SYSTEM" ∷ codes "A" ∷ [];
}

-- ---- bodies

abbrev pub local : ℕ → Place
local n = Var (record { unit = 0; level = 1; number = n })

abbrev pub global : ℕ → Place
global n = Var (record { unit = 0; level = 0; number = n })

abbrev pub number : ℕ → Expression
number n = Const byte (constant.Number (pos n))

-- n := 4
abbrev pub init_body : Statement
init_body = Assign (FieldOf (local 0) 0) (number 4)

-- n in [1, 3..5]
abbrev pub is_few : Expression
is_few = Binary boolean two.In (Load byte (FieldOf (local 1) 0)) (SetOf set_of_byte (One (number 1) (Span (number 3) (number 5) NoElements))) false

-- if n in [1, 3..5] then s := 'few'
abbrev pub tell_body : Statement
tell_body = If is_few (Assign (local 0) (Const text (constant.Chars (codes "few")))) (Block NoStatements)

-- x.Init; x.Tell(s); Write(s)
abbrev pub main_body : Statement
main_body = Block (
    Then (Run (Call None (record { unit = 1; number = 0 }) (Own (global 0)) NoArguments))
    (Then (Run (CallVirtual None (global 0) 0 false (ByPlace (global 1) NoArguments)))
    (Then (WriteItems ((record { value = Load text (global 1); width = None }) ∷ []) false)
    NoStatements)))

-- ---- units

abbrev pub method : List ℕ → Header → Stmt → Routine
method name header body = record { name = name; header = header; owner = Some class; outer = None; far = true; locals = []; body = body }

-- unit A, by the bodies of its methods
abbrev pub unit_a : Stmt → Stmt → TypedUnit
unit_a init tell = record {
  name = codes "A";
  names = codes "A" ∷ [];
  types = table;
  items = item.Ty (codes "T") class ∷ [];
  globals = [];
  routines = method (codes "INIT") init_header init ∷ method (codes "TELL") tell_header tell ∷ [];
  initial = None;
  uses = [];
  overlayable = false;
  overlaid = [];
  stack = 16384;
  heap = 65536;
}

abbrev pub variable : TypeId → Global
variable ty = record { ty = ty; first = None }

abbrev pub main_part : Stmt → Routine
main_part body = record { name = codes "P"; header = main_header; owner = None; outer = None; far = true; locals = []; body = body }

-- program P, by its main part
abbrev pub unit_p : Stmt → TypedUnit
unit_p main = record {
  name = codes "P";
  names = codes "P" ∷ codes "A" ∷ [];
  types = table;
  items = [];
  globals = variable class ∷ variable text ∷ [];
  routines = main_part main ∷ [];
  initial = Some 0;
  uses = codes "A" ∷ [];
  overlayable = false;
  overlaid = [];
  stack = 16384;
  heap = 65536;
}

abbrev pub sample : Stmt → Stmt → Stmt → Program
sample init tell main = record { units = unit_a init tell ∷ unit_p main ∷ []; start = 1 }
