-- A program with a variable to which it adds 1, as an example of what is well-typed.
use Rattle.std.specs.Prelude.{true, false, negsuc, pos, [], ◌∷◌, Some, None, codes}
use Rattle.well_formed.specs.type_layout.declared.definitions.TypeId.{TypeId}
use Rattle.well_formed.specs.type_layout.declared.definitions.Kind.TheVariants as kind
use Rattle.well_formed.specs.type_layout.declared.definitions.TypeDef.TheVariants as type
use Rattle.well_formed.specs.type_layout.declared.definitions.Host.TheVariants as host
use Rattle.well_formed.specs.type_layout.Table.{Table}
use Rattle.well_formed.specs.typed_tree.declared.expressions.Variable.{Variable}
use Rattle.well_formed.specs.typed_tree.declared.expressions.Value.TheVariants as constant
use Rattle.well_formed.specs.typed_tree.declared.expressions.BinaryOp.TheVariants as two
use Rattle.well_formed.specs.typed_tree.declared.expressions.Expr.TheVariants as expr
use Rattle.well_formed.specs.typed_tree.declared.expressions.PlaceExpr.TheVariants as place
use Rattle.well_formed.specs.typed_tree.declared.statements.Stmt.TheVariants as stmt
use Rattle.well_formed.specs.typed_tree.declared.units.Routine.{Routine}
use Rattle.well_formed.specs.typed_tree.declared.units.Unit.{Unit as TypedUnit}
use Rattle.well_formed.specs.typed_tree.declared.units.Program.{Program}
use Rattle.store_typing.specs.tp_meaning.ShownCalls.{Boxed, boxed}

abbrev pub integer : TypeId
integer = record { 0 = 0 }

-- Integer
abbrev pub table : Table
table = record {
  types = type.Ordinal host.Integer (negsuc 32767) (pos 32767) ∷ [];
  origins = (record { unit = 0; number = 0 }) ∷ [];
  units = codes "P" ∷ [];
}

abbrev pub counter : Variable
counter = record { unit = 0; level = 0; number = 0 }

-- n := n + 1
abbrev pub main_part : Boxed → Routine
main_part b = record {
  name = codes "P";
  header = record { kind = kind.Procedure; params = []; result = None };
  owner = None;
  outer = None;
  far = true;
  locals = [];
  body = stmt.Assign (boxed b (place.Var counter)) (boxed b (expr.Binary' integer two.Add b (expr.Load' integer b (place.Var counter)) b (expr.Const integer (constant.Number (pos 1))) false));
}

abbrev pub counting : Boxed → TypedUnit
counting b = record {
  name = codes "P";
  names = codes "P" ∷ [];
  types = table;
  items = [];
  globals = (record { ty = integer; first = None }) ∷ [];
  routines = main_part b ∷ [];
  initial = Some 0;
  uses = [];
  overlayable = false;
  overlaid = [];
  stack = 1024;
  heap = 0;
}

abbrev pub counting_program : Boxed → Program
counting_program b = record { units = counting b ∷ []; start = 0 }
