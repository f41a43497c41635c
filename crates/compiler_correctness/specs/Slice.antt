-- A small program of two units, as a try of what is asked of the lowering. The unit A has an initialisation part, which does nothing. The main
-- part of B is `while True do Halt(1 div 0)`: a turn, and then error 200. Where A is overlaid, its part is not begun: its stub refuses the call
-- with error 208. In flat code an error takes a turn of its own, in the source it takes none.
use Rattle.std.specs.Prelude.{ℕ, ◌==◌, ◌&&◌, if◌then◌else◌, Bool, true, false, pos, List, [], ◌∷◌, Option, Some, None, codes}
use Rattle.type_layout.specs.declared.definitions.Kind.TheVariants as kind
use Rattle.type_layout.specs.Words.{same_bytes}
use Rattle.typed_tree.specs.declared.expressions.Value.TheVariants as constant
use Rattle.typed_tree.specs.declared.expressions.BinaryOp.TheVariants as two
use Rattle.typed_tree.specs.declared.expressions.Expr.{Expr}
use Rattle.typed_tree.specs.declared.expressions.Expr.TheVariants as expr
use Rattle.typed_tree.specs.declared.statements.Stmt.{Stmt}
use Rattle.typed_tree.specs.declared.statements.Stmt.TheVariants as stmt
use Rattle.typed_tree.specs.declared.units.Routine.{Routine}
use Rattle.typed_tree.specs.declared.units.Unit.{Unit as TypedUnit}
use Rattle.typed_tree.specs.declared.units.Program.{Program}
use Rattle.tp_meaning.specs.Examples.{table, integer, boolean}
use Rattle.tp_meaning.specs.ShownCalls.{Boxed, boxed}
use Rattle.flat_code.specs.Program as flat
use Rattle.flat_code.specs.Program.{Name, Key, UnitCode, FlatProgram, Choice}
use Rattle.flat_code.specs.declared.memory.Place.{Place}
use Rattle.flat_code.specs.Legal.{Mention, Reaches, IsLegal}
use Rattle.flat_code.specs.Tree.{Code, Error, End, Do, Loop}
use Rattle.runtime_units.specs.Units.{ReachesRuntimeData}
use Rattle.code_simulation.specs.bodies.Layouts.{IsIn}
use Rattle.compiler_correctness.specs.Hypotheses.{HasSegments, IsLoweringOf}

-- ---- the source

abbrev pub number : ℕ → Expr
number n = expr.Const integer (constant.Number (pos n))

abbrev pub main_body : Boxed → Stmt
main_body b =
    stmt.While' (boxed b (expr.Const boolean (constant.Number (pos 1)))) b
    (stmt.Halt (boxed b (expr.Binary' integer two.Divide b (number 1) b (number 0) false)))

abbrev pub part : List ℕ → Stmt → Routine
part name body = record {
  name = name;
  header = record { kind = kind.Procedure; params = []; result = None };
  owner = None;
  outer = None;
  far = true;
  locals = [];
  body = body;
}

abbrev pub unit_of : List ℕ → List (List ℕ) → Routine → List (List ℕ) → TypedUnit
unit_of name names routine overlaid = record {
  name = name;
  names = names;
  types = table;
  items = [];
  globals = [];
  routines = routine ∷ [];
  initial = Some 0;
  uses = [];
  overlayable = true;
  overlaid = overlaid;
  stack = 1024;
  heap = 0;
}

abbrev pub overlaid_names : Bool → List (List ℕ)
overlaid_names true = codes "A" ∷ []
overlaid_names false = []

abbrev pub slice : Boxed → Bool → Program
slice b overlaid = record {
  units = unit_of (codes "A") (codes "A" ∷ []) (part (codes "A") stmt.Exit) []
      ∷ unit_of (codes "B") (codes "B" ∷ codes "A" ∷ []) (part (codes "B") (main_body b)) (overlaid_names overlaid) ∷ [];
  start = 1;
}

-- ---- flat code

abbrev pub flat_part : Code → flat.Routine
flat_part body = record { far = true; arguments = 0; locals = 0; frame = 6; result = None; body = body }

abbrev pub flat_unit : List Name → Code → UnitCode
flat_unit names body = record { names = names; routines = flat_part body ∷ []; globals = []; vmts = []; initial = Some 0 }

abbrev pub flat_units : Name → Option UnitCode
flat_units name =
    if same_bytes name (codes "A") then Some (flat_unit (codes "A" ∷ []) End)
    else (if same_bytes name (codes "B") then Some (flat_unit (codes "B" ∷ codes "A" ∷ []) (Loop (Do (Error 200) End) End)) else None)

abbrev pub flat_slice : Bool → FlatProgram
flat_slice overlaid = record {
  unit = flat_units;
  order = codes "A" ∷ codes "B" ∷ [];
  overlaid = λ name. overlaid && same_bytes name (codes "A");
  stack = 1024;
  heap = 0;
  ovr_name = [];
}

-- ---- places for its parts

abbrev pub part_key : List ℕ → Key
part_key name = record { unit = name; number = 0 }

abbrev pub part_place : ℕ → Place
part_place segment = record { segment = segment; offset = 0 }

-- the two parts stand at the beginnings of segments 1 and 2
abbrev pub far_by : (first a b : Bool) → Option Place
far_by first a b = if first then (if a then Some (part_place 1) else (if b then Some (part_place 2) else None)) else None

abbrev pub callee_by : (first a b : Bool) → Option Key
callee_by first a b = if first then (if a then Some (part_key (codes "A")) else (if b then Some (part_key (codes "B")) else None)) else None

abbrev pub slice_choice : Choice
slice_choice = record {
  data_segment = 0x1000;
  stack_segment = 0x2000;
  heap_segment = 0x3000;
  datum = λ key. Some 0;
  vmt = λ key. Some 0;
  far = λ key. far_by (key.number == 0) (same_bytes key.unit (codes "A")) (same_bytes key.unit (codes "B"));
  callee = λ p. callee_by (p.offset == 0) (p.segment == 1) (p.segment == 2);
}

abbrev pub everything : Mention → Bool
everything mention = true

-- what the lowering may take for granted of a set and a choice
pub record HasPlaces (overlaid : Bool) (reached : Mention → Bool) (choice : Choice) : Type 0 where
  pub reaches : Reaches (flat_slice overlaid) (IsIn reached)
  pub runtime : ReachesRuntimeData (IsIn reached)
  pub legal : IsLegal (flat_slice overlaid) choice (IsIn reached)
  pub segments : HasSegments choice

-- ---- the try

-- Wherever the parts of the flat program lie, it follows the source, and its work is paid.
abbrev pub SliceFollows : Type 0
SliceFollows = (b : Boxed) (overlaid : Bool) → IsLoweringOf 4 (slice b overlaid) (flat_slice overlaid)

-- And there are places for them.
abbrev pub SliceStands : Type 0
SliceStands = (overlaid : Bool) → HasPlaces overlaid everything slice_choice
