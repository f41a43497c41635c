-- Examples of calls, frames, objects and the unit Overlay.
use Rattle.std.specs.Prelude.{◌≡◌, ℕ, ◌++◌, Bool, true, false, pos, List, [], ◌∷◌, map, Option, Some, None, codes, Box}
use Rattle.std.proofs.Common.{Global as Heap}
use Rattle.common_values.specs.behaviour.Seen.{Seen, Ended, Going, Undefined}
use Rattle.type_layout.specs.declared.definitions.TypeId.{TypeId}
use Rattle.type_layout.specs.declared.definitions.RoutineId.{RoutineId}
use Rattle.type_layout.specs.declared.definitions.Param.{Param}
use Rattle.type_layout.specs.declared.definitions.Header.{Header}
use Rattle.type_layout.specs.declared.definitions.Method.{Method}
use Rattle.type_layout.specs.declared.definitions.Kind.{Kind}
use Rattle.type_layout.specs.declared.definitions.Kind.TheVariants as kind
use Rattle.type_layout.specs.declared.definitions.TypeDef.{TypeDef}
use Rattle.type_layout.specs.declared.definitions.TypeDef.TheVariants as type
use Rattle.typed_tree.specs.declared.expressions.Value.TheVariants as constant
use Rattle.typed_tree.specs.declared.expressions.BinaryOp.TheVariants as two
use Rattle.typed_tree.specs.declared.expressions.Expr.{Expr}
use Rattle.typed_tree.specs.declared.expressions.Expr.TheVariants as expr
use Rattle.typed_tree.specs.declared.expressions.PlaceExpr.TheVariants as place
use Rattle.typed_tree.specs.declared.expressions.Variable.{Variable}
use Rattle.typed_tree.specs.declared.statements.Stmt.{Stmt}
use Rattle.typed_tree.specs.declared.statements.Stmt.TheVariants as stmt
use Rattle.typed_tree.specs.declared.units.Routine.{Routine}
use Rattle.typed_tree.specs.declared.units.Unit.{Unit as TypedUnit}
use Rattle.typed_tree.specs.declared.units.Program.{Program}
use Rattle.typed_tree.specs.Expressions.{Expression, Const, Load, Call, CallVirtual, CallThrough, RoutineValue, Make, Std, Deref, FieldOf, Var, Own, NoReceiver, NoArguments, ByValue, ByPlace}
use Rattle.typed_tree.specs.Standard.{size_of, new, dispose}
use Rattle.typed_tree.specs.declared.statements.Destructor.TheVariants as destructor
use Rattle.typed_tree.specs.Statements.{Statement, Assign, CopyAll, Run, Unmake}
use Rattle.tp_meaning.specs.Calls.{Do}
use Rattle.tp_meaning.specs.Meaning.{run, start_state, mean}
use Rattle.tp_meaning.specs.Examples.{types, integer, id, global, seen, ends, error_line, var, load, int, number, on, chars, write, block, gives}

abbrev pub Boxed : Type 0
Boxed = Box (Unit {0}) Heap

-- something in a box that lies where another one does
abbrev pub boxed : {X : Type 0} → Boxed → X → Box X Heap
boxed b x = record { ptr = b.ptr; alloc = b.alloc; value = x }

-- ---- two object types, the second one a descendant of the first

abbrev pub header_of : Kind → List Param → Option TypeId → Header
header_of kind params result = record { kind = kind; params = params; result = result }

abbrev pub method : List ℕ → Kind → Option TypeId → Bool → ℕ → Method
method name kind result is_virtual number = record { name = name; header = header_of kind [] result; is_virtual = is_virtual; routine = record { unit = 0; number = number } }

-- T has a field, a constructor and a virtual function, which U declares anew; 15 and 16 are pointers to them
abbrev pub all_types : List TypeDef
all_types = types ++ (
    type.ObjectOf None true ((record { name = codes "N"; ty = integer }) ∷ [])
    (method (codes "INIT") kind.Constructor None false 3 ∷ method (codes "V") kind.Function (Some integer) true 4 ∷ [])
    ∷ type.ObjectOf (Some (id 13)) false ((record { name = codes "M"; ty = integer }) ∷ []) (method (codes "V") kind.Function (Some integer) true 5 ∷ [])
    ∷ type.PointerTo (id 13)
    ∷ type.PointerTo (id 14)
    ∷ type.Procedural (header_of kind.Function ((record { name = codes "N"; by_ref = false; ty = integer }) ∷ []) (Some integer))
    ∷ [])

-- ---- routines

abbrev pub local : ℕ → Variable
local n = record { unit = 0; level = 1; number = n }

abbrev pub own : Boxed → ℕ → Expr
own b n = expr.Load' integer b (place.Var (local n))

abbrev pub routine : Kind → List Param → Option TypeId → Option TypeId → Stmt → Routine
routine kind params result owner body = record {
  name = codes "R";
  header = header_of kind params result;
  owner = owner;
  outer = None;
  far = true;
  locals = [];
  body = body;
}

abbrev pub param : Bool → Param
param by_ref = record { name = codes "N"; by_ref = by_ref; ty = integer }

abbrev pub routines : Boxed → List Routine
routines b =
    -- 0: function (n): n + n
    routine kind.Function (param false ∷ []) (Some integer) None (stmt.Assign (boxed b (place.Var (local 1))) (boxed b (expr.Binary' integer two.Add b (own b 0) b (own b 0) false)))
    -- 1: procedure (var n): n := n + 1
    ∷ routine kind.Procedure (param true ∷ []) None None (stmt.Assign (boxed b (place.Var (local 0))) (boxed b (expr.Binary' integer two.Add b (own b 0) b (expr.Const integer (constant.Number (pos 1))) false)))
    -- 2: a function that sets no result
    ∷ routine kind.Function [] (Some integer) None stmt.Exit
    -- 3: constructor T.Init: n := 7
    ∷ routine kind.Constructor [] None (Some (id 13)) (stmt.Assign (boxed b (place.FieldOf' b (place.Var (local 0)) 0)) (boxed b (expr.Const integer (constant.Number (pos 7)))))
    -- 4: function T.V: 1
    ∷ routine kind.Function [] (Some integer) (Some (id 13)) (stmt.Assign (boxed b (place.Var (local 1))) (boxed b (expr.Const integer (constant.Number (pos 1)))))
    -- 5: function U.V: 2
    ∷ routine kind.Function [] (Some integer) (Some (id 14)) (stmt.Assign (boxed b (place.Var (local 1))) (boxed b (expr.Const integer (constant.Number (pos 2)))))
    -- 6: procedure (a, b)
    ∷ routine kind.Procedure (param false ∷ param false ∷ []) None None stmt.Exit
    -- 7: destructor T.Done
    ∷ routine kind.Destructor [] None (Some (id 13)) stmt.Exit
    -- 8: a procedure with a variable, and 9: one inside it that makes the variable 6
    ∷ record (routine kind.Procedure [] None None stmt.Exit) { locals = integer ∷ [] }
    ∷ record (routine kind.Procedure [] None None (stmt.Assign (boxed b (place.Var (record { unit = 0; level = 2; number = 0 }))) (boxed b (expr.Const integer (constant.Number (pos 6)))))) { outer = Some 8 }
    -- 10: an initialisation part that makes a global 5, and 11: a main part that ends with it
    ∷ routine kind.Procedure [] None None (stmt.Assign (boxed b (place.Var (record { unit = 0; level = 0; number = 0 }))) (boxed b (expr.Const integer (constant.Number (pos 5)))))
    ∷ routine kind.Procedure [] None None (stmt.Halt (boxed b (expr.Load' integer b (place.Var (record { unit = 1; level = 0; number = 0 })))))
    -- 12: destructor T.Free(n)
    ∷ routine kind.Destructor (param false ∷ []) None (Some (id 13)) stmt.Exit
    ∷ []

-- ---- a program

abbrev pub unit_with : Boxed → List TypeId → TypedUnit
unit_with b globals = record {
  name = codes "A";
  names = codes "A" ∷ codes "OVERLAY" ∷ [];
  types = record { types = all_types; origins = map (λ (n : ℕ). record { unit = 0; number = n }) (0 ∷ 1 ∷ 2 ∷ 3 ∷ 4 ∷ 5 ∷ 6 ∷ 7 ∷ 8 ∷ 9 ∷ 10 ∷ 11 ∷ 12 ∷ 13 ∷ 14 ∷ 15 ∷ 16 ∷ 17 ∷ []); units = codes "A" ∷ [] };
  items = [];
  globals = map global globals;
  routines = routines b;
  initial = None;
  uses = [];
  overlayable = false;
  overlaid = [];
  stack = 1024;
  heap = 64;
}

-- the same unit, overlaid by a program B
abbrev pub overlaying : Boxed → TypedUnit
overlaying b = record (unit_with b []) { name = codes "B"; overlaid = codes "A" ∷ [] }

-- what a statement shows in an activation before which the frames have this sum
abbrev pub shown_in : Program → TypedUnit → ℕ → Statement → ℕ → Seen
shown_in program unit sum body turns =
    seen (run program (Do body) (record { unit = unit; levels = []; withs = []; sum = sum }) (start_state program [] turns))

abbrev pub shown : Boxed → List TypeId → Statement → ℕ → Seen
shown b globals body turns = shown_in (record { units = unit_with b globals ∷ []; start = 0 }) (unit_with b globals) 0 body turns

abbrev pub routine_id : ℕ → RoutineId
routine_id n = record { unit = 0; number = n }

abbrev pub doubled : Expression → Expression
doubled e = Call (Some integer) (routine_id 0) NoReceiver (ByValue e NoArguments)

-- ---- routines

-- Write(F(F(3)))
abbrev pub calling : Boxed → ℕ → Seen
calling b turns = shown b [] (write (doubled (doubled (number (pos 3))) ∷ [])) turns

-- i := 4; P(i); Write(i)
abbrev pub by_reference : Boxed → Seen
by_reference b = shown b (integer ∷ []) (block (
    Assign (var 0) (number (pos 4))
    ∷ Run (Call None (routine_id 1) NoReceiver (ByPlace (var 0) NoArguments))
    ∷ write (int 0 ∷ [])
    ∷ [])) 1

-- Write(G), where G sets no result
abbrev pub no_result : Boxed → Seen
no_result b = shown b [] (write (Call (Some integer) (routine_id 2) NoReceiver NoArguments ∷ [])) 1

-- q := F; Write(q(5))
abbrev pub through : Boxed → Seen
through b = shown b (id 17 ∷ []) (block (
    Assign (var 0) (RoutineValue (id 17) (routine_id 0))
    ∷ write (CallThrough (Some integer) (var 0) (ByValue (number (pos 5)) NoArguments) ∷ [])
    ∷ [])) 1

-- the frame of F is 2 of arguments, 6 of links, 2 for its result and 4 to evaluate: 14, so that 498 are left to others
abbrev pub at_depth : Boxed → ℕ → Seen
at_depth b sum = shown_in (record { units = unit_with b [] ∷ []; start = 0 }) (unit_with b []) sum (write (doubled (number (pos 3)) ∷ [])) 1

-- ---- objects

abbrev pub init : ℕ → Statement
init n = Run (Call None (routine_id 3) (Own (var n)) NoArguments)

abbrev pub by_class : ℕ → Expression
by_class n = CallVirtual (Some integer) (var n) 0 false NoArguments

-- T's constructor on a variable of type U; then its function, its field and its size
abbrev pub dispatching : Boxed → Seen
dispatching b = shown b (id 14 ∷ []) (block (
    init 0
    ∷ write (by_class 0 ∷ Load integer (FieldOf (var 0) 0) ∷ gives (id 4) size_of (ByPlace (var 0) NoArguments) ∷ [])
    ∷ [])) 2

-- x without class
abbrev pub classless : Boxed → Seen
classless b = shown b (id 13 ∷ []) (write (by_class 0 ∷ [])) 1

-- the same where range checks hold
abbrev pub classless_checked : Boxed → Seen
classless_checked b = shown b (id 13 ∷ []) (write (CallVirtual (Some integer) (var 0) 0 true NoArguments ∷ [])) 1

-- x: T and y: U made by Init; x := y; the field is copied and the class isn't
abbrev pub assigning : Boxed → Seen
assigning b = shown b (id 13 ∷ id 14 ∷ []) (block (
    init 0
    ∷ init 1
    ∷ Assign (FieldOf (var 1) 0) (number (pos 9))
    ∷ CopyAll (var 0) (var 1)
    ∷ write (by_class 0 ∷ Load integer (FieldOf (var 0) 0) ∷ [])
    ∷ [])) 3

-- p := New(P, Init), where P points to U and p to T; Write(p^.V); Dispose(p) frees the size of T
abbrev pub making : Boxed → Seen
making b = shown b (id 15 ∷ []) (block (
    Assign (var 0) (Make (id 16) (routine_id 3) NoArguments)
    ∷ write (CallVirtual (Some integer) (Deref (load (id 15) 0)) 0 false NoArguments ∷ [])
    ∷ Run (Std None dispose (ByValue (load (id 15) 0) NoArguments))
    ∷ [])) 2

-- Dispose(p, Done) frees the size of the class that the instance has, which New(P, Init) gave it, and not that of p's type
abbrev pub unmaking : Boxed → Statement → Seen
unmaking b make = shown b (id 15 ∷ []) (block (
    make
    ∷ Unmake (load (id 15) 0) (destructor.Routine (routine_id 7)) NoArguments
    ∷ write (chars (codes "d") ∷ [])
    ∷ Assign (FieldOf (Deref (load (id 15) 0)) 0) (number (pos 1))
    ∷ [])) 2

-- Dispose(p, Free(1 div 0)): p is nil or not before the argument is evaluated, and followed only behind it
abbrev pub freeing : Boxed → List Statement → Seen
freeing b before = shown b (id 15 ∷ []) (block (
    before ++ Unmake (load (id 15) 0) (destructor.Routine (routine_id 12)) (ByValue (on two.Divide (number (pos 1)) (number (pos 0))) NoArguments) ∷ [])) 0

-- ---- order

-- P(1 div 0, i), where i is unset: the first argument comes first
abbrev pub arguments : Boxed → Seen
arguments b = shown b (integer ∷ []) (Run (Call None (routine_id 6) NoReceiver (ByValue (on two.Divide (number (pos 1)) (number (pos 0))) (ByValue (int 0) NoArguments)))) 1

-- a procedure is called from the one round it, whose variable is global 0 here
abbrev pub nested : Boxed → Seen
nested b =
    let unit = unit_with b (integer ∷ []) in
    let outer = record (routine kind.Procedure [] None None stmt.Exit) { locals = integer ∷ [] } in
    seen (run (record { units = unit ∷ []; start = 0 }) (Do (block (Run (Call None (routine_id 9) NoReceiver NoArguments) ∷ write (int 0 ∷ []) ∷ [])))
    (record { unit = unit; levels = (record { number = 8; routine = outer; first = 1 }) ∷ []; withs = []; sum = 0 })
    (start_state (record { units = unit ∷ []; start = 0 }) [] 1))

-- unit A begins before the program C
abbrev pub starting : Boxed → List (List ℕ) → Seen
starting b overlaid =
    let a = record (unit_with b (integer ∷ [])) { initial = Some 10 } in
    let c = record (unit_with b []) { name = codes "C"; names = codes "C" ∷ codes "A" ∷ []; initial = Some 11; overlaid = overlaid } in
    mean (record { units = a ∷ c ∷ []; start = 1 }) [] 0

-- ---- the unit Overlay

abbrev pub init_overlay : List ℕ → Statement
init_overlay name = Run (Call None (record { unit = 1; number = 0 }) NoReceiver (ByValue (chars name) NoArguments))

abbrev pub overlay_result : Expression
overlay_result = Load integer (Var (record { unit = 1; level = 0; number = 0 }))

-- before OvrInit and after it a routine of the overlaid unit A is called from B
abbrev pub overlaid_call : Boxed → List Statement → Seen
overlaid_call b before =
    shown_in (record { units = unit_with b [] ∷ overlaying b ∷ []; start = 1 }) (record (overlaying b) { names = codes "A" ∷ codes "OVERLAY" ∷ [] }) 0
    (block (before ++ write (overlay_result ∷ doubled (number (pos 3)) ∷ []) ∷ [])) 1

pub record CallExamples (b : Boxed) : Type 0 where
  pub called : calling b 2 ≡ ends (Ended 0) (codes "12") []
  pub calling : calling b 1 ≡ ends Going [] []
  pub by_reference : by_reference b ≡ ends (Ended 0) (codes "5") []
  pub no_result : no_result b ≡ ends (Undefined 1) [] []
  pub through : through b ≡ ends (Ended 0) (codes "10") []
  pub room : at_depth b 498 ≡ ends (Ended 0) (codes "6") []
  pub no_room : at_depth b 499 ≡ ends (Ended 202) [] (error_line (codes "202"))
  pub dispatching : dispatching b ≡ ends (Ended 0) (codes "276") []
  pub classless : classless b ≡ ends (Undefined 4) [] []
  pub classless_checked : classless_checked b ≡ ends (Ended 210) [] (error_line (codes "210"))
  pub assigning : assigning b ≡ ends (Ended 0) (codes "19") []
  pub making : making b ≡ ends (Undefined 5) (codes "2") []
  pub unmade : unmaking b (Assign (var 0) (Make (id 16) (routine_id 3) NoArguments)) ≡ ends (Undefined 2) (codes "d") []
  pub unmaking : unmaking b (Run (Std None new (ByPlace (var 0) NoArguments))) ≡ ends (Undefined 1) [] []
  pub freeing_nil : freeing b (Assign (var 0) (Const (id 15) constant.Nil) ∷ []) ≡ ends (Ended 204) [] (error_line (codes "204"))
  pub freeing_gone : freeing b (Run (Std None new (ByPlace (var 0) NoArguments)) ∷ Run (Std None dispose (ByValue (load (id 15) 0) NoArguments)) ∷ []) ≡ ends (Ended 200) [] (error_line (codes "200"))
  pub arguments : arguments b ≡ ends (Ended 200) [] (error_line (codes "200"))
  pub nested : nested b ≡ ends (Ended 0) (codes "6") []
  pub not_started : starting b (codes "A" ∷ []) ≡ ends (Ended 208) [] (error_line (codes "208"))
  pub starting : starting b [] ≡ ends (Ended 5) [] []
  pub installed : overlaid_call b (init_overlay (codes "b.ovr") ∷ []) ≡ ends (Ended 0) (codes "06") []
  pub not_installed : overlaid_call b (init_overlay (codes "NO.OVR") ∷ []) ≡ ends (Ended 208) (codes "-2") (error_line (codes "208"))
