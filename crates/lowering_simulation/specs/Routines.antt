-- The laws of following for calls, of the runtime's routines and of those of the sources.
use Rattle.std.specs.Prelude.{◌≡◌, ℕ, ◌+◌, ◌*◌, ◌≤◌, ◌&&◌, not, List, length, slice_get, Option, Some, Ok}
use Rattle.typed_tree.specs.declared.units.Program.{Program}
use Rattle.tp_meaning.specs.Trees as trees
use Rattle.tp_meaning.specs.Trees.{Value, Spot}
use Rattle.tp_meaning.specs.Programs.{is_overlaid}
use Rattle.tp_meaning.specs.Outcomes as source
use Rattle.tp_meaning.specs.Activations.{Activation, Callee, callee_of}
use Rattle.tp_meaning.specs.Calls as calls
use Rattle.tp_meaning.specs.Calls.{Runs}
use Rattle.flat_code.specs.declared.tree.FlatResult.{FlatResult}
use Rattle.flat_code.specs.Tree.{Expr, exprs_size, Runtime, Call, End, Do}
use Rattle.flat_code.specs.Program.{Key, Routine, UnitCode, FlatProgram, Choice, runtime_key}
use Rattle.flat_code.specs.Gives.{with_turns}
use Rattle.flat_code.specs.Calls as flat
use Rattle.flat_code.specs.Meaning.{Frame, values_of, key_of, called, begun, run}
use Rattle.lowering_simulation.specs.Meets.{Relation, Landing, SameTexts, Meets}
use Rattle.lowering_simulation.specs.Laws.{GoesTo}

-- a routine of the sources, and the routine of flat code that stands for it, which takes as many bytes as are handed over
pub record StandsFor (program : Program) (target : FlatProgram) (key : trees.Key) (callee : Callee) (flat_key : Key) (unit : UnitCode) (r : Routine) (args : List ℕ) : Type 0 where
  pub callee_is : callee_of program key ≡ Ok callee
  pub unit_is : target.unit flat_key.unit ≡ Some unit
  pub routine_is : slice_get unit.routines flat_key.number ≡ Some r
  pub fits : 2 * length args ≡ r.arguments

-- A routine of the runtime begins behind a turn, with these words. What it promises (`Ends`, `Raises`) speaks of its call.
abbrev pub RuntimeCall : FlatProgram → Choice → Frame → Type 0
RuntimeCall target choice f =
    (number : ℕ) (args : List Expr) (vs : List ℕ) (result : Option FlatResult) (t : flat.State) → 5 ≤ number → values_of choice f t.cells args ≡ Ok vs →
    GoesTo 1 (run target choice (Do (Runtime number args result) End) f) t (λ u. called target choice (run target choice) vs result f u (runtime_key number)) (begun (1 + exprs_size args) t)

-- a turn is due before a routine is called
abbrev pub RoutineCall : FlatProgram → Choice → Frame → Type 0
RoutineCall target choice f =
    (unit number : ℕ) (args : List Expr) (vs : List ℕ) (key : Key) (result : Option FlatResult) (t : flat.State) → values_of choice f t.cells args ≡ Ok vs → key_of f unit number ≡ Ok key →
    (left : ℕ) → run target choice (Do (Call unit number args result) End) f (with_turns t left) ≡ flat.spend (with_turns (begun (1 + exprs_size args) t) left) (λ u. called target choice (run target choice) vs result f u key)

-- Errors 208 and 202 come on both sides or on none. Where none comes, the activations are to follow.
abbrev pub Entering : ℕ → FlatProgram → Choice → Frame → Relation Value → Type 0
Entering few target choice f P =
    (weight turns : ℕ) (program : Program) (again : Runs) (g : Activation) (key : trees.Key) (own : Option Spot) (class : Option trees.Key) (xs : List Value) (callee : Callee)
    (flat_key : Key) (unit : UnitCode) (r : Routine) (args : List ℕ) (result : Option FlatResult) (s : source.State) (t : flat.State) (lands : Landing Value) →
    StandsFor program target key callee flat_key unit r args →
    (target.overlaid flat_key.unit && not t.flag) ≡ (is_overlaid program key.unit && not s.installed) →
    flat.is_too_deep target r f.sum ≡ calls.is_too_deep program callee g.sum → SameTexts s t →
    Meets few weight turns (flat.activated choice (run target choice) flat_key.unit unit r args result f) t lands P (calls.activated again callee g own class xs s) →
    Meets few weight turns (λ u. called target choice (run target choice) args result f u flat_key) t lands P (calls.entered program again g key own class xs s)

pub record CallLaws (few : ℕ) (target : FlatProgram) (choice : Choice) (f : Frame) (P : Relation Value) : Type 0 where
  pub runtime : RuntimeCall target choice f
  pub routine : RoutineCall target choice f
  pub entering : Entering few target choice f P
