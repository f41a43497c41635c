-- No routine of the runtime calls another one, so a chain of calls is one activation.
use Rattle.std.proofs.Common.{◌≡◌, ℕ, zero, suc, ◌≤◌, inl, inr, Bool, true, false, ◌&&◌, List, [], ◌∷◌, Option, Some, refl, sym, ap, subst, ◌∙◌, arith}
use Rattle.std.specs.Prelude.{slice_get}
use Rattle.std.specs.List.{list_all}
use Rattle.std.specs.Option.{option_and_then}
use Rattle.flat_code.specs.Program.{Name, Key, Routine, UnitCode, FlatProgram, routine_of}
use Rattle.flat_code.specs.Legal.{IsWellFormed}
use Rattle.flat_code.specs.leaf_routines.Leaves.{is_leaf_routine, IsLeaf}
use Rattle.flat_code.proofs.leaf_routines.Leaves.{leaf-is}
use Rattle.rt_text.proofs.Leaves as text_leaves
use Rattle.rt_strings.proofs.Leaves as strings_leaves
use Rattle.heap_runtime.proofs.Leaves as heap_leaves
use Rattle.runtime_units.specs.Units.{IsRuntimeUnit, HoldsRuntime}
use Rattle.runtime_units.specs.Bounds.{IsShallowRuntime}

both : (p q : Bool) → (p && q) ≡ true → (p ≡ true) × (q ≡ true)
both true q h = (refl, h)
both false q h = absurd cc

-- one of a list, of which all pass a test
one-of : (bytes : ℕ) (routines : List Routine) (n : ℕ) (r : Routine) → list_all (is_leaf_routine bytes) routines ≡ true → slice_get routines n ≡ Some r → is_leaf_routine bytes r ≡ true
one-of bytes [] n r h e = absurd cc
one-of bytes (x ∷ routines) zero r h e =
    let same : x ≡ r = cc in
    subst (λ (y : Routine). is_leaf_routine bytes y ≡ true) same (both (is_leaf_routine bytes x) (list_all (is_leaf_routine bytes) routines) h).0
one-of bytes (x ∷ routines) (suc n) r h e = one-of bytes routines n r (both (is_leaf_routine bytes x) (list_all (is_leaf_routine bytes) routines) h).1 e

-- which bound each unit keeps
record IsLight (program : FlatProgram) (key : Key) (r : Routine) : Type 0 where
  bytes : ℕ
  few : bytes ≤ 64
  passes : is_leaf_routine bytes r ≡ true

module _ (program : FlatProgram) (held : HoldsRuntime program) where
  light-in : (name : Name) (number bytes : ℕ) (unit : UnitCode) (r : Routine) → program.unit name ≡ Some unit → list_all (is_leaf_routine bytes) unit.routines ≡ true → option_and_then (λ (unit : UnitCode). slice_get unit.routines number) (program.unit name) ≡ Some r → is_leaf_routine bytes r ≡ true
  light-in name number bytes unit r there all e =
      one-of bytes unit.routines number r all (ap (λ (o : Option UnitCode). option_and_then (λ (unit : UnitCode). slice_get unit.routines number) o) (sym there) ∙ e)

  light : (key : Key) (r : Routine) → IsRuntimeUnit key.unit → routine_of program key ≡ Some r → IsLight program key r
  light key r (inl is) e = record { bytes = 48; few = omega arith; passes = light-in key.unit key.number 48 _ r (ap program.unit is ∙ held.text.is_there) text_leaves.leaves e }
  light key r (inr (inl is)) e = record { bytes = 64; few = omega arith; passes = light-in key.unit key.number 64 _ r (ap program.unit is ∙ held.strings.is_there) strings_leaves.leaves e }
  light key r (inr (inr is)) e = record { bytes = 24; few = omega arith; passes = light-in key.unit key.number 24 _ r (ap program.unit is ∙ held.heap.is_there) heap_leaves.leaves e }

  leaf : (key : Key) (names : List Name) (r : Routine) (is : IsRuntimeUnit key.unit) (e : routine_of program key ≡ Some r) → IsLeaf program (light key r is e).bytes key names r
  leaf key names r is e = let l = light key r is e in leaf-is program l.bytes key names r l.passes

  pub shallow : IsWellFormed program → IsShallowRuntime program 64
  shallow formed = record {
    frames = λ key r is e. (leaf key [] r is e).frame;
    arguments = λ key r is e. (leaf key [] r is e).arguments;
    depth = λ key r is e. (leaf key [] r is e).depth;
    covers = λ key r is e. let few = (light key r is e).few in let covers = (leaf key [] r is e).covers in omega (arith, few, covers);
    chains = λ key unit r is there e. (leaf key unit.names r is e).chains (λ other. 64) _ (formed.bodies key unit r there e).0;
  }
