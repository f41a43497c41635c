-- What a program has that can be lowered.
use Rattle.std.proofs.Common.{◌≡◌, ℕ, zero, suc, ◌+◌, ◌<◌, ◌≤◌, Bool, true, false, ◌&&◌, List, [], ◌∷◌, length, Option, Some, None, refl, sym, ap, subst, ◌∙◌, arith}
use Rattle.std.specs.Prelude.{not, nat_le, nat_lt, slice_get}
use Rattle.std.specs.List.{list_all}
use Rattle.std.specs.Option.{option_map_or}
use Rattle.std.proofs.lemmas.Bool.{and_parts, not-true}
use Rattle.std.proofs.lemmas.Bool.Decides.{nat_tests}
use Rattle.type_layout.specs.Words.{is_name}
use Rattle.typed_tree.specs.declared.units.Routine.{Routine}
use Rattle.typed_tree.specs.declared.units.Unit.{Unit as TypedUnit}
use Rattle.typed_tree.specs.declared.units.Program.{Program}
use Rattle.typed_tree.specs.Statements.{view_stmt}
use Rattle.typed_tree.specs.Frames.{argument_bytes, local_bytes, need_of}
use Rattle.tp_meaning.specs.Programs.{main_unit, is_overlay}
use Rattle.lowerable.specs.Farness.{is_far_in, is_linkable_statement, has_far_methods, has_far_initial}
use Rattle.lowerable.specs.Limits.{fits, nests, has_stack}
use Rattle.lowerable.specs.Lowerable.{is_lowerable_routine, is_lowerable_unit, is_lowerable, IsLowerableRoutine, IsLowerableUnit, HasMain, IsLowerable, NamesApart}

at-most : (m n : ℕ) → nat_le m n ≡ true → m ≤ n
at-most m n h = grind (arith, nat_tests, h)

below : (m n : ℕ) → nat_lt m n ≡ true → m < n
below m n h = grind (arith, nat_tests, h)

-- one of a list, of which all pass a test
one-of : {A : Type 0} (f : A → Bool) (xs : List A) (n : ℕ) (x : A) → list_all f xs ≡ true → slice_get xs n ≡ Some x → f x ≡ true
one-of f [] n x h e = absurd cc
one-of f (y ∷ xs) zero x h e = let same : y ≡ x = cc in subst (λ z. f z ≡ true) same (and_parts (f y) (list_all f xs) h).0
one-of f (y ∷ xs) (suc n) x h e = one-of f xs n x (and_parts (f y) (list_all f xs) h).1 e

routine-gives : (units : List TypedUnit) (unit : TypedUnit) (routine : Routine) → is_lowerable_routine units unit routine ≡ true → IsLowerableRoutine units unit routine
routine-gives units unit routine h =
    let a = and_parts (fits unit.types.types routine) (nests unit.routines 15 routine.outer && is_linkable_statement units unit (view_stmt routine.body)) h in
    let b = and_parts (nat_le (local_bytes unit.types.types routine + need_of unit.types.types routine) 65000) (nat_le (argument_bytes unit.types.types routine) 256) a.0 in
    let c = and_parts (nests unit.routines 15 routine.outer) (is_linkable_statement units unit (view_stmt routine.body)) a.1 in
    record { arguments = at-most (argument_bytes unit.types.types routine) 256 b.1; own = at-most (local_bytes unit.types.types routine + need_of unit.types.types routine) 65000 b.0; nested = c.0; body = c.1 }

unit-gives : (units : List TypedUnit) (unit : TypedUnit) → is_lowerable_unit units unit ≡ true → IsLowerableUnit units unit
unit-gives units unit h =
    let all_routines : Bool = list_all (is_lowerable_routine units unit) unit.routines in
    let methods : Bool = list_all (has_far_methods units unit) unit.types.types in
    let few : Bool = nat_lt (length unit.routines) 4294967296 in
    let a = and_parts (not (is_overlay unit.name)) (has_far_initial unit && (methods && (few && all_routines))) h in
    let b = and_parts (has_far_initial unit) (methods && (few && all_routines)) a.1 in
    let c = and_parts methods (few && all_routines) b.1 in
    let d = and_parts few all_routines c.1 in
    record {
      name = not-true (is_overlay unit.name) a.0;
      few = below (length unit.routines) 4294967296 d.0;
      initial = λ number e. sym (ap (λ (o : Option ℕ). option_map_or (λ number. is_far_in number (Some unit)) o true) e) ∙ b.0;
      methods = c.0;
      routines = λ number routine e. routine-gives units unit routine (one-of (is_lowerable_routine units unit) unit.routines number routine d.1 e);
    }

main-gives : (program : Program) → has_stack (main_unit program) ≡ true → HasMain program
main-gives program h = by (main_unit program) refl
  where
    by : (o : Option TypedUnit) → main_unit program ≡ o → HasMain program
    by None e = let bad : false ≡ true = sym (ap has_stack e) ∙ h in absurd cc
    by (Some main) e =
        let t : (nat_le 1024 main.stack && nat_le main.stack 65520) ≡ true = sym (ap has_stack e) ∙ h in
        let b = and_parts (nat_le 1024 main.stack) (nat_le main.stack 65520) t in
        record { main = main; main_is = e; least = at-most 1024 main.stack b.0; most = at-most main.stack 65520 b.1 }

pub gives : (program : Program) → is_lowerable program ≡ true → IsLowerable program
gives program h =
    let a = and_parts (has_stack (main_unit program)) (list_all (is_lowerable_unit program.units) program.units) h in
    record {
      stack = main-gives program a.0;
      units = λ place unit e. unit-gives program.units unit (one-of (is_lowerable_unit program.units) program.units place unit a.1 e);
    }

pub names-apart : NamesApart
names-apart name is other = record {
  text = λ e. let bad : true ≡ false = sym is ∙ ap is_name e in absurd cc;
  strings = λ e. let bad : true ≡ false = sym is ∙ ap is_name e in absurd cc;
  overlay = λ e. let bad : true ≡ false = sym (ap is_overlay e) ∙ other in absurd cc;
}
