-- The calls of a well-typed program.
use Rattle.std.proofs.Common.{◌≡◌, ℕ, true, [], Some, refl, sym, subst}
use Rattle.std.specs.Prelude.{slice_get, is_some}
use Rattle.program_typing.specs.type_layout.Table.{IsObject}
use Rattle.program_typing.specs.typed_tree.declared.units.Routine.{Routine}
use Rattle.program_typing.specs.typed_tree.declared.units.Unit.{Unit as TypedUnit}
use Rattle.program_typing.specs.typed_tree.declared.units.Program.{Program}
use Rattle.program_typing.specs.typed_tree.Statements.{view_stmt}
use Rattle.program_typing.specs.tp_meaning.Shapes.{parts_at, class_place}
use Rattle.program_typing.specs.tp_meaning.Programs.{Sort, definition, sort_in}
use Rattle.program_typing.specs.tp_meaning.Activations.{Reached}
use Rattle.program_typing.specs.tp_meaning.Calls.{Do, Runs}
use Rattle.program_typing.specs.store_typing.types.Agreement.{IsKnown}
use Rattle.program_typing.specs.store_typing.stores.Worlds.{World}
use Rattle.program_typing.specs.store_typing.stores.Places.{IsSeenAs, Shared, Letter, Whole, IsAt}
use Rattle.program_typing.proofs.store_typing_proofs.standard.Sizes.{object_of_class}
use Rattle.program_typing.specs.programs.Outcomes.{world}
use Rattle.program_typing.specs.programs.WellTyped.{NeedsClass, IsSoundUnit, IsWellTyped}
use Rattle.program_typing.specs.programs.Tasks.{IsTask, AreSound}
use Rattle.program_typing.specs.programs.Calls.{HasSoundCalls}
use Rattle.type_soundness.proofs.activations.Callers.{IsCallable, HasRoutines, RunsBodies}
use Rattle.type_soundness.proofs.activations.Classes.{some_of}
use Rattle.type_soundness.proofs.activations.Called.{named_ends}
use Rattle.type_soundness.proofs.activations.Dispatched.{by_class_ends}
use Rattle.type_soundness.proofs.activations.Through.{code_ends}
use Rattle.type_soundness.proofs.activations.Overlays.{overlay_ends}

callable : (program : Program) (unit : TypedUnit) → IsSoundUnit program unit → (number : ℕ) (routine : Routine) → slice_get unit.routines number ≡ Some routine → IsCallable unit number routine
callable program unit sound number routine is =
    let one = sound.routines number routine is in
    let formed = sound.well_formed in
    record { others = formed.others; well_formed = formed.routines number routine is; few = one.few; method = one.method; class = λ made. one.class (subst NeedsClass (sym made) tt) }

pub routines_of : (program : Program) → IsWellTyped program → HasRoutines program
routines_of program typed = record { routines = λ unit number routine listed is. callable program unit (typed.units unit listed) number routine is }

pub bodies_of : (program : Program) (again : Runs) → IsWellTyped program → AreSound program again → RunsBodies program again
bodies_of program again typed sound = record {
  bodies = λ made callee f s listed numbered same active state.
      let unit = typed.units callee.unit listed in
      let formed = unit.well_formed in
      let routine = formed.routines callee.number callee.routine numbered in
      let task : IsTask (record { program = program; unit = callee.unit; number = callee.number }) [] (Do (view_stmt callee.routine.body)) =
      record { others = formed.others; typed = routine.body; refers = unit.refers callee.number callee.routine numbered } in
      sound made f callee.number [] (Do (view_stmt callee.routine.body)) s active
      (subst (λ (u : TypedUnit). IsTask (record { program = program; unit = u; number = callee.number }) [] (Do (view_stmt callee.routine.body))) (sym same) task) state;
}

seen_known : (program : Program) (one seen : Sort) → IsSeenAs program one seen → IsKnown program seen
seen_known program one seen (Shared ka ks same) = ks
seen_known program one seen (Letter e ks stored) = ks
seen_known program one seen (Whole e ks stored) = ks

module _ (program : Program) (again : Runs) (typed : IsWellTyped program) where
  -- a type whose instances have a class is an object type
  class_is_object : (w : World) → w.program ≡ program → (at : Reached) (seen : Sort) → IsAt w at seen → is_some (class_place (parts_at seen.table.types seen.ty)) ≡ true → IsObject (definition seen)
  class_is_object w same at seen fits part =
      let n = some_of (class_place (parts_at seen.table.types seen.ty)) part in
      let ks = subst (λ (p : Program). IsKnown p seen) same (seen_known w.program at.sort seen fits.same) in
      object_of_class (world program []) typed.agreed typed.classes seen ks n.0 n.1

  pub sound_calls : AreSound program again → HasSoundCalls program again
  sound_calls sound made f number withs s active state =
      let w : World = world program made in
      let routines : HasRoutines program = routines_of program typed in
      let bodies : RunsBodies program again = bodies_of program again typed sound in
      record {
        named = λ key header callee own class xs names instance takes. named_ends w typed.agreed routines again bodies f number withs active key header callee names own class instance xs takes s state;
        through = λ key header xs code takes. code_ends w typed.agreed routines again bodies f number withs active header key code xs takes s state;
        by_class = λ at class slot method checked xs fits part is takes.
            by_class_ends w typed.agreed routines typed.classes typed.methods again bodies f number withs active class slot method is (class_is_object w refl at (sort_in f.unit class) fits part) part at fits checked xs takes s state;
        overlay = λ n slots xs one are. overlay_ends w typed.agreed active.globals n slots one xs are s state;
      }
