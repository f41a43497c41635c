-- Main and initialisation parts, one after another.
use Rattle.std.proofs.Common.{◌≡◌, ℕ, List, [], ◌∷◌, ◌++◌, Some, None, refl, sym, ap, subst, ◌∙◌}
use Rattle.std.specs.Prelude.{All, Option, Ok, slice_get}
use Rattle.std.proofs.lemmas.List.Elements.{All-head, All-tail}
use Rattle.program_typing.specs.common_values.behaviour.Seen.{Ended, Going, Undefined, Stopped}
use Rattle.program_typing.specs.type_layout.declared.definitions.TypeId.{TypeId}
use Rattle.program_typing.specs.type_layout.declared.definitions.Param.{Param}
use Rattle.program_typing.specs.typed_tree.declared.units.Routine.{Routine}
use Rattle.program_typing.specs.typed_tree.declared.units.Unit.{Unit as TypedUnit}
use Rattle.program_typing.specs.typed_tree.declared.units.Program.{Program}
use Rattle.program_typing.specs.typed_tree.type_fits.Routines.{IsInitial, HasInitial}
use Rattle.program_typing.specs.tp_meaning.Trees.{Key, Value, Void}
use Rattle.program_typing.specs.tp_meaning.Found.{Found, ◌>>=◌, known}
use Rattle.program_typing.specs.tp_meaning.Outcomes.{State, Outcome, Done, Over}
use Rattle.program_typing.specs.tp_meaning.Activations.{Level, Callee, callee_of, levels_around}
use Rattle.program_typing.specs.tp_meaning.Calls.{Runs, entered}
use Rattle.program_typing.specs.tp_meaning.Meaning.{start_state, start_activation, started, all_started, seen_of, run, IsNeverStopped}
use Rattle.program_typing.specs.store_typing.types.Agreement.{IsUnit}
use Rattle.program_typing.specs.store_typing.stores.Worlds.{Made, World}
use Rattle.program_typing.specs.lvalues.Frames.{AreLevels, HasGlobals}
use Rattle.program_typing.specs.calls.Callees.{AreTaken}
use Rattle.program_typing.specs.programs.Outcomes.{IsTypedState, world, Ends}
use Rattle.program_typing.specs.programs.WellTyped.{IsWellTyped}
use Rattle.program_typing.specs.programs.Tasks.{AreSound}
use Rattle.program_typing.specs.programs.Calls.{IsInstanceBy}
use Rattle.type_soundness.proofs.activations.Callers.{IsCalled}
use Rattle.program_typing.proofs.programs.Ends.{ends_bind, ends_done, ends_more, globals_after}
use Rattle.type_soundness.proofs.activations.Activated.{Gives, entered_ends}
use Rattle.type_soundness.proofs.activations.Whole.{routines_of, bodies_of}
use Rattle.type_soundness.specs.starts.Laws.{start_made}
use Rattle.type_soundness.proofs.starts.FirstStore.{sound_start}

abbrev Anything : World → Value → Type 0
Anything w v = Unit {0}

-- the routine of a unit with a number
part_found : (program : Program) (unit : TypedUnit) (number : ℕ) (routine : Routine) → IsUnit program unit → slice_get unit.routines number ≡ Some routine
    → callee_of program (record { unit = unit.name; number = number }) ≡ Ok (record { unit = unit; number = number; routine = routine })
part_found program unit number routine listed is =
    let end : Option Routine → Found Callee = λ o. known o >>= λ routine. Ok (record { unit = unit; number = number; routine = routine }) in
    ap (λ (o : Option TypedUnit). known o >>= λ (u : TypedUnit). known (slice_get u.routines number) >>= λ (routine : Routine). Ok (record { unit = u; number = number; routine = routine })) listed ∙ ap end is

-- a main part is declared in no routine, and takes nothing
part_around : (w : World) (unit : TypedUnit) (outer : Option ℕ) → outer ≡ None → (rest : List Level) × (levels_around outer [] ≡ Ok rest) × AreLevels w unit outer rest
part_around w unit None e = ([], refl, tt)
part_around w unit (Some outer) e = absurd cc

part_called : (w : World) (unit : TypedUnit) (number : ℕ) (routine : Routine) → IsUnit w.program unit → slice_get unit.routines number ≡ Some routine → IsInitial routine
    → IsCalled w [] (record { unit = unit; number = number; routine = routine }) None None []
part_called w unit number routine listed is initial =
    let around = part_around w unit routine.outer initial.outermost in
    record {
      listed = listed;
      numbered = is;
      around = record { rest = around.0; found = around.1; are = around.2 };
      takes = subst (λ (params : List Param). AreTaken w unit params []) (sym initial.bare) tt;
      instance = subst (λ (owner : Option TypeId). IsInstanceBy w unit owner None None) (sym initial.free) tt;
    }

module _ (program : Program) (typed : IsWellTyped program) (again : Runs) (sound : AreSound program again) where
  -- a part, if the unit has one
  part_ends : (made : List Made) (unit : TypedUnit) → IsUnit program unit → HasGlobals (world program made) → (initial : Option ℕ) → HasInitial unit.routines initial → (s : State) → IsTypedState (world program made) s
      → Ends (world program made) Anything (started program again unit initial s)
  part_ends made unit listed globals None is s state = ends_done Anything (world program made) Void s state tt
  part_ends made unit listed globals (Some number) is s state =
      let w : World = world program made in
      let callee : Callee = record { unit = unit; number = number; routine = is.0 } in
      let key : Key = record { unit = unit.name; number = number } in
      ends_more (Gives callee) w Anything (entered program again (start_activation unit) key None None [] s) (λ more v gives. tt)
      (entered_ends again callee w typed.agreed (routines_of program typed) (bodies_of program again typed sound) globals (start_activation unit) key (part_found program unit number is.0 listed is.1) None None []
      (part_called w unit number is.0 listed is.1 is.2) s state)

  -- the parts of the units in order
  all_ends : (made : List Made) (units : List TypedUnit) → All (IsUnit program) units → HasGlobals (world program made) → (s : State) → IsTypedState (world program made) s
      → Ends (world program made) Anything (all_started program again units s)
  all_ends made [] each globals s state = tt
  all_ends made (unit ∷ units) each globals s state =
      let w : World = world program made in
      let listed = All-head (IsUnit program) unit units each in
      let one = typed.units unit listed in
      ends_bind Anything w Anything (started program again unit unit.initial s) (λ v. all_started program again units) (part_ends made unit listed globals unit.initial one.well_formed.initial s state)
      (λ more v t state' is. all_ends (made ++ more) units (All-tail (IsUnit program) unit units each) (globals_after w more globals) t state')

-- what is never an ill-typed step is never seen as one
never_stopped : (w : World) (o : Outcome Value) → Ends w Anything o → (seen_of o).end ≡ Stopped → ⊥
never_stopped w (Done v s) h e = cc
never_stopped w (Over (Ended code) s) h e = cc
never_stopped w (Over Going s) h e = cc
never_stopped w (Over (Undefined act) s) h e = cc
never_stopped w (Over Stopped s) h e = h

-- a well-typed program whose bodies come to no ill-typed step comes to none
pub mean_sound : (program : Program) → IsWellTyped program → AreSound program (run program) → IsNeverStopped program
mean_sound program typed sound input bytes turns e =
    let start = sound_start program typed in
    let w : World = world program (start_made program) in
    let s : State = start_state program input turns in
    never_stopped w (all_started program (run program) program.units s)
    (all_ends program typed (run program) sound (start_made program) program.units typed.listed start.globals s (record { store = start.store; input = bytes })) e
