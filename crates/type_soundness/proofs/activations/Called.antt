-- Calls from the body of a routine.
use Rattle.std.proofs.Common.{◌≡◌, ℕ, zero, suc, Bool, true, false, List, [], ◌∷◌, Some, None, refl, sym, ap, subst}
use Rattle.std.specs.Prelude.{slice_get, All, Option, Ok}
use Rattle.std.proofs.lemmas.Option.{same_Some}
use Rattle.std.proofs.lemmas.List.Elements.{All-head, All-tail}
use Rattle.program_typing.specs.type_layout.declared.definitions.TypeId.{TypeId}
use Rattle.program_typing.specs.type_layout.declared.definitions.Param.{Param}
use Rattle.program_typing.specs.type_layout.declared.definitions.Header.{Header}
use Rattle.program_typing.specs.typed_tree.declared.units.Routine.{Routine}
use Rattle.program_typing.specs.typed_tree.declared.units.Unit.{Unit as TypedUnit}
use Rattle.program_typing.specs.typed_tree.declared.units.Program.{Program}
use Rattle.program_typing.specs.well_formed.Scopes.{Others, HasType, HasResult}
use Rattle.program_typing.specs.well_formed.WellFormed.{scope_of, IsRoutine}
use Rattle.program_typing.specs.tp_meaning.Trees.{Key, Spot, Value}
use Rattle.program_typing.specs.tp_meaning.Found.{◌>>=◌, known}
use Rattle.program_typing.specs.tp_meaning.Programs.{sort_in}
use Rattle.program_typing.specs.tp_meaning.Outcomes.{State}
use Rattle.program_typing.specs.tp_meaning.Activations.{Level, Activation, Callee, callee_of, levels_around}
use Rattle.program_typing.specs.tp_meaning.Calls.{Runs, entered}
use Rattle.program_typing.specs.store_typing.types.Declared.{DeclaredHeader}
use Rattle.program_typing.specs.store_typing.types.Agreement.{IsUnit, IsKnown, AreConsistent}
use Rattle.program_typing.specs.store_typing.stores.Worlds.{Made, World}
use Rattle.program_typing.proofs.store_typing_proofs.stores.Grown.{grows_by, place_grows, value_grows}
use Rattle.program_typing.specs.lvalues.Frames.{AreLevels, IsActive}
use Rattle.program_typing.specs.calls.Callees.{IsTaken, AreTaken}
use Rattle.program_typing.proofs.calls.Numbered.{outer_levels}
use Rattle.program_typing.specs.programs.Outcomes.{IsTypedState, after, Ends}
use Rattle.program_typing.specs.programs.References.{Site, IsVisible, Names}
use Rattle.program_typing.specs.programs.Calls.{IsInstance, GivesAs}
use Rattle.type_soundness.proofs.activations.Callers.{Around, IsCalled, HasRoutines, RunsBodies}
use Rattle.program_typing.proofs.programs.Ends.{ends_more}
use Rattle.type_soundness.proofs.activations.Shared.{taken_shared, result_shared}
use Rattle.type_soundness.proofs.activations.Routines.{unit_type}
use Rattle.type_soundness.proofs.activations.Activated.{Gives, entered_ends}

-- ---- the routine that a key leads to

routine_at : (unit : TypedUnit) (number : ℕ) (callee : Callee) (o : Option Routine) → slice_get unit.routines number ≡ o
    → (known o >>= λ routine. Ok (record { unit = unit; number = number; routine = routine })) ≡ Ok callee → slice_get callee.unit.routines callee.number ≡ Some callee.routine
routine_at unit number callee None e is = absurd cc
routine_at unit number callee (Some routine) e is =
    let one : Callee = record { unit = unit; number = number; routine = routine } in
    let same : one ≡ callee = cc in
    subst (λ (c : Callee). slice_get c.unit.routines c.number ≡ Some c.routine) same e

callee_by : (key : Key) (callee : Callee) (o : Option TypedUnit)
    → (known o >>= λ unit. known (slice_get unit.routines key.number) >>= λ routine. Ok (record { unit = unit; number = key.number; routine = routine })) ≡ Ok callee
    → slice_get callee.unit.routines callee.number ≡ Some callee.routine
callee_by key callee None is = absurd cc
callee_by key callee (Some unit) is = routine_at unit key.number callee (slice_get unit.routines key.number) refl is

-- a callee is the routine of its unit with its number
pub callee_numbered : (program : Program) (key : Key) (callee : Callee) → callee_of program key ≡ Ok callee → slice_get callee.unit.routines callee.number ≡ Some callee.routine
callee_numbered program key callee is = callee_by key callee _ is

-- ---- types of headers

all_at : (P : Param → Type 0) (params : List Param) → All P params → (param : Param) (number : ℕ) → slice_get params number ≡ Some param → P param
all_at P [] each param number e = absurd cc
all_at P (p ∷ params) each param zero e = subst P (same_Some p param e) (All-head P p params each)
all_at P (p ∷ params) each param (suc number) e = all_at P params (All-tail P p params each) param number e

module _ (program : Program) (unit : TypedUnit) (listed : IsUnit program unit) (number : ℕ) (routine : Routine) (others : Others) (is : IsRoutine others unit number routine) where
  pub param_types : (param : Param) (n : ℕ) → slice_get routine.header.params n ≡ Some param → IsKnown program (sort_in unit param.ty)
  param_types param n e = unit_type unit program listed param.ty (all_at (λ (p : Param). HasType (scope_of unit) p.ty) routine.header.params is.params param n e)

  pub result_types : (ty : TypeId) → routine.header.result ≡ Some ty → IsKnown program (sort_in unit ty)
  result_types ty e = unit_type unit program listed ty (subst (HasResult (scope_of unit)) e is.result)

-- ---- the activations round a callee

around_by : (w : World) (unit : TypedUnit) (number : ℕ) (levels : List Level) → AreLevels w unit (Some number) levels → (other : TypedUnit) (outer : Option ℕ)
    → IsVisible (record { program = w.program; unit = unit; number = number }) other outer → (rest : List Level) × (levels_around outer levels ≡ Ok rest) × AreLevels w other outer rest
around_by w unit number levels are other None visible = ([], refl, tt)
around_by w unit number levels are other (Some outer) visible =
    let one = outer_levels w unit outer number levels are visible.1 in
    (one.rest, one.found, subst (λ (u : TypedUnit). AreLevels w u (Some outer) one.rest) (sym visible.0) one.are)

pub around_visible : (w : World) (unit : TypedUnit) (number : ℕ) (levels : List Level) → AreLevels w unit (Some number) levels → (callee : Callee)
    → IsVisible (record { program = w.program; unit = unit; number = number }) callee.unit callee.routine.outer → Around w callee levels
around_visible w unit number levels are callee visible =
    let one = around_by w unit number levels are callee.unit callee.routine.outer visible in
    record { rest = one.0; found = one.1; are = one.2 }

-- arguments that are taken are taken in a world after more objects
pub taken_after : (w : World) (more : List Made) (unit : TypedUnit) (params : List Param) (args : List Value) → AreTaken w unit params args → AreTaken (after w more) unit params args
taken_after w more unit [] [] are = tt
taken_after w more unit [] (x ∷ args) are = absurd are
taken_after w more unit (param ∷ params) [] are = absurd are
taken_after w more unit (param ∷ params) (x ∷ args) are = (one param.by_ref are.0, taken_after w more unit params args are.1) where
  one : (by_ref : Bool) → IsTaken w (sort_in unit param.ty) by_ref x → IsTaken (after w more) (sort_in unit param.ty) by_ref x
  one true is = (is.0, is.1, place_grows w (after w more) (grows_by w more) is.0 (sort_in unit param.ty) is.2)
  one false is = value_grows w (after w more) (grows_by w more) (sort_in unit param.ty) x is

module _ (w : World) (agreed : AreConsistent w.program) (routines : HasRoutines w.program) (again : Runs) (bodies : RunsBodies w.program again) (f : Activation) (number : ℕ) (withs : List TypeId) (active : IsActive w f number withs) where
  abbrev here : Site
  here = record { program = w.program; unit = f.unit; number = number }

  -- a routine with a header of the caller's table
  pub named_ends : (key : Key) (header : Header) (callee : Callee) → Names here key header callee → (own : Option Spot) (class : Option Key) → IsInstance w callee own class → (args : List Value) → AreTaken w f.unit header.params args
      → (s : State) → IsTypedState w s → Ends w (GivesAs f.unit header.result) (entered w.program again f key own class args s)
  named_ends key header callee names own class instance args takes s typed =
      let numbered = callee_numbered w.program key callee names.found in
      let sound = routines.routines callee.unit callee.number callee.routine names.listed numbered in
      let params = taken_shared w agreed f.unit callee.unit active.listed header.params callee.routine.header.params (ap (λ (h : DeclaredHeader). h.params) names.same)
      (param_types w.program callee.unit names.listed callee.number callee.routine sound.others sound.well_formed) args takes in
      let is : IsCalled w f.levels callee own class args = record {
        listed = names.listed;
        numbered = numbered;
        around = around_visible w f.unit number f.levels active.levels callee names.visible;
        takes = params;
        instance = instance;
      } in
      ends_more (Gives callee) w (GivesAs f.unit header.result) (entered w.program again f key own class args s)
      (λ more v gives. result_shared (after w more) agreed f.unit callee.unit active.listed header.result callee.routine.header.result (ap (λ (h : DeclaredHeader). h.result) names.same)
      (result_types w.program callee.unit names.listed callee.number callee.routine sound.others sound.well_formed) v gives)
      (entered_ends again callee w agreed routines bodies active.globals f key names.found own class args is s typed)
