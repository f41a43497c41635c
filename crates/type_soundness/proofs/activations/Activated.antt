-- What one call does around its body.
use Rattle.std.proofs.Common.{◌≡◌, ℕ, Bool, true, false, List, [], length, Some, None, refl, sym, subst}
use Rattle.std.specs.Prelude.{slice_get, Option, Ok, not, ◌&&◌}
use Rattle.std.specs.Option.{option_map}
use Rattle.program_typing.specs.type_layout.declared.definitions.TypeId.{TypeId}
use Rattle.program_typing.specs.typed_tree.declared.units.Unit.{Unit as TypedUnit}
use Rattle.program_typing.specs.typed_tree.Statements.{view_stmt}
use Rattle.program_typing.specs.typed_tree.type_fits.Routines.{variables_of}
use Rattle.program_typing.specs.well_formed.WellFormed.{scope_of, IsOwner}
use Rattle.program_typing.specs.tp_meaning.Trees.{Key, Spot, Value}
use Rattle.program_typing.specs.tp_meaning.Found.{Found}
use Rattle.program_typing.specs.tp_meaning.Store.{next_serial, without}
use Rattle.program_typing.specs.tp_meaning.Programs.{Sort, definition, is_overlaid, sort_in}
use Rattle.program_typing.specs.tp_meaning.Outcomes.{State, Does, and_then, ◌>>=◌, ◌>>◌, give, found, raised_if, looked, changed, is_installed}
use Rattle.program_typing.specs.tp_meaning.Activations.{Level, Activation, Callee, callee_of, opened, class_set, result_of}
use Rattle.program_typing.specs.tp_meaning.Calls.{Do, Runs, activation_of, activated, is_too_deep, entered}
use Rattle.program_typing.specs.store_typing.types.Agreement.{IsUnit, AreConsistent}
use Rattle.program_typing.specs.store_typing.stores.Worlds.{Made, World}
use Rattle.program_typing.proofs.store_typing_proofs.stores.Grown.{grows_by, place_grows}
use Rattle.program_typing.proofs.store_typing_proofs.stores.Kept.{without_keeps}
use Rattle.program_typing.specs.store_typing.standard.Operands.{IsResult}
use Rattle.program_typing.specs.lvalues.Frames.{IsLevel, AreLevels, HasGlobals, IsActive}
use Rattle.program_typing.specs.calls.Callees.{IsSelf, HasTypes, variables_made}
use Rattle.program_typing.proofs.calls.Opened.{opens}
use Rattle.program_typing.proofs.calls.Numbered.{called_level}
use Rattle.program_typing.specs.programs.Outcomes.{IsTypedState, after, Ends}
use Rattle.program_typing.specs.programs.Calls.{IsInstanceBy, IsInstance}
use Rattle.type_soundness.proofs.activations.Callers.{IsCalled, IsCallable, HasRoutines, RunsBodies}
use Rattle.program_typing.proofs.programs.Ends.{globals_after, ends_done, ends_bind, ends_looked}
use Rattle.type_soundness.proofs.activations.Levels.{level_after, levels_after}
use Rattle.type_soundness.proofs.activations.Changed.{changed_to, changed_then}
use Rattle.type_soundness.proofs.activations.Routines.{is_some_object, unit_type, variable_types}
use Rattle.type_soundness.proofs.activations.Classes.{place_up, class_set_keeps}
use Rattle.type_soundness.proofs.activations.Results.{result_found}

-- what a routine gives, as its unit sees it
abbrev pub Gives : Callee → World → Value → Type 0
Gives callee w v = IsResult w (option_map (sort_in callee.unit) callee.routine.header.result) v

-- ---- the parts of a call, the last first

abbrev closing : Callee → ℕ → Value → Does Value
closing callee first result = changed (λ store. Ok (without store first (length (variables_of callee.routine)))) >> give result

abbrev resulting : Callee → ℕ → Does Value
resulting callee first = looked (result_of callee first) >>= closing callee first

abbrev running : Runs → Callee → Activation → ℕ → Does Value
running again callee f first = again (Do (view_stmt callee.routine.body)) f >> resulting callee first

abbrev classing : Runs → Callee → Option Spot → Option Key → Activation → ℕ → Does Value
classing again callee own class f first = changed (class_set callee own class) >> running again callee f first

abbrev opening : Runs → Callee → Option Spot → Option Key → List Value → Activation → ℕ → Does Value
opening again callee own class args f first = changed (opened callee own args) >> classing again callee own class f first

-- the level of a call that begins where there are so many objects
abbrev level_of : Callee → ℕ → Level
level_of callee first = record { number = callee.number; routine = callee.routine; first = first }

module _ (w : World) (agreed : AreConsistent w.program) (callee : Callee) (first : ℕ) where
  closing_ends : (x : Value) (s : State) → IsTypedState w s → Gives callee w x → Ends w (Gives callee) (closing callee first x s)
  closing_ends x s typed is =
      let count : ℕ = length (variables_of callee.routine) in
      ends_done (Gives callee) w x (record s { store = without s.store first count }) (record { store = without_keeps w count s.store first typed.store; input = typed.input }) is

-- the result is known before the variables are gone
resulting_ends : (w : World) → AreConsistent w.program → (callee : Callee) (first : ℕ) → IsLevel w callee.unit (level_of callee first) → (s : State) → IsTypedState w s → Ends w (Gives callee) (resulting callee first s)
resulting_ends w agreed callee first level s typed =
    ends_bind (Gives callee) w (Gives callee) (looked (result_of callee first) s) (closing callee first)
    (ends_looked (Gives callee) w (result_of callee first) s typed (result_found w agreed s.store typed.store callee first level))
    (λ more x t typed' is. closing_ends (after w more) agreed callee first x t typed' is)

-- what a body is run in
record IsReady (w : World) (callee : Callee) (f : Activation) (first : ℕ) : Type 0 where
  same : f.unit ≡ callee.unit
  active : IsActive w f callee.number []
  level : IsLevel w callee.unit (level_of callee first)

module _ (again : Runs) (callee : Callee) (w : World) (agreed : AreConsistent w.program) (bodies : RunsBodies w.program again) (listed : IsUnit w.program callee.unit)
    (numbered : slice_get callee.unit.routines callee.number ≡ Some callee.routine) (f : Activation) (first : ℕ) (ready : IsReady w callee f first) where
  -- the body
  running_ends : (s : State) → IsTypedState w s → Ends w (Gives callee) (running again callee f first s)
  running_ends s typed =
      ends_bind (λ u flow. Unit {0}) w (Gives callee) (again (Do (view_stmt callee.routine.body)) f s) (λ flow. resulting callee first) (bodies.bodies w.made callee f s listed numbered ready.same ready.active typed)
      (λ more flow t typed' is. resulting_ends (after w more) agreed callee first (level_after w more callee.unit (level_of callee first) ready.level) t typed')

  -- the class of the instance is set before
  classing_ends : (own : Option Spot) (class : Option Key) → IsCallable callee.unit callee.number callee.routine → IsInstance w callee own class → (s : State) → IsTypedState w s
      → Ends w (Gives callee) (classing again callee own class f first s)
  classing_ends own class sound is s typed =
      changed_then (Gives callee) w (class_set callee own class s.store) s (running again callee f first) (class_set_keeps w agreed s.store typed.store callee listed own class sound is)
      (λ store typed'. running_ends (record s { store = store }) (record { store = typed'; input = typed.input }))

module _ (w : World) (agreed : AreConsistent w.program) where
  -- an instance is one in a world after more objects
  instance_after : (more : List Made) (unit : TypedUnit) (owner : Option TypeId) (own : Option Spot) (class : Option Key) → IsInstanceBy w unit owner own class → IsInstanceBy (after w more) unit owner own class
  instance_after more unit None None None is = tt
  instance_after more unit None None (Some class) is = absurd is
  instance_after more unit None (Some spot) class is = absurd is
  instance_after more unit (Some owner) None class is = absurd is
  instance_after more unit (Some owner) (Some spot) class is =
      record { top = is.top; known = is.known; object = is.object; place = place_grows w (after w more) (grows_by w more) spot is.top is.place; line = is.line; given = is.given }

  -- an instance of a descendant is one of the owner
  self_is : (unit : TypedUnit) → IsUnit w.program unit → (owner : Option TypeId) → IsOwner (scope_of unit) owner → (own : Option Spot) (class : Option Key) → IsInstanceBy w unit owner own class → IsSelf w unit owner own
  self_is unit listed None object None class is = tt
  self_is unit listed None object (Some spot) class is = absurd is
  self_is unit listed (Some owner) object None class is = absurd is
  self_is unit listed (Some owner) object (Some spot) class is =
      let b : Sort = sort_in unit owner in
      place_up w agreed spot is.top b is.known (unit_type unit w.program listed owner (is_some_object (definition b) object)) object is.line is.place

module _ (again : Runs) (callee : Callee) (w : World) (agreed : AreConsistent w.program) (routines : HasRoutines w.program) (bodies : RunsBodies w.program again) (globals : HasGlobals w) where
  -- the variables are made before
  opening_ends : (levels : List Level) (own : Option Spot) (class : Option Key) (args : List Value) (called : IsCalled w levels callee own class args) (rest : List Level) → AreLevels w callee.unit callee.routine.outer rest
      → (sum : ℕ) (s : State) → IsTypedState w s → Ends w (Gives callee) (opening again callee own class args (activation_of callee rest (next_serial s.store) sum) (next_serial s.store) s)
  opening_ends levels own class args called rest are sum s typed =
      let unit : TypedUnit = callee.unit in
      let first : ℕ = next_serial s.store in
      let f : Activation = activation_of callee rest first sum in
      let sound = routines.routines unit callee.number callee.routine called.listed called.numbered in
      let has : HasTypes w callee = record { known = variable_types unit w.program called.listed callee.number callee.routine sound.well_formed } in
      let more : List Made = variables_made unit callee.routine in
      let level : IsLevel (after w more) unit (level_of callee first) = called_level w s.store typed.store callee has sound.few in
      let active : IsActive (after w more) f callee.number [] = record {
        listed = called.listed;
        levels = (refl, called.numbered, level, levels_after w more unit callee.routine.outer rest are);
        held = tt;
        globals = globals_after w more globals;
      } in
      let ready : IsReady (after w more) callee f first = record { same = refl; active = active; level = level } in
      changed_to (Gives callee) w more (opened callee own args s.store) s (classing again callee own class f first)
      (opens w agreed s.store typed.store callee own args has called.takes (self_is w agreed unit called.listed callee.routine.owner sound.well_formed.owner own class called.instance))
      (λ store typed'. classing_ends again callee (after w more) agreed bodies called.listed called.numbered f first ready own class sound (instance_after w agreed more unit callee.routine.owner own class called.instance)
      (record s { store = store }) (record { store = typed'; input = typed.input }))

  -- a call does no ill-typed step, where its body does none
  pub activated_ends : (f : Activation) (own : Option Spot) (class : Option Key) (args : List Value) → IsCalled w f.levels callee own class args → (s : State) → IsTypedState w s → Ends w (Gives callee) (activated again callee f own class args s)
  activated_ends f own class args called s typed =
      let go : List Level → Does Value = λ levels. looked (λ store. Ok (next_serial store)) >>= λ first. opening again callee own class args (activation_of callee levels first f.sum) first in
      subst (λ (x : Found (List Level)). Ends w (Gives callee) (and_then (found x s) go)) (sym called.around.found)
      (opening_ends f.levels own class args called called.around.rest called.around.are f.sum s typed)

-- an error, or there is more
raised_then : {A : Type 0} (P : World → A → Type 0) (w : World) (test : Bool) (code : ℕ) (s : State) (go : Does A) → Ends w P (go s) → Ends w P (and_then (raised_if test code s) (λ u. go))
raised_then P w true code s go h = tt
raised_then P w false code s go h = h

-- a routine that is found by its key is called
pub entered_ends : (again : Runs) (callee : Callee) (w : World) → AreConsistent w.program → HasRoutines w.program → RunsBodies w.program again → HasGlobals w → (f : Activation) (key : Key) → callee_of w.program key ≡ Ok callee
    → (own : Option Spot) (class : Option Key) (args : List Value) → IsCalled w f.levels callee own class args → (s : State) → IsTypedState w s → Ends w (Gives callee) (entered w.program again f key own class args s)
entered_ends again callee w agreed routines bodies globals f key is own class args called s typed =
    let deep : Does Value = raised_if (is_too_deep w.program callee f.sum) 202 >> activated again callee f own class args in
    let go : Callee → Does Value = λ callee. is_installed >>= λ installed. raised_if (is_overlaid w.program key.unit && not installed) 208 >> (raised_if (is_too_deep w.program callee f.sum) 202 >> activated again callee f own class args) in
    subst (λ (x : Found Callee). Ends w (Gives callee) (and_then (found x s) go)) (sym is)
    (raised_then (Gives callee) w (is_overlaid w.program key.unit && not s.installed) 208 s deep
    (raised_then (Gives callee) w (is_too_deep w.program callee f.sum) 202 s (activated again callee f own class args)
    (activated_ends again callee w agreed routines bodies globals f own class args called s typed)))
