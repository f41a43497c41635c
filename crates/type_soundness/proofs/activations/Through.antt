-- Calls of routines that stand as values.
use Rattle.std.proofs.Common.{ℕ, List, None, sym, subst}
use Rattle.std.specs.Prelude.{Option}
use Rattle.program_typing.specs.type_layout.declared.definitions.TypeId.{TypeId}
use Rattle.program_typing.specs.type_layout.declared.definitions.Header.{Header}
use Rattle.program_typing.specs.tp_meaning.Trees.{Key, Value}
use Rattle.program_typing.specs.tp_meaning.Outcomes.{State}
use Rattle.program_typing.specs.tp_meaning.Activations.{Activation}
use Rattle.program_typing.specs.tp_meaning.Calls.{Runs, entered}
use Rattle.program_typing.specs.store_typing.types.Declared.{declared_header}
use Rattle.program_typing.specs.store_typing.types.Agreement.{AreConsistent}
use Rattle.program_typing.specs.store_typing.stores.Worlds.{World, IsCode}
use Rattle.program_typing.specs.lvalues.Frames.{IsActive}
use Rattle.program_typing.specs.calls.Callees.{AreTaken}
use Rattle.program_typing.specs.programs.Outcomes.{IsTypedState, Ends}
use Rattle.program_typing.specs.programs.References.{Site, IsVisible, Names}
use Rattle.program_typing.specs.programs.Calls.{IsInstanceBy, IsInstance, GivesAs}
use Rattle.type_soundness.proofs.activations.Callers.{HasRoutines, RunsBodies}
use Rattle.type_soundness.proofs.activations.Called.{named_ends}

module _ (w : World) (agreed : AreConsistent w.program) (routines : HasRoutines w.program) (again : Runs) (bodies : RunsBodies w.program again) (f : Activation) (number : ℕ) (withs : List TypeId) (active : IsActive w f number withs) where
  -- a routine that stands as a value
  pub code_ends : (header : Header) (key : Key) → IsCode w.program (declared_header f.unit.types header) key → (xs : List Value) → AreTaken w f.unit header.params xs
      → (s : State) → IsTypedState w s → Ends w (GivesAs f.unit header.result) (entered w.program again f key None None xs s)
  code_ends header key code xs takes s typed =
      let here : Site = record { program = w.program; unit = f.unit; number = number } in
      let names : Names here key header code.callee = record {
        found = code.found;
        listed = code.listed;
        visible = subst (λ (o : Option ℕ). IsVisible here code.callee.unit o) (sym code.outermost) tt;
        same = code.same;
      } in
      let free : IsInstance w code.callee None None = subst (λ (o : Option TypeId). IsInstanceBy w code.callee.unit o None None) (sym code.free) tt in
      named_ends w agreed routines again bodies f number withs active key header code.callee names None None free xs takes s typed
