-- The routines of the unit Overlay.
use Rattle.std.proofs.Common.{◌≡◌, ℕ, Bool, true, false, List, [], ◌∷◌, map, Some, None, refl, sym, subst, IsTrue}
use Rattle.std.specs.Prelude.{ℤ, pos, negsuc, slice_get}
use Rattle.program_typing.specs.type_layout.declared.definitions.Host.TheVariants as host
use Rattle.program_typing.specs.type_layout.Storage.{holds}
use Rattle.program_typing.specs.typed_tree.type_fits.Standard.{Slot}
use Rattle.program_typing.specs.tp_meaning.Trees.{Key, Value, Ordinal, Void}
use Rattle.program_typing.specs.tp_meaning.Store.{Store}
use Rattle.program_typing.specs.tp_meaning.Programs.{integer_sort, overlay_name, overlay_file}
use Rattle.program_typing.specs.tp_meaning.Outcomes.{State, give}
use Rattle.program_typing.specs.tp_meaning.Activations.{whole, assigned}
use Rattle.program_typing.specs.tp_meaning.Calls.{overlay_variable, with_overlay_result, is_file, installed_if, overlay_called}
use Rattle.program_typing.specs.tp_meaning.Standard.{Operand, handed}
use Rattle.program_typing.specs.store_typing.types.Agreement.{AreConsistent}
use Rattle.program_typing.specs.store_typing.types.Forms.{Number, Cell, form_at}
use Rattle.program_typing.specs.store_typing.stores.Worlds.{Own, World}
use Rattle.program_typing.specs.store_typing.stores.Places.{Same, IsPlaceOf}
use Rattle.program_typing.specs.store_typing.stores.Stores.{IsTypedStore, Finds}
use Rattle.program_typing.proofs.store_typing_proofs.stores.Steps.{put_over}
use Rattle.program_typing.specs.store_typing.standard.Operands.{AreOperands, IsResult}
use Rattle.program_typing.proofs.store_typing_proofs.standard.Arguments.{text_given, integer_given}
use Rattle.program_typing.specs.lvalues.Frames.{HasGlobals}
use Rattle.program_typing.specs.programs.Outcomes.{IsTypedState, Ends}
use Rattle.program_typing.specs.programs.References.{IsOverlayRoutine, init, set_buffer, clear}
use Rattle.program_typing.proofs.programs.Ends.{ends_done}
use Rattle.type_soundness.proofs.activations.Changed.{changed_then}

abbrev pub GivesNothing : World → Value → Type 0
GivesNothing w v = IsResult w None v

module _ (w : World) (agreed : AreConsistent w.program) (globals : HasGlobals w) where
  -- the variable of the unit Overlay is set
  result_set : (store : Store) → IsTypedStore w store → (z : ℤ) → IsTrue (holds host.Integer z z) → Finds (IsTypedStore w) (assigned overlay_variable (Ordinal z) store)
  result_set store typed z held =
      let key : Key = record { unit = overlay_name; number = 0 } in
      let made : slice_get w.made 0 ≡ Some (Own integer_sort) = globals.globals key integer_sort refl in
      let place : IsPlaceOf w (whole 0) integer_sort = record { form = form_at integer_sort; lies = record { whole = integer_sort; made = made; leads = refl }; covers = Same refl } in
      put_over w agreed store typed overlay_variable (Cell (Number host.Integer)) place place refl (Ordinal z) (λ old has. held)

  with_result_ends : (z : ℤ) → IsTrue (holds host.Integer z z) → (s : State) → IsTypedState w s → Ends w GivesNothing (with_overlay_result z s)
  with_result_ends z held s typed =
      changed_then GivesNothing w (assigned overlay_variable (Ordinal z) s.store) s (give Void) (result_set s.store typed.store z held)
      (λ store typed'. ends_done GivesNothing w Void (record s { store = store }) (record { store = typed'; input = typed.input }) tt)

  installed_ends : (b : Bool) (s : State) → IsTypedState w s → Ends w GivesNothing (installed_if b s)
  installed_ends true s typed = with_result_ends (pos 0) refl (record s { installed = true }) (record { store = typed.store; input = typed.input })
  installed_ends false s typed = with_result_ends (negsuc 1) refl s typed

  -- the three routines on arguments as they take them
  pub overlay_ends : (number : ℕ) (slots : List Slot) → IsOverlayRoutine number slots → (xs : List Operand) → AreOperands w slots xs → (s : State) → IsTypedState w s → Ends w GivesNothing (overlay_called w.program number (map handed xs) s)
  overlay_ends _ _ init [] are s typed = absurd are
  overlay_ends _ _ init (x ∷ []) are s typed =
      let p = text_given w x are.0 in
      subst (λ (y : Operand). Ends w GivesNothing (overlay_called w.program 0 (handed y ∷ []) s)) (sym p.is) (installed_ends (is_file (overlay_file w.program) p.bytes) s typed)
  overlay_ends _ _ init (x ∷ y ∷ xs) are s typed = absurd are.1
  overlay_ends _ _ set_buffer [] are s typed = absurd are
  overlay_ends _ _ set_buffer (x ∷ []) are s typed =
      let p = integer_given w x are.0 in
      subst (λ (y : Operand). Ends w GivesNothing (overlay_called w.program 1 (handed y ∷ []) s)) (sym p.is) (with_result_ends (pos 0) refl s typed)
  overlay_ends _ _ set_buffer (x ∷ y ∷ xs) are s typed = absurd are.1
  overlay_ends _ _ clear [] are s typed = with_result_ends (pos 0) refl s typed
  overlay_ends _ _ clear (x ∷ xs) are s typed = absurd are
