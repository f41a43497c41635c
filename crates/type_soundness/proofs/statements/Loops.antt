-- Turns of `for` loops.
use Rattle.std.proofs.Common.{◌≡◌, ℕ, Bool, List, Some, sym, subst, ◌∙◌}
use Rattle.std.specs.Prelude.{ℤ, ◌+ℤ◌}
use Rattle.std.specs.Ordering.{int_eq}
use Rattle.program_typing.specs.type_layout.declared.definitions.TypeId.{TypeId}
use Rattle.program_typing.specs.type_layout.declared.definitions.Host.{Host}
use Rattle.program_typing.specs.type_layout.Table.{IsObject}
use Rattle.program_typing.specs.typed_tree.declared.expressions.Variable.{Variable}
use Rattle.program_typing.specs.typed_tree.declared.units.Program.{Program}
use Rattle.program_typing.specs.typed_tree.Statements.{Statement}
use Rattle.program_typing.specs.typed_tree.type_fits.Fits.{stored_as}
use Rattle.program_typing.specs.tp_meaning.Trees.{Ordinal, unset}
use Rattle.program_typing.specs.tp_meaning.Store.{Store, replaced}
use Rattle.program_typing.specs.tp_meaning.Programs.{Sort, definition, sort_in}
use Rattle.program_typing.specs.tp_meaning.Outcomes.{State, Does, ◌>>=◌, ◌>>◌, give, looked, changed}
use Rattle.program_typing.specs.tp_meaning.Activations.{Reached, Activation, variable_at, number_in}
use Rattle.program_typing.specs.tp_meaning.Calls.{Flow, Next, Turns, Runs}
use Rattle.program_typing.specs.tp_meaning.Standard.{number_assigned}
use Rattle.program_typing.specs.tp_meaning.Statements.{counter, counted, turned, turn, then_next, chosen, step}
use Rattle.program_typing.specs.store_typing.types.Agreement.{IsKnown, AreConsistent}
use Rattle.program_typing.specs.store_typing.types.Forms.{Form, Cell, Number}
use Rattle.program_typing.specs.store_typing.stores.Worlds.{Made, World, IsHeld, HasForm}
use Rattle.program_typing.specs.store_typing.stores.Places.{IsPlaceOf, IsSeenAs, Shared, Letter, Whole, IsAt}
use Rattle.program_typing.specs.store_typing.stores.Stores.{IsTypedStore, Finds}
use Rattle.program_typing.proofs.store_typing_proofs.stores.Paths.{finds_more}
use Rattle.program_typing.proofs.store_typing_proofs.stores.Seen.{object_seen, seen_form, ordinal_form}
use Rattle.program_typing.proofs.store_typing_proofs.stores.Steps.{same_form}
use Rattle.program_typing.proofs.store_typing_proofs.stores.Kept.{replaced_keeps}
use Rattle.program_typing.proofs.store_typing_proofs.standard.Variables.{number_found, number_put}
use Rattle.program_typing.specs.lvalues.Frames.{IsActive}
use Rattle.program_typing.proofs.lvalues.Variables.{variable_place}
use Rattle.program_typing.specs.programs.Outcomes.{IsTypedState, world, Ends}
use Rattle.program_typing.specs.programs.Tasks.{IsBody, IsCounter, AreSound}
use Rattle.program_typing.proofs.programs.Ends.{ends_looked, ends_changed, ends_spending}
use Rattle.type_soundness.proofs.expressions.Chains.{Kept, both, chain}
use Rattle.type_soundness.proofs.expressions.Places.{PlaceAt}
use Rattle.type_soundness.proofs.expressions.Instances.{no_object}
use Rattle.type_soundness.proofs.expressions.Calls.{active_kept, place_kept}
use Rattle.type_soundness.proofs.statements.Flows.{Ended, next_ends, chosen_ends, changed_next}

-- ---- the variable becomes unset

module _ (w : World) (agreed : AreConsistent w.program) where
  known_seen : (one seen : Sort) → IsSeenAs w.program one seen → IsKnown w.program seen
  known_seen one seen (Shared ko ks same) = ks
  known_seen one seen (Letter is ks stored) = ks
  known_seen one seen (Whole is ks stored) = ks

  never_object : (one seen : Sort) (h : Host) → IsSeenAs w.program one seen → stored_as (definition seen) ≡ Some h → IsObject (definition one) → ⊥
  never_object one seen h (Shared ko ks same) e object = no_object (definition seen) h (object_seen w.program agreed one seen ko ks same object) e
  never_object one seen h (Letter is ks stored) e object = subst (λ (s : Sort). IsObject (definition s)) is object
  never_object one seen h (Whole is ks stored) e object = subst (λ (s : Sort). IsObject (definition s)) is object

  pub unset_put : (store : Store) → IsTypedStore w store → (at : Reached) (seen : Sort) (h : Host) → IsAt w at seen → stored_as (definition seen) ≡ Some h → Finds (IsTypedStore w) (replaced store at.spot unset)
  unset_put store typed at seen h is e =
      let place : IsPlaceOf w at.spot at.sort = is.place in
      let form : place.form ≡ Cell (Number h) =
      same_form w agreed at.sort place.form (never_object at.sort seen h is.same e) place.covers ∙ seen_form w.program agreed at.sort seen is.same ∙ ordinal_form w.program agreed seen (known_seen at.sort seen is.same) h e in
      replaced_keeps w store typed at.spot place.form place.lies unset (subst (λ (f : Form). HasForm w f unset) (sym form) tt)

-- ---- a turn

module _ (program : Program) (agreed : AreConsistent program) (again : Runs) (sound : AreSound program again) (f : Activation) (number : ℕ) (withs : List TypeId) (variable : Variable) (ty : TypeId)
    (is_counter : IsCounter (record { program = program; unit = f.unit; number = number }) withs variable ty) (h : Host) (stored : stored_as (definition (sort_in f.unit ty)) ≡ Some h) where
  abbrev Body : List Made → Type 0
  Body made = IsActive (world program made) f number withs

  abbrev active : Kept
  active = active_kept program f number withs

  abbrev Counter : World → Reached → Type 0
  Counter = PlaceAt (sort_in f.unit ty)

  -- the variable
  pub counter_ends : (made : List Made) (s : State) → Body made → IsTypedState (world program made) s → Ends (world program made) Counter (counter program f variable s)
  counter_ends made s k typed =
      ends_looked Counter (world program made) (variable_at program f variable) s typed (variable_place (world program made) agreed s.store typed.store is_counter.others f number withs variable ty k is_counter.has is_counter.names)

  pub counted_ends : (made : List Made) (s : State) → Body made → IsTypedState (world program made) s → Ends (world program made) Ended (counted program f variable s)
  counted_ends made s k typed =
      chain program active Counter Ended made (counter program f variable s) (λ at. changed (λ store. replaced store at.spot unset) >> give Next) k (counter_ends made s k typed) (λ made' at t k' typed' is.
      changed_next (world program made') (λ store. replaced store at.spot unset) t typed' (unset_put (world program made') agreed t.store typed'.store at (sort_in f.unit ty) h is stored))

  -- the next turn
  stepped_ends : (made : List Made) (at : Reached) (last z : ℤ) (down : Bool) (body : Statement) (s : State) → IsBody (record { program = program; unit = f.unit; number = number }) withs body → Body made → IsAt (world program made) at (sort_in f.unit ty) → IsTypedState (world program made) s
      → Ends (world program made) Ended ((changed (number_assigned at z) >> again (Turns variable last down body) f) s)
  stepped_ends made at last z down body s is_body k is typed =
      chain program active Ended Ended made (changed (number_assigned at z) s) (λ u. again (Turns variable last down body) f) k
      (ends_changed (world program made) (number_assigned at z) s typed (number_put (world program made) agreed s.store typed.store at (sort_in f.unit ty) h z is stored)) (λ made' u t k' typed' x.
      sound made' f number withs (Turns variable last down body) t k' ((ty, is_counter), is_body) typed')

  turned_ends : (made : List Made) (last : ℤ) (down : Bool) (body : Statement) (s : State) → IsBody (record { program = program; unit = f.unit; number = number }) withs body → Body made → IsTypedState (world program made) s
      → Ends (world program made) Ended (turned program again f variable last down body s)
  turned_ends made last down body s is_body k typed =
      let rest : Reached → Does Flow = λ at. looked (number_in at) >>= λ z. chosen (int_eq z last) (counted program f variable) (changed (number_assigned at (z +ℤ step down)) >> again (Turns variable last down body) f) in
      chain program active Counter Ended made (counter program f variable s) rest k (counter_ends made s k typed) (λ made' at t k' typed' is.
      chain program (both active (place_kept program at (sort_in f.unit ty))) Ended Ended made' (looked (number_in at) t)
      (λ z. chosen (int_eq z last) (counted program f variable) (changed (number_assigned at (z +ℤ step down)) >> again (Turns variable last down body) f)) (k', is)
      (ends_looked Ended (world program made') (number_in at) t typed' (finds_more (λ z. IsHeld (world program made') (Number h) (Ordinal z)) (Ended (world program made')) (number_in at t.store) (λ z held. tt)
      (number_found (world program made') agreed t.store typed'.store at (sort_in f.unit ty) h is stored))) (λ made'' z u k'' typed'' x.
      chosen_ends (world program made'') (int_eq z last) (counted program f variable) (changed (number_assigned at (z +ℤ step down)) >> again (Turns variable last down body) f) u (counted_ends made'' u k''.0 typed'')
      (stepped_ends made'' at last (z +ℤ step down) down body u is_body k''.0 k''.1 typed'')))

  pub turn_ends : (made : List Made) (last : ℤ) (down : Bool) (body : Statement) (go : Does Flow) (s : State) → IsBody (record { program = program; unit = f.unit; number = number }) withs body → Body made → IsTypedState (world program made) s
      → ((t : State) → IsTypedState (world program made) t → Ends (world program made) Ended (go t)) → Ends (world program made) Ended (turn program again f variable last down body go s)
  turn_ends made last down body go s is_body k typed runs =
      ends_spending Ended (world program made) (go >>= λ flow. then_next flow (turned program again f variable last down body)) s typed (λ t typed'.
      chain program active Ended Ended made (go t) (λ flow. then_next flow (turned program again f variable last down body)) k (runs t typed') (λ made' flow u k' typed'' x.
      next_ends (world program made') flow (turned program again f variable last down body) u typed'' (λ typed'''. turned_ends made' last down body u is_body k' typed''')))
