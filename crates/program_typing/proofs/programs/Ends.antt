-- What parts of a program lead to, one behind another.
use Rattle.std.proofs.Common.{ℕ, zero, suc, List, [], ◌∷◌, ◌++◌, Some, None, sym, subst, append-nil, append_assoc}
use Rattle.std.specs.Prelude.{Option, Ok, Err}
use Rattle.store_typing.specs.common_values.behaviour.Seen.{Ended, Going, Undefined, Stopped}
use Rattle.well_formed.specs.type_layout.declared.definitions.TypeId.{TypeId}
use Rattle.well_formed.specs.typed_tree.declared.units.Unit.{Unit as TypedUnit}
use Rattle.store_typing.specs.tp_meaning.Found.{Found, Act, Error, IllTyped}
use Rattle.store_typing.specs.tp_meaning.Store.{Store}
use Rattle.store_typing.specs.tp_meaning.Outcomes.{State, Outcome, Done, Over, Does, and_then, found, looked, with_store, changed, spent, spending}
use Rattle.store_typing.specs.tp_meaning.Programs.{sort_in}
use Rattle.store_typing.specs.tp_meaning.Activations.{Reached, Level, Activation}
use Rattle.store_typing.specs.stores.Worlds.{Made, World}
use Rattle.store_typing.specs.stores.Stores.{IsTypedStore, Finds}
use Rattle.store_typing.proofs.stores.Grown.{grows_by, at_grows, made_grows}
use Rattle.store_typing.specs.standard.Laws.{IsTypedLater}
use Rattle.program_typing.specs.lvalues.Frames.{IsLevel, AreLevels, AreHeld, HasGlobals, IsActive}
use Rattle.program_typing.specs.lvalues.Laws.{Looks}
use Rattle.program_typing.specs.programs.Outcomes.{IsTypedState, world, after, Ends}

-- ---- worlds

-- what is so in a world is so after nothing was made, and what is so after more and more is so after both
pub after_none : (P : World → Type 0) (w : World) → P w → P (after w [])
after_none P w h = subst (λ (made : List Made). P (world w.program made)) (sym (append-nil w.made)) h

pub after_both : (P : World → Type 0) (w : World) (first second : List Made) → P (after (after w first) second) → P (after w (first ++ second))
after_both P w first second h = subst (λ (made : List Made). P (world w.program made)) (append_assoc w.made first second) h

module _ (w : World) (more : List Made) where
  level_after : (unit : TypedUnit) (level : Level) → IsLevel w unit level → IsLevel (after w more) unit level
  level_after unit level h = record {
    few = h.few;
    variables = λ number ty e. let made = h.variables number ty e in (made.0, made_grows w (after w more) (grows_by w more) _ _ made.1);
  }

  levels_after : (unit : TypedUnit) (number : Option ℕ) (levels : List Level) → AreLevels w unit number levels → AreLevels (after w more) unit number levels
  levels_after unit None [] h = tt
  levels_after unit None (level ∷ levels) h = absurd h
  levels_after unit (Some number) [] h = absurd h
  levels_after unit (Some number) (level ∷ levels) h = (h.0, h.1, level_after unit level h.2, levels_after unit level.routine.outer levels h.3)

  held_after : (unit : TypedUnit) (tys : List TypeId) (ats : List Reached) → AreHeld w unit tys ats → AreHeld (after w more) unit tys ats
  held_after unit [] [] h = tt
  held_after unit [] (at ∷ ats) h = absurd h
  held_after unit (ty ∷ tys) [] h = absurd h
  held_after unit (ty ∷ tys) (at ∷ ats) h = (at_grows w (after w more) (grows_by w more) at (sort_in unit ty) h.0, held_after unit tys ats h.1)

  pub globals_after : HasGlobals w → HasGlobals (after w more)
  globals_after h = record { globals = λ key sort e. made_grows w (after w more) (grows_by w more) _ _ (h.globals key sort e) }

  -- an activation stays one as objects are made
  pub active_after : (f : Activation) (number : ℕ) (withs : List TypeId) → IsActive w f number withs → IsActive (after w more) f number withs
  active_after f number withs h = record {
    listed = h.listed;
    levels = levels_after f.unit (Some number) f.levels h.levels;
    held = held_after f.unit withs f.withs h.held;
    globals = globals_after h.globals;
  }

-- ---- outcomes

module _ {A : Type 0} (P : World → A → Type 0) (w : World) where
  pub ends_done : (a : A) (s : State) → IsTypedState w s → P w a → Ends w P (Done a s)
  ends_done a s typed is =
      record { more = []; typed = after_none (λ (v : World). IsTypedState v s) w typed; is = after_none (λ (v : World). P v a) w is }

  pub ends_after : (more : List Made) (o : Outcome A) → Ends (after w more) P o → Ends w P o
  ends_after more (Done a s) h =
      record { more = more ++ h.more; typed = after_both (λ (v : World). IsTypedState v s) w more h.more h.typed; is = after_both (λ (v : World). P v a) w more h.more h.is }
  ends_after more (Over (Ended code) s) h = tt
  ends_after more (Over Going s) h = tt
  ends_after more (Over (Undefined act) s) h = tt
  ends_after more (Over Stopped s) h = h

  pub ends_more : (Q : World → A → Type 0) (o : Outcome A) → ((more : List Made) (a : A) → P (after w more) a → Q (after w more) a) → Ends w P o → Ends w Q o
  ends_more Q (Done a s) f h = record { more = h.more; typed = h.typed; is = f h.more a h.is }
  ends_more Q (Over (Ended code) s) f h = tt
  ends_more Q (Over Going s) f h = tt
  ends_more Q (Over (Undefined act) s) f h = tt
  ends_more Q (Over Stopped s) f h = h

  -- one part, and then what it leads to
  pub ends_bind : {B : Type 0} (Q : World → B → Type 0) (o : Outcome A) (go : A → Does B) → Ends w P o
      → ((more : List Made) (a : A) (s : State) → IsTypedState (after w more) s → P (after w more) a → Ends (after w more) Q (go a s)) → Ends w Q (and_then o go)
  ends_bind Q (Done a s) go h next = ends_over Q h.more (go a s) (next h.more a s h.typed h.is) where
    ends_over : {B : Type 0} (Q : World → B → Type 0) (more : List Made) (o : Outcome B) → Ends (after w more) Q o → Ends w Q o
    ends_over Q more (Done b t) h =
        record { more = more ++ h.more; typed = after_both (λ (v : World). IsTypedState v t) w more h.more h.typed; is = after_both (λ (v : World). Q v b) w more h.more h.is }
    ends_over Q more (Over (Ended code) t) h = tt
    ends_over Q more (Over Going t) h = tt
    ends_over Q more (Over (Undefined act) t) h = tt
    ends_over Q more (Over Stopped t) h = h
  ends_bind Q (Over (Ended code) s) go h next = tt
  ends_bind Q (Over Going s) go h next = tt
  ends_bind Q (Over (Undefined act) s) go h next = tt
  ends_bind Q (Over Stopped s) go h next = h

  -- what is found
  pub ends_found : (x : Found A) (s : State) → IsTypedState w s → Finds (P w) x → Ends w P (found x s)
  ends_found (Ok a) s typed h = ends_done a s typed h
  ends_found (Err (Act number)) s typed h = tt
  ends_found (Err (Error code)) s typed h = tt
  ends_found (Err IllTyped) s typed h = h

  pub ends_looked : (look : Store → Found A) (s : State) → IsTypedState w s → Finds (P w) (look s.store) → Ends w P (looked look s)
  ends_looked look s typed h = ends_found (look s.store) s typed h

  -- a part that changes nothing
  pub ends_looks : (o : Outcome A) (s : State) → IsTypedState w s → Looks (P w) s o → Ends w P o
  ends_looks (Done a t) s typed h = ends_done a t (subst (IsTypedState w) (sym h.0) typed) h.1
  ends_looks (Over (Ended code) t) s typed h = tt
  ends_looks (Over Going t) s typed h = tt
  ends_looks (Over (Undefined act) t) s typed h = tt
  ends_looks (Over Stopped t) s typed h = h

  -- a turn is due
  pub ends_spending : (go : Does A) (s : State) → IsTypedState w s → ((t : State) → IsTypedState w t → Ends w P (go t)) → Ends w P (spending go s)
  ends_spending go s typed h = by s.turns where
    by : (turns : ℕ) → Ends w P (spent turns go s)
    by zero = tt
    by (suc turns) = h (record s { turns = turns }) (record { store = typed.store; input = typed.input })

-- ---- changes of the store

-- the store is typed once these objects were made, and something is so then
pub record Changes (w : World) (R : World → Type 0) (store : Store) : Type 0 where
  pub more : List Made
  pub typed : IsTypedStore (after w more) store
  pub is : R (after w more)

pub ends_changed_so : (R : World → Type 0) (w : World) (change : Store → Found Store) (s : State) → IsTypedState w s → Finds (Changes w R) (change s.store) → Ends w (λ v u. R v) (changed change s)
ends_changed_so R w change s typed h = by (change s.store) h where
  by : (x : Found Store) → Finds (Changes w R) x → Ends w (λ v u. R v) (and_then (found x s) with_store)
  by (Ok store) h = record { more = h.more; typed = record { store = h.typed; input = typed.input }; is = h.is }
  by (Err (Act number)) h = tt
  by (Err (Error code)) h = tt
  by (Err IllTyped) h = h

pub ends_changed : (w : World) (change : Store → Found Store) (s : State) → IsTypedState w s → Finds (IsTypedStore w) (change s.store) → Ends w (λ v u. Unit {0}) (changed change s)
ends_changed w change s typed h = by (change s.store) h where
  by : (x : Found Store) → Finds (IsTypedStore w) x → Ends w (λ v u. Unit {0}) (and_then (found x s) with_store)
  by (Ok store) h = ends_done (λ v u. Unit {0}) w tt (record s { store = store }) (record { store = h; input = typed.input }) tt
  by (Err (Act number)) h = tt
  by (Err (Error code)) h = tt
  by (Err IllTyped) h = h

-- the same where objects may have been made
pub ends_changed_later : (w : World) (change : Store → Found Store) (s : State) → IsTypedState w s → Finds (IsTypedLater w) (change s.store) → Ends w (λ v u. Unit {0}) (changed change s)
ends_changed_later w change s typed h = by (change s.store) h where
  by : (x : Found Store) → Finds (IsTypedLater w) x → Ends w (λ v u. Unit {0}) (and_then (found x s) with_store)
  by (Ok store) h =
      record { more = h.grows.more; typed = record { store = subst (λ (v : World). IsTypedStore v store) h.grows.is h.typed; input = typed.input }; is = tt }
  by (Err (Act number)) h = tt
  by (Err (Error code)) h = tt
  by (Err IllTyped) h = h
