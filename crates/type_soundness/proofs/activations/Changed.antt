-- The store is changed, and then there is more.
use Rattle.std.proofs.Common.{List}
use Rattle.std.specs.Prelude.{Ok, Err}
use Rattle.program_typing.specs.tp_meaning.Found.{Act, Error, IllTyped, Found}
use Rattle.program_typing.specs.tp_meaning.Store.{Store}
use Rattle.program_typing.specs.tp_meaning.Outcomes.{State, Does, and_then, with_store, found}
use Rattle.program_typing.specs.store_typing.stores.Worlds.{Made, World}
use Rattle.program_typing.specs.store_typing.stores.Stores.{IsTypedStore, Finds}
use Rattle.program_typing.specs.programs.Outcomes.{after, Ends}
use Rattle.program_typing.proofs.programs.Ends.{ends_after}

module _ {B : Type 0} (Q : World → B → Type 0) (w : World) where
  -- objects are made
  pub changed_to : (more : List Made) (x : Found Store) (s : State) (go : Does B) → Finds (IsTypedStore (after w more)) x
      → ((store : Store) → IsTypedStore (after w more) store → Ends (after w more) Q (go (record s { store = store }))) → Ends w Q (and_then (and_then (found x s) with_store) (λ u. go))
  changed_to more (Ok store) s go h next = ends_after Q w more (go (record s { store = store })) (next store h)
  changed_to more (Err (Act number)) s go h next = tt
  changed_to more (Err (Error code)) s go h next = tt
  changed_to more (Err IllTyped) s go h next = absurd h

  -- none is made
  pub changed_then : (x : Found Store) (s : State) (go : Does B) → Finds (IsTypedStore w) x
      → ((store : Store) → IsTypedStore w store → Ends w Q (go (record s { store = store }))) → Ends w Q (and_then (and_then (found x s) with_store) (λ u. go))
  changed_then (Ok store) s go h next = next store h
  changed_then (Err (Act number)) s go h next = tt
  changed_then (Err (Error code)) s go h next = tt
  changed_then (Err IllTyped) s go h next = absurd h
