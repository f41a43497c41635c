-- Without stubs a program runs as its process does alone.
use Rattle.std.proofs.Common.{◌≡◌, ℕ, zero, suc, Bool, true, false, cond, List, [], ◌∷◌, length, Option, None, Some, refl, sym, ap, subst, ◌∙◌, arith}
use Rattle.std.specs.Prelude.{◌==◌}
use Rattle.std.proofs.lemmas.Bool.{eqb-true}
use Rattle.std.proofs.lemmas.Bool.Decides.{nat_tests}
use Rattle.cpu_8086.specs.declared.process.Why.TheVariants as why
use Rattle.cpu_8086.specs.declared.machine.Event.{Event}
use Rattle.cpu_8086.specs.declared.machine.Event.TheVariants as events
use Rattle.cpu_8086.specs.State.{State}
use Rattle.cpu_8086.specs.Process.{Process, serviced, after_step}
use Rattle.cpu_8086.specs.Run.{Runs}
use Rattle.overlay_manager.specs.declared.traps.Trap.{Trap}
use Rattle.overlay_manager.specs.Manager.{Manager, with_seats, emptied, sent_out, cleared, cleared_manager}
use Rattle.overlay_manager.specs.Traps.{trap_of}
use Rattle.overlay_manager.specs.overlay_run.Managed.{Managed, goes_on, is_stopped, IsTrappedIn, IsClearedBy, IsServicedAs, IsServiced, IsAfter, ManagedGoes, ManagedRuns}

-- no trap stands in a stub
no-trap : (stubs : List ℕ) (t : State) → length stubs ≡ 0 → trap_of stubs t ≡ None
no-trap [] t none = refl
no-trap (stub ∷ stubs) t none = absurd (omega arith)

none-is : (n : ℕ) → n ≡ 0 → (n == 0) ≡ true
none-is n none = grind (arith, nat_tests)

-- a clear leaves the memory and the stubs
memory-cleared : (m : Manager) (t : State) → length m.stubs ≡ 0 → cleared m t ≡ t.memory
memory-cleared m t none = ap (λ (empty : Bool). cond empty t.memory (sent_out m t)) (none-is (length m.stubs) none)

stubs-cleared : (m : Manager) (t : State) → (cleared_manager m t).stubs ≡ m.stubs
stubs-cleared m t = by (length m.stubs == 0)
  where
    by : (empty : Bool) → (let after : Manager = cond empty (with_seats m []) (emptied m t) in after.stubs) ≡ m.stubs
    by true = refl
    by false = refl

-- A step has the same outcome, and leaves no stubs.
record Plain (p q : Managed) (t : State) (event : Event) : Type 0 where
  process : q.process ≡ after_step p.process t event
  stubs : length q.manager.stubs ≡ 0

trapped : (bytes : List ℕ) (p q : Managed) (t : State) (found : Option Trap) → found ≡ None → IsTrappedIn bytes p t q found → q ≡ is_stopped p why.NoStub p.manager
trapped bytes p q t None is it = it
trapped bytes p q t (Some trap) is it = absurd cc

was-cleared : (p q : Managed) (t : State) (empty : Bool) → empty ≡ true → IsClearedBy p t q empty → q ≡ goes_on p (record t { memory = cleared p.manager t }) (cleared_manager p.manager t)
was-cleared p q t true is it = it
was-cleared p q t false is it = absurd cc

-- the machine is as it was
same-machine : (m : Manager) (t : State) → length m.stubs ≡ 0 → (let out : State = record t { memory = cleared m t } in out) ≡ t
same-machine m t none = ap (λ (memory : List ℕ). let out : State = record t { memory = memory } in out) (memory-cleared m t none)

service-plain : (bytes : List ℕ) (p q : Managed) (t : State) (n : ℕ) → length p.manager.stubs ≡ 0 → IsServiced bytes p t n q → Plain p q t (events.Service n)
service-plain bytes p q t n none is = by (n == 63) refl (n == 96) refl is
  where
    by : (trap : Bool) → (n == 63) ≡ trap → (clear : Bool) → (n == 96) ≡ clear → IsServicedAs bytes p t n q trap clear → Plain p q t (events.Service n)
    by true trap clear clear_is is =
        let stops = trapped bytes p q t (trap_of p.manager.stubs t) (no-trap p.manager.stubs t none) is in
        let number : n ≡ 63 = eqb-true n 63 trap in
        record {
          process = ap (λ (q : Managed). q.process) stops ∙ sym (ap (λ (n : ℕ). serviced p.process t n) number);
          stubs = ap (λ (q : Managed). length q.manager.stubs) stops ∙ none;
        }
    by false trap true clear is =
        let out = was-cleared p q t (length p.manager.stubs == 0) (none-is (length p.manager.stubs) none) is in
        let number : n ≡ 96 = eqb-true n 96 clear in
        record {
          process = ap (λ (q : Managed). q.process) out
              ∙ ap (λ (t : State). let after : Process = record p.process { machine = t } in after) (same-machine p.manager t none)
              ∙ sym (ap (λ (n : ℕ). serviced p.process t n) number);
          stubs = ap (λ (q : Managed). length q.manager.stubs) out ∙ ap length (stubs-cleared p.manager t) ∙ none;
        }
    by false trap false clear is = record { process = ap (λ (q : Managed). q.process) is; stubs = ap (λ (q : Managed). length q.manager.stubs) is ∙ none }

event-plain : (bytes : List ℕ) (p q : Managed) (t : State) (event : Event) → length p.manager.stubs ≡ 0 → IsAfter bytes p t event q → Plain p q t event
event-plain bytes p q t (events.Service n) none is = service-plain bytes p q t n none is
event-plain bytes p q t events.Ran none is = record { process = ap (λ (q : Managed). q.process) is; stubs = ap (λ (q : Managed). length q.manager.stubs) is ∙ none }
event-plain bytes p q t events.Divide none is = record { process = ap (λ (q : Managed). q.process) is; stubs = ap (λ (q : Managed). length q.manager.stubs) is ∙ none }
event-plain bytes p q t (events.Unknown cs ip) none is = record { process = ap (λ (q : Managed). q.process) is; stubs = ap (λ (q : Managed). length q.manager.stubs) is ∙ none }

-- so is a run
pub plain-runs : (bytes : List ℕ) (n : ℕ) (p q : Managed) → length p.manager.stubs ≡ 0 → ManagedRuns bytes n p q → Runs n p.process q.process
plain-runs bytes zero p q none runs = ap (λ (p : Managed). p.process) runs
plain-runs bytes (suc n) p q none runs =
    let middle = runs.0 in
    let goes = runs.1 in
    let plain = event-plain bytes p middle goes.machine goes.event none goes.result in
    (middle.process, record { running = goes.running; machine = goes.machine; event = goes.event; steps = goes.steps; result = plain.process }, plain-runs bytes n middle q plain.stubs runs.2)

-- A step of the process is one of the program.
record Step (bytes : List ℕ) (p : Managed) (t : State) (event : Event) : Type 0 where
  next : Managed
  after : IsAfter bytes p t event next

next-cleared : (p : Managed) (t : State) (empty : Bool) → empty ≡ true → IsClearedBy p t (goes_on p (record t { memory = cleared p.manager t }) (cleared_manager p.manager t)) empty
next-cleared p t true is = refl
next-cleared p t false is = absurd cc

next-trapped : (bytes : List ℕ) (p : Managed) (t : State) (found : Option Trap) → found ≡ None → IsTrappedIn bytes p t (is_stopped p why.NoStub p.manager) found
next-trapped bytes p t None is = refl
next-trapped bytes p t (Some trap) is = absurd cc

record Service-step (bytes : List ℕ) (p : Managed) (t : State) (n : ℕ) (trap clear : Bool) : Type 0 where
  next : Managed
  after : IsServicedAs bytes p t n next trap clear

service-step : (bytes : List ℕ) (p : Managed) (t : State) (n : ℕ) (trap clear : Bool) → length p.manager.stubs ≡ 0 → Service-step bytes p t n trap clear
service-step bytes p t n true clear none = record { next = is_stopped p why.NoStub p.manager; after = next-trapped bytes p t (trap_of p.manager.stubs t) (no-trap p.manager.stubs t none) }
service-step bytes p t n false true none = record {
  next = goes_on p (record t { memory = cleared p.manager t }) (cleared_manager p.manager t);
  after = next-cleared p t (length p.manager.stubs == 0) (none-is (length p.manager.stubs) none);
}
service-step bytes p t n false false none = record { next = record p { process = serviced p.process t n }; after = refl }

event-step : (bytes : List ℕ) (p : Managed) (t : State) (event : Event) → length p.manager.stubs ≡ 0 → Step bytes p t event
event-step bytes p t (events.Service n) none = let step = service-step bytes p t n (n == 63) (n == 96) none in record { next = step.next; after = step.after }
event-step bytes p t events.Ran none = record { next = record p { process = after_step p.process t events.Ran }; after = refl }
event-step bytes p t events.Divide none = record { next = record p { process = after_step p.process t events.Divide }; after = refl }
event-step bytes p t (events.Unknown cs ip) none = record { next = record p { process = after_step p.process t (events.Unknown cs ip) }; after = refl }

-- so is its run
pub managed-runs : (bytes : List ℕ) (n : ℕ) (p : Managed) (q : Process) → length p.manager.stubs ≡ 0 → Runs n p.process q → (managed : Managed) × ManagedRuns bytes n p managed × (managed.process ≡ q)
managed-runs bytes zero p q none runs = (p, refl, runs)
managed-runs bytes (suc n) p q none runs =
    let goes = runs.1 in
    let step = event-step bytes p goes.machine goes.event none in
    let plain = event-plain bytes p step.next goes.machine goes.event none step.after in
    let rest = managed-runs bytes n step.next q plain.stubs (subst (λ (middle : Process). Runs n middle q) (goes.result ∙ sym plain.process) runs.2) in
    let here : ManagedGoes bytes p step.next = record { running = goes.running; machine = goes.machine; event = goes.event; steps = goes.steps; result = step.after } in
    (rest.0, (step.next, here, rest.1), rest.2)
