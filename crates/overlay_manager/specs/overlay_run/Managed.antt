-- Runs of a process whose overlays are managed, event by event. An event is one executed instruction with its DOS function, or
-- with the service of an overlay trap or a clear of the buffer.
use Rattle.std.specs.Prelude.{◌≡◌, ◌⊎◌, ℕ, zero, suc, ◌+◌, ◌==◌, Bool, true, false, List, length, Option, None, Some, MatchBool, MatchResult}
use Rattle.cpu_8086.specs.declared.process.Why.{Why}
use Rattle.cpu_8086.specs.declared.process.Why.TheVariants as why
use Rattle.cpu_8086.specs.declared.machine.Event.{Event}
use Rattle.cpu_8086.specs.declared.machine.Event.TheVariants.{Service}
use Rattle.cpu_8086.specs.State.{State}
use Rattle.cpu_8086.specs.Process.{Process, Running, stopped, serviced, after_step}
use Rattle.cpu_8086.specs.Step.{Steps}
use Rattle.return_repair.specs.Chain.{chain_of}
use Rattle.overlay_manager.specs.declared.serving.ServiceStop.TheVariants as stops
use Rattle.overlay_manager.specs.declared.traps.Trap.{Trap}
use Rattle.overlay_manager.specs.Manager.{Manager, with_seats, cleared, cleared_manager}
use Rattle.overlay_manager.specs.Service.{seats_after, served, served_manager}
use Rattle.overlay_manager.specs.Stops.{StopsShort, FileHas}
use Rattle.overlay_manager.specs.Traps.{trap_of, is_refused, refused}

-- a process, what the manager of its overlays holds, and how many overlay traps were served
pub record Managed : Type 0 where
  pub process : Process
  pub manager : Manager
  pub traps : ℕ

-- It goes on with this machine and this manager, or is stopped and leaves this manager.
abbrev pub goes_on : Managed → State → Manager → Managed
goes_on p t m = record p { process = record p.process { machine = t }; manager = m }

abbrev pub is_stopped : Managed → Why → Manager → Managed
is_stopped p reason m = record p { process = stopped p.process reason; manager = m }

-- a trap was served
abbrev pub with_trap : Managed → Managed
with_trap p = record p { traps = p.traps + 1 }

-- The overlays of a trap are loaded from the bytes of the overlay file, or the first of them for which it ends too soon stops
-- the process.
abbrev pub IsLoaded : List ℕ → Managed → State → Trap → Managed → Type 0
IsLoaded bytes p t trap q =
    (FileHas p.manager bytes trap t × (q ≡ with_trap (goes_on p (served p.manager bytes trap t) (served_manager p.manager bytes trap t))))
    ⊎ ((v : ℕ) × StopsShort p.manager bytes trap t (stops.ShortOverlay v)
    × (q ≡ is_stopped p (why.ShortOverlay v) (with_seats p.manager (seats_after p.manager trap t))))

-- A trap that is found, or none: it is refused as a call while the manager isn't installed, or stopped by a chain of links that is
-- bad, or served.
abbrev pub IsTrappedIn : List ℕ → Managed → State → Managed → Option Trap → Type 0
IsTrappedIn bytes p t q None = q ≡ is_stopped p why.NoStub p.manager
IsTrappedIn bytes p t q (Some trap) =
    MatchBool (is_refused p.manager.installed t trap) (q ≡ with_trap (goes_on p (refused p.manager.error_routine t) p.manager))
    (MatchResult (chain_of p.manager.marked t) (λ links. IsLoaded bytes p t trap q) (λ bad. q ≡ is_stopped p (why.BadChain bad) p.manager))

-- INT 3Fh, past which the machine stands at t
abbrev pub IsTrapped : List ℕ → Managed → State → Managed → Type 0
IsTrapped bytes p t q = IsTrappedIn bytes p t q (trap_of p.manager.stubs t)

-- INT 60h: all overlays go out. Without stubs no chain is walked.
abbrev pub IsClearedBy : Managed → State → Managed → Bool → Type 0
IsClearedBy p t q true = q ≡ goes_on p (record t { memory = cleared p.manager t }) (cleared_manager p.manager t)
IsClearedBy p t q false =
    MatchResult (chain_of p.manager.marked t) (λ links. q ≡ goes_on p (record t { memory = cleared p.manager t }) (cleared_manager p.manager t))
    (λ bad. q ≡ is_stopped p (why.BadChain bad) p.manager)

abbrev pub IsCleared : Managed → State → Managed → Type 0
IsCleared p t q = IsClearedBy p t q (length p.manager.stubs == 0)

-- What INT n does to a process whose machine stands past it, at t: a trap, a clear, or a service that knows no overlays.
abbrev pub IsServicedAs : List ℕ → Managed → State → ℕ → Managed → (trap clear : Bool) → Type 0
IsServicedAs bytes p t n q true clear = IsTrapped bytes p t q
IsServicedAs bytes p t n q false true = IsCleared p t q
IsServicedAs bytes p t n q false false = q ≡ record p { process = serviced p.process t n }

abbrev pub IsServiced : List ℕ → Managed → State → ℕ → Managed → Type 0
IsServiced bytes p t n q = IsServicedAs bytes p t n q (n == 63) (n == 96)

-- what a step that led to t does
abbrev pub IsAfter : List ℕ → Managed → State → Event → Managed → Type 0
IsAfter bytes p t (Service n) q = IsServiced bytes p t n q
IsAfter bytes p t event q = q ≡ record p { process = after_step p.process t event }

-- one event takes p, which runs, to q
pub record ManagedGoes (bytes : List ℕ) (p q : Managed) : Type 0 where
  pub running : p.process.status ≡ Running
  pub machine : State
  pub event : Event
  pub steps : Steps p.process.machine machine event
  pub result : IsAfter bytes p machine event q

-- n events take p to q, while the overlay file holds these bytes
abbrev pub ManagedRuns : List ℕ → ℕ → Managed → Managed → Type 0
ManagedRuns bytes zero p q = p ≡ q
ManagedRuns bytes (suc n) p q = (middle : Managed) × ManagedGoes bytes p middle × ManagedRuns bytes n middle q
