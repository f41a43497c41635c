-- Runs with given tables: they have one outcome, and what was written stays written.
use Rattle.std.proofs.Common.{◌≡◌, ℕ, zero, suc, ◌==◌, Bool, true, false, List, [], length, Option, None, Some, Result, Ok, Err, refl, sym, ap, ◌∙◌, subst}
use Rattle.std.specs.Prelude.{if◌then◌else◌, ◌≢◌}
use Rattle.common_values.specs.behaviour.Seen.{Seen, Stopped, IsOver}
use Rattle.cpu_8086.specs.declared.process.Why.TheVariants as why
use Rattle.cpu_8086.specs.declared.machine.Event.{Event}
use Rattle.cpu_8086.specs.declared.machine.Event.TheVariants.{Ran, Service, Divide, Unknown}
use Rattle.cpu_8086.specs.Process as process
use Rattle.cpu_8086.specs.Process.{Process, Status, serviced}
use Rattle.cpu_8086.specs.State.{State}
use Rattle.cpu_8086.specs.Step.{Steps}
use Rattle.overlay_ring.specs.declared.seat.Seat.{Seat}
use Rattle.overlay_ring.specs.Table.{Table, is_legal_table}
use Rattle.frame_links.specs.Links.{Link}
use Rattle.return_repair.specs.Chain.{chain_of}
use Rattle.overlay_manager.specs.declared.traps.Trap.{Trap}
use Rattle.overlay_manager.specs.Manager.{table_by}
use Rattle.overlay_manager.specs.Traps.{trap_of, is_refused, refused}
use Rattle.overlay_manager.specs.overlay_run.Managed.{Managed, goes_on, is_stopped, with_trap}
use Rattle.compiler_correctness.specs.Runs.{standing_of, shown}
use Rattle.tabled_runs.specs.Tables.{Tabled, On, NotLegal, next_table, later_tables, seats_of, short_from, loaded_by, seated, chained, trapped, emptied, emptied_by, all_out, interrupted, after_event, TabledEvent, TabledGoes, TabledRuns}
use Rattle.compiler_correctness.proofs.Events.{Events, IsDetermined, IsLast, events_keep}
use Rattle.compiler_correctness.proofs.Written.{Extends, extends_same, extends_both, service_extends, step_extends}

-- a step of the machine has one outcome
abbrev pub StepsOnce : Type 0
StepsOnce = (s t u : State) (a b : Event) → Steps s t a → Steps s u b → (t ≡ u) × (a ≡ b)

-- ---- one outcome

event_once : StepsOnce → (bytes : List ℕ) (p : Managed) (tables : List Table) (q r : Tabled) → TabledEvent bytes p tables q → TabledEvent bytes p tables r → q ≡ r
event_once once bytes p tables q r x y =
    let same = once p.process.machine x.machine y.machine x.event y.event x.steps y.steps in
    x.result ∙ ap (λ (t : State). after_event bytes p tables t x.event) same.0 ∙ ap (λ (e : Event). after_event bytes p tables y.machine e) same.1 ∙ sym y.result

pub goes_once : StepsOnce → (bytes : List ℕ) → IsDetermined (TabledGoes bytes)
goes_once once bytes (On p tables) q r x y = event_once once bytes p tables q r x y
goes_once once bytes NotLegal q r x y = absurd x

-- ---- runs as events

pub as_events : (bytes : List ℕ) (n : ℕ) (p q : Tabled) → TabledRuns bytes n p q → Events (TabledGoes bytes) n p q
as_events bytes zero p q x = x
as_events bytes (suc n) p q x = (x.0, x.1, as_events bytes n x.0 q x.2)

pub as_runs : (bytes : List ℕ) (n : ℕ) (p q : Tabled) → Events (TabledGoes bytes) n p q → TabledRuns bytes n p q
as_runs bytes zero p q x = x
as_runs bytes (suc n) p q x = (x.0, x.1, as_runs bytes n x.0 q x.2)

-- ---- nothing follows what is over

running_goes_on : (status : Status) → status ≡ process.Running → IsOver (standing_of status) → ⊥
running_goes_on process.Running e over = over
running_goes_on (process.Ended code) e over = absurd cc
running_goes_on (process.Stopped cs ip reason) e over = absurd cc

pub not_running : (q : Process) → IsOver (shown q).end → q.status ≢ process.Running
not_running q over = λ e. running_goes_on q.status e over

-- ---- two ends

abbrev seen_of : Tabled → Seen
seen_of (On p tables) = shown p.process
seen_of NotLegal = record { out = []; err = []; end = Stopped }

abbrev IsOn : Tabled → Type 0
IsOn (On p tables) = Unit {0}
IsOn NotLegal = ⊥

pub on_same : (p q : Managed) (left rest : List Table) → On p left ≡ On q rest → shown p.process ≡ shown q.process
on_same p q left rest e = ap seen_of e

pub on_legal : (p : Managed) (left : List Table) → On p left ≡ NotLegal → ⊥
on_legal p left e = subst IsOn e tt

pub last_on : (bytes : List ℕ) (p : Managed) (tables : List Table) → IsOver (shown p.process).end → IsLast (TabledGoes bytes) (On p tables)
last_on bytes p tables over q x = not_running p.process over x.running

pub last_illegal : (bytes : List ℕ) → IsLast (TabledGoes bytes) NotLegal
last_illegal bytes q x = x

-- ---- what was written

-- where a program came to a table that is not legal it wrote nothing more
abbrev pub Wrote : Tabled → Tabled → Type 0
Wrote (On p tables) (On q left) = Extends p.process q.process
Wrote (On p tables) NotLegal = Unit {0}
Wrote NotLegal (On q left) = ⊥
Wrote NotLegal NotLegal = Unit {0}

either : (b : Bool) (p q r : Tabled) → Wrote p q → Wrote p r → Wrote p (if b then q else r)
either true p q r first second = first
either false p q r first second = second

-- what only moves control, the machine or the manager writes nothing
keeps : (p q : Managed) (tables left : List Table) → q.process.out ≡ p.process.out → q.process.err ≡ p.process.err → Wrote (On p tables) (On q left)
keeps p q tables left out err = extends_same p.process q.process out err

loading : (bytes : List ℕ) (p : Managed) (tables left : List Table) (t : State) (trap : Trap) (seats : List Seat) (short : Option ℕ) → Wrote (On p tables) (On (loaded_by bytes p t trap seats short) left)
loading bytes p tables left t trap seats None = keeps p (loaded_by bytes p t trap seats None) tables left refl refl
loading bytes p tables left t trap seats (Some v) = keeps p (loaded_by bytes p t trap seats (Some v)) tables left refl refl

walking : (bytes : List ℕ) (p : Managed) (tables : List Table) (t : State) (trap : Trap) (links : Result (List Link) ℕ) → Wrote (On p tables) (chained bytes p tables t trap links)
walking bytes p tables t trap (Ok links) =
    let seats : List Seat = seats_of p.manager.ring.sizes (next_table tables) in
    either (is_legal_table p.manager.ring.sizes p.manager.ring.room trap.overlay (next_table tables)) (On p tables) (On (seated bytes p t trap seats) (later_tables tables)) NotLegal
    (loading bytes p tables (later_tables tables) t trap seats (short_from bytes 0 p.manager.entries (table_by p.manager p.manager.ring.seats) (table_by p.manager seats))) tt
walking bytes p tables t trap (Err bad) = keeps p (is_stopped p (why.BadChain bad) p.manager) tables tables refl refl

trapping : (bytes : List ℕ) (p : Managed) (tables : List Table) (t : State) (found : Option Trap) → Wrote (On p tables) (trapped bytes p tables t found)
trapping bytes p tables t None = keeps p (is_stopped p why.NoStub p.manager) tables tables refl refl
trapping bytes p tables t (Some trap) =
    let on : Managed = with_trap (goes_on p (refused p.manager.error_routine t) p.manager) in
    either (is_refused p.manager.installed t trap) (On p tables) (On on tables) (chained bytes p tables t trap (chain_of p.manager.marked t)) (keeps p on tables tables refl refl) (walking bytes p tables t trap (chain_of p.manager.marked t))

clearing_by : (p : Managed) (tables : List Table) (t : State) (links : Result (List Link) ℕ) → Extends p.process (emptied_by p t links).process
clearing_by p tables t (Ok links) = extends_same p.process (emptied p t).process refl refl
clearing_by p tables t (Err bad) = let q : Managed = is_stopped p (why.BadChain bad) p.manager in extends_same p.process q.process refl refl

clearing_if : (b : Bool) (p : Managed) (t : State) (links : Result (List Link) ℕ) → Extends p.process (let q : Managed = if b then emptied p t else emptied_by p t links in q.process)
clearing_if true p t links = extends_same p.process (emptied p t).process refl refl
clearing_if false p t links = clearing_by p [] t links

interrupting : (bytes : List ℕ) (p : Managed) (tables : List Table) (t : State) (n : ℕ) → Wrote (On p tables) (interrupted bytes p tables t n)
interrupting bytes p tables t n =
    let plain : Managed = record p { process = serviced p.process t n } in
    either (n == 63) (On p tables) (trapped bytes p tables t (trap_of p.manager.stubs t)) (if n == 96 then On (all_out p t) tables else On plain tables)
    (trapping bytes p tables t (trap_of p.manager.stubs t))
    (either (n == 96) (On p tables) (On (all_out p t) tables) (On plain tables) (clearing_if (length p.manager.stubs == 0) p t (chain_of p.manager.marked t)) (service_extends p.process t n))

event_writes : (bytes : List ℕ) (p : Managed) (tables : List Table) (t : State) (event : Event) → Wrote (On p tables) (after_event bytes p tables t event)
event_writes bytes p tables t (Service n) = interrupting bytes p tables t n
event_writes bytes p tables t Ran = step_extends p.process t Ran
event_writes bytes p tables t Divide = step_extends p.process t Divide
event_writes bytes p tables t (Unknown cs ip) = step_extends p.process t (Unknown cs ip)

wrote_same : (p : Tabled) → Wrote p p
wrote_same (On p tables) = extends_same p.process p.process refl refl
wrote_same NotLegal = tt

wrote_both : (p q r : Tabled) → Wrote p q → Wrote q r → Wrote p r
wrote_both (On p tables) (On q left) (On r rest) a b = extends_both p.process q.process r.process a b
wrote_both (On p tables) (On q left) NotLegal a b = tt
wrote_both (On p tables) NotLegal (On r rest) a b = absurd b
wrote_both (On p tables) NotLegal NotLegal a b = tt
wrote_both NotLegal (On q left) r a b = absurd a
wrote_both NotLegal NotLegal (On r rest) a b = absurd b
wrote_both NotLegal NotLegal NotLegal a b = tt

goes_writes : (bytes : List ℕ) (p q : Tabled) → TabledGoes bytes p q → Wrote p q
goes_writes bytes (On p tables) q x = subst (λ (r : Tabled). Wrote (On p tables) r) (sym x.result) (event_writes bytes p tables x.machine x.event)
goes_writes bytes NotLegal q x = absurd x

pub runs_write : (bytes : List ℕ) (n : ℕ) (p q : Tabled) → Events (TabledGoes bytes) n p q → Wrote p q
runs_write bytes n p q x = events_keep (TabledGoes bytes) Wrote wrote_same wrote_both (goes_writes bytes) n p q x
