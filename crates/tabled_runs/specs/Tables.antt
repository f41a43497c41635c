-- The run of a program whose overlays are put where a list of tables says, a table for each service, in place of the ring's choice. What it
-- does is a function of the tables; a service in a state that is not orderly goes on like any other.
use Rattle.std.specs.Prelude.{◌≡◌, ℕ, zero, suc, ◌+◌, ◌*◌, ◌==◌, ◌&&◌, if◌then◌else◌, nat_lt, List, [], ◌∷◌, length, map, slice_index, Option, None, Some, Result, Ok, Err}
use Rattle.cpu_8086.specs.declared.process.Why.TheVariants as why
use Rattle.cpu_8086.specs.declared.machine.Event.{Event}
use Rattle.cpu_8086.specs.declared.machine.Event.TheVariants.{Ran, Service, Divide, Unknown}
use Rattle.cpu_8086.specs.Process.{Running, serviced, after_step}
use Rattle.cpu_8086.specs.State.{State}
use Rattle.cpu_8086.specs.Step.{Steps}
use Rattle.overlay_file.specs.declared.overlay.OvrEntry.{OvrEntry}
use Rattle.overlay_ring.specs.declared.seat.Seat.{Seat}
use Rattle.overlay_ring.specs.Table.{Entry, Table, is_legal_table}
use Rattle.return_repair.specs.declared.table.Loaded.{Loaded}
use Rattle.frame_links.specs.Links.{Link}
use Rattle.return_repair.specs.Chain.{chain_of}
use Rattle.return_repair.specs.Pairs.{saved_at}
use Rattle.overlay_manager.specs.declared.traps.Trap.{Trap}
use Rattle.overlay_manager.specs.Code.{fixups_at}
use Rattle.overlay_manager.specs.Loading.{is_moved}
use Rattle.overlay_manager.specs.Manager.{Manager, load_segment, table_by, with_seats, cleared, cleared_manager}
use Rattle.overlay_manager.specs.Service.{memory_after}
use Rattle.overlay_manager.specs.Traps.{trap_of, is_refused, refused, resumed}
use Rattle.overlay_manager.specs.overlay_run.Managed.{Managed, goes_on, is_stopped, with_trap}

-- A program on its way, with the tables that are left; or one that came to a table that is not legal.
pub data Tabled : Type 0 where
  On : (p : Managed) (tables : List Table) → Tabled
  NotLegal : Tabled

-- The next table and those behind it. Where the list has ended the next one is empty, so that it has no overlay that could be wanted.
abbrev pub next_table : List Table → Table
next_table [] = []
next_table (table ∷ tables) = table

abbrev pub later_tables : List Table → List Table
later_tables [] = []
later_tables (table ∷ tables) = tables

-- the table of one overlay, at the buffer's begin
abbrev pub alone : ℕ → Table
alone overlay = record { overlay = overlay; at = 0 } ∷ []

-- ---- a service by given seats

-- the seat that an entry says, of overlays with these sizes, and those of a table
abbrev pub seat_of : List ℕ → Entry → Seat
seat_of sizes e = record { overlay = e.overlay; at = e.at; size = slice_index sizes e.overlay }

abbrev pub seats_of : List ℕ → Table → List Seat
seats_of sizes table = map (seat_of sizes) table

-- of the overlays from number `v` on the first that is to be loaded and that the file does not have whole
abbrev pub short_from : List ℕ → ℕ → List OvrEntry → List Loaded → List Loaded → Option ℕ
short_from bytes v [] old new = None
short_from bytes v (entry ∷ entries) [] new = None
short_from bytes v (entry ∷ entries) (was ∷ old) [] = None
short_from bytes v (entry ∷ entries) (was ∷ old) (now ∷ new) =
    if is_moved was now && nat_lt (length bytes) (fixups_at entry + 2 * entry.fixups) then Some v else short_from bytes (v + 1) entries old new

-- the machine after a service by which the overlays have these seats
abbrev pub served_by : Manager → List ℕ → Trap → List Seat → State → State
served_by m bytes trap seats s =
    resumed (load_segment m.ring.room seats trap.overlay) (saved_at s.memory s.cs) trap (record s { memory = memory_after m bytes trap.call seats s })

-- all overlays that come or move are loaded, or the process is stopped by one
abbrev pub loaded_by : List ℕ → Managed → State → Trap → List Seat → Option ℕ → Managed
loaded_by bytes p t trap seats None = with_trap (goes_on p (served_by p.manager bytes trap seats t) (with_seats p.manager seats))
loaded_by bytes p t trap seats (Some v) = is_stopped p (why.ShortOverlay v) (with_seats p.manager seats)

abbrev pub seated : List ℕ → Managed → State → Trap → List Seat → Managed
seated bytes p t trap seats =
    loaded_by bytes p t trap seats (short_from bytes 0 p.manager.entries (table_by p.manager p.manager.ring.seats) (table_by p.manager seats))

-- ---- traps

-- a service takes the next table, which must be legal for the overlay that is wanted
abbrev pub served_next : List ℕ → Managed → List Table → State → Trap → Tabled
served_next bytes p tables t trap =
    if is_legal_table p.manager.ring.sizes p.manager.ring.room trap.overlay (next_table tables)
    then On (seated bytes p t trap (seats_of p.manager.ring.sizes (next_table tables))) (later_tables tables)
    else NotLegal

-- the chain of links is walked first
abbrev pub chained : List ℕ → Managed → List Table → State → Trap → Result (List Link) ℕ → Tabled
chained bytes p tables t trap (Ok links) = served_next bytes p tables t trap
chained bytes p tables t trap (Err bad) = On (is_stopped p (why.BadChain bad) p.manager) tables

abbrev pub trapped : List ℕ → Managed → List Table → State → Option Trap → Tabled
trapped bytes p tables t None = On (is_stopped p why.NoStub p.manager) tables
trapped bytes p tables t (Some trap) =
    if is_refused p.manager.installed t trap
    then On (with_trap (goes_on p (refused p.manager.error_routine t) p.manager)) tables
    else chained bytes p tables t trap (chain_of p.manager.marked t)

-- ---- clears

abbrev pub emptied : Managed → State → Managed
emptied p t = goes_on p (record t { memory = cleared p.manager t }) (cleared_manager p.manager t)

abbrev pub emptied_by : Managed → State → Result (List Link) ℕ → Managed
emptied_by p t (Ok links) = emptied p t
emptied_by p t (Err bad) = is_stopped p (why.BadChain bad) p.manager

abbrev pub all_out : Managed → State → Managed
all_out p t = if length p.manager.stubs == 0 then emptied p t else emptied_by p t (chain_of p.manager.marked t)

-- ---- events

-- what INT n does to a program whose machine stands past it, at t
abbrev pub interrupted : List ℕ → Managed → List Table → State → ℕ → Tabled
interrupted bytes p tables t n =
    if n == 63 then trapped bytes p tables t (trap_of p.manager.stubs t)
    else (if n == 96 then On (all_out p t) tables else On (record p { process = serviced p.process t n }) tables)

-- what a step that led to t does
abbrev pub after_event : List ℕ → Managed → List Table → State → Event → Tabled
after_event bytes p tables t (Service n) = interrupted bytes p tables t n
after_event bytes p tables t Ran = On (record p { process = after_step p.process t Ran }) tables
after_event bytes p tables t Divide = On (record p { process = after_step p.process t Divide }) tables
after_event bytes p tables t (Unknown cs ip) = On (record p { process = after_step p.process t (Unknown cs ip) }) tables

-- one event takes a program, which runs, to what comes next
pub record TabledEvent (bytes : List ℕ) (p : Managed) (tables : List Table) (next : Tabled) : Type 0 where
  pub running : p.process.status ≡ Running
  pub machine : State
  pub event : Event
  pub steps : Steps p.process.machine machine event
  pub result : next ≡ after_event bytes p tables machine event

abbrev pub TabledGoes : List ℕ → Tabled → Tabled → Type 0
TabledGoes bytes (On p tables) next = TabledEvent bytes p tables next
TabledGoes bytes NotLegal next = ⊥

-- n events take p to q, while the overlay file holds these bytes
abbrev pub TabledRuns : List ℕ → ℕ → Tabled → Tabled → Type 0
TabledRuns bytes zero p q = p ≡ q
TabledRuns bytes (suc n) p q = (middle : Tabled) × TabledGoes bytes p middle × TabledRuns bytes n middle q
