-- Events of a program whose overlays are put where tables say.
use Rattle.std.proofs.Common.{◌≡◌, ℕ, ◌==◌, Bool, true, false, List, length, Option, None, Some, Ok, refl, sym, ap, ◌∙◌, ne_eqb}
use Rattle.std.specs.Prelude.{if◌then◌else◌}
use Rattle.cpu_8086.specs.declared.machine.Event.{Event}
use Rattle.cpu_8086.specs.declared.machine.Event.TheVariants as events
use Rattle.cpu_8086.specs.Process as process
use Rattle.cpu_8086.specs.Process.{Process, serviced, after_step}
use Rattle.cpu_8086.specs.State.{State}
use Rattle.cpu_8086.specs.Step.{Steps}
use Rattle.frame_links.specs.Links.{Link}
use Rattle.overlay_manager.specs.declared.traps.Trap.{Trap}
use Rattle.overlay_manager.specs.Manager.{table_by, with_seats}
use Rattle.overlay_manager.specs.Traps.{trap_of, is_refused, refused}
use Rattle.overlay_manager.specs.overlay_run.Managed.{Managed, goes_on, with_trap}
use Rattle.overlay_ring.specs.declared.seat.Seat.{Seat}
use Rattle.overlay_ring.specs.Table.{Table, is_legal_table}
use Rattle.return_repair.specs.Chain.{chain_of}
use Rattle.overlay_simulation.specs.Plain.{IsOwn, GoesAlone}
use Rattle.tabled_runs.specs.Tables.{Tabled, On, NotLegal, next_table, later_tables, seats_of, short_from, served_by, loaded_by, seated, chained, trapped, emptied, emptied_by, all_out, after_event, TabledEvent}

-- what a process does alone
after_alone : (bytes : List ℕ) (q : Managed) (tables : List Table) (machine : State) (event : Event) (u : Process) → IsOwn event → u ≡ after_step q.process machine event → On (record q { process = u }) tables ≡ after_event bytes q tables machine event
after_alone bytes q tables machine events.Ran u own e = ap (λ (z : Process). On (record q { process = z }) tables) e
after_alone bytes q tables machine (events.Service n) u own e =
    let alone : Managed = record q { process = serviced q.process machine n } in
    let other : Tabled = if n == 96 then On (all_out q machine) tables else On alone tables in
    ap (λ (z : Process). On (record q { process = z }) tables) e
    ∙ sym (ap (λ (b : Bool). if b then trapped bytes q tables machine (trap_of q.manager.stubs machine) else other) (ne_eqb n 63 own.0) ∙ ap (λ (b : Bool). if b then On (all_out q machine) tables else On alone tables) (ne_eqb n 96 own.1))
after_alone bytes q tables machine events.Divide u own e = ap (λ (z : Process). On (record q { process = z }) tables) e
after_alone bytes q tables machine (events.Unknown cs ip) u own e = ap (λ (z : Process). On (record q { process = z }) tables) e

pub alone_event : (bytes : List ℕ) (q : Managed) (tables : List Table) (u : Process) → GoesAlone q.process u → TabledEvent bytes q tables (On (record q { process = u }) tables)
alone_event bytes q tables u g = record { running = g.running; machine = g.machine; event = g.event; steps = g.steps; result = after_alone bytes q tables g.machine g.event u g.own g.result }

-- ## Traps

module _ (bytes : List ℕ) (q : Managed) (tables : List Table) (t : State) (running : q.process.status ≡ process.Running) (steps : Steps q.process.machine t (events.Service 63)) (trap : Trap) (found : trap_of q.manager.stubs t ≡ Some trap) where
  by_trap : (next : Tabled) → next ≡ trapped bytes q tables t (Some trap) → TabledEvent bytes q tables next
  by_trap next is = record { running = running; machine = t; event = events.Service 63; steps = steps; result = is ∙ ap (trapped bytes q tables t) (sym found) }

  abbrev sent : Managed
  sent = with_trap (goes_on q (refused q.manager.error_routine t) q.manager)

  -- a call while no overlay is installed
  pub refused_event : is_refused q.manager.installed t trap ≡ true → TabledEvent bytes q tables (On sent tables)
  refused_event refuses = by_trap (On sent tables) (sym (ap (λ (b : Bool). if b then On sent tables else chained bytes q tables t trap (chain_of q.manager.marked t)) refuses))

  -- a service takes the next table
  module _ (links : List Link) (serves : is_refused q.manager.installed t trap ≡ false) (chain : chain_of q.manager.marked t ≡ Ok links) where
    abbrev seats : List Seat
    seats = seats_of q.manager.ring.sizes (next_table tables)

    abbrev is_legal : Bool
    is_legal = is_legal_table q.manager.ring.sizes q.manager.ring.room trap.overlay (next_table tables)

    abbrev pub served : Managed
    served = with_trap (goes_on q (served_by q.manager bytes trap seats t) (with_seats q.manager seats))

    walked : trapped bytes q tables t (Some trap) ≡ (if is_legal then On (seated bytes q t trap seats) (later_tables tables) else NotLegal)
    walked = ap (λ (b : Bool). if b then On sent tables else chained bytes q tables t trap (chain_of q.manager.marked t)) serves ∙ ap (chained bytes q tables t trap) chain

    pub illegal_event : is_legal ≡ false → TabledEvent bytes q tables NotLegal
    illegal_event illegal = by_trap NotLegal (sym (walked ∙ ap (λ (b : Bool). if b then On (seated bytes q t trap seats) (later_tables tables) else NotLegal) illegal))

    pub served_event : is_legal ≡ true → short_from bytes 0 q.manager.entries (table_by q.manager q.manager.ring.seats) (table_by q.manager seats) ≡ None → TabledEvent bytes q tables (On served (later_tables tables))
    served_event legal whole =
        by_trap (On served (later_tables tables))
        (sym (walked ∙ ap (λ (b : Bool). if b then On (seated bytes q t trap seats) (later_tables tables) else NotLegal) legal
        ∙ ap (λ (x : Option ℕ). On (loaded_by bytes q t trap seats x) (later_tables tables)) whole))

-- ## Clears

pub clear_event : (bytes : List ℕ) (q : Managed) (tables : List Table) (t : State) (links : List Link) → q.process.status ≡ process.Running → Steps q.process.machine t (events.Service 96) → chain_of q.manager.marked t ≡ Ok links → TabledEvent bytes q tables (On (emptied q t) tables)
clear_event bytes q tables t links running steps chain = record { running = running; machine = t; event = events.Service 96; steps = steps; result = ap (λ (z : Managed). On z tables) (sym (by (length q.manager.stubs == 0))) }
  where
    by : (b : Bool) → (if b then emptied q t else emptied_by q t (chain_of q.manager.marked t)) ≡ emptied q t
    by true = refl
    by false = ap (emptied_by q t) chain
