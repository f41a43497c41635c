-- Runs by given tables, and the tables that come later: what a run did it does with others behind those that it took, and behind a table that
-- is not legal it can be taken further by one that is.
use Rattle.std.proofs.Common.{◌≡◌, ℕ, zero, suc, ◌+◌, ◌==◌, ◌<◌, ◌≤◌, Bool, true, false, List, [], ◌∷◌, length, map, Option, None, Some, Result, Ok, Err, refl, sym, ap, ◌∙◌, subst, inl, inr, arith}
use Rattle.std.specs.Prelude.{◌⊎◌, if◌then◌else◌, nat_lt, nat_le, slice_index}
use Rattle.std.proofs.lemmas.Bool.Decides.{nat_tests}
use Rattle.std.proofs.lemmas.List.{length-map}
use Rattle.cpu_8086.specs.declared.process.Why.TheVariants as why
use Rattle.cpu_8086.specs.declared.machine.Event.{Event}
use Rattle.cpu_8086.specs.declared.machine.Event.TheVariants.{Ran, Service, Divide, Unknown}
use Rattle.cpu_8086.specs.Process.{serviced, after_step}
use Rattle.cpu_8086.specs.State.{State}
use Rattle.mz_file.specs.Format.{exe_of}
use Rattle.mz_file.specs.Load.{loaded_segment}
use Rattle.overlay_ring.specs.declared.seat.Seat.{Seat}
use Rattle.overlay_ring.specs.Table.{Table, is_legal_table}
use Rattle.frame_links.specs.Links.{Link}
use Rattle.return_repair.specs.Chain.{chain_of}
use Rattle.overlay_manager.specs.declared.traps.Trap.{Trap}
use Rattle.overlay_manager.specs.Manager as manager
use Rattle.overlay_manager.specs.Manager.{Manager, paragraphs_of, with_seats, table_by}
use Rattle.overlay_manager.specs.Traps.{trap_of, is_refused, refused}
use Rattle.overlay_manager.specs.overlay_run.Managed.{Managed, goes_on, is_stopped, with_trap}
use Rattle.dos_runner.specs.opened_program.Opening.{room_of, start_manager, IsOpened}
use Rattle.overlay_correctness.proofs.OpenedLaws.{size_within}
use Rattle.tabled_runs.proofs.TrapLaws.{trap_inside}
use Rattle.tabled_runs.specs.Tables.{Tabled, On, NotLegal, alone, next_table, later_tables, seats_of, short_from, loaded_by, seated, served_next, chained, trapped, emptied, emptied_by, all_out, interrupted, after_event, TabledEvent, TabledGoes, TabledRuns}
use Rattle.compiler_correctness.proofs.Tabled.{on_legal}

-- ---- what an event does with the tables

-- what no event changes: where the stubs are, and by what tables are legal
pub record Fixed : Type 0 where
  pub stubs : List ℕ
  pub sizes : List ℕ
  pub room : ℕ

abbrev pub fixed : Manager → Fixed
fixed m = record { stubs = m.stubs; sizes = m.ring.sizes; room = m.ring.room }

-- An event takes no table, or serves a trap by the next one.
abbrev Takes : List ℕ → Managed → State → (List Table → Tabled) → Type 0
Takes bytes p t next =
    ((q : Managed) × (fixed q.manager ≡ fixed p.manager) × ((tables : List Table) → next tables ≡ On q tables))
    ⊎ ((trap : Trap) × (trap_of p.manager.stubs t ≡ Some trap) × ((tables : List Table) → next tables ≡ served_next bytes p tables t trap))

takes_none : (bytes : List ℕ) (p : Managed) (t : State) (q : Managed) → fixed q.manager ≡ fixed p.manager → Takes bytes p t (λ tables. On q tables)
takes_none bytes p t q same = inl (q, same, λ tables. refl)

takes_if : (bytes : List ℕ) (p : Managed) (t : State) (b : Bool) (f g : List Table → Tabled) → Takes bytes p t f → Takes bytes p t g → Takes bytes p t (λ tables. if b then f tables else g tables)
takes_if bytes p t true f g first second = first
takes_if bytes p t false f g first second = second

takes_chained : (bytes : List ℕ) (p : Managed) (t : State) (trap : Trap) → trap_of p.manager.stubs t ≡ Some trap → (links : Result (List Link) ℕ) → Takes bytes p t (λ tables. chained bytes p tables t trap links)
takes_chained bytes p t trap found (Ok links) = inr (trap, found, λ tables. refl)
takes_chained bytes p t trap found (Err bad) = takes_none bytes p t (is_stopped p (why.BadChain bad) p.manager) refl

takes_trapped : (bytes : List ℕ) (p : Managed) (t : State) (found : Option Trap) → trap_of p.manager.stubs t ≡ found → Takes bytes p t (λ tables. trapped bytes p tables t found)
takes_trapped bytes p t None is = takes_none bytes p t (is_stopped p why.NoStub p.manager) refl
takes_trapped bytes p t (Some trap) is =
    let on : Managed = with_trap (goes_on p (refused p.manager.error_routine t) p.manager) in
    takes_if bytes p t (is_refused p.manager.installed t trap) (λ tables. On on tables) (λ tables. chained bytes p tables t trap (chain_of p.manager.marked t)) (takes_none bytes p t on refl)
    (takes_chained bytes p t trap is (chain_of p.manager.marked t))

cleared_fixed : (b : Bool) (m : Manager) (t : State) → fixed (if b then with_seats m [] else manager.emptied m t) ≡ fixed m
cleared_fixed true m t = refl
cleared_fixed false m t = refl

emptied_fixed : (p : Managed) (t : State) → fixed (emptied p t).manager ≡ fixed p.manager
emptied_fixed p t = cleared_fixed (length p.manager.stubs == 0) p.manager t

out_fixed : (b : Bool) (p : Managed) (t : State) (links : Result (List Link) ℕ) → fixed (let q : Managed = if b then emptied p t else emptied_by p t links in q.manager) ≡ fixed p.manager
out_fixed true p t links = emptied_fixed p t
out_fixed false p t (Ok links) = emptied_fixed p t
out_fixed false p t (Err bad) = refl

takes_interrupted : (bytes : List ℕ) (p : Managed) (t : State) (n : ℕ) → Takes bytes p t (λ tables. interrupted bytes p tables t n)
takes_interrupted bytes p t n =
    let plain : Managed = record p { process = serviced p.process t n } in
    takes_if bytes p t (n == 63) (λ tables. trapped bytes p tables t (trap_of p.manager.stubs t)) (λ tables. if n == 96 then On (all_out p t) tables else On plain tables)
    (takes_trapped bytes p t (trap_of p.manager.stubs t) refl)
    (takes_if bytes p t (n == 96) (λ tables. On (all_out p t) tables) (λ tables. On plain tables)
    (takes_none bytes p t (all_out p t) (out_fixed (length p.manager.stubs == 0) p t (chain_of p.manager.marked t))) (takes_none bytes p t plain refl))

takes_event : (bytes : List ℕ) (p : Managed) (t : State) (event : Event) → Takes bytes p t (λ tables. after_event bytes p tables t event)
takes_event bytes p t (Service n) = takes_interrupted bytes p t n
takes_event bytes p t Ran = let q : Managed = record p { process = after_step p.process t Ran } in takes_none bytes p t q refl
takes_event bytes p t Divide = let q : Managed = record p { process = after_step p.process t Divide } in takes_none bytes p t q refl
takes_event bytes p t (Unknown cs ip) = let q : Managed = record p { process = after_step p.process t (Unknown cs ip) } in takes_none bytes p t q refl

-- ---- one event

abbrev on_program : Managed → Tabled → Managed
on_program other (On p tables) = p
on_program other NotLegal = other

-- where a trap was served, the table was legal
served_on : (bytes : List ℕ) (p q : Managed) (tables left : List Table) (t : State) (trap : Trap) → On q left ≡ served_next bytes p tables t trap
    → (is_legal_table p.manager.ring.sizes p.manager.ring.room trap.overlay (next_table tables) ≡ true) × (q ≡ seated bytes p t trap (seats_of p.manager.ring.sizes (next_table tables)))
served_on bytes p q tables left t trap e = by (is_legal_table p.manager.ring.sizes p.manager.ring.room trap.overlay (next_table tables)) refl
  where
    choose : Bool → Tabled
    choose b = if b then On (seated bytes p t trap (seats_of p.manager.ring.sizes (next_table tables))) (later_tables tables) else NotLegal

    by : (b : Bool) → is_legal_table p.manager.ring.sizes p.manager.ring.room trap.overlay (next_table tables) ≡ b
        → (is_legal_table p.manager.ring.sizes p.manager.ring.room trap.overlay (next_table tables) ≡ true) × (q ≡ seated bytes p t trap (seats_of p.manager.ring.sizes (next_table tables)))
    by true legal = (legal, ap (on_program q) (e ∙ ap choose legal))
    by false illegal = absurd (on_legal q left (e ∙ ap choose illegal))

-- what is served by a legal table
served_by_legal : (bytes : List ℕ) (p : Managed) (table : Table) (later : List Table) (t : State) (trap : Trap) → is_legal_table p.manager.ring.sizes p.manager.ring.room trap.overlay table ≡ true
    → served_next bytes p (table ∷ later) t trap ≡ On (seated bytes p t trap (seats_of p.manager.ring.sizes table)) later
served_by_legal bytes p table later t trap legal = ap (λ (b : Bool). if b then On (seated bytes p t trap (seats_of p.manager.ring.sizes table)) later else NotLegal) legal

-- what an event did it does with other tables behind the one that it took
event_with : (bytes : List ℕ) (p q : Managed) (tables left later : List Table) → TabledEvent bytes p tables (On q left) → (taken : List Table) × TabledEvent bytes p taken (On q later)
event_with bytes p q tables left later x = by (takes_event bytes p x.machine x.event)
  where
    by : Takes bytes p x.machine (λ tables. after_event bytes p tables x.machine x.event) → (taken : List Table) × TabledEvent bytes p taken (On q later)
    by (inl free) =
        let same : q ≡ free.0 = ap (on_program q) (x.result ∙ free.2 tables) in
        (later, record { running = x.running; machine = x.machine; event = x.event; steps = x.steps; result = ap (λ (r : Managed). On r later) same ∙ sym (free.2 later) })
    by (inr served) =
        let so = served_on bytes p q tables left x.machine served.0 (x.result ∙ served.2 tables) in (
          next_table tables ∷ later,
          record {
            running = x.running;
            machine = x.machine;
            event = x.event;
            steps = x.steps;
            result = ap (λ (r : Managed). On r later) so.1 ∙ sym (served.2 (next_table tables ∷ later) ∙ served_by_legal bytes p (next_table tables) later x.machine served.0 so.0);
          },
        )

loaded_fixed : (bytes : List ℕ) (p : Managed) (t : State) (trap : Trap) (seats : List Seat) (short : Option ℕ) → fixed (loaded_by bytes p t trap seats short).manager ≡ fixed p.manager
loaded_fixed bytes p t trap seats None = refl
loaded_fixed bytes p t trap seats (Some v) = refl

event_fixed : (bytes : List ℕ) (p q : Managed) (tables left : List Table) → TabledEvent bytes p tables (On q left) → fixed q.manager ≡ fixed p.manager
event_fixed bytes p q tables left x = by (takes_event bytes p x.machine x.event)
  where
    by : Takes bytes p x.machine (λ tables. after_event bytes p tables x.machine x.event) → fixed q.manager ≡ fixed p.manager
    by (inl free) =
        let same : q ≡ free.0 = ap (on_program q) (x.result ∙ free.2 tables) in
        ap (λ (r : Managed). fixed r.manager) same ∙ free.1
    by (inr served) =
        let so = served_on bytes p q tables left x.machine served.0 (x.result ∙ served.2 tables) in
        let seats : List Seat = seats_of p.manager.ring.sizes (next_table tables) in
        ap (λ (r : Managed). fixed r.manager) so.1
        ∙ loaded_fixed bytes p x.machine served.0 seats (short_from bytes 0 p.manager.entries (table_by p.manager p.manager.ring.seats) (table_by p.manager seats))

-- ---- runs

illegal_stays : (bytes : List ℕ) (n : ℕ) (q : Managed) (left : List Table) → TabledRuns bytes n NotLegal (On q left) → ⊥
illegal_stays bytes zero q left x = on_legal q left (sym x)
illegal_stays bytes (suc n) q left x = x.1

-- what comes to a program on its way was one
was_on : (bytes : List ℕ) (n : ℕ) (s : Tabled) (q : Managed) (left : List Table) → TabledRuns bytes n s (On q left) → (p : Managed) × (tables : List Table) × (s ≡ On p tables)
was_on bytes n (On p tables) q left x = (p, tables, refl)
was_on bytes n NotLegal q left x = absurd (illegal_stays bytes n q left x)

-- what a run did it does with other tables behind those that it took
pub run_with : (bytes : List ℕ) (n : ℕ) (p q : Managed) (tables left later : List Table) → TabledRuns bytes n (On p tables) (On q left) → (taken : List Table) × TabledRuns bytes n (On p taken) (On q later)
run_with bytes zero p q tables left later x = (later, ap (λ (r : Managed). On r later) (ap (on_program p) x))
run_with bytes (suc n) p q tables left later x =
    let m = was_on bytes n x.0 q left x.2 in
    let goes : TabledGoes bytes (On p tables) (On m.0 m.1) = subst (λ (s : Tabled). TabledGoes bytes (On p tables) s) m.2 x.1 in
    let rest : TabledRuns bytes n (On m.0 m.1) (On q left) = subst (λ (s : Tabled). TabledRuns bytes n s (On q left)) m.2 x.2 in
    let after = run_with bytes n m.0 q m.1 left later rest in
    let event = event_with bytes p m.0 tables m.1 after.0 goes in
    (event.0, (On m.0 after.0, event.1, after.1))

pub run_fixed : (bytes : List ℕ) (n : ℕ) (p q : Managed) (tables left : List Table) → TabledRuns bytes n (On p tables) (On q left) → fixed q.manager ≡ fixed p.manager
run_fixed bytes zero p q tables left x = ap (λ (r : Managed). fixed r.manager) (ap (on_program q) (sym x))
run_fixed bytes (suc n) p q tables left x =
    let m = was_on bytes n x.0 q left x.2 in
    let goes : TabledGoes bytes (On p tables) (On m.0 m.1) = subst (λ (s : Tabled). TabledGoes bytes (On p tables) s) m.2 x.1 in
    let rest : TabledRuns bytes n (On m.0 m.1) (On q left) = subst (λ (s : Tabled). TabledRuns bytes n s (On q left)) m.2 x.2 in
    run_fixed bytes n m.0 q m.1 left rest ∙ event_fixed bytes p m.0 tables m.1 goes

-- a run of n events from p to a table that is not legal, by the program that asked for it
pub record Asked (bytes : List ℕ) (n : ℕ) (p : Managed) (left : List Table) : Type 0 where
  pub before : ℕ
  pub at : Managed
  pub tables : List Table
  pub way : TabledRuns bytes before (On p left) (On at tables)
  pub event : TabledEvent bytes at tables NotLegal
  pub count : n ≡ before + 1

kind_of : (s : Tabled) → (s ≡ NotLegal) ⊎ ((p : Managed) × (tables : List Table) × (s ≡ On p tables))
kind_of NotLegal = inl refl
kind_of (On p tables) = inr (p, tables, refl)

none_behind : (bytes : List ℕ) (n : ℕ) → TabledRuns bytes n NotLegal NotLegal → n ≡ 0
none_behind bytes zero x = refl
none_behind bytes (suc n) x = absurd x.1

pub asked : (bytes : List ℕ) (n : ℕ) (p : Managed) (left : List Table) → TabledRuns bytes n (On p left) NotLegal → Asked bytes n p left
asked bytes zero p left x = absurd (on_legal p left x)
asked bytes (suc n) p left x = elim (kind_of x.0) [
  | inl bad ↦ let goes : TabledGoes bytes (On p left) NotLegal = subst (λ (s : Tabled). TabledGoes bytes (On p left) s) bad x.1 in
      let none = none_behind bytes n (subst (λ (s : Tabled). TabledRuns bytes n s NotLegal) bad x.2) in
      record { before = 0; at = p; tables = left; way = refl; event = goes; count = omega (arith, none) }
  | inr on ↦ let goes : TabledGoes bytes (On p left) (On on.0 on.1) = subst (λ (s : Tabled). TabledGoes bytes (On p left) s) on.2 x.1 in
      let found = asked bytes n on.0 on.1 (subst (λ (s : Tabled). TabledRuns bytes n s NotLegal) on.2 x.2) in
      record { before = suc found.before; at = found.at; tables = found.tables; way = (On on.0 on.1, goes, found.way); event = found.event; count = omega (arith, found.count) }
]

pub one_more : (bytes : List ℕ) (n : ℕ) (p q r : Tabled) → TabledRuns bytes n p q → TabledGoes bytes q r → TabledRuns bytes (n + 1) p r
one_more bytes zero p q r runs goes = (r, subst (λ (s : Tabled). TabledGoes bytes s r) (sym runs) goes, refl)
one_more bytes (suc n) p q r runs goes =
    let e : suc (n + 1) ≡ suc n + 1 = omega arith in
    let longer : TabledRuns bytes (suc (n + 1)) p r = (runs.0, runs.1, one_more bytes n runs.0 q r runs.2 goes) in
    subst (λ (k : ℕ). TabledRuns bytes k p r) e longer

-- ---- legal tables

-- each overlay that a trap can ask for has room by itself
abbrev pub HasRoom : Fixed → Type 0
HasRoom f = (t : State) (trap : Trap) → trap_of f.stubs t ≡ Some trap → is_legal_table f.sizes f.room trap.overlay (alone trap.overlay) ≡ true

-- a program that came to a table that is not legal would have gone on by another
pub mended : (bytes : List ℕ) (p : Managed) (tables : List Table) → HasRoom (fixed p.manager) → TabledEvent bytes p tables NotLegal → (table : Table) × (q : Managed) × TabledEvent bytes p (table ∷ []) (On q [])
mended bytes p tables has_room x = by (takes_event bytes p x.machine x.event)
  where
    by : Takes bytes p x.machine (λ tables. after_event bytes p tables x.machine x.event) → (table : Table) × (q : Managed) × TabledEvent bytes p (table ∷ []) (On q [])
    by (inl free) = absurd (on_legal free.0 tables (sym (x.result ∙ free.2 tables)))
    by (inr served) =
        let table : Table = alone served.0.overlay in
        let legal = has_room x.machine served.0 served.1 in (
          table,
          seated bytes p x.machine served.0 (seats_of p.manager.ring.sizes table),
          record {
            running = x.running;
            machine = x.machine;
            event = x.event;
            steps = x.steps;
            result = sym (served.2 (table ∷ []) ∙ served_by_legal bytes p table [] x.machine served.0 legal);
          },
        )

pub opened_room : (exe name : List ℕ) (held : Option (List ℕ)) (buffer : Option ℕ) (state : State) (m : Manager) → IsOpened exe name held buffer state m → HasRoom (fixed m)
opened_room exe name held buffer state m opened = subst (λ (m : Manager). HasRoom (fixed m)) (sym opened.manager_is) has_room
  where
    sizes : List ℕ
    sizes = map paragraphs_of opened.overlays

    room : ℕ
    room = room_of buffer opened.overlays

    has_room : HasRoom (fixed (start_manager (exe_of exe) name opened.overlays room))
    has_room t trap found =
        let inside = trap_inside (map loaded_segment (exe_of exe).block.stubs) t trap found in
        let stubs = length-map (exe_of exe).block.stubs loaded_segment in
        let overlays : trap.overlay < length opened.overlays = omega (arith, inside, stubs, opened.fit.together.same) in
        let known : trap.overlay < length sizes = omega (arith, overlays, length-map opened.overlays paragraphs_of) in
        let size = size_within opened.overlays trap.overlay overlays in
        let enough = opened.fit.enough in
        let small : 0 + slice_index sizes trap.overlay ≤ room = omega (arith, size, enough) in
        let a : nat_lt trap.overlay (length sizes) ≡ true = grind (arith, nat_tests) in
        let b : nat_le (0 + slice_index sizes trap.overlay) room ≡ true = grind (arith, nat_tests) in
        let c : (trap.overlay == trap.overlay) ≡ true = grind (arith, nat_tests) in
        rw (a, b, c) refl
