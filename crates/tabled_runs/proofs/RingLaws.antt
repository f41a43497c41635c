-- What the ring chooses is a table that is legal, so that a run by the ring is one by tables.
use Rattle.std.proofs.Common.{◌≡◌, ◌⊎◌, inl, inr, ℕ, zero, suc, ◌+◌, ◌*◌, ◌<◌, ◌≤◌, ◌==◌, ◌&&◌, Bool, true, false, List, [], ◌∷◌, ◌++◌, length, Option, None, Some, MatchBool, MatchResult, Result, Ok, Err, refl, sym, ap, ap₂, ◌∙◌, subst, arith}
use Rattle.std.specs.List.{AllByRecursion}
use Rattle.std.specs.Prelude.{IsTrue, IfSome, if◌then◌else◌, nat_lt, slice_get}
use Rattle.std.proofs.lemmas.Bool.{cases_lt}
use Rattle.std.proofs.lemmas.Bool.Decides.{nat_tests}
use Rattle.std.proofs.lemmas.List.{length-map}
use Rattle.cpu_8086.specs.declared.process.Why.TheVariants as why
use Rattle.cpu_8086.specs.declared.machine.Event.{Event}
use Rattle.cpu_8086.specs.declared.machine.Event.TheVariants as events
use Rattle.cpu_8086.specs.Process.{serviced, after_step}
use Rattle.cpu_8086.specs.State.{State}
use Rattle.frame_links.specs.Links.{Link}
use Rattle.overlay_file.specs.declared.overlay.OvrEntry.{OvrEntry}
use Rattle.overlay_manager.specs.declared.tally.Tally.{Tally}
use Rattle.overlay_manager.specs.declared.traps.Trap.{Trap}
use Rattle.overlay_manager.specs.Code.{fixups_at}
use Rattle.overlay_manager.specs.Loading.{is_moved, IsWhole}
use Rattle.overlay_manager.specs.Manager as manager
use Rattle.overlay_manager.specs.Manager.{Manager, table_by, with_seats, cleared, cleared_manager}
use Rattle.overlay_manager.specs.Service.{seats_after, served_manager}
use Rattle.overlay_manager.specs.Stops.{IsShortAt, AreWholeBefore, StopsShort}
use Rattle.overlay_manager.specs.declared.serving.ServiceStop.TheVariants as stops
use Rattle.overlay_manager.specs.Traps.{trap_of, is_refused, refused}
use Rattle.overlay_manager.specs.overlay_run.Managed.{Managed, goes_on, is_stopped, with_trap, IsLoaded, IsTrappedIn, IsClearedBy, IsServicedAs, IsAfter, ManagedRuns}
use Rattle.overlay_ring.specs.declared.seat.Seat.{Seat}
use Rattle.overlay_ring.specs.Ring.{retry_after}
use Rattle.overlay_ring.specs.Seats.{table_of, HasItsSize, IsSeating}
use Rattle.overlay_ring.specs.Table.{Table, is_legal_table}
use Rattle.overlay_ring.proofs.Decided.{is_legal_table-decides}
use Rattle.overlay_ring.proofs.Wanted.{retry_after-legal}
use Rattle.return_repair.specs.declared.table.Loaded.{Loaded}
use Rattle.return_repair.specs.Chain.{chain_of}
use Rattle.return_repair.specs.Follows.{overlay_at}
use Rattle.tabled_runs.specs.Ringed.{HasRing, counting, IsTabled}
use Rattle.tabled_runs.specs.Tables.{Tabled, On, NotLegal, seats_of, short_from, loaded_by, chained, trapped, seated, emptied, emptied_by, all_out, after_event, TabledRuns}
use Rattle.std.proofs.lemmas.List.{append_assoc, get_or_past}
use Rattle.overlay_ring.specs.Ring.{Load, load_of, after_load, reprieved_for, with_reprieved}
use Rattle.overlay_ring.specs.Seats.{is_seated, AreOverlays}
use Rattle.overlay_ring.proofs.Packing.{retry-sound}
use Rattle.overlay_manager.specs.Manager.{paragraphs_of, sent_out}
use Rattle.overlay_manager.proofs.LoadLaws.{moved_some}
use Rattle.overlay_manager.proofs.TableLaws.{length-table_from}
use Rattle.return_repair.specs.Repair.{no_overlay}
use Rattle.tabled_runs.proofs.TrapLaws.{trap_inside}

-- ## The ring's seats as a table

-- seats as large as their overlays are those of their table
seats_again : (sizes : List ℕ) (seats : List Seat) → AllByRecursion (HasItsSize sizes) seats → seats_of sizes (table_of seats) ≡ seats
seats_again sizes [] sized = refl
seats_again sizes (s ∷ seats) sized =
    ap₂ (λ (first : Seat) (others : List Seat). first ∷ others) (ap (λ (size : ℕ). let seat : Seat = record { overlay = s.overlay; at = s.at; size = size } in seat) (sym sized.0)) (seats_again sizes seats sized.1)

-- ## What the file has

none_short : (bytes : List ℕ) (v : ℕ) (entries : List OvrEntry) (old new : List Loaded) → ((w : ℕ) (entry : OvrEntry) → slice_get entries w ≡ Some entry → 0 < entry.size)
    → ((w : ℕ) → IsTrue (is_moved (overlay_at old w) (overlay_at new w)) → IfSome (slice_get entries w) (λ entry. 0 < entry.size → IsWhole bytes entry)) → short_from bytes v entries old new ≡ None
none_short bytes v [] old new some whole = refl
none_short bytes v (entry ∷ entries) [] new some whole = refl
none_short bytes v (entry ∷ entries) (was ∷ old) [] some whole = refl
none_short bytes v (entry ∷ entries) (was ∷ old) (now ∷ new) some whole =
    by (is_moved was now) refl ∙ none_short bytes (v + 1) entries old new (λ w other found. some (suc w) other found) (λ w moved. whole (suc w) moved)
  where
    by : (moved : Bool) → is_moved was now ≡ moved → (if moved && nat_lt (length bytes) (fixups_at entry + 2 * entry.fixups) then Some v else short_from bytes (v + 1) entries old new) ≡ short_from bytes (v + 1) entries old new
    by true moved =
        let has = whole 0 moved (some 0 entry refl) in
        let fits : nat_lt (length bytes) (fixups_at entry + 2 * entry.fixups) ≡ false = grind (arith, nat_tests) in
        rw fits refl
    by false kept = refl

first_short : (bytes : List ℕ) (u w : ℕ) (entries : List OvrEntry) (old new : List Loaded) → ((w : ℕ) (entry : OvrEntry) → slice_get entries w ≡ Some entry → 0 < entry.size) → w < length entries → length old ≡ length entries → length new ≡ length entries
    → IsTrue (is_moved (overlay_at old w) (overlay_at new w)) → IsShortAt bytes entries w → AreWholeBefore bytes entries old new w → short_from bytes u entries old new ≡ Some (u + w)
first_short bytes u w [] old new some inside a b moved short before = absurd (omega arith)
first_short bytes u w (entry ∷ entries) [] new some inside a b moved short before = absurd (omega arith)
first_short bytes u w (entry ∷ entries) (was ∷ old) [] some inside a b moved short before = absurd (omega arith)
first_short bytes u zero (entry ∷ entries) (was ∷ old) (now ∷ new) some inside a b moved short before =
    let less : nat_lt (length bytes) (fixups_at entry + 2 * entry.fixups) ≡ true = grind (arith, nat_tests) in
    let same : u ≡ u + 0 = omega arith in
    rw (moved, less) (ap Some same)
first_short bytes u (suc w) (entry ∷ entries) (was ∷ old) (now ∷ new) some inside a b moved short before =
    let same : u + 1 + w ≡ u + suc w = omega arith in
    by (is_moved was now) refl
    ∙ first_short bytes (u + 1) w entries old new (λ k other found. some (suc k) other found) (omega arith) (omega arith) (omega arith) moved short (λ k less. before (suc k) (omega arith))
    ∙ ap Some same
  where
    by : (first : Bool) → is_moved was now ≡ first → (if first && nat_lt (length bytes) (fixups_at entry + 2 * entry.fixups) then Some u else short_from bytes (u + 1) entries old new) ≡ short_from bytes (u + 1) entries old new
    by true is =
        let has = before 0 (omega arith) is (some 0 entry refl) in
        let fits : nat_lt (length bytes) (fixups_at entry + 2 * entry.fixups) ≡ false = grind (arith, nat_tests) in
        rw fits refl
    by false is = refl

-- ## The ring

-- the seats that the ring chooses are seats again
seated_after : (sizes : List ℕ) (room : ℕ) (live : List Bool) (most wanted : ℕ) (seats : List Seat) → AreOverlays room sizes → wanted < length sizes → IsSeating sizes room seats → IsSeating sizes room (retry_after sizes room live most wanted seats)
seated_after sizes room live most wanted seats overlays known seating = by (is_seated wanted seats) refl
  where
    load : Load
    load = load_of sizes room wanted seats

    by : (there : Bool) → is_seated wanted seats ≡ there → IsSeating sizes room (if there then seats else with_reprieved (reprieved_for live most load room wanted seats) (after_load load wanted seats))
    by true there = seating
    by false absent = retry-sound sizes room live most wanted seats overlays known seating absent

-- ## An event

-- There is a table, or none, by which a program comes where it came by the ring.
record Reaches (next : List Table → Tabled) (retry : ℕ) (q : Managed) : Type 0 where
  taken : List Table
  tally : Tally
  traps : ℕ
  comes : (later : List Table) → On (counting q retry tally traps) later ≡ next (taken ++ later)
  ring : HasRing q.manager

module _ (bytes : List ℕ) (p : Managed) (ring : HasRing p.manager) (retry : ℕ) (tally : Tally) (traps : ℕ) (t : State) where
  abbrev m : Manager
  m = p.manager

  abbrev at : Managed
  at = counting p retry tally traps

  -- one that takes no table
  takes_none : (next : List Table → Tabled) (w q : Managed) (more : Tally) (count : ℕ) → q ≡ w → HasRing w.manager → ((later : List Table) → On (counting w retry more count) later ≡ next later) → Reaches next retry q
  takes_none next w q more count is held comes = subst (Reaches next retry) (sym is) (record { taken = []; tally = more; traps = count; comes = comes; ring = held })

  with_ring : (seats : List Seat) (more : Tally) → IsSeating m.ring.sizes m.ring.room seats → HasRing (record m { ring = record m.ring { seats = seats }; tally = more })
  with_ring seats more seating = record { count = ring.count; sizes = ring.sizes; some = ring.some; overlays = ring.overlays; seating = seating }

  -- ## A service

  module _ (trap : Trap) (found : trap_of m.stubs t ≡ Some trap) where
    abbrev seats : List Seat
    seats = seats_after m trap t

    known : trap.overlay < length m.ring.sizes
    known =
        let inside = trap_inside m.stubs t trap found in
        let sizes : length m.ring.sizes ≡ length m.entries = ap length (sym ring.sizes) ∙ length-map m.entries paragraphs_of in
        let count = ring.count in
        omega arith

    seating : IsSeating m.ring.sizes m.ring.room seats
    seating = seated_after m.ring.sizes m.ring.room _ m.retry trap.overlay m.ring.seats ring.overlays known ring.seating

    legal : is_legal_table m.ring.sizes m.ring.room trap.overlay (table_of seats) ≡ true
    legal = (is_legal_table-decides m.ring.sizes m.ring.room trap.overlay (table_of seats)).1 (retry_after-legal m.ring.sizes m.ring.room _ m.retry trap.overlay m.ring.seats ring.overlays ring.seating known)

    abbrev chosen : List Table → Tabled
    chosen tables = chained bytes at tables t trap (Ok [])

    -- by the table of these seats
    serves : (short : Option ℕ) → short_from bytes 0 m.entries (table_by m m.ring.seats) (table_by m seats) ≡ short → (later : List Table) → On (loaded_by bytes at t trap seats short) later ≡ chosen (table_of seats ∷ later)
    serves short is later =
        let again = seats_again m.ring.sizes seats seating.sized in
        sym (ap (λ (b : Bool). if b then On (seated bytes at t trap (seats_of m.ring.sizes (table_of seats))) later else NotLegal) legal
        ∙ ap (λ (xs : List Seat). On (seated bytes at t trap xs) later) again
        ∙ ap (λ (x : Option ℕ). On (loaded_by bytes at t trap seats x) later) is)

    short_at : (v : ℕ) → StopsShort m bytes trap t (stops.ShortOverlay v) → short_from bytes 0 m.entries (table_by m m.ring.seats) (table_by m seats) ≡ Some v
    short_at v h =
        let new_size = length-table_from m.ring.room seats 0 m.stubs in
        let old_size = length-table_from m.ring.room m.ring.seats 0 m.stubs in
        let count = ring.count in
        let number : 0 + v ≡ v = omega arith in
        first_short bytes 0 v m.entries (table_by m m.ring.seats) (table_by m seats) ring.some (inside (cases_lt v (length m.entries))) (omega arith) (omega arith) h.0 h.1 h.2 ∙ ap Some number
      where
        inside : (v < length m.entries) ⊎ (length m.entries ≤ v) → v < length m.entries
        inside (inl lt) = lt
        inside (inr past) =
            let size = length-table_from m.ring.room seats 0 m.stubs in
            let count = ring.count in
            let none : overlay_at (table_by m seats) v ≡ no_overlay = get_or_past (table_by m seats) v no_overlay (omega arith) in
            absurd (moved_some (overlay_at (table_by m m.ring.seats) v) (overlay_at (table_by m seats) v) h.0 (ap (λ (l : Loaded). l.load) none))

    loaded_reaches : (q : Managed) → IsLoaded bytes p t trap q → Reaches chosen retry q
    loaded_reaches q (inl whole) = subst (Reaches chosen retry) (sym whole.1)
        (record {
          taken = table_of seats ∷ [];
          tally = tally;
          traps = traps + 1;
          comes = serves None (none_short bytes 0 m.entries (table_by m m.ring.seats) (table_by m seats) ring.some whole.0);
          ring = with_ring seats (served_manager m bytes trap t).tally seating;
        })
    loaded_reaches q (inr short) = subst (Reaches chosen retry) (sym short.2)
        (record { taken = table_of seats ∷ []; tally = tally; traps = traps; comes = serves (Some short.0) (short_at short.0 short.1); ring = with_ring seats m.tally seating })

    -- the chain, and the refusal
    walked : (q : Managed) (links : Result (List Link) ℕ) → MatchResult links (λ links. IsLoaded bytes p t trap q) (λ bad. q ≡ is_stopped p (why.BadChain bad) m) → Reaches (λ tables. chained bytes at tables t trap links) retry q
    walked q (Ok links) h = loaded_reaches q h
    walked q (Err bad) h = takes_none (λ tables. chained bytes at tables t trap (Err bad)) (is_stopped p (why.BadChain bad) m) q tally traps h ring (λ later. refl)

    trapped_by : (q : Managed) (refuses : Bool) → MatchBool refuses (q ≡ with_trap (goes_on p (refused m.error_routine t) m)) (MatchResult (chain_of m.marked t) (λ links. IsLoaded bytes p t trap q) (λ bad. q ≡ is_stopped p (why.BadChain bad) m))
        → Reaches (λ tables. if refuses then On (with_trap (goes_on at (refused m.error_routine t) at.manager)) tables else chained bytes at tables t trap (chain_of m.marked t)) retry q
    trapped_by q true h = takes_none (λ tables. On (with_trap (goes_on at (refused m.error_routine t) at.manager)) tables) (with_trap (goes_on p (refused m.error_routine t) m)) q tally (traps + 1) h ring (λ later. refl)
    trapped_by q false h = walked q (chain_of m.marked t) h

  trapped_reaches : (q : Managed) (found : Option Trap) → trap_of m.stubs t ≡ found → IsTrappedIn bytes p t q found → Reaches (λ tables. trapped bytes at tables t found) retry q
  trapped_reaches q None is h = takes_none (λ tables. trapped bytes at tables t None) (is_stopped p why.NoStub m) q tally traps h ring (λ later. refl)
  trapped_reaches q (Some trap) is h = trapped_by trap is q (is_refused m.installed t trap) h

  -- ## A clear

  empty_ring : (more : Tally) → HasRing (record m { ring = record m.ring { seats = [] }; tally = more })
  empty_ring more = with_ring [] more (record { sized = tt; sound = tt })

  emptied_reaches : (q : Managed) (b : Bool) → q ≡ goes_on p (record t { memory = if b then t.memory else sent_out m t }) (if b then with_seats m [] else manager.emptied m t)
      → Reaches (λ tables. On (goes_on at (record t { memory = if b then t.memory else sent_out m t }) (if b then with_seats at.manager [] else manager.emptied at.manager t)) tables) retry q
  emptied_reaches q true h =
      takes_none (λ tables. On (goes_on at (record t { memory = t.memory }) (with_seats at.manager [])) tables) (goes_on p (record t { memory = t.memory }) (with_seats m [])) q tally traps h (empty_ring m.tally) (λ later. refl)
  emptied_reaches q false h =
      takes_none (λ tables. On (goes_on at (record t { memory = sent_out m t }) (manager.emptied at.manager t)) tables) (goes_on p (record t { memory = sent_out m t }) (manager.emptied m t)) q (manager.emptied at.manager t).tally traps h
      (empty_ring (manager.emptied m t).tally) (λ later. refl)

  cleared_reaches : (q : Managed) (b : Bool) → IsClearedBy p t q b → Reaches (λ tables. On (if b then emptied at t else emptied_by at t (chain_of m.marked t)) tables) retry q
  cleared_reaches q true h = emptied_reaches q (length m.stubs == 0) h
  cleared_reaches q false h = by (chain_of m.marked t) h
    where
      by : (links : Result (List Link) ℕ) → MatchResult links (λ links. q ≡ goes_on p (record t { memory = cleared m t }) (cleared_manager m t)) (λ bad. q ≡ is_stopped p (why.BadChain bad) m) → Reaches (λ tables. On (emptied_by at t links) tables) retry q
      by (Ok links) h = emptied_reaches q (length m.stubs == 0) h
      by (Err bad) h = takes_none (λ tables. On (emptied_by at t (Err bad)) tables) (is_stopped p (why.BadChain bad) m) q tally traps h ring (λ later. refl)

  -- ## Any event

  serviced_reaches : (q : Managed) (n : ℕ) (a b : Bool) → IsServicedAs bytes p t n q a b
      → Reaches (λ tables. if a then trapped bytes at tables t (trap_of m.stubs t) else (if b then On (all_out at t) tables else On (record at { process = serviced at.process t n }) tables)) retry q
  serviced_reaches q n true b h = trapped_reaches q (trap_of m.stubs t) refl h
  serviced_reaches q n false true h = cleared_reaches q (length m.stubs == 0) h
  serviced_reaches q n false false h = let w : Managed = record p { process = serviced p.process t n } in takes_none (λ tables. On (record at { process = serviced at.process t n }) tables) w q tally traps h ring (λ later. refl)

  event_reaches : (q : Managed) (event : Event) → IsAfter bytes p t event q → Reaches (λ tables. after_event bytes at tables t event) retry q
  event_reaches q events.Ran h = let w : Managed = record p { process = after_step p.process t events.Ran } in takes_none (λ tables. after_event bytes at tables t events.Ran) w q tally traps h ring (λ later. refl)
  event_reaches q (events.Service n) h = serviced_reaches q n (n == 63) (n == 96) h
  event_reaches q events.Divide h = let w : Managed = record p { process = after_step p.process t events.Divide } in takes_none (λ tables. after_event bytes at tables t events.Divide) w q tally traps h ring (λ later. refl)
  event_reaches q (events.Unknown cs ip) h = let w : Managed = record p { process = after_step p.process t (events.Unknown cs ip) } in takes_none (λ tables. after_event bytes at tables t (events.Unknown cs ip)) w q tally traps h ring (λ later. refl)

-- ## Runs

pub ring_runs : (bytes : List ℕ) (n : ℕ) (p q : Managed) (retry : ℕ) (tally : Tally) (traps : ℕ) → HasRing p.manager → ManagedRuns bytes n p q → IsTabled bytes n (counting p retry tally traps) q
ring_runs bytes zero p q retry tally traps ring x = record { taken = []; tally = tally; traps = traps; runs = λ later. ap (λ (z : Managed). On (counting z retry tally traps) later) x }
ring_runs bytes (suc n) p q retry tally traps ring x =
    let g = x.1 in
    let first = event_reaches bytes p ring retry tally traps g.machine x.0 g.event g.result in
    let rest = ring_runs bytes n x.0 q retry first.tally first.traps first.ring x.2 in
    record {
      taken = first.taken ++ rest.taken;
      tally = rest.tally;
      traps = rest.traps;
      runs = λ later. subst (λ (tables : List Table). TabledRuns bytes (suc n) (On (counting p retry tally traps) tables) (On (counting q retry rest.tally rest.traps) later)) (sym (append_assoc first.taken rest.taken later))
          (On (counting x.0 retry first.tally first.traps) (rest.taken ++ later), record { running = g.running; machine = g.machine; event = g.event; steps = g.steps; result = first.comes (rest.taken ++ later) }, rest.runs later);
    }
