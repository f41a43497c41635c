-- A call through the stub of an overlay that is out: the trap is served by the next table, and the entry jumps to the routine.
use Rattle.std.proofs.Common.{◌≡◌, ◌≢◌, ℕ, ◌<◌, Bool, true, false, List, [], length, Some, Ok, refl, sym, ap, ◌∙◌, subst, arith, ne_eqb}
use Rattle.std.specs.Prelude.{slice_index, slice_get}
use Rattle.std.proofs.lemmas.List.{length-map}
use Rattle.std.proofs.lemmas.Option.{slice_get_within}
use Rattle.cpu_8086.specs.declared.registers.Far.{Far}
use Rattle.cpu_8086.specs.declared.registers.Registers.{Registers}
use Rattle.cpu_8086.specs.Access.{at_offset}
use Rattle.cpu_8086.specs.Memory.{address, load_byte}
use Rattle.cpu_8086.specs.Process.{Process}
use Rattle.cpu_8086.specs.State.{State}
use Rattle.overlay_file.specs.Stubs.{entry_offset}
use Rattle.overlay_ring.specs.declared.seat.Seat.{Seat}
use Rattle.overlay_ring.specs.Table.{Table, is_legal_table}
use Rattle.overlay_manager.specs.declared.traps.Trap.{Trap}
use Rattle.overlay_manager.specs.Manager.{Manager, table_by, with_seats}
use Rattle.overlay_manager.specs.Serves.{table_before}
use Rattle.overlay_manager.specs.Service.{memory_after}
use Rattle.overlay_manager.specs.Traps.{trap_place, is_refused}
use Rattle.overlay_manager.specs.overlay_run.Managed.{Managed}
use Rattle.resident_machine.specs.Cells.{Known}
use Rattle.resident_machine.specs.Effect.{blurred}
use Rattle.resident_machine.specs.Framed.{IsFramed}
use Rattle.resident_machine.specs.Program.{OverlayCode, Program}
use Rattle.resident_machine.specs.Standing.{words_of, HoldsMemory, StandsFor}
use Rattle.resident_machine.specs.State.{ResidentState, Running}
use Rattle.resident_machine.specs.Whole.{IsWhole}
use Rattle.return_repair.specs.declared.table.Loaded.{Loaded}
use Rattle.return_repair.specs.Chain.{chain_of}
use Rattle.return_repair.specs.Follows.{overlay_at, none_met}
use Rattle.return_repair.specs.Pairs.{is_out}
use Rattle.overlay_simulation.specs.Laid.{with_pairs}
use Rattle.overlay_simulation.specs.Matching.{Matches, TellsApart}
use Rattle.overlay_simulation.specs.Shown.{at_pair, items_of, pairs_by, shown_state}
use Rattle.overlay_simulation.specs.Trapping.{at_entry, AtEntry}
use Rattle.overlay_simulation.proofs.EnterLaws.{jumped, jumps_alone, jumps_match}
use Rattle.overlay_simulation.proofs.OrderLaws.{chain_is}
use Rattle.overlay_simulation.proofs.TrapLaws.{past_trap, call_runs, call_steps, call_place, call_trap}
use Rattle.overlay_services.specs.Sound.{IsSound}
use Rattle.overlay_services.specs.Seated.{IsSeated, ComesTo}
use Rattle.overlay_services.proofs.LegalLaws.{legal_sound, legal_loaded, none_short}
use Rattle.overlay_services.proofs.LoadedLaws.{serviced_memory, serviced_overlays}
use Rattle.overlay_services.proofs.ReadyLaws.{begins_whole, stands_after}
use Rattle.overlay_services.proofs.SoundLaws.{sound_with, seated_told}
use Rattle.overlay_services.proofs.TableEvents.{alone_event, served, illegal_event, served_event}
use Rattle.overlay_services.proofs.WrittenLaws.{Begins}
use Rattle.tabled_runs.specs.Tables.{TabledRuns, On, NotLegal, next_table, later_tables, seats_of}

-- an overlay of the program has a size
pub has_size : (p : Program) (kept : ℕ → Bool) (bytes : List ℕ) (m : Manager) → IsSound p kept bytes m → (v : ℕ) (o : OverlayCode) → slice_get p.overlays v ≡ Some o → (0 < slice_index m.ring.sizes v) × (v < length m.stubs)
has_size p kept bytes m sound v o found =
    let inside = slice_get_within p.overlays v o found in
    let same : length m.stubs ≡ length p.overlays = ap length sound.manages.stubs ∙ length-map p.overlays (λ (o : OverlayCode). o.stub) in
    (sound.segments.sizes v o found, omega arith)

module _ (p : Program) (kept : ℕ → Bool) (bytes : List ℕ) (t : ResidentState) (q : Managed) (u : Process) (here : IsSeated p kept bytes q.manager) (whole : IsWhole p kept t) (framed : IsFramed p true t)
    (h : AtEntry p t q u) (left : t ≡ blurred h.through) (some : h.flag ≢ 0) (out : is_out (overlay_at (table_before q.manager) h.overlay) ≡ true) (tables : List Table) where
  abbrev m : Manager
  m = q.manager

  abbrev s : State
  s = past_trap u

  abbrev called : Managed
  called = record q { process = u }

  abbrev trap : Trap
  trap = record { overlay = h.overlay; call = true }

  abbrev old : List Loaded
  old = table_before m

  abbrev seats : List Seat
  seats = seats_of m.ring.sizes (next_table tables)

  abbrev new : List Loaded
  new = table_by m seats

  abbrev entry : Far
  entry = record { offset = entry_offset h.entry; segment = h.code.stub }

  pub half : t.half ≡ false
  half = ap (λ (z : ResidentState). z.half) left ∙ h.half

  pub runs : t.status ≡ Running
  runs = ap (λ (z : ResidentState). z.status) left ∙ h.running

  pub stands : StandsFor p (at_pair entry (shown_state old none_met t)) u
  stands = subst (λ (z : ResidentState). StandsFor p (at_entry old h.code h.entry z) u) (sym left) h.stands

  pub begins : Begins p kept bytes m none_met t s true (items_of t.records)
  begins = begins_whole p kept bytes m here.sound (seated_told p kept bytes m here) t whole half true framed entry u stands h.overlays s (record { ss = refl; sp = refl; bp = refl; memory = refl })

  pub chain : chain_of m.marked s ≡ Ok framed.links
  chain = chain_is p m none_met kept t s true begins.ready framed

  pub installed : t.cells p.installed ≡ Known h.flag
  installed = sym h.same_flag ∙ h.known

  pub serves : is_refused m.installed s trap ≡ false
  unfolding load_byte
  serves =
      let byte : slice_index u.machine.memory p.installed ≡ h.flag = stands.memory.known p.installed h.flag installed in
      let there : slice_index u.machine.memory (address m.installed.segment m.installed.offset) ≡ h.flag = ap (slice_index u.machine.memory) here.sound.manages.installed ∙ byte in
      ne_eqb (slice_index u.machine.memory (address m.installed.segment m.installed.offset)) 0 (λ none. some (sym there ∙ none))

  -- ## By a legal table

  module _ (legal : is_legal_table m.ring.sizes m.ring.room h.overlay (next_table tables) ≡ true) where
    abbrev after : List ℕ
    after = memory_after m bytes true seats s

    abbrev served_it : Managed
    served_it = served bytes called tables s (call_runs p t q u here.sound.manages h out) (call_steps p t q u here.sound.manages h out) trap (call_trap p t q u here.sound.manages h out) framed.links serves chain

    pub in_memory : (is_out (overlay_at new h.overlay) ≡ false)
    in_memory =
        let size = has_size p kept bytes m here.sound h.overlay h.code h.found in
        (legal_loaded m h.overlay (next_table tables) here.sound.room size.0 size.1 legal).0

    pub memory : HoldsMemory p t.registers.ss t.cells after (words_of (with_pairs t.records (pairs_by new none_met t.records)))
    memory = subst (λ (n : ℕ). HoldsMemory p n t.cells after (words_of (with_pairs t.records (pairs_by new none_met t.records)))) begins.ready.stack.ss
        (serviced_memory p kept bytes m none_met t s true (items_of t.records) begins seats (legal_sound m.ring.sizes m.ring.room h.overlay (next_table tables) legal))

    pub stands_served : StandsFor p (at_pair entry (shown_state new none_met t)) served_it.process
    stands_served =
        stands_after p old new none_met t entry entry u (at_offset s.registers (trap_place s)) s.cs after half runs stands
        (ap (λ (g : Registers). record g { ip = trap_place s }) stands.registers ∙ ap (at_offset t.registers) (call_place p t q u here.sound.manages h out)) stands.cs memory

    pub unset : t.cells p.installed ≡ Known 0 → seats ≡ []
    unset none = let both : Known h.flag ≡ Known 0 = sym installed ∙ none in let is : h.flag ≡ 0 = cc in absurd (some is)

    abbrev pub at_again : AtEntry p t served_it served_it.process
    at_again = record {
      through = h.through;
      overlay = h.overlay;
      code = h.code;
      found = h.found;
      entry = h.entry;
      owner = h.owner;
      leads = h.leads;
      cs = h.cs;
      running = h.running;
      half = h.half;
      flag = h.flag;
      known = h.known;
      left = h.left;
      stands = subst (λ (z : ResidentState). StandsFor p (at_entry new h.code h.entry z) served_it.process) left stands_served;
      overlays = serviced_overlays p kept bytes m none_met t s true (items_of t.records) begins seats (legal_sound m.ring.sizes m.ring.room h.overlay (next_table tables) legal);
      same_flag = h.same_flag;
      unset = unset;
    }

    pub seated_again : IsSeated p kept bytes (with_seats m seats)
    seated_again = record { sound = sound_with p kept bytes m seats m.tally here.sound; table = legal_sound m.ring.sizes m.ring.room h.overlay (next_table tables) legal }

    pub told_again : TellsApart p new
    told_again = seated_told p kept bytes (with_seats m seats) seated_again

    -- the entry jumps to the routine
    abbrev pub legal_end : Managed
    legal_end = record served_it { process = jumped p t served_it served_it.process told_again at_again left in_memory }

    pub legal_runs : TabledRuns bytes 2 (On called tables) (On legal_end (later_tables tables))
    legal_runs =
        let first = served_event bytes called tables s (call_runs p t q u here.sound.manages h out) (call_steps p t q u here.sound.manages h out) trap (call_trap p t q u here.sound.manages h out) framed.links serves chain legal
        (none_short bytes 0 m.entries old new here.sound.whole) in
        (On served_it (later_tables tables), first, (On legal_end (later_tables tables), alone_event bytes served_it (later_tables tables) (jumped p t served_it served_it.process told_again at_again left in_memory) (jumps_alone p t served_it served_it.process told_again at_again left in_memory), refl))

    pub legal_follows : IsSeated p kept bytes legal_end.manager × Matches p t legal_end
    legal_follows = (seated_again, jumps_match p t served_it served_it.process told_again at_again left in_memory)

    by_legal : ComesTo p kept bytes t (On called tables) 2
    by_legal = record { events = 2; some = omega arith; few = omega arith; end = On legal_end (later_tables tables); runs = legal_runs; follows = legal_follows }

  pub call_served : ComesTo p kept bytes t (On called tables) 2
  call_served = by (is_legal_table m.ring.sizes m.ring.room h.overlay (next_table tables)) refl
    where
      by : (b : Bool) → is_legal_table m.ring.sizes m.ring.room h.overlay (next_table tables) ≡ b → ComesTo p kept bytes t (On called tables) 2
      by true legal = by_legal legal
      by false illegal =
          let first = illegal_event bytes called tables s (call_runs p t q u here.sound.manages h out) (call_steps p t q u here.sound.manages h out) trap (call_trap p t q u here.sound.manages h out) framed.links serves chain illegal in
          record { events = 1; some = omega arith; few = omega arith; end = NotLegal; runs = (NotLegal, first, refl); follows = tt }
