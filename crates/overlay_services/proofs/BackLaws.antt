-- A return into an overlay that is out: the trap at the begin of its stub is served by the next table, and goes on where the stub saves.
use Rattle.std.proofs.Common.{◌≡◌, ℕ, Bool, true, false, List, ◌∷◌, Ok, refl, sym, ap, ◌∙◌, subst, arith}
use Rattle.cpu_8086.specs.declared.registers.Far.{Far}
use Rattle.cpu_8086.specs.declared.registers.Registers.{Registers}
use Rattle.cpu_8086.specs.Access.{at_offset}
use Rattle.cpu_8086.specs.Process.{Process}
use Rattle.cpu_8086.specs.State.{State}
use Rattle.overlay_ring.specs.declared.seat.Seat.{Seat}
use Rattle.overlay_ring.specs.Table.{Table, is_legal_table}
use Rattle.overlay_manager.specs.declared.traps.Trap.{Trap}
use Rattle.overlay_manager.specs.Manager.{Manager, load_segment, table_by, with_seats}
use Rattle.overlay_manager.specs.Serves.{table_before}
use Rattle.overlay_manager.specs.Service.{memory_after}
use Rattle.overlay_manager.specs.overlay_run.Managed.{Managed}
use Rattle.resident_machine.specs.Cells.{Known}
use Rattle.resident_machine.specs.Framed.{IsFramed}
use Rattle.resident_machine.specs.Program.{Program}
use Rattle.resident_machine.specs.Standing.{words_of, HoldsMemory, StandsFor}
use Rattle.resident_machine.specs.State.{ResidentState}
use Rattle.resident_machine.specs.Whole.{IsImage, IsWhole}
use Rattle.return_repair.specs.declared.table.Loaded.{Loaded}
use Rattle.return_repair.specs.Chain.{chain_of}
use Rattle.return_repair.specs.Pairs.{is_out, saved_at}
use Rattle.return_repair.specs.Follows.{Denoted, Into, overlay_at, none_met, met_too}
use Rattle.overlay_simulation.specs.Laid.{with_pairs}
use Rattle.overlay_simulation.specs.Matching.{Matches, TellsApart}
use Rattle.overlay_simulation.specs.Shown.{IsIn, number_by, items_of, pairs_by, shown_state}
use Rattle.overlay_simulation.specs.Trapping.{AtBegin}
use Rattle.overlay_simulation.proofs.OrderLaws.{chain_is}
use Rattle.overlay_simulation.proofs.TrapLaws.{past_trap, return_runs, return_steps, return_trap}
use Rattle.overlay_services.specs.Seated.{IsSeated, ComesTo}
use Rattle.overlay_services.proofs.CallLaws.{has_size}
use Rattle.overlay_services.proofs.LegalLaws.{legal_sound, legal_loaded, none_short}
use Rattle.overlay_services.proofs.LoadedLaws.{serviced_memory, serviced_overlays}
use Rattle.overlay_services.proofs.ReadyLaws.{begins_taken, stands_after}
use Rattle.overlay_services.proofs.SoundLaws.{sound_with, seated_told}
use Rattle.overlay_services.proofs.TableEvents.{served, illegal_event, served_event}
use Rattle.overlay_services.proofs.WrittenLaws.{Begins}
use Rattle.tabled_runs.specs.Tables.{TabledRuns, On, NotLegal, next_table, later_tables, seats_of}

module _ (p : Program) (kept : ℕ → Bool) (bytes : List ℕ) (t : ResidentState) (q : Managed) (u : Process) (here : IsSeated p kept bytes q.manager) (whole : IsWhole p kept t) (framed : IsFramed p false t) (h : AtBegin p t q u) (tables : List Table) where
  abbrev m : Manager
  m = q.manager

  abbrev s : State
  s = past_trap u

  abbrev led : Managed
  led = record q { process = u }

  abbrev trap : Trap
  trap = record { overlay = h.overlay; call = false }

  abbrev old : List Loaded
  old = table_before m

  abbrev seats : List Seat
  seats = seats_of m.ring.sizes (next_table tables)

  abbrev new : List Loaded
  new = table_by m seats

  abbrev met : ℕ → Bool
  met = met_too h.code.stub none_met

  abbrev begin : Far
  begin = record { offset = 0; segment = h.code.stub }

  abbrev denoted : List Denoted
  denoted = Into h.overlay t.registers.ip ∷ items_of t.records

  pub apart : TellsApart p old
  apart = seated_told p kept bytes m here

  pub begins : Begins p kept bytes m met t s false denoted
  begins = begins_taken p kept bytes m here.sound apart t whole h.half framed h.overlay h.code h.found begin u h.stands h.saved h.overlays s (record { ss = refl; sp = refl; bp = refl; memory = refl })

  pub chain : chain_of m.marked s ≡ Ok framed.links
  chain = chain_is p m met kept t s false begins.ready framed

  -- an overlay was entered, so that they are installed
  set : t.cells p.installed ≡ Known 0 → ⊥
  set none = subst IsImage h.cs (whole.outside none).cs

  module _ (legal : is_legal_table m.ring.sizes m.ring.room h.overlay (next_table tables) ≡ true) where
    abbrev after : List ℕ
    after = memory_after m bytes false seats s

    abbrev pub served_it : Managed
    served_it = served bytes led tables s (return_runs p t q u here.sound.manages apart h) (return_steps p t q u here.sound.manages apart h) trap (return_trap p t q u here.sound.manages apart h) framed.links refl chain

    abbrev back : Far
    back = record { offset = t.registers.ip; segment = number_by new t.cs }

    load : (is_out (overlay_at new h.overlay) ≡ false) × ((overlay_at new h.overlay).load ≡ load_segment m.ring.room seats h.overlay)
    load =
        let size = has_size p kept bytes m here.sound h.overlay h.code h.found in
        legal_loaded m h.overlay (next_table tables) here.sound.room size.0 size.1 legal

    memory : HoldsMemory p t.registers.ss t.cells after (words_of (with_pairs t.records (pairs_by new none_met t.records)))
    memory = subst (λ (n : ℕ). HoldsMemory p n t.cells after (words_of (with_pairs t.records (pairs_by new none_met t.records)))) begins.ready.stack.ss
        (serviced_memory p kept bytes m met t s false denoted begins seats (legal_sound m.ring.sizes m.ring.room h.overlay (next_table tables) legal))

    saved : saved_at s.memory s.cs ≡ t.registers.ip
    saved = ap (saved_at u.machine.memory) h.stands.cs ∙ h.saved

    stands_served : StandsFor p (shown_state new none_met t) served_it.process
    stands_served =
        stands_after p old new met t begin back u (at_offset s.registers (saved_at s.memory s.cs)) (load_segment m.ring.room seats h.overlay) after h.half h.running h.stands
        (ap (λ (g : Registers). record g { ip = saved_at s.memory s.cs }) h.stands.registers ∙ ap (at_offset t.registers) saved) (sym load.1 ∙ sym (ap (number_by new) h.cs)) memory

    seated_again : IsSeated p kept bytes (with_seats m seats)
    seated_again = record { sound = sound_with p kept bytes m seats m.tally here.sound; table = legal_sound m.ring.sizes m.ring.room h.overlay (next_table tables) legal }

    matches_served : Matches p t served_it
    matches_served = record {
      stands = stands_served;
      here = subst (IsIn new) (sym h.cs) load.0;
      overlays = serviced_overlays p kept bytes m met t s false denoted begins seats (legal_sound m.ring.sizes m.ring.room h.overlay (next_table tables) legal);
      flag = λ none. absurd (set none);
    }

    pub back_runs : TabledRuns bytes 1 (On led tables) (On served_it (later_tables tables))
    back_runs =
        let first = served_event bytes led tables s (return_runs p t q u here.sound.manages apart h) (return_steps p t q u here.sound.manages apart h) trap (return_trap p t q u here.sound.manages apart h) framed.links refl chain legal
        (none_short bytes 0 m.entries old new here.sound.whole) in
        (On served_it (later_tables tables), first, refl)

    pub back_follows : IsSeated p kept bytes served_it.manager × Matches p t served_it
    back_follows = (seated_again, matches_served)

    by_legal : ComesTo p kept bytes t (On led tables) 1
    by_legal = record { events = 1; some = omega arith; few = omega arith; end = On served_it (later_tables tables); runs = back_runs; follows = back_follows }

  pub return_served : ComesTo p kept bytes t (On led tables) 1
  return_served = by (is_legal_table m.ring.sizes m.ring.room h.overlay (next_table tables)) refl
    where
      by : (b : Bool) → is_legal_table m.ring.sizes m.ring.room h.overlay (next_table tables) ≡ b → ComesTo p kept bytes t (On led tables) 1
      by true legal = by_legal legal
      by false illegal =
          let first = illegal_event bytes led tables s (return_runs p t q u here.sound.manages apart h) (return_steps p t q u here.sound.manages apart h) trap (return_trap p t q u here.sound.manages apart h) framed.links refl chain illegal in
          record { events = 1; some = omega arith; few = omega arith; end = NotLegal; runs = (NotLegal, first, refl); follows = tt }
