-- A service that takes a table: what memory then holds of code.
use Rattle.std.proofs.Common.{◌≡◌, ◌≢◌, ◌⊎◌, inl, inr, ℕ, ◌+◌, ◌*◌, ◌/◌, ◌<◌, ◌≤◌, Bool, false, List, length, map, Some, sym, ap, ◌∙◌, subst, arith, eq-eqb, ne_eqb}
use Rattle.std.specs.Prelude.{IsTrue, slice_index, slice_get}
use Rattle.std.proofs.lemmas.Option.{slice_get_within}
use Rattle.cpu_8086.specs.Memory.{address}
use Rattle.cpu_8086.specs.State.{State}
use Rattle.overlay_file.specs.declared.overlay.OvrEntry.{OvrEntry}
use Rattle.overlay_ring.specs.declared.seat.Seat.{Seat}
use Rattle.overlay_ring.specs.Seats.{table_of}
use Rattle.overlay_ring.specs.Table.{IsTable}
use Rattle.overlay_manager.specs.Code.{code_of, Stands}
use Rattle.overlay_manager.specs.Loading.{with_loads, OnlyWithin}
use Rattle.overlay_manager.specs.Manager.{Manager, paragraphs_of, buffer_segment, table_by, with_seats}
use Rattle.overlay_manager.specs.Orderly.{IsOffBuffer}
use Rattle.overlay_manager.specs.Serves.{table_before, CodeStands, IsStanding}
use Rattle.overlay_manager.specs.Service.{memory_after}
use Rattle.overlay_manager.proofs.CodeLaws.{code-written}
use Rattle.overlay_manager.proofs.LoadLaws.{lie-within, size_of_entry}
use Rattle.overlay_manager.proofs.StandLaws.{length-code_of}
use Rattle.overlay_manager.proofs.TableLaws.{length-table_from}
use Rattle.resident_machine.specs.Cells.{Kept}
use Rattle.resident_machine.specs.Program.{OverlayCode, Program}
use Rattle.resident_machine.specs.Standing.{words_of, HoldsCode, HoldsMemory}
use Rattle.resident_machine.specs.State.{ResidentState}
use Rattle.return_repair.specs.declared.table.Loaded.{Loaded}
use Rattle.return_repair.specs.Follows.{Denoted, overlay_at, none_met}
use Rattle.return_repair.specs.Pairs.{is_out}
use Rattle.overlay_simulation.specs.Laid.{with_pairs}
use Rattle.overlay_simulation.specs.Matching.{HoldsOverlays}
use Rattle.overlay_simulation.specs.Shown.{pairs_by}
use Rattle.overlay_simulation.proofs.LegalLaws.{seated}
use Rattle.overlay_simulation.proofs.TableLaws.{inside_known}
use Rattle.overlay_services.proofs.WithinLaws.{loads_within}
use Rattle.overlay_services.proofs.WrittenLaws.{Begins, steps, memory_written, overlays_after}

module _ (p : Program) (kept : ℕ → Bool) (bytes : List ℕ) (m : Manager) (met : ℕ → Bool) (t : ResidentState) (s : State) (pending : Bool) (denoted : List Denoted) (h : Begins p kept bytes m met t s pending denoted)
    (seats : List Seat) (sound : IsTable m.ring.sizes m.ring.room (table_of seats)) where
  abbrev old : List Loaded
  old = table_before m

  abbrev new : List Loaded
  new = table_by m seats

  abbrev loaded : List ℕ
  loaded = with_loads bytes m.entries old new s.memory

  sound_sizes : IsTable (map paragraphs_of m.entries) m.ring.room (table_of seats)
  sound_sizes = subst (λ (sizes : List ℕ). IsTable sizes m.ring.room (table_of seats)) (sym h.sound.sizes) sound

  within : OnlyWithin (16 * buffer_segment m.ring.room) 0xA0000 s.memory loaded
  within = loads_within (16 * buffer_segment m.ring.room) 0xA0000 bytes m.entries old new s.memory h.sound.code_sizes (lie-within m.ring.room m.entries m.stubs seats old h.sound.room h.sound.count sound_sizes)

  -- ## Code before

  entry_same : (v : ℕ) (o : OverlayCode) (entry : OvrEntry) → slice_get p.overlays v ≡ Some o → slice_get m.entries v ≡ Some entry → o.code ≡ code_of bytes entry
  entry_same v o entry found there =
      let f = h.sound.filed v o found in
      let both : Some f.entry ≡ Some entry = sym f.found ∙ there in
      let is : f.entry ≡ entry = cc in
      f.code ∙ ap (code_of bytes) is

  stood : CodeStands bytes m.entries old s.memory
  stood v entry there some =
      let inside = slice_get_within m.entries v entry there in
      let size = h.sound.count in
      let table = length-table_from m.ring.room m.ring.seats 0 m.stubs in
      let o = inside_known p old h.ready.told v (omega arith) in
      let held = h.ready.overlays.code v o.0 o.1 (ne_eqb (overlay_at old v).load 0 some) in
      subst (λ (code : List ℕ). Stands s.memory (overlay_at old v).load code) (entry_same v o.0 entry o.1 there) (λ k lt. (held.bytes k lt).value)

  standing : IsStanding m bytes s.memory
  standing = record { sizes = h.sound.code_sizes; whole = h.sound.whole; code = stood }

  -- ## Code after

  code_stands : CodeStands bytes m.entries new (memory_after m bytes pending seats s)
  code_stands = code-written m bytes s pending seats h.sound.room h.sound.count sound_sizes standing (steps p kept bytes m met t s pending denoted h seats sound loaded within)

  in_buffer : (load place size paragraphs k : ℕ) → load ≡ buffer_segment m.ring.room + place → place + paragraphs ≤ m.ring.room → paragraphs ≡ (size + 15) / 16 → k < size → IsOffBuffer m.ring.room (address load k) → ⊥
  in_buffer load place size paragraphs k is inside sized lt (inl below) = let room = h.sound.room in let at : address load k ≡ 16 * load + k = omega arith in omega arith
  in_buffer load place size paragraphs k is inside sized lt (inr above) = let room = h.sound.room in let at : address load k ≡ 16 * load + k = omega arith in omega arith

  code_held : (v : ℕ) (o : OverlayCode) → slice_get p.overlays v ≡ Some o → is_out (overlay_at new v) ≡ false → HoldsCode t.cells (memory_after m bytes pending seats s) (overlay_at new v).load o.code
  code_held v o found here =
      let f = h.sound.filed v o found in
      let sizes = h.sound.code_sizes v f.entry f.found in
      let size : length o.code ≡ f.entry.size = ap length f.code ∙ length-code_of bytes f.entry sizes.0 (h.sound.whole v f.entry f.found) in
      let seat = seated p m seats h.sound.manages h.sound.segments sound v here in
      let some : (overlay_at new v).load ≢ 0 = λ none. (let e = sym (eq-eqb (overlay_at new v).load 0 none) ∙ here in absurd (cc)) in
      let stands = subst (λ (code : List ℕ). Stands (memory_after m bytes pending seats s) (overlay_at new v).load code) (sym f.code) (code_stands v f.entry f.found some) in
      let paragraphs : slice_index m.ring.sizes v ≡ (f.entry.size + 15) / 16 = ap (λ (sizes : List ℕ). slice_index sizes v) (sym h.sound.sizes) ∙ size_of_entry m.entries v f.entry f.found in
      let keeps : (k : ℕ) → k < length o.code → t.cells (address (overlay_at new v).load k) ≡ Kept = λ k lt. kept_there (overlay_at new v).load k (in_buffer (overlay_at new v).load seat.place f.entry.size (slice_index m.ring.sizes v) k seat.load seat.inside paragraphs (omega arith)) in
      record { size = omega arith; bytes = λ k lt. record { value = stands k lt; kept = keeps k lt } }
    where
      kept_there : (load k : ℕ) → (IsOffBuffer m.ring.room (address load k) → ⊥) → t.cells (address load k) ≡ Kept
      kept_there load k inside = by (h.sound.apart.buffer (address load k))
        where
          by : IsOffBuffer m.ring.room (address load k) ⊎ IsTrue (kept (address load k)) → t.cells (address load k) ≡ Kept
          by (inl off) = absurd (inside off)
          by (inr is) = h.ready.whole.stays (address load k) is

  -- ## All of it

  pub serviced_memory : HoldsMemory p s.registers.ss t.cells (memory_after m bytes pending seats s) (words_of (with_pairs t.records (pairs_by new none_met t.records)))
  serviced_memory = memory_written p kept bytes m met t s pending denoted h seats sound loaded within

  pub serviced_overlays : HoldsOverlays p (with_seats m seats) none_met t.cells t.records (memory_after m bytes pending seats s)
  serviced_overlays = overlays_after p kept bytes m met t s pending denoted h seats sound loaded within code_held
