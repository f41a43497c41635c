-- What a service leaves in memory: all that a resident state knows, and its return pairs and overlays by the new table.
use Rattle.std.proofs.Common.{◌≡◌, ◌≢◌, ◌⊎◌, inl, inr, ℕ, zero, suc, ◌*◌, ◌<◌, ◌≤◌, Bool, true, false, List, [], ◌∷◌, length, map, Option, Some, refl, sym, ap, ◌∙◌, subst, arith}
use Rattle.std.specs.Prelude.{IsOk, slice_index, slice_get, unwrap_or, if◌then◌else◌}
use Rattle.std.specs.List.{AllByRecursion}
use Rattle.std.proofs.lemmas.Bool.{cases_lt}
use Rattle.std.proofs.lemmas.List.{length-map}
use Rattle.std.proofs.lemmas.Option.{slice_get_within}
use Rattle.cpu_8086.specs.Memory.{address, load_byte}
use Rattle.cpu_8086.specs.State.{State}
use Rattle.frame_links.specs.Links.{Link}
use Rattle.overlay_ring.specs.declared.seat.Seat.{Seat}
use Rattle.overlay_ring.specs.Seats.{table_of}
use Rattle.overlay_ring.specs.Table.{IsTable}
use Rattle.return_repair.specs.declared.table.Loaded.{Loaded}
use Rattle.return_repair.specs.Pairs.{is_out, saved_at}
use Rattle.return_repair.specs.Follows.{Denoted, denoted, denotations, overlay_at, pairs_at, shown, none_met, topmost_into, saved_after, IsElsewhere, word_bytes}
use Rattle.overlay_manager.specs.Loading.{OnlyWithin}
use Rattle.overlay_manager.specs.Manager.{Manager, buffer_segment, next_stub, table_by, with_seats}
use Rattle.overlay_manager.specs.Orderly as orderly
use Rattle.overlay_manager.specs.Orderly.{IsOffStub, IsOffStubs, IsOffBuffer, IsOffPairs, StubsApart, FitsSegment, IsOrderlyFor}
use Rattle.overlay_manager.specs.Serves.{table_before}
use Rattle.overlay_manager.specs.Reads.{StubReads}
use Rattle.overlay_manager.proofs.EntryLaws.{byte-is}
use Rattle.overlay_manager.proofs.KeptLaws.{all-shown}
use Rattle.overlay_manager.proofs.ServiceLaws.{each-overlay, stubs-of_table, Steps, off-buffer, only-pairs}
use Rattle.overlay_manager.proofs.StubLaws.{SameEntries}
use Rattle.overlay_manager.proofs.StubsLaws.{stubs-written}
use Rattle.overlay_manager.proofs.TableLaws.{length-table_from}
use Rattle.overlay_manager.proofs.WholeLaws.{tabled, followed_of, written_of, entries-followed, follow-written, followed-off}
use Rattle.resident_machine.specs.Cells.{Known, Paired}
use Rattle.resident_machine.specs.Framed.{IsFramed, places_of}
use Rattle.resident_machine.specs.Program.{Segment, Image, Overlay, OverlayCode, Program}
use Rattle.resident_machine.specs.Standing.{words_of, HoldsCode, HoldsMemory}
use Rattle.resident_machine.specs.State.{Record, ResidentState}
use Rattle.overlay_simulation.specs.Laid.{with_pairs}
use Rattle.overlay_simulation.specs.Layout.{IsReady}
use Rattle.overlay_simulation.specs.Matching.{size_of, StubStands, HoldsOverlays, TellsApart}
use Rattle.overlay_simulation.specs.Shown.{items_of, pairs_by}
use Rattle.overlay_simulation.proofs.FoundLaws.{found, returns}
use Rattle.overlay_simulation.proofs.LegalLaws.{told}
use Rattle.overlay_simulation.proofs.OrderLaws.{all_stubs, chain_is, places_are, stub_kept, stub_count, known_off_buffer, each_byte, at_places, order}
use Rattle.overlay_simulation.proofs.StubLaws.{stub_room}
use Rattle.overlay_simulation.proofs.TableLaws.{stub_is}
use Rattle.overlay_services.specs.Sound.{IsSound}
use Rattle.overlay_services.proofs.HeldLaws.{length_pairs, denotations_of, pairs_held, words_held}
use Rattle.overlay_services.proofs.SmallLaws.{IsSmall, HasSmallEntries, stubs_small}
use Rattle.std.specs.Prelude.{Result}
use Rattle.overlay_manager.specs.Kept.{AreReturns}
use Rattle.overlay_file.specs.Stubs.{IsStub}
use Rattle.return_repair.specs.Follows.{Stays, Into}
use Rattle.resident_machine.specs.Whole.{IsNamed, IsReturn}
use Rattle.overlay_simulation.specs.Shown.{denoting}
use Rattle.overlay_simulation.proofs.TableLaws.{overlay_code}
use Rattle.overlay_services.proofs.WordLaws.{length_stubs, words_from, next_small}

-- ## What records denote lies in the table

-- the overlays that are denoted are the table's
abbrev IsInside : ℕ → Denoted → Type 0
IsInside count (Stays pair) = Unit {0}
IsInside count (Into v offset) = v < count

items_inside : (p : Program) (table : List Loaded) → TellsApart p table → (records : List Record) → AllByRecursion (IsReturn p) records → AllByRecursion (IsInside (length table)) (items_of records)
items_inside p table told [] h = tt
items_inside p table told (x ∷ records) h = (one x.segment x.offset h.0.named, items_inside p table told records h.1)
  where
    one : (segment : Segment) (offset : ℕ) → IsNamed p segment → IsInside (length table) (denoting segment offset)
    one (Image n) offset named = tt
    one (Overlay v) offset named =
        let o = overlay_code p.overlays v named.0 named.1 in
        let same : length table ≡ length p.overlays = sym (length-map table (λ (l : Loaded). l.stub)) ∙ ap length told.same ∙ length-map p.overlays (λ (o : OverlayCode). o.stub) in
        let there = slice_get_within p.overlays v o.0 o.1 in
        omega arith

-- what holds of each entry of a table holds of one
all_entries : (P : Loaded → Type 0) (table : List Loaded) (v : ℕ) → v < length table → AllByRecursion P table → P (overlay_at table v)
all_entries P [] v lt all = absurd (omega arith)
all_entries P (l ∷ table) zero lt all = all.0
all_entries P (l ∷ table) (suc v) lt all = all_entries P table v (omega arith) all.1

-- ## Before a service

-- A service may begin: the machine is ready for it, links and returns are framed, and memory holds code of the image, and return pairs as the
-- old table shows them. `whole` is what they denote with what was taken.
pub record Begins (p : Program) (kept : ℕ → Bool) (bytes : List ℕ) (m : Manager) (met : ℕ → Bool) (t : ResidentState) (s : State) (pending : Bool) (whole : List Denoted) : Type 0 where
  pub sound : IsSound p kept bytes m
  pub ready : IsReady p m met kept t s
  pub framed : IsFramed p pending t
  pub memory : HoldsMemory p s.registers.ss t.cells s.memory (words_of (with_pairs t.records (pairs_by (table_before m) met t.records)))
  pub saves : (v offset : ℕ) → v < length (table_before m) → is_out (overlay_at (table_before m) v) ≡ true → topmost_into (table_before m) (overlay_at (table_before m) v).stub whole ≡ Some offset → saved_at s.memory (overlay_at (table_before m) v).stub ≡ offset
  pub to_come : (v : ℕ) → v < length (table_before m) → met (overlay_at (table_before m) v).stub ≡ false
      → topmost_into (table_before m) (overlay_at (table_before m) v).stub (items_of t.records) ≡ topmost_into (table_before m) (overlay_at (table_before m) v).stub whole

-- ## What it leaves

module _ (p : Program) (kept : ℕ → Bool) (bytes : List ℕ) (m : Manager) (met : ℕ → Bool) (t : ResidentState) (s : State) (pending : Bool) (whole : List Denoted) (h : Begins p kept bytes m met t s pending whole)
    (seats : List Seat) (sound : IsTable m.ring.sizes m.ring.room (table_of seats)) (loaded : List ℕ) (within : OnlyWithin (16 * buffer_segment m.ring.room) 0xA0000 s.memory loaded) where
  abbrev old : List Loaded
  old = table_before m

  abbrev new : List Loaded
  new = table_by m seats

  abbrev ss : ℕ
  ss = s.registers.ss

  abbrev pub written : List ℕ
  written = written_of m s pending seats loaded

  pub told_new : TellsApart p new
  told_new = told p m seats h.sound.manages h.sound.segments sound

  in_order : IsOrderlyFor m s pending
  in_order = order p m met kept t s pending h.ready h.framed

  pub steps : Steps m s pending seats loaded
  steps = record { orderly = in_order; sound = subst (λ (links : Result (List Link) ℕ). IsOk links) (sym (chain_is p m met kept t s pending h.ready h.framed)) refl; within = within }

  -- ## Bytes

  off_pairs : (at : ℕ) → t.cells at ≢ Paired → IsOffPairs ss (orderly.places_of m.marked s pending) at
  off_pairs at free =
      at_places p m met kept t s pending h.ready h.framed (λ places. IsOffPairs ss places at)
      (each_byte p m met kept t s pending h.ready h.framed (λ byte. at ≢ byte) (λ byte pair same. free (ap t.cells same ∙ pair)))

  off_stubs : (at : ℕ) → ((v : ℕ) (o : OverlayCode) → slice_get p.overlays v ≡ Some o → (k : ℕ) → k < size_of o → at ≢ address o.stub k) → IsOffStubs s.memory m.stubs at
  off_stubs at apart = subst (λ (stubs : List ℕ). IsOffStubs s.memory stubs at) (sym h.ready.manages.stubs)
      (all_stubs (λ (stub : ℕ). IsOffStub s.memory stub at) p.overlays (λ v o found k lt. apart v o found k (subst (λ (n : ℕ). k < n) (stub_count p m met kept t s pending h.ready h.framed v o found) lt)))

  byte_stays : (at : ℕ) → t.cells at ≢ Paired → IsOffStubs s.memory m.stubs at → IsOffBuffer m.ring.room at → slice_index written at ≡ slice_index s.memory at
  byte_stays at pairs stubs buffer = followed-off m s pending seats loaded steps at (off_pairs at pairs) stubs ∙ off-buffer m s pending seats loaded steps at buffer

  size : length written ≡ 1048576
  size = length_stubs m.stubs seats 0 old new (followed_of m s pending seats loaded) ∙ (only-pairs m s pending seats loaded steps).size ∙ within.size ∙ h.memory.size

  known : (place value : ℕ) → t.cells place ≡ Known value → slice_index written place ≡ value
  known place value is =
      byte_stays place (λ pair. (let e = sym is ∙ pair in absurd (cc)))
      (off_stubs place (λ v o found k lt same. (let e = sym is ∙ ap t.cells same ∙ stub_kept p m met kept t s pending h.ready h.framed v o found k lt in absurd (cc))))
      (known_off_buffer p m met kept t s pending h.ready h.framed place value is)
      ∙ h.memory.known place value is

  code : (segment : ℕ) (xs : List ℕ) → p.image segment ≡ Some xs → HoldsCode t.cells written segment xs
  code segment xs named =
      let before = h.memory.code segment xs named in
      let apart = h.sound.image segment xs named in
      record {
        size = before.size;
        bytes = λ offset lt. (let b = before.bytes offset lt in record {
          value = byte-is written segment offset
              ∙ byte_stays (address segment offset) (λ pair. (let e = sym b.kept ∙ pair in absurd (cc))) (off_stubs (address segment offset) (λ v o found k below. apart.off_stubs v o found offset k lt below)) (apart.off_buffer offset lt)
              ∙ sym (byte-is s.memory segment offset) ∙ b.value;
          kept = b.kept;
        });
      }

  -- ## Return pairs

  returns_old : AreReturns old (items_of t.records)
  returns_old = returns p old h.ready.told t.records h.ready.whole.returns

  denoted_are : denotations s.memory ss old (places_of t.records) ≡ items_of t.records
  denoted_are =
      denotations_of s.memory ss old (places_of t.records)
      ∙ ap (map (denoted s.memory old)) (pairs_held ss t.cells s.memory t.records (pairs_by old met t.records) (length_pairs old met t.records) h.memory.words)
      ∙ all-shown s.memory old whole (items_of t.records) met (found p old h.ready.told) (items_inside p old h.ready.told t.records h.ready.whole.returns) returns_old h.saves h.to_come

  abbrev Followed : List ℕ → List Denoted → Type 0
  Followed places items = (pairs_at written ss places ≡ shown new none_met items) × AllByRecursion (λ (l : Loaded). saved_at written l.stub ≡ saved_after s.memory items new l) new

  follow : Followed (places_of t.records) (items_of t.records)
  follow =
      let f = follow-written m s pending seats loaded steps in
      let here = subst (λ (places : List ℕ). Followed places (denotations s.memory ss old places)) (places_are p m met kept t s pending h.ready h.framed) (f.pairs, f.saved) in
      subst (λ (items : List Denoted). Followed (places_of t.records) items) denoted_are here

  pub memory_written : HoldsMemory p ss t.cells written (words_of (with_pairs t.records (pairs_by new none_met t.records)))
  memory_written = record {
    size = size;
    outside = h.memory.outside;
    known = known;
    code = code;
    words = words_held ss t.cells s.memory written t.records (pairs_by old met t.records) (pairs_by new none_met t.records) (length_pairs old met t.records) h.memory.words follow.0;
  }

  -- ## Stubs

  numbered : (v : ℕ) (o : OverlayCode) → slice_get p.overlays v ≡ Some o → v < length m.stubs
  numbered v o found =
      let there = slice_get_within p.overlays v o found in
      let same : length m.stubs ≡ length p.overlays = ap length h.ready.manages.stubs ∙ length-map p.overlays (λ (o : OverlayCode). o.stub) in
      omega arith

  -- a byte of a stub that saves no offset, as live returns followed
  stub_byte : (v : ℕ) (o : OverlayCode) → slice_get p.overlays v ≡ Some o → (k : ℕ) → k < size_of o → k ≢ 2 → k ≢ 3 → slice_index (followed_of m s pending seats loaded) (address o.stub k) ≡ slice_index s.memory (address o.stub k)
  stub_byte v o found k lt two three =
      let is = stub_kept p m met kept t s pending h.ready h.framed v o found k lt in
      let room = stub_room t.cells s.memory o _ _ (h.ready.overlays.stubs v o found) in
      let P : ℕ → Type 0 = λ (stub : ℕ). IsElsewhere (address o.stub k) (word_bytes stub 2) in
      let apart = all_stubs P p.overlays (λ w b also. elsewhere w b also room) in
      let elsewhere_all = each-overlay P new (tabled P m seats (subst (AllByRecursion P) (sym h.ready.manages.stubs) apart)) in
      (only-pairs m s pending seats loaded steps).others (address o.stub k) (off_pairs (address o.stub k) (λ pair. (let e = sym is ∙ pair in absurd (cc)))) elsewhere_all
      ∙ off-buffer m s pending seats loaded steps (address o.stub k) (h.ready.apart.off_buffer v o found k lt)
    where
      other : (w : ℕ) (b : OverlayCode) → slice_get p.overlays w ≡ Some b → size_of o ≤ 65536 → (j : ℕ) → j < 4 → k ≢ j → address o.stub k ≢ address b.stub j
      other w b also room j small differ same = by (cases_lt v w) (cases_lt w v)
        where
          by : (v < w) ⊎ (w ≤ v) → (w < v) ⊎ (v ≤ w) → ⊥
          by (inl before) _ = h.ready.apart.stubs v w o b found also before k j lt (omega arith) (sym same)
          by (inr not_before) (inl after) = h.ready.apart.stubs w v b o also found after j k (omega arith) lt same
          by (inr not_before) (inr not_after) =
              let number : v ≡ w = omega arith in
              let both : Some o ≡ Some b = sym found ∙ ap (slice_get p.overlays) number ∙ also in
              let is : o ≡ b = cc in
              let stub : o.stub ≡ b.stub = ap (λ (z : OverlayCode). z.stub) is in
              differ (omega arith)

      elsewhere : (w : ℕ) (b : OverlayCode) → slice_get p.overlays w ≡ Some b → size_of o ≤ 65536 → IsElsewhere (address o.stub k) (word_bytes b.stub 2)
      elsewhere w b also room = (other w b also room 2 (omega arith) two, (other w b also room 3 (omega arith) three, tt))

  small_entries : AllByRecursion (HasSmallEntries s.memory (followed_of m s pending seats loaded)) m.stubs
  small_entries = subst (AllByRecursion (HasSmallEntries s.memory (followed_of m s pending seats loaded))) (sym h.ready.manages.stubs)
      (all_stubs (HasSmallEntries s.memory (followed_of m s pending seats loaded)) p.overlays
      (λ v o found k above below.
      let lt : k < size_of o = subst (λ (n : ℕ). k < n) (stub_count p m met kept t s pending h.ready h.framed v o found) below in
      small_byte v o found k lt (λ same. absurd (omega arith)) (λ same. absurd (omega arith))))
    where
      small_byte : (v : ℕ) (o : OverlayCode) → slice_get p.overlays v ≡ Some o → (k : ℕ) → k < size_of o → k ≢ 2 → k ≢ 3 → IsSmall (followed_of m s pending seats loaded) (address o.stub k)
      small_byte v o found k lt two three =
          subst (λ (byte : ℕ). byte < 256) (sym (stub_byte v o found k lt two three ∙ sym (byte-is s.memory o.stub k))) ((h.ready.overlays.stubs v o found).small k lt two three)

  byte_small : (v : ℕ) (o : OverlayCode) → slice_get p.overlays v ≡ Some o → (k : ℕ) → k < size_of o → k ≢ 2 → k ≢ 3 → load_byte written o.stub k < 256
  byte_small v o found k lt two three =
      let followed_it : List ℕ = followed_of m s pending seats loaded in
      let before : IsSmall followed_it (address o.stub k) = subst (λ (byte : ℕ). byte < 256) (sym (stub_byte v o found k lt two three ∙ sym (byte-is s.memory o.stub k))) ((h.ready.overlays.stubs v o found).small k lt two three) in
      let words = all_stubs (λ (stub : ℕ). stub < 65536) p.overlays (λ w b also. h.sound.words w b also) in
      let stubs = subst (AllByRecursion (λ (stub : ℕ). stub < 65536)) (sym h.ready.manages.stubs) words in
      let apart = subst (λ (stubs : List ℕ). StubsApart s.memory stubs) (sym (stubs-of_table m.ring.room seats 0 m.stubs)) in_order.stubs_apart in
      let after = stubs_small m.stubs seats 0 old new s.memory followed_it (address o.stub k) (tabled (SameEntries followed_it s.memory) m seats (entries-followed m s pending seats loaded steps)) (tabled (FitsSegment s.memory) m seats in_order.stubs_fit) apart
      (words_from m.ring.room seats 0 m.stubs) (λ w. next_small m.stubs seats w stubs) (tabled (HasSmallEntries s.memory followed_it) m seats small_entries) before in
      subst (λ (byte : ℕ). byte < 256) (sym (byte-is written o.stub k)) after

  pub stub_after : (v : ℕ) (o : OverlayCode) → slice_get p.overlays v ≡ Some o → StubStands t.cells written o (overlay_at new v).load (next_stub m.stubs seats v)
  stub_after v o found =
      let was = h.ready.overlays.stubs v o found in
      let stub : (overlay_at new v).stub ≡ o.stub = stub_is p new told_new v o found in
      let is = subst (λ (z : ℕ). IsStub s.memory z) (sym stub) was.is_stub in
      let reads = subst (λ (z : ℕ). StubReads s.memory written z (overlay_at old v).load (overlay_at new v).load (next_stub m.stubs seats v)) stub (stubs-written m s pending seats loaded steps v (numbered v o found) is) in
      record {
        kept = was.kept;
        small = byte_small v o found;
        is_stub = reads.stub_is;
        count = reads.fields 12 (omega arith) (omega arith) ∙ was.count;
        loaded = reads.load;
        linked = reads.next_is;
        routines = λ e lt. reads.routines e (subst (λ (n : ℕ). e < n) (sym was.count) lt) ∙ was.routines e lt;
      }

  -- of an overlay that is out the topmost offset is saved
  saved_after_it : (v : ℕ) (o : OverlayCode) (offset : ℕ) → slice_get p.overlays v ≡ Some o → is_out (overlay_at new v) ≡ true → topmost_into new o.stub (items_of t.records) ≡ Some offset → saved_at written o.stub ≡ offset
  saved_after_it v o offset found out topmost =
      let stub : (overlay_at new v).stub ≡ o.stub = stub_is p new told_new v o found in
      let inside : v < length new = subst (λ (n : ℕ). v < n) (sym (length-table_from m.ring.room seats 0 m.stubs)) (numbered v o found) in
      let saved = all_entries (λ (l : Loaded). saved_at written l.stub ≡ saved_after s.memory (items_of t.records) new l) new v inside follow.1 in
      let is : topmost_into new (overlay_at new v).stub (items_of t.records) ≡ Some offset = ap (λ (z : ℕ). topmost_into new z (items_of t.records)) stub ∙ topmost in
      let here : saved_at written (overlay_at new v).stub ≡ offset =
      saved ∙ ap (λ (b : Bool). if b then unwrap_or (topmost_into new (overlay_at new v).stub (items_of t.records)) (saved_at s.memory (overlay_at new v).stub) else saved_at s.memory (overlay_at new v).stub) out
      ∙ ap (λ (x : Option ℕ). unwrap_or x (saved_at s.memory (overlay_at new v).stub)) is in
      subst (λ (z : ℕ). saved_at written z ≡ offset) stub here

  -- where the code of loaded overlays stands
  pub overlays_after : ((v : ℕ) (o : OverlayCode) → slice_get p.overlays v ≡ Some o → is_out (overlay_at new v) ≡ false → HoldsCode t.cells written (overlay_at new v).load o.code)
      → HoldsOverlays p (with_seats m seats) none_met t.cells t.records written
  overlays_after code = record { code = code; stubs = stub_after; saved = λ v o offset found out unmet topmost. saved_after_it v o offset found out topmost }
