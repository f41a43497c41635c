-- A framed state gives the chain, the places and the order that a service asks for.
use Rattle.std.proofs.Common.{◌≡◌, ◌≢◌, ◌⊎◌, inl, inr, ℕ, zero, suc, ◌+◌, ◌%◌, ◌<◌, ◌≤◌, ◌||◌, ◌&&◌, not, Bool, true, false, List, [], ◌∷◌, ◌++◌, map, Some, Ok, refl, sym, ap, ◌∙◌, subst, arith}
use Rattle.std.specs.List.{AllByRecursion}
use Rattle.std.specs.Prelude.{IsTrue, nat_le, slice_get}
use Rattle.std.proofs.lemmas.Bool.Decides.{nat_tests}
use Rattle.cpu_8086.specs.Memory.{address, next_offset}
use Rattle.cpu_8086.specs.State.{State}
use Rattle.frame_links.specs.Links.{Link, link_word, place_if, pair_places}
use Rattle.overlay_file.specs.Stubs.{entry_offset}
use Rattle.overlay_manager.specs.Manager.{Manager}
use Rattle.overlay_manager.specs.Orderly as orderly
use Rattle.overlay_manager.specs.Orderly.{stub_size, IsOffStubs, IsOffBuffer, StubsApart, AreApartStubs, FitsSegment, StubOffBuffer, EachPairByte, EachLinkByte, IsOrderlyFor}
use Rattle.overlay_manager.specs.Serves.{table_before}
use Rattle.resident_machine.specs.Cells.{Known, Kept, Paired}
use Rattle.resident_machine.specs.Framed.{AreLinks, IsFramed, places_of}
use Rattle.resident_machine.specs.Program.{OverlayCode, Program}
use Rattle.resident_machine.specs.State.{ResidentState}
use Rattle.resident_machine.specs.Whole.{offsets_of, ArePaired}
use Rattle.return_repair.specs.declared.table.Loaded.{Loaded}
use Rattle.return_repair.specs.Chain.{chain, chain_of, links_of, live_places, are_spaced, misses_links, are_clear}
use Rattle.return_repair.specs.Follows.{ArePlaces, MissesPair, MissesStub, AreStubs, pair_bytes}
use Rattle.overlay_simulation.specs.Layout.{IsReady}
use Rattle.overlay_simulation.specs.Matching.{size_of}
use Rattle.overlay_simulation.proofs.ChainLaws.{chain_found, spaced, next_small, word_known}
use Rattle.overlay_simulation.proofs.PairLaws.{Fits, EachPaired, unhalved_pairs, all_places, places_apart, misses_all, places_fit}
use Rattle.overlay_simulation.proofs.TableLaws.{entry_stub}

-- ## Lists by their members

all_by : {A : Type 0} → (P : A → Type 0) (xs : List A) → ((v : ℕ) (x : A) → slice_get xs v ≡ Some x → P x) → AllByRecursion P xs
all_by P [] each = tt
all_by P (x ∷ xs) each = (each zero x refl, all_by P xs (λ v y found. each (suc v) y found))

pub all_stubs : (P : ℕ → Type 0) (os : List OverlayCode) → ((v : ℕ) (o : OverlayCode) → slice_get os v ≡ Some o → P o.stub) → AllByRecursion P (map (λ (o : OverlayCode). o.stub) os)
all_stubs P [] each = tt
all_stubs P (o ∷ os) each = (each zero o refl, all_stubs P os (λ v x found. each (suc v) x found))

apart_stubs : (memory : List ℕ) (os : List OverlayCode) → ((v w : ℕ) (a b : OverlayCode) → slice_get os v ≡ Some a → slice_get os w ≡ Some b → v < w → AreApartStubs memory a.stub b.stub) → StubsApart memory (map (λ (o : OverlayCode). o.stub) os)
apart_stubs memory [] each = tt
apart_stubs memory (o ∷ os) each = (
  all_stubs (AreApartStubs memory o.stub) os (λ w b found. each zero (suc w) o b refl found (omega arith)),
  apart_stubs memory os (λ v w a b x y lt. each (suc v) (suc w) a b x y (omega arith)),
)

are_stubs : (ss : ℕ) (places : List ℕ) (table : List Loaded) → ((v : ℕ) (l : Loaded) → slice_get table v ≡ Some l → AllByRecursion (MissesPair ss l) places) → ((v w : ℕ) (a b : Loaded) → slice_get table v ≡ Some a → slice_get table w ≡ Some b → v < w → MissesStub a b) → AreStubs ss places table
are_stubs ss places [] pairs stubs = tt
are_stubs ss places (l ∷ table) pairs stubs = (
  pairs zero l refl,
  all_by (MissesStub l) table (λ w b found. stubs zero (suc w) l b refl found (omega arith)),
  are_stubs ss places table (λ v x found. pairs (suc v) x found) (λ v w a b x y lt. stubs (suc v) (suc w) a b x y (omega arith)),
)

module _ (p : Program) (m : Manager) (met : ℕ → Bool) (kept : ℕ → Bool) (t : ResidentState) (s : State) (pending : Bool) (ready : IsReady p m met kept t s) (f : IsFramed p pending t) where
  abbrev ss : ℕ
  ss = s.registers.ss

  links_are : AreLinks p.marked t.cells ss s.registers.bp f.links
  links_are = subst (λ (n : ℕ). AreLinks p.marked t.cells n s.registers.bp f.links) (sym ready.stack.ss) (subst (λ (n : ℕ). AreLinks p.marked t.cells t.registers.ss n f.links) (sym ready.stack.bp) f.chain)

  paired : ArePaired ss t.cells (offsets_of t.records)
  paired = subst (λ (n : ℕ). ArePaired n t.cells (offsets_of t.records)) (sym ready.stack.ss) (unhalved_pairs t.registers.ss t.cells t.half t.registers.sp (offsets_of t.records) ready.whole.paired)

  -- ## The chain and the places

  pub chain_is : chain_of m.marked s ≡ Ok f.links
  chain_is = ap (λ (b : Bool). chain b s.memory ss s.registers.bp) ready.manages.marked ∙ chain_found p.marked ss t.cells s.memory ready.stack.known f.links s.registers.bp links_are

  live_are : live_places s.registers pending f.links ≡ places_of t.records
  live_are = ap (λ (n : ℕ). place_if pending n ++ pair_places f.links) ready.stack.sp ∙ sym f.places

  pub places_are : orderly.places_of m.marked s pending ≡ places_of t.records
  places_are = ap (λ links. live_places s.registers pending (links_of links)) chain_is ∙ live_are

  all_fit : AllByRecursion Fits (places_of t.records)
  all_fit = subst (AllByRecursion Fits) (sym f.places) (by pending f.pending_room (places_fit ss t.cells p.marked s.registers.bp f.links links_are))
    where
      by : (b : Bool) → (IsTrue b → t.registers.sp + 4 ≤ 65536) → AllByRecursion Fits (pair_places f.links) → AllByRecursion Fits (place_if b t.registers.sp ++ pair_places f.links)
      by true room rest = (room refl, rest)
      by false room rest = rest

  each_place : (P : ℕ → Type 0) → ((place : ℕ) → Fits place → EachPaired ss t.cells place → P place) → AllByRecursion P (places_of t.records)
  each_place P each = all_places ss t.cells P each t.records all_fit paired

  -- the pending pair is the topmost one
  pending_pair : IsTrue pending → Fits t.registers.sp × EachPaired ss t.cells t.registers.sp
  pending_pair is =
      let places : places_of t.records ≡ t.registers.sp ∷ pair_places f.links = f.places ∙ ap (λ (b : Bool). place_if b t.registers.sp ++ pair_places f.links) is in
      (subst (AllByRecursion (λ place. Fits place × EachPaired ss t.cells place)) places (each_place (λ place. Fits place × EachPaired ss t.cells place) (λ place fits pair. (fits, pair)))).0

  -- ## What is clear

  clear : are_clear s.registers pending f.links ≡ true
  clear = by pending refl (spaced p.marked ss t.cells s.memory ready.stack.known f.links s.registers.bp links_are)
    where
      by : (b : Bool) → pending ≡ b → are_spaced f.links ≡ true → (are_spaced f.links && (not b || (nat_le (s.registers.sp + 4) 65536 && misses_links s.registers.sp f.links))) ≡ true
      by false is space = rw space refl
      by true is space =
          let pair = pending_pair is in
          let sp = ready.stack.sp in
          let room = pair.0 in
          let fits : nat_le (s.registers.sp + 4) 65536 ≡ true = grind (arith, nat_tests) in
          let away = misses_all ss t.cells p.marked t.registers.sp f.links s.registers.bp pair.0 pair.1 links_are in
          let same : misses_links s.registers.sp f.links ≡ true = ap (λ (n : ℕ). misses_links n f.links) ready.stack.sp ∙ away in
          rw (space, fits, same) refl

  -- ## Bytes of stubs and of the buffer

  pub stub_kept : (v : ℕ) (o : OverlayCode) → slice_get p.overlays v ≡ Some o → (k : ℕ) → k < size_of o → t.cells (address o.stub k) ≡ Kept
  stub_kept v o found k lt = (ready.overlays.stubs v o found).kept k lt

  pub stub_count : (v : ℕ) (o : OverlayCode) → slice_get p.overlays v ≡ Some o → stub_size s.memory o.stub ≡ size_of o
  stub_count v o found = ap entry_offset (ready.overlays.stubs v o found).count

  pair_not_kept : (at other : ℕ) → t.cells at ≡ Paired → t.cells other ≡ Kept → at ≢ other
  pair_not_kept at other x y same = let e = sym x ∙ ap t.cells same ∙ y in absurd (cc)

  paired_off_stubs : (at : ℕ) → t.cells at ≡ Paired → IsOffStubs s.memory m.stubs at
  paired_off_stubs at pair = subst (λ (stubs : List ℕ). IsOffStubs s.memory stubs at) (sym ready.manages.stubs)
      (all_stubs (λ (stub : ℕ). (k : ℕ) → k < stub_size s.memory stub → at ≢ address stub k) p.overlays
      (λ v o found k lt. pair_not_kept at (address o.stub k) pair (stub_kept v o found k (subst (λ (n : ℕ). k < n) (stub_count v o found) lt))))

  pub off_buffer : (at : ℕ) → (t.cells at ≡ Kept → ⊥) → IsOffBuffer m.ring.room at
  off_buffer at free = by (ready.apart.buffer at)
    where
      by : IsOffBuffer m.ring.room at ⊎ IsTrue (kept at) → IsOffBuffer m.ring.room at
      by (inl off) = off
      by (inr is) = absurd (free (ready.whole.stays at is))

  paired_off_buffer : (at : ℕ) → t.cells at ≡ Paired → IsOffBuffer m.ring.room at
  paired_off_buffer at pair = off_buffer at (λ same. (let e = sym pair ∙ same in absurd (cc)))

  pub known_off_buffer : (at v : ℕ) → t.cells at ≡ Known v → IsOffBuffer m.ring.room at
  known_off_buffer at v known = off_buffer at (λ same. (let e = sym known ∙ same in absurd (cc)))

  pub each_byte : (P : ℕ → Type 0) → ((at : ℕ) → t.cells at ≡ Paired → P at) → EachPairByte P ss (places_of t.records)
  each_byte P each = each_place (λ place. AllByRecursion P (pair_bytes ss place)) on
    where
      at_byte : (place offset j : ℕ) → EachPaired ss t.cells place → j < 4 → offset ≡ place + j → P (address ss offset)
      at_byte place offset j pair lt same = each (address ss offset) (ap (λ (k : ℕ). t.cells (address ss k)) same ∙ pair j lt)

      on : (place : ℕ) → Fits place → EachPaired ss t.cells place → AllByRecursion P (pair_bytes ss place)
      on place fits pair =
          let first = at_byte place place 0 pair (omega arith) (omega arith) in
          let second = at_byte place (next_offset place) 1 pair (omega arith) (omega arith) in
          let third = at_byte place ((place + 2) % 65536) 2 pair (omega arith) (omega arith) in
          let fourth = at_byte place (next_offset ((place + 2) % 65536)) 3 pair (omega arith) (omega arith) in
          (first, (second, (third, (fourth, tt))))

  link_bytes : (links : List Link) (at : ℕ) → AreLinks p.marked t.cells ss at links → EachLinkByte (IsOffBuffer m.ring.room) ss links
  link_bytes [] at h = tt
  link_bytes (link ∷ links) at h =
      let bytes = word_known ss t.cells link.at h.1 h.2.known in
      ((known_off_buffer (address ss link.at) bytes.0 bytes.2, (known_off_buffer (address ss (next_offset link.at)) bytes.1 bytes.3, tt)), link_bytes links (link_word p.marked h.1).next h.3)

  -- ## The table

  stubs_are : AreStubs ss (places_of t.records) (table_before m)
  stubs_are = are_stubs ss (places_of t.records) (table_before m) pairs stubs
    where
      pairs : (v : ℕ) (l : Loaded) → slice_get (table_before m) v ≡ Some l → AllByRecursion (MissesPair ss l) (places_of t.records)
      pairs v l found =
          let o = entry_stub p (table_before m) ready.told v l found in
          each_place (MissesPair ss l) (λ place fits pair i j li lj. pair_not_kept (address ss (place + j)) (address l.stub (2 + i)) (pair j lj)
          (ap (λ (stub : ℕ). t.cells (address stub (2 + i))) o.2 ∙ stub_kept v o.0 o.1 (2 + i) (omega arith)))

      stubs : (v w : ℕ) (a b : Loaded) → slice_get (table_before m) v ≡ Some a → slice_get (table_before m) w ≡ Some b → v < w → MissesStub a b
      stubs v w a b x y lt i j li lj same =
          let c = entry_stub p (table_before m) ready.told v a x in
          let d = entry_stub p (table_before m) ready.told w b y in
          ready.apart.stubs v w c.0 d.0 c.1 d.1 lt (2 + i) (2 + j) (omega arith) (omega arith)
          (ap (λ (stub : ℕ). address stub (2 + j)) (sym d.2) ∙ same ∙ ap (λ (stub : ℕ). address stub (2 + i)) c.2)

  -- ## The order

  abbrev pub IsPlaces : (List ℕ → Type 0) → Type 0
  IsPlaces P = P (orderly.places_of m.marked s pending)

  pub at_places : (P : List ℕ → Type 0) → P (places_of t.records) → IsPlaces P
  at_places P h = subst P (sym places_are) h

  pub order : IsOrderlyFor m s pending
  order = record {
    state = record {
      clear = ap (λ links. are_clear s.registers pending (links_of links)) chain_is ∙ clear;
      apart = record {
        size = ready.stack.size;
        places_apart = at_places ArePlaces (places_apart ss t.cells t.records all_fit paired);
        stubs_apart = at_places (λ places. AreStubs ss places (table_before m)) stubs_are;
      };
    };
    stubs_fit = subst (AllByRecursion (FitsSegment s.memory)) (sym ready.manages.stubs) (all_stubs (FitsSegment s.memory) p.overlays (λ v o found. (ready.overlays.stubs v o found).is_stub.room));
    stubs_apart = subst (StubsApart s.memory) (sym ready.manages.stubs) (apart_stubs s.memory p.overlays (λ v w a b x y lt i j li lj. ready.apart.stubs v w a b x y lt i j
        (subst (λ (n : ℕ). i < n) (stub_count v a x) li) (subst (λ (n : ℕ). j < n) (stub_count w b y) lj)));
    pairs_off_stubs = at_places (EachPairByte (IsOffStubs s.memory m.stubs) ss) (each_byte (IsOffStubs s.memory m.stubs) paired_off_stubs);
    stubs_off_buffer = subst (AllByRecursion (StubOffBuffer m.ring.room s.memory)) (sym ready.manages.stubs) (all_stubs (StubOffBuffer m.ring.room s.memory) p.overlays
        (λ v o found k lt. ready.apart.off_buffer v o found k (subst (λ (n : ℕ). k < n) (stub_count v o found) lt)));
    pairs_off_buffer = at_places (EachPairByte (IsOffBuffer m.ring.room) ss) (each_byte (IsOffBuffer m.ring.room) paired_off_buffer);
    links_off_buffer = subst (λ links. EachLinkByte (IsOffBuffer m.ring.room) ss (links_of links)) (sym chain_is) (link_bytes f.links s.registers.bp links_are);
    word = next_small p.marked ss t.cells s.registers.bp f.links links_are;
  }
