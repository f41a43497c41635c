-- What a program is opened with: its manager is seated with no overlay loaded, and its process matches the resident start.
use Rattle.std.proofs.Common.{◌≡◌, ◌≢◌, ◌⊎◌, inl, inr, ℕ, zero, suc, ◌+◌, ◌*◌, ◌<◌, ◌≤◌, Bool, true, List, [], ◌∷◌, length, map, Option, Some, refl, sym, ap, ◌∙◌, subst, arith, eq-eqb, false}
use Rattle.std.specs.Prelude.{IfSome, IsTrue, slice_index, slice_get, if◌then◌else◌}
use Rattle.std.proofs.lemmas.Bool.{cases_lt}
use Rattle.std.proofs.lemmas.List.{length-map}
use Rattle.std.proofs.lemmas.List.FromFn.{length-map-range_with_len}
use Rattle.std.proofs.lemmas.Option.{slice_get_within, get_or_from_slice_get}
use Rattle.cpu_8086.specs.Memory.{address}
use Rattle.cpu_8086.specs.Process.{Process}
use Rattle.mz_file.specs.declared.executable.Exe.{Exe}
use Rattle.mz_file.specs.Load.{loaded, loaded_byte, loaded_memory, loaded_segment, paragraphs_taken, FitsWithBuffer}
use Rattle.mz_file.proofs.LoadLaws.{get_or-loaded_memory}
use Rattle.overlay_file.specs.declared.overlay.OvrEntry.{OvrEntry}
use Rattle.overlay_manager.specs.Loading.{IsWhole}
use Rattle.overlay_manager.specs.Manager.{Manager, next_stub, paragraphs_of}
use Rattle.overlay_manager.specs.Orderly.{IsOffBuffer}
use Rattle.overlay_manager.specs.Serves.{table_before, HaveSizes}
use Rattle.overlay_manager.proofs.LoadLaws.{size_of_entry}
use Rattle.dos_runner.specs.Run.{process_of}
use Rattle.dos_runner.specs.opened_program.Matching.{largest, BelongTogether}
use Rattle.dos_runner.specs.opened_program.Opening.{start_manager}
use Rattle.dos_runner.specs.opened_program.Stubs.{IsStubOf}
use Rattle.resident_machine.specs.Cells.{Cells, Known, Kept}
use Rattle.resident_machine.specs.Program.{OverlayCode, Program}
use Rattle.resident_machine.specs.Standing.{StandsFor}
use Rattle.resident_machine.specs.Start.{cells_of, KeepsProgram}
use Rattle.resident_machine.specs.Whole as resident
use Rattle.resident_machine.proofs.StartLaws.{kept_cell, start_stands}
use Rattle.return_repair.specs.Follows.{overlay_at, none_met}
use Rattle.overlay_simulation.specs.Matching.{size_of, StubStands, HoldsOverlays, Matches}
use Rattle.overlay_simulation.specs.Segments.{HasSegments}
use Rattle.overlay_simulation.proofs.RefusedLaws.{all_out}
use Rattle.overlay_services.specs.Seated.{FitAlone}
use Rattle.overlay_services.specs.Sound.{IsImageApart, IsSound}
use Rattle.overlay_correctness.specs.Held.{entry_count, stub_bytes, overlay_in, overlays_in, IsHeldBy, start_cells, start_of, begun}
use Rattle.overlay_correctness.proofs.StubLaws.{length_routines, loaded_at, stub_segment, stub_fits, stub_address, stub_loaded}

-- ## The overlays by number

-- what an overlay of the program is made of
record IsMadeOf (image bytes segments : List ℕ) (entries : List OvrEntry) (v : ℕ) (o : OverlayCode) : Type 0 where
  segment : ℕ
  entry : OvrEntry
  stub_there : slice_get segments v ≡ Some segment
  entry_there : slice_get entries v ≡ Some entry
  is : o ≡ overlay_in image bytes segment entry

made_of : (image bytes segments : List ℕ) (entries : List OvrEntry) (v : ℕ) (o : OverlayCode) → slice_get (overlays_in image bytes segments entries) v ≡ Some o → IsMadeOf image bytes segments entries v o
made_of image bytes [] entries v o found = absurd (cc)
made_of image bytes (segment ∷ segments) [] v o found = absurd (cc)
made_of image bytes (segment ∷ segments) (entry ∷ entries) zero o found =
    let same : overlay_in image bytes segment entry ≡ o = cc in
    record { segment = segment; entry = entry; stub_there = refl; entry_there = refl; is = sym same }
made_of image bytes (segment ∷ segments) (entry ∷ entries) (suc v) o found =
    let h = made_of image bytes segments entries v o found in
    record { segment = h.segment; entry = h.entry; stub_there = h.stub_there; entry_there = h.entry_there; is = h.is }

stubs_made : (image bytes segments : List ℕ) (entries : List OvrEntry) → length entries ≡ length segments → map loaded_segment segments ≡ map (λ (o : OverlayCode). o.stub) (overlays_in image bytes segments entries)
stubs_made image bytes [] entries same = refl
stubs_made image bytes (segment ∷ segments) [] same = absurd (omega arith)
stubs_made image bytes (segment ∷ segments) (entry ∷ entries) same = ap (λ (stubs : List ℕ). loaded_segment segment ∷ stubs) (stubs_made image bytes segments entries (omega arith))

-- no overlay is larger than the largest
pub size_within : (overlays : List OvrEntry) (v : ℕ) → v < length overlays → slice_index (map paragraphs_of overlays) v ≤ largest overlays
size_within [] v there = omega (arith, there)
size_within (overlay ∷ overlays) zero there = omega arith
size_within (overlay ∷ overlays) (suc v) there = let less = size_within overlays v (omega (arith, there)) in omega (arith, less)

memory_size : (exe : Exe) → length (loaded exe).memory ≡ 1048576
unfolding loaded_memory
memory_size exe = length-map-range_with_len (loaded_byte exe) 0 1048576

module _ (p : Program) (kept : ℕ → Bool) (x : Exe) (name bytes : List ℕ) (entries : List OvrEntry) (room : ℕ) (held : IsHeldBy p kept x entries bytes) (together : BelongTogether x.image x.block.stubs entries) (fits : FitsWithBuffer x room)
    (sizes : HaveSizes entries) (whole : (v : ℕ) (entry : OvrEntry) → slice_get entries v ≡ Some entry → IsWhole bytes entry) where
  abbrev m : Manager
  m = start_manager x name entries room

  abbrev memory : List ℕ
  memory = (loaded x).memory

  -- ## Overlays and their stubs

  made : (v : ℕ) (o : OverlayCode) → slice_get p.overlays v ≡ Some o → IsMadeOf x.image bytes x.block.stubs entries v o
  made v o found = made_of x.image bytes x.block.stubs entries v o (ap (λ (os : List OverlayCode). slice_get os v) (sym held.overlays) ∙ found)

  stub_is_of : (v segment : ℕ) (entry : OvrEntry) → slice_get x.block.stubs v ≡ Some segment → slice_get entries v ≡ Some entry → IsStubOf x.image segment entry
  stub_is_of v segment entry stub_there entry_there =
      let match = together.each v (slice_get_within x.block.stubs v segment stub_there) in
      let number : slice_index x.block.stubs v ≡ segment = get_or_from_slice_get x.block.stubs v segment 0 stub_there in
      subst (λ (n : ℕ). IsStubOf x.image n entry) number (subst (λ (z : Option OvrEntry). IfSome z (IsStubOf x.image (slice_index x.block.stubs v))) entry_there match.belongs)

  -- where an overlay's stub lies
  record Lies (v : ℕ) (o : OverlayCode) : Type 0 where
    segment : ℕ
    entry : OvrEntry
    stub_there : slice_get x.block.stubs v ≡ Some segment
    entry_there : slice_get entries v ≡ Some entry
    is : o ≡ overlay_in x.image bytes segment entry
    stub : o.stub ≡ segment + 0x70
    loaded_is : loaded_segment segment ≡ segment + 0x70
    long : size_of o ≡ stub_bytes x.image segment
    below : (k : ℕ) → k < size_of o → 16 * o.stub + k < 16 * paragraphs_taken x
    straight : (k : ℕ) → k < size_of o → address o.stub k ≡ 16 * o.stub + k

  lies : (v : ℕ) (o : OverlayCode) → slice_get p.overlays v ≡ Some o → Lies v o
  lies v o found =
      let h = made v o found in
      let is = stub_is_of v h.segment h.entry h.stub_there h.entry_there in
      let at = stub_segment x kept held.stubs room fits v h.segment h.stub_there h.entry is in
      let stub : o.stub ≡ loaded_segment h.segment = ap (λ (z : OverlayCode). z.stub) h.is in
      let long : size_of o ≡ stub_bytes x.image h.segment = ap size_of h.is ∙ ap (λ (n : ℕ). 32 + 5 * n) (length_routines x.image (16 * h.segment + 32) (entry_count x.image h.segment)) in
      record {
        segment = h.segment;
        entry = h.entry;
        stub_there = h.stub_there;
        entry_there = h.entry_there;
        is = h.is;
        stub = stub ∙ at;
        loaded_is = at;
        long = long;
        below = λ k lt. (let b = stub_fits x kept held.stubs room fits v h.segment h.stub_there h.entry is k (omega arith) in omega arith);
        straight = λ k lt. (let b = stub_address x kept held.stubs room fits v h.segment h.stub_there h.entry is k (omega arith) in ap (λ (n : ℕ). address n k) stub ∙ b ∙ ap (λ (n : ℕ). 16 * n + k) (sym stub));
      }

  stubs_apart : (v w : ℕ) (a b : OverlayCode) → slice_get p.overlays v ≡ Some a → slice_get p.overlays w ≡ Some b → v < w → (i j : ℕ) → i < size_of a → j < size_of b → address b.stub j ≢ address a.stub i
  stubs_apart v w a b fa fb lt i j li lj same =
      let ha = lies v a fa in
      let hb = lies w b fb in
      let sa = ha.straight i li in
      let sb = hb.straight j lj in
      let la = ha.long in
      let lb = hb.long in
      let na = ha.stub in
      let nb = hb.stub in
      held.stubs.apart v w ha.segment hb.segment ha.stub_there hb.stub_there lt i j (omega arith) (omega arith) (omega arith)

  same_stub : (v w : ℕ) (a b : OverlayCode) → slice_get p.overlays v ≡ Some a → slice_get p.overlays w ≡ Some b → a.stub ≡ b.stub → v ≡ w
  same_stub v w a b fa fb same = by (cases_lt v w) (cases_lt w v)
    where
      by : (v < w) ⊎ (w ≤ v) → (w < v) ⊎ (v ≤ w) → v ≡ w
      by (inl before) _ = absurd (stubs_apart v w a b fa fb before 0 0 (omega arith) (omega arith) (ap (λ (n : ℕ). address n 0) (sym same)))
      by (inr later) (inl after) = absurd (stubs_apart w v b a fb fa after 0 0 (omega arith) (omega arith) (ap (λ (n : ℕ). address n 0) same))
      by (inr later) (inr before) = omega arith

  -- ## What stays

  segments : HasSegments p m
  segments = record {
    room = let total = fits in omega arith;
    sizes = λ v o found. (let h = lies v o found in let some = (sizes v h.entry h.entry_there).0 in let size = size_of_entry entries v h.entry h.entry_there in omega arith);
    stubs = same_stub;
    positive = λ v o found. (let stub = (lies v o found).stub in omega arith);
    stub_outside = λ v o found. inl (let total = fits in let b = (lies v o found).below 0 (omega arith) in omega arith);
    image_outside = λ n named. inl (let total = fits in let b = (held.code n named.0 named.1).begins in omega arith);
    image_stubs = λ v o n found named. (let h = lies v o found in λ same. (let stub = h.stub in let at = h.loaded_is in (held.code n named.0 named.1).no_stub v h.segment h.stub_there (omega arith)));
  }

  below_buffer : (at : ℕ) → at < 16 * paragraphs_taken x → IsOffBuffer room at
  below_buffer at lt = inl (let total = fits in omega arith)

  kept_or_off : (at : ℕ) → IsOffBuffer room at ⊎ IsTrue (kept at)
  kept_or_off at = by (cases_lt at (16 * paragraphs_taken x))
    where
      by : (at < 16 * paragraphs_taken x) ⊎ (16 * paragraphs_taken x ≤ at) → IsOffBuffer room at ⊎ IsTrue (kept at)
      by (inl lt) = inl (below_buffer at lt)
      by (inr le) = inr (held.behind at le)

  code_straight : (number : ℕ) (code : List ℕ) (k : ℕ) → p.image number ≡ Some code → k < length code → (address number k ≡ 16 * number + k) × (16 * number + k < 16 * paragraphs_taken x)
  code_straight number code k named lt = let ends = (held.code number code named).ends in let total = fits in (omega arith, omega arith)

  image_apart : (number : ℕ) (code : List ℕ) → p.image number ≡ Some code → IsImageApart p m number code
  image_apart number code named = record {
    off_stubs = λ v o found j k lj lk same.
        (let h = lies v o found in
        let a = (code_straight number code j named lj).0 in
        let b = h.straight k lk in
        let long = h.long in
        let stub = h.stub in
        let at = h.loaded_is in
        (held.code number code named).off_stubs v h.segment h.stub_there j k lj (omega arith) (omega arith));
    off_buffer = λ j lt. (let at = code_straight number code j named lt in subst (IsOffBuffer room) (sym at.0) (below_buffer (16 * number + j) at.1));
  }

  pub sound : IsSound p kept bytes m
  sound = record {
    manages = record { stubs = stubs_made x.image bytes x.block.stubs entries together.same ∙ ap (map (λ (o : OverlayCode). o.stub)) (sym held.overlays); installed = sym held.installed; error_routine = sym held.error_routine; marked = sym held.marked };
    segments = segments;
    apart = record {
      stubs = stubs_apart;
      off_buffer = λ v o found k lt. (let h = lies v o found in subst (IsOffBuffer room) (sym (h.straight k lt)) (below_buffer (16 * o.stub + k) (h.below k lt)));
      buffer = kept_or_off;
    };
    image = image_apart;
    words = λ v o found. (let total = fits in let b = (lies v o found).below 0 (omega arith) in omega arith);
    room = let total = fits in omega arith;
    sizes = refl;
    count = together.same ∙ sym (length-map x.block.stubs loaded_segment);
    code_sizes = sizes;
    whole = whole;
    filed = λ v o found. (let h = lies v o found in record { entry = h.entry; found = h.entry_there; code = ap (λ (z : OverlayCode). z.code) h.is });
  }

  pub fit_alone : largest entries ≤ room → FitAlone p m
  fit_alone enough v o found =
      let h = made v o found in
      let less = size_within entries v (slice_get_within entries v h.entry h.entry_there) in
      omega arith

  -- ## The start

  module _ (input : List ℕ) where
    abbrev q : Process
    q = process_of (loaded x) input

    abbrev cells : Cells
    cells = start_cells kept x

    -- what is known is what memory holds
    same_cells : (place : ℕ) → cells place ≡ cells_of kept memory place
    same_cells place = by (kept place) refl (cases_lt place 1048576)
      where
        by : (b : Bool) → kept place ≡ b → (place < 1048576) ⊎ (1048576 ≤ place) → (if b then Kept else Known (loaded_byte x place)) ≡ (if b then Kept else Known (slice_index memory place))
        by true is where_it = refl
        by false is (inl lt) = ap Known (sym (get_or-loaded_memory x 1048576 place lt))
        by false is (inr le) = let e = sym is ∙ held.behind place (let total = fits in omega arith) in absurd (cc)

    stays : (place : ℕ) → IsTrue (kept place) → cells place ≡ Kept
    stays place is = kept_cell (kept place) (loaded_byte x place) is

    keeps : KeepsProgram p kept memory
    keeps = record {
      size = memory_size x;
      outside = λ place le. held.behind place (let total = fits in omega arith);
      code = λ number code named. record {
        size = (held.code number code named).size;
        bytes = λ k lt. (let at = code_straight number code k named lt in record {
          value = loaded_at x number k (let total = fits in let below = at.1 in omega arith) ∙ (held.code number code named).bytes k lt;
          kept_there = subst (λ (n : ℕ). IsTrue (kept n)) (sym at.0) ((held.code number code named).stays k lt);
        });
      };
    }

    out : (v : ℕ) → (overlay_at (table_before m) v).load ≡ 0
    out v = all_out m refl v

    stub_stands : (v : ℕ) (o : OverlayCode) → slice_get p.overlays v ≡ Some o → StubStands cells memory o (overlay_at (table_before m) v).load (next_stub m.stubs [] v)
    stub_stands v o found =
        let h = made v o found in
        let is = stub_is_of v h.segment h.entry h.stub_there h.entry_there in
        let stands = stub_loaded x kept held.stubs room fits v h.segment h.stub_there h.entry is bytes cells stays in
        subst (λ (load : ℕ). StubStands cells memory o load 0) (sym (out v)) (subst (λ (z : OverlayCode). StubStands cells memory z 0 0) (sym h.is) stands)

    overlays : HoldsOverlays p m none_met cells [] memory
    overlays = record {
      code = λ v o found here. (let e = sym (eq-eqb (overlay_at (table_before m) v).load 0 (out v)) ∙ here in absurd (cc));
      stubs = stub_stands;
      saved = λ v o offset found out unmet topmost. absurd (cc);
    }

    stands : StandsFor p (start_of kept x input) q
    stands =
        let h = start_stands p kept q refl keeps in
        record {
          registers = refl;
          cs = refl;
          memory = record {
            size = h.memory.size;
            outside = λ place le. same_cells place ∙ h.memory.outside place le;
            known = λ place value known. h.memory.known place value (sym (same_cells place) ∙ known);
            code = λ number code named.
                (let c = h.memory.code number code named in record { size = c.size; bytes = λ k lt. record { value = (c.bytes k lt).value; kept = same_cells (address number k) ∙ (c.bytes k lt).kept } });
            words = tt;
          };
          input = refl;
          taken = refl;
          out = refl;
          err = refl;
          status = refl;
        }

    pub matches_start : Matches p (start_of kept x input) (begun (loaded x) m input)
    matches_start = record { stands = stands; here = tt; overlays = overlays; flag = λ unset. refl }

    pub whole_start : resident.IsWhole p kept (start_of kept x input)
    whole_start = record { named = held.entry; returns = tt; stays = stays; paired = tt; outside = λ unset. record { cs = tt; records = tt } }
