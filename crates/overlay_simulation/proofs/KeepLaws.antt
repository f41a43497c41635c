-- Overlays stand in memory as long as the bytes of code and of stubs stay.
use Rattle.std.proofs.Common.{◌≡◌, ℕ, Bool, true, false, List, Some, sym, ap, ◌∙◌, arith}
use Rattle.std.specs.Prelude.{slice_get, option_map}
use Rattle.overlay_manager.specs.Manager.{Manager}
use Rattle.overlay_manager.specs.Serves.{table_before}
use Rattle.resident_machine.specs.Program.{Segment, Overlay, OverlayCode, Program, code_of}
use Rattle.resident_machine.specs.Cells.{Cells}
use Rattle.resident_machine.specs.Standing.{HoldsCode}
use Rattle.resident_machine.specs.State.{Record}
use Rattle.return_repair.specs.declared.table.Loaded.{Loaded}
use Rattle.return_repair.specs.Follows.{overlay_at, topmost_into}
use Rattle.return_repair.specs.Pairs.{is_out, saved_at}
use Rattle.overlay_simulation.specs.Matching.{size_of, HoldsOverlays, TellsApart}
use Rattle.overlay_simulation.specs.Shown.{number_by, IsIn, items_of}
use Rattle.overlay_simulation.proofs.StubLaws.{bytes_from, stands_kept, same_bytes, same_word, stub_room, stub_stands}
use Rattle.overlay_simulation.proofs.TableLaws.{stub_is}

-- Code in memory stays, and so do the bytes of stubs.
pub record Stay (p : Program) (table : List Loaded) (cells later : Cells) (memory after : List ℕ) : Type 0 where
  pub code : (x : Segment) (code : List ℕ) → code_of p x ≡ Some code → IsIn table x → HoldsCode cells memory (number_by table x) code → HoldsCode later after (number_by table x) code
  pub stub : (v : ℕ) (o : OverlayCode) → slice_get p.overlays v ≡ Some o → HoldsCode cells memory o.stub (bytes_from memory o.stub 0 (size_of o)) → HoldsCode later after o.stub (bytes_from memory o.stub 0 (size_of o))

-- of overlays that are out, but where a return was taken, the topmost returns are the same
abbrev pub KeepsTopmost : List Loaded → (ℕ → Bool) → List Record → List Record → Type 0
KeepsTopmost table met records others =
    (v : ℕ) → is_out (overlay_at table v) ≡ true → met (overlay_at table v).stub ≡ false → topmost_into table (overlay_at table v).stub (items_of others) ≡ topmost_into table (overlay_at table v).stub (items_of records)

module _ (p : Program) (m : Manager) (told : TellsApart p (table_before m)) (met next : ℕ → Bool) (cells later : Cells) (records others : List Record) (memory after : List ℕ)
    (h : HoldsOverlays p m met cells records memory) (stay : Stay p (table_before m) cells later memory after) where
  stub_stays : (v : ℕ) (o : OverlayCode) → slice_get p.overlays v ≡ Some o → HoldsCode later after o.stub (bytes_from memory o.stub 0 (size_of o))
  stub_stays v o found =
      let stub = h.stubs v o found in
      stay.stub v o found (stands_kept cells memory o.stub (size_of o) (stub_room cells memory o _ _ stub) stub.kept)

  pub saved_stays : (v : ℕ) (o : OverlayCode) → slice_get p.overlays v ≡ Some o → saved_at after o.stub ≡ saved_at memory o.stub
  saved_stays v o found =
      let room = stub_room cells memory o _ _ (h.stubs v o found) in
      same_word memory after o.stub (size_of o) 2 (same_bytes later memory after o.stub (size_of o) (stub_stays v o found)) (omega arith) room

  pub overlays_stay : ((stub : ℕ) → next stub ≡ false → met stub ≡ false) → KeepsTopmost (table_before m) next records others → HoldsOverlays p m next later others after
  overlays_stay unmet topmost = record {
    code = λ v o found loaded. stay.code (Overlay v) o.code (ap (option_map (λ (o : OverlayCode). o.code)) found) loaded (h.code v o found loaded);
    stubs = λ v o found. stub_stands cells later memory after o _ _ (h.stubs v o found) (stub_stays v o found);
    saved = saved;
  }
    where
      saved : (v : ℕ) (o : OverlayCode) (offset : ℕ) → slice_get p.overlays v ≡ Some o → is_out (overlay_at (table_before m) v) ≡ true → next o.stub ≡ false → topmost_into (table_before m) o.stub (items_of others) ≡ Some offset → saved_at after o.stub ≡ offset
      saved v o offset found out new is =
          let table = table_before m in
          let stub : (overlay_at table v).stub ≡ o.stub = stub_is p table told v o found in
          let same = topmost v out (ap next stub ∙ new) in
          let there : topmost_into table (overlay_at table v).stub (items_of others) ≡ Some offset = ap (λ (z : ℕ). topmost_into table z (items_of others)) stub ∙ is in
          let before : topmost_into table o.stub (items_of records) ≡ Some offset = ap (λ (z : ℕ). topmost_into table z (items_of records)) (sym stub) ∙ (sym same ∙ there) in
          saved_stays v o found ∙ h.saved v o offset found out (unmet o.stub new) before
