-- By a table that tells apart what stands in memory each overlay is found again, and return pairs denote what records say.
use Rattle.std.proofs.Common.{◌≡◌, ◌≢◌, ℕ, ◌<◌, ◌==◌, ◌||◌, ◌&&◌, not, Bool, true, false, cond, List, [], ◌∷◌, length, Some, None, refl, sym, ap, ◌∙◌, arith, eq-eqb, ne_eqb}
use Rattle.std.specs.List.{AllByRecursion}
use Rattle.std.specs.Prelude.{nat_lt, slice_get, option_map}
use Rattle.std.proofs.lemmas.Bool.Decides.{nat_tests}
use Rattle.std.proofs.lemmas.List.Sums.{position_or_len_is}
use Rattle.overlay_manager.specs.Kept.{shown_segment, IsFound, IsReturn, AreReturns}
use Rattle.resident_machine.specs.Program.{Segment, Image, Overlay, OverlayCode, Program}
use Rattle.resident_machine.specs.State.{Record}
use Rattle.resident_machine.specs.Whole as whole
use Rattle.resident_machine.specs.Whole.{IsNamed}
use Rattle.return_repair.specs.declared.table.Loaded.{Loaded}
use Rattle.return_repair.specs.Follows.{overlay_at}
use Rattle.return_repair.specs.Pairs.{owner, has_segment, is_out}
use Rattle.return_repair.specs.Repair.{no_overlay}
use Rattle.overlay_simulation.specs.Matching.{TellsApart}
use Rattle.overlay_simulation.specs.Shown.{denoting, items_of}
use Rattle.overlay_simulation.proofs.TableLaws.{stub_is, inside_known}

-- an entry of a table that neither stands at a segment nor has its stub there
not_at : (segment : ℕ) (overlay : Loaded) → (is_out overlay ≡ false → overlay.load ≢ segment) → overlay.stub ≢ segment → has_segment segment overlay ≡ false
not_at segment overlay load stub = by (is_out overlay) refl
  where
    apart : (overlay.stub == segment) ≡ false
    apart = ne_eqb overlay.stub segment stub

    by : (out : Bool) → is_out overlay ≡ out → ((not out && (overlay.load == segment)) || (overlay.stub == segment)) ≡ false
    by true out = apart
    by false out = rw (ne_eqb overlay.load segment (load out)) apart

-- one that does
at_shown : (overlay : Loaded) → has_segment (shown_segment overlay) overlay ≡ true
at_shown overlay = by (is_out overlay)
  where
    either : (x : Bool) → (x || true) ≡ true
    either true = refl
    either false = refl

    by : (out : Bool) → ((not out && (overlay.load == cond out overlay.stub overlay.load)) || (overlay.stub == cond out overlay.stub overlay.load)) ≡ true
    by true = eq-eqb overlay.stub overlay.stub refl
    by false = rw (eq-eqb overlay.load overlay.load refl) refl

module _ (p : Program) (table : List Loaded) (told : TellsApart p table) where
  known : (v : ℕ) → v < length table → (o : OverlayCode) × (slice_get p.overlays v ≡ Some o)
  known v lt = inside_known p table told v lt

  named : (v : ℕ) → v < length table → IsNamed p (Overlay v)
  named v lt = ((known v lt).0.code, ap (option_map (λ (o : OverlayCode). o.code)) (known v lt).1)

  stub_known : (v : ℕ) → (lt : v < length table) → (overlay_at table v).stub ≡ (known v lt).0.stub
  stub_known v lt = stub_is p table told v (known v lt).0 (known v lt).1

  -- no two overlays stand at one segment
  loads_differ : (v w : ℕ) → v < length table → w < length table → v ≢ w → is_out (overlay_at table v) ≡ false → is_out (overlay_at table w) ≡ false → (overlay_at table v).load ≢ (overlay_at table w).load
  loads_differ v w lv lw apart here there same =
      let is : Overlay v ≡ Overlay w = told.codes (Overlay v) (Overlay w) (named v lv) (named w lw) here there same in
      let number : v ≡ w = cc in
      apart number

  stub_not_load : (v w : ℕ) → v < length table → w < length table → is_out (overlay_at table w) ≡ false → (overlay_at table v).stub ≢ (overlay_at table w).load
  stub_not_load v w lv lw there same = told.others v (known v lv).0 (Overlay w) (known v lv).1 (named w lw) there (sym (stub_known v lv) ∙ same)

  stubs_differ : (v w : ℕ) → v < length table → w < length table → (overlay_at table v).stub ≡ (overlay_at table w).stub → v ≡ w
  stubs_differ v w lv lw same = told.stubs v w (known v lv).0 (known w lw).0 (known v lv).1 (known w lw).1 (sym (stub_known v lv) ∙ same ∙ stub_known w lw)

  other_shown : (v k : ℕ) → v < length table → k < length table → k ≢ v → has_segment (shown_segment (overlay_at table v)) (overlay_at table k) ≡ false
  other_shown v k lv lk apart = by (is_out (overlay_at table v)) refl
    where
      by : (out : Bool) → is_out (overlay_at table v) ≡ out → has_segment (cond out (overlay_at table v).stub (overlay_at table v).load) (overlay_at table k) ≡ false
      by true out = not_at (overlay_at table v).stub (overlay_at table k) (λ here same. stub_not_load v k lv lk here (sym same)) (λ same. apart (stubs_differ k v lk lv same))
      by false out = not_at (overlay_at table v).load (overlay_at table k) (λ here. loads_differ k v lk lv apart here out) (stub_not_load k v lk lv out)

  owner_is : (v : ℕ) → v < length table → owner table (shown_segment (overlay_at table v)) ≡ Some v
  owner_is v lt =
      let segment : ℕ = shown_segment (overlay_at table v) in
      let place = position_or_len_is (has_segment segment) table v no_overlay (omega arith) (λ k less. other_shown v k lt (omega arith) (omega arith)) (λ there. at_shown (overlay_at table v)) in
      let inside : nat_lt v (length table) ≡ true = grind (arith, nat_tests) in
      ap (λ (n : ℕ). cond (nat_lt n (length table)) (Some n) None) place ∙ rw inside refl

  pub found : IsFound table
  found = record {
    owners = owner_is;
    stubs = stubs_differ;
    loads = λ v lt here. ne_eqb (overlay_at table v).stub (overlay_at table v).load (stub_not_load v v lt lt here);
  }

  -- ## Returns

  -- no overlay has the segment of code of the image
  image_owner : (n : ℕ) → IsNamed p (Image n) → owner table n ≡ None
  image_owner n image =
      let none : (k : ℕ) → k < length table → has_segment n (overlay_at table k) ≡ false =
      λ k lt. not_at n (overlay_at table k) (λ here same. (let is : Overlay k ≡ Image n = told.codes (Overlay k) (Image n) (named k lt) image here tt same in absurd (cc)))
      (λ same. told.others k (known k lt).0 (Image n) (known k lt).1 image tt (sym (stub_known k lt) ∙ same)) in
      let place = position_or_len_is (has_segment n) table (length table) no_overlay (omega arith) none (λ lt. absurd (omega arith)) in
      let outside : nat_lt (length table) (length table) ≡ false = grind (arith, nat_tests) in
      ap (λ (k : ℕ). cond (nat_lt k (length table)) (Some k) None) place ∙ rw outside refl

  return_is : (segment : Segment) (offset : ℕ) → IsNamed p segment → ((v : ℕ) → segment ≡ Overlay v → 0 < offset) → IsReturn table (denoting segment offset)
  return_is (Image n) offset code positive = image_owner n code
  return_is (Overlay v) offset code positive = λ none. (let some = positive v refl in absurd (omega arith))

  pub returns : (records : List Record) → AllByRecursion (whole.IsReturn p) records → AreReturns table (items_of records)
  returns [] h = tt
  returns (x ∷ records) h = (return_is x.segment x.offset h.0.named h.0.positive, returns records h.1)
