-- What a table says that tells apart what stands in memory.
use Rattle.std.proofs.Common.{◌≡◌, ◌≢◌, ℕ, zero, suc, ◌<◌, true, false, List, [], ◌∷◌, length, map, Option, Some, None, refl, sym, ap, ◌∙◌, arith}
use Rattle.std.specs.Prelude.{slice_get, option_map}
use Rattle.resident_machine.specs.Program.{OverlayCode, Program}
use Rattle.return_repair.specs.declared.table.Loaded.{Loaded}
use Rattle.return_repair.specs.Follows.{overlay_at}
use Rattle.return_repair.specs.Pairs.{is_out}
use Rattle.return_repair.specs.Repair.{no_overlay}
use Rattle.overlay_simulation.specs.Matching.{TellsApart}
use Rattle.overlay_simulation.proofs.ShownLaws.{HasOwnStubs}

abbrev stubs_of : List Loaded → List ℕ
stubs_of table = map (λ (l : Loaded). l.stub) table

abbrev stubs_in : List OverlayCode → List ℕ
stubs_in overlays = map (λ (o : OverlayCode). o.stub) overlays

same_tail : (a b : ℕ) (xs ys : List ℕ) → a ∷ xs ≡ b ∷ ys → (a ≡ b) × (xs ≡ ys)
same_tail a b xs ys e = (cc, cc)

stub_by : (table : List Loaded) (overlays : List OverlayCode) (v : ℕ) (o : OverlayCode) → stubs_of table ≡ stubs_in overlays → slice_get overlays v ≡ Some o → (overlay_at table v).stub ≡ o.stub
stub_by table [] v o same found = absurd (cc)
stub_by [] (x ∷ overlays) v o same found = absurd (cc)
stub_by (l ∷ table) (x ∷ overlays) zero o same found =
    let is : x ≡ o = cc in
    (same_tail l.stub x.stub (stubs_of table) (stubs_in overlays) same).0 ∙ ap (λ (z : OverlayCode). z.stub) is
stub_by (l ∷ table) (x ∷ overlays) (suc v) o same found = stub_by table overlays v o (same_tail l.stub x.stub (stubs_of table) (stubs_in overlays) same).1 found

none_by : (table : List Loaded) (overlays : List OverlayCode) (v : ℕ) → stubs_of table ≡ stubs_in overlays → slice_get overlays v ≡ None → overlay_at table v ≡ no_overlay
none_by [] overlays v same found = refl
none_by (l ∷ table) [] v same found = absurd (cc)
none_by (l ∷ table) (x ∷ overlays) zero same found = absurd (cc)
none_by (l ∷ table) (x ∷ overlays) (suc v) same found = none_by table overlays v (same_tail l.stub x.stub (stubs_of table) (stubs_in overlays) same).1 found

-- ## By a table that tells apart

module _ (p : Program) (table : List Loaded) (told : TellsApart p table) where
  pub stub_is : (v : ℕ) (o : OverlayCode) → slice_get p.overlays v ≡ Some o → (overlay_at table v).stub ≡ o.stub
  stub_is v o found = stub_by table p.overlays v o told.same found

  -- an overlay that is loaded is one of the program's
  pub loaded_known : (v : ℕ) → is_out (overlay_at table v) ≡ false → (o : OverlayCode) × (slice_get p.overlays v ≡ Some o)
  loaded_known v loaded = by (slice_get p.overlays v) refl
    where
      by : (x : Option OverlayCode) → slice_get p.overlays v ≡ x → (o : OverlayCode) × (slice_get p.overlays v ≡ Some o)
      by (Some o) found = (o, found)
      by None found = let e = sym loaded ∙ ap is_out (none_by table p.overlays v told.same found) in absurd (cc)

  pub own_stubs : HasOwnStubs table
  own_stubs = record { own = apart }
    where
      apart : (v w : ℕ) → is_out (overlay_at table v) ≡ false → is_out (overlay_at table w) ≡ true → (overlay_at table w).stub ≢ (overlay_at table v).stub
      apart v w loaded out same = by (slice_get p.overlays w) refl
        where
          known : (o : OverlayCode) × (slice_get p.overlays v ≡ Some o)
          known = loaded_known v loaded

          by : (x : Option OverlayCode) → slice_get p.overlays w ≡ x → ⊥
          by (Some b) found =
              let is : w ≡ v = told.stubs w v b known.0 found known.1 (sym (stub_is w b found) ∙ same ∙ stub_is v known.0 known.1) in
              let e = sym out ∙ ap (λ (z : ℕ). is_out (overlay_at table z)) is ∙ loaded in
              absurd (cc)
          by None found =
              let zero_is : 0 ≡ known.0.stub = sym (ap (λ (l : Loaded). l.stub) (none_by table p.overlays w told.same found)) ∙ same ∙ stub_is v known.0 known.1 in
              let positive = told.positive v known.0 known.1 in
              omega arith

-- the code that an overlay's segment names
pub overlay_code : (overlays : List OverlayCode) (v : ℕ) (code : List ℕ) → option_map (λ (o : OverlayCode). o.code) (slice_get overlays v) ≡ Some code → (o : OverlayCode) × (slice_get overlays v ≡ Some o) × (o.code ≡ code)
overlay_code overlays v code e = by (slice_get overlays v) refl e
  where
    by : (x : Option OverlayCode) → slice_get overlays v ≡ x → option_map (λ (o : OverlayCode). o.code) x ≡ Some code → (o : OverlayCode) × (slice_get overlays v ≡ Some o) × (o.code ≡ code)
    by None found e = absurd (cc)
    by (Some o) found e = (o, found, cc)

-- ## Entries of a table

entry_by : (table : List Loaded) (overlays : List OverlayCode) (v : ℕ) → stubs_of table ≡ stubs_in overlays → v < length table → (o : OverlayCode) × (slice_get overlays v ≡ Some o)
entry_by [] overlays v same lt = absurd (omega arith)
entry_by (l ∷ table) [] v same lt = absurd (cc)
entry_by (l ∷ table) (x ∷ overlays) zero same lt = (x, refl)
entry_by (l ∷ table) (x ∷ overlays) (suc v) same lt = entry_by table overlays v (same_tail l.stub x.stub (stubs_of table) (stubs_in overlays) same).1 (omega arith)

pub inside_known : (p : Program) (table : List Loaded) → TellsApart p table → (v : ℕ) → v < length table → (o : OverlayCode) × (slice_get p.overlays v ≡ Some o)
inside_known p table told v lt = entry_by table p.overlays v told.same lt

stub_found : (table : List Loaded) (overlays : List OverlayCode) (v : ℕ) (l : Loaded) → stubs_of table ≡ stubs_in overlays → slice_get table v ≡ Some l → (o : OverlayCode) × (slice_get overlays v ≡ Some o) × (l.stub ≡ o.stub)
stub_found [] overlays v l same found = absurd (cc)
stub_found (x ∷ table) [] v l same found = absurd (cc)
stub_found (x ∷ table) (o ∷ overlays) zero l same found =
    let is : x ≡ l = cc in
    (o, refl, ap (λ (z : Loaded). z.stub) (sym is) ∙ (same_tail x.stub o.stub (stubs_of table) (stubs_in overlays) same).0)
stub_found (x ∷ table) (o ∷ overlays) (suc v) l same found = stub_found table overlays v l (same_tail x.stub o.stub (stubs_of table) (stubs_in overlays) same).1 found

pub entry_stub : (p : Program) (table : List Loaded) → TellsApart p table → (v : ℕ) (l : Loaded) → slice_get table v ≡ Some l → (o : OverlayCode) × (slice_get p.overlays v ≡ Some o) × (l.stub ≡ o.stub)
entry_stub p table told v l found = stub_found table p.overlays v l told.same found
