-- A table that seats make tells apart what stands in memory, where they lie inside the buffer without overlap.
use Rattle.std.proofs.Common.{◌≡◌, ◌≢◌, ◌⊎◌, inl, inr, ℕ, zero, suc, ◌+◌, ◌%◌, ◌<◌, ◌≤◌, ◌==◌, Bool, true, false, List, [], ◌∷◌, length, map, Option, Some, None, refl, sym, ap, ◌∙◌, subst, arith, eq-eqb, eqb-true}
use Rattle.std.specs.List.{AllByRecursion}
use Rattle.std.specs.Prelude.{slice_index, slice_get}
use Rattle.std.proofs.lemmas.Bool.{cases_lt}
use Rattle.std.proofs.lemmas.List.{length-map}
use Rattle.overlay_manager.specs.Manager.{Manager, buffer_segment, load_segment, table_from, table_by}
use Rattle.overlay_manager.proofs.LoadLaws.{overlay-at, seat-inside, segment-of}
use Rattle.overlay_ring.specs.declared.seat.Seat.{Seat}
use Rattle.overlay_ring.specs.Seats.{entry_of, table_of, place_of}
use Rattle.overlay_ring.specs.Table.{Entry, AreApart, IsTable, end_of}
use Rattle.resident_machine.specs.Program.{Segment, Image, Overlay, OverlayCode, Program}
use Rattle.resident_machine.specs.Whole.{IsNamed}
use Rattle.return_repair.specs.declared.table.Loaded.{Loaded}
use Rattle.return_repair.specs.Follows.{overlay_at}
use Rattle.return_repair.specs.Pairs.{is_out}
use Rattle.return_repair.specs.Repair.{no_overlay}
use Rattle.overlay_simulation.specs.Managing.{Manages}
use Rattle.overlay_simulation.specs.Matching.{TellsApart}
use Rattle.overlay_simulation.specs.Segments.{LiesOutside, HasSegments}
use Rattle.overlay_simulation.specs.Shown.{number_by, IsIn}

-- ## Seats at one place

-- a seat that begins where another does is none of those that lie apart from it
none_later : (sizes : List ℕ) (e : Entry) (w : ℕ) (seats : List Seat) → AllByRecursion (AreApart sizes e) (table_of seats) → 0 < slice_index sizes e.overlay → 0 < slice_index sizes w → place_of w seats ≡ Some e.at → ⊥
none_later sizes e w [] apart here there found = absurd (cc)
none_later sizes e w (s ∷ seats) apart here there found = by (s.overlay == w) refl (none_later sizes e w seats apart.1 here there)
  where
    overlap : s.overlay ≡ w → s.at ≡ e.at → (end_of sizes e ≤ s.at) ⊎ (end_of sizes (entry_of s) ≤ e.at) → ⊥
    overlap same at (inl before) = omega arith
    overlap same at (inr after) = let size : slice_index sizes s.overlay ≡ slice_index sizes w = ap (slice_index sizes) same in omega arith

    by : (is : Bool) → (s.overlay == w) ≡ is → (place_of w seats ≡ Some e.at → ⊥) → ⊥
    by true is again =
        let place : Some s.at ≡ Some e.at = rw is at found in
        let at : s.at ≡ e.at = cc in
        overlap (eqb-true s.overlay w is) at apart.0.disjoint
    by false is again = let later : place_of w seats ≡ Some e.at = rw is at found in again later

same_seat : (sizes : List ℕ) (room v w : ℕ) (seats : List Seat) (spot : ℕ) → IsTable sizes room (table_of seats) → 0 < slice_index sizes v → 0 < slice_index sizes w → place_of v seats ≡ Some spot → place_of w seats ≡ Some spot → v ≡ w
same_seat sizes room v w [] spot sound here there first second = absurd (cc)
same_seat sizes room v w (s ∷ seats) spot sound here there first second = by (s.overlay == v) refl (s.overlay == w) refl (same_seat sizes room v w seats spot sound.2 here there)
  where
    -- the first seat is that of one, and a later one that of the other
    clash : (k j : ℕ) → s.overlay ≡ k → 0 < slice_index sizes k → 0 < slice_index sizes j → s.at ≡ spot → place_of j seats ≡ Some spot → ⊥
    clash k j is some other place later = none_later sizes (entry_of s) j seats sound.1 (subst (λ (n : ℕ). 0 < slice_index sizes n) (sym is) some) other (later ∙ ap Some (sym place))

    by : (x : Bool) → (s.overlay == v) ≡ x → (y : Bool) → (s.overlay == w) ≡ y → (place_of v seats ≡ Some spot → place_of w seats ≡ Some spot → v ≡ w) → v ≡ w
    by true is true also again = sym (eqb-true s.overlay v is) ∙ eqb-true s.overlay w also
    by true is false apart again =
        let place : Some s.at ≡ Some spot = rw is at first in
        let same : s.at ≡ spot = cc in
        let later : place_of w seats ≡ Some spot = rw apart at second in
        absurd (clash v w (eqb-true s.overlay v is) here there same later)
    by false apart true is again =
        let place : Some s.at ≡ Some spot = rw is at second in
        let same : s.at ≡ spot = cc in
        let later : place_of v seats ≡ Some spot = rw apart at first in
        absurd (clash w v (eqb-true s.overlay w is) there here same later)
    by false apart false also again =
        let later_v : place_of v seats ≡ Some spot = rw apart at first in
        let later_w : place_of w seats ≡ Some spot = rw also at second in
        again later_v later_w

-- ## The table of seats

stubs_from : (room u : ℕ) (seats : List Seat) (stubs : List ℕ) → map (λ (l : Loaded). l.stub) (table_from room seats u stubs) ≡ stubs
stubs_from room u seats [] = refl
stubs_from room u seats (stub ∷ stubs) = ap (λ (xs : List ℕ). stub ∷ xs) (stubs_from room (u + 1) seats stubs)

none_beyond : (room u : ℕ) (seats : List Seat) (stubs : List ℕ) (v : ℕ) → length stubs ≤ v → overlay_at (table_from room seats u stubs) v ≡ no_overlay
none_beyond room u seats [] v beyond = refl
none_beyond room u seats (stub ∷ stubs) zero beyond = absurd (omega arith)
none_beyond room u seats (stub ∷ stubs) (suc v) beyond = none_beyond room (u + 1) seats stubs v (omega arith)

module _ (p : Program) (m : Manager) (seats : List Seat) (manages : Manages p m) (segments : HasSegments p m) (sound : IsTable m.ring.sizes m.ring.room (table_of seats)) where
  abbrev room : ℕ
  room = m.ring.room

  abbrev table : List Loaded
  table = table_by m seats

  -- where an overlay stands that is loaded
  pub record IsSeated (v : ℕ) : Type 0 where
    pub code : OverlayCode
    pub found : slice_get p.overlays v ≡ Some code
    pub place : ℕ
    pub seat : place_of v seats ≡ Some place
    pub load : (overlay_at table v).load ≡ buffer_segment room + place
    pub inside : place + slice_index m.ring.sizes v ≤ room

  known : (v : ℕ) → v < length m.stubs → (o : OverlayCode) × (slice_get p.overlays v ≡ Some o)
  known v lt = by (slice_get p.overlays v) refl
    where
      by : (x : Option OverlayCode) → slice_get p.overlays v ≡ x → (o : OverlayCode) × (slice_get p.overlays v ≡ Some o)
      by (Some o) found = (o, found)
      by None none =
          let size : length m.stubs ≡ length p.overlays = ap length manages.stubs ∙ length-map p.overlays (λ (o : OverlayCode). o.stub) in
          absurd (slice_get_none p.overlays v (omega arith) none)
        where
          slice_get_none : (os : List OverlayCode) (v : ℕ) → v < length os → slice_get os v ≡ None → ⊥
          slice_get_none [] v lt e = absurd (omega arith)
          slice_get_none (o ∷ os) zero lt e = absurd (cc)
          slice_get_none (o ∷ os) (suc v) lt e = slice_get_none os v (omega arith) e

  pub seated : (v : ℕ) → is_out (overlay_at table v) ≡ false → IsSeated v
  seated v loaded = by (cases_lt v (length m.stubs))
    where
      at_place : (lt : v < length m.stubs) (x : Option ℕ) → place_of v seats ≡ x → IsSeated v
      at_place lt None none =
          let number : 0 + v ≡ v = omega arith in
          let load : (overlay_at table v).load ≡ 0 = overlay-at room seats 0 m.stubs v lt ∙ ap (load_segment room seats) number ∙ segment-of room seats v None none in
          let e = sym (eq-eqb (overlay_at table v).load 0 load) ∙ loaded in
          absurd (cc)
      at_place lt (Some at) seat =
          let number : 0 + v ≡ v = omega arith in
          let load = overlay-at room seats 0 m.stubs v lt ∙ ap (load_segment room seats) number ∙ segment-of room seats v (Some at) seat in
          let inside = seat-inside m.ring.sizes room v seats at sound seat in
          let small = segments.room in
          let o = known v lt in
          let straight : (buffer_segment room + at) % 65536 ≡ buffer_segment room + at = omega arith in
          record { code = o.0; found = o.1; place = at; seat = seat; load = load ∙ straight; inside = inside }

      by : (v < length m.stubs) ⊎ (length m.stubs ≤ v) → IsSeated v
      by (inl lt) = at_place lt (place_of v seats) refl
      by (inr beyond) = let e = sym loaded ∙ ap is_out (none_beyond room 0 seats m.stubs v beyond) in absurd (cc)

  -- its segment is the buffer's
  not_outside : (v : ℕ) (segment : ℕ) → IsSeated v → LiesOutside room segment → segment ≢ (overlay_at table v).load
  not_outside v segment h (inl below) same = let load = h.load in omega arith
  not_outside v segment h (inr above) same =
      let load = h.load in
      let inside = h.inside in
      let some = segments.sizes v h.code h.found in
      let small = segments.room in
      omega arith

  same_load : (v w : ℕ) → IsSeated v → IsSeated w → (overlay_at table v).load ≡ (overlay_at table w).load → v ≡ w
  same_load v w a b same =
      let place : b.place ≡ a.place = (let x = a.load in let y = b.load in omega arith) in
      same_seat m.ring.sizes room v w seats a.place sound (segments.sizes v a.code a.found) (segments.sizes w b.code b.found) a.seat (b.seat ∙ ap Some place)

  pub told : TellsApart p table
  told = record {
    same = stubs_from room 0 seats m.stubs ∙ manages.stubs;
    codes = codes;
    stubs = segments.stubs;
    others = others;
    positive = segments.positive;
  }
    where
      codes : (x y : Segment) → IsNamed p x → IsNamed p y → IsIn table x → IsIn table y → number_by table x ≡ number_by table y → x ≡ y
      codes (Image n) (Image k) a b here there same = ap Image same
      codes (Image n) (Overlay w) a b here there same = absurd (not_outside w n (seated w there) (segments.image_outside n a) same)
      codes (Overlay v) (Image k) a b here there same = absurd (not_outside v k (seated v here) (segments.image_outside k b) (sym same))
      codes (Overlay v) (Overlay w) a b here there same = ap Overlay (same_load v w (seated v here) (seated w there) same)

      others : (v : ℕ) (o : OverlayCode) (x : Segment) → slice_get p.overlays v ≡ Some o → IsNamed p x → IsIn table x → o.stub ≢ number_by table x
      others v o (Image n) found a here same = segments.image_stubs v o n found a same
      others v o (Overlay w) found a here same = not_outside w o.stub (seated w here) (segments.stub_outside v o found) same
