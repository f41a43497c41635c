-- After a service the code of each loaded overlay stands.
use Rattle.std.proofs.Common.{◌≡◌, ◌≢◌, ◌⊎◌, inl, inr, ℕ, suc, ◌+◌, ◌*◌, ◌/◌, ◌<◌, ◌≤◌, Bool, true, false, List, [], ◌∷◌, length, map, Option, Some, None, refl, sym, ap, subst, ◌∙◌, arith}
use Rattle.std.specs.Prelude.{slice_get, slice_index, ◌==◌}
use Rattle.std.specs.List.{AllByRecursion}
use Rattle.std.proofs.lemmas.Bool.{eqb-true}
use Rattle.std.proofs.lemmas.Bool.Decides.{nat_tests}
use Rattle.std.proofs.lemmas.Option.{slice_get_within}
use Rattle.cpu_8086.specs.Memory.{address}
use Rattle.cpu_8086.specs.State.{State}
use Rattle.overlay_file.specs.declared.overlay.OvrEntry.{OvrEntry}
use Rattle.overlay_ring.specs.declared.seat.Seat.{Seat}
use Rattle.overlay_ring.specs.Table.{Entry, IsTable, AreApart, end_of}
use Rattle.overlay_ring.specs.Seats.{entry_of, table_of, place_of}
use Rattle.return_repair.specs.declared.table.Loaded.{Loaded}
use Rattle.return_repair.specs.Follows.{overlay_at, IsElsewhere, word_bytes, pair_bytes}
use Rattle.overlay_manager.specs.Code.{code_of, Stands}
use Rattle.overlay_manager.specs.Loading.{is_moved, with_loads}
use Rattle.overlay_manager.specs.Manager.{Manager, paragraphs_of, buffer_segment, load_segment, table_from, table_by}
use Rattle.overlay_manager.specs.Orderly.{IsOffBuffer, IsOffPairs, StubOffBuffer, places_of}
use Rattle.overlay_manager.specs.Serves.{CodeStands, HaveSizes, IsStanding, table_before}
use Rattle.overlay_manager.proofs.CarriedLaws.{each-then}
use Rattle.overlay_manager.proofs.LoadLaws.{overlay-at, seat-inside, segment-of, size_of_entry}
use Rattle.overlay_manager.proofs.ServiceLaws.{each-overlay, Steps, only-pairs}
use Rattle.overlay_manager.proofs.StandLaws.{Loads, StandApart, loads-stand, stands-from, length-code_of}
use Rattle.overlay_manager.proofs.StubLaws.{IsOffWritten}
use Rattle.overlay_manager.proofs.WholeLaws.{written_of, written-elsewhere, tabled}

-- a seat apart from those behind it
apart-later : (sizes : List ℕ) (e : Entry) (w : ℕ) (seats : List Seat) (at : ℕ) → AllByRecursion (AreApart sizes e) (table_of seats) → place_of w seats ≡ Some at → (end_of sizes e ≤ at) ⊎ (at + slice_index sizes w ≤ e.at)
apart-later sizes e w [] at apart there = absurd cc
apart-later sizes e w (s ∷ seats) at apart there = by (s.overlay == w) refl (apart-later sizes e w seats at apart.1)
  where
    by : (here : Bool) → (s.overlay == w) ≡ here → (place_of w seats ≡ Some at → (end_of sizes e ≤ at) ⊎ (at + slice_index sizes w ≤ e.at)) → (end_of sizes e ≤ at) ⊎ (at + slice_index sizes w ≤ e.at)
    by true here again =
        let is : s.overlay ≡ w = eqb-true s.overlay w here in
        let place : Some s.at ≡ Some at = rw here at there in
        let at_is : s.at ≡ at = cc in
        subst (λ (w : ℕ). (end_of sizes e ≤ at) ⊎ (at + slice_index sizes w ≤ e.at)) is (subst (λ (at : ℕ). (end_of sizes e ≤ at) ⊎ (at + slice_index sizes s.overlay ≤ e.at)) at_is apart.0.disjoint)
    by false here again = let later : place_of w seats ≡ Some at = rw here at there in again later

other-way : (a b c d : ℕ) → (a ≤ b) ⊎ (c ≤ d) → (c ≤ d) ⊎ (a ≤ b)
other-way a b c d (inl first) = inr first
other-way a b c d (inr second) = inl second

seats-apart : (sizes : List ℕ) (room v w : ℕ) (seats : List Seat) (a b : ℕ) → IsTable sizes room (table_of seats) → place_of v seats ≡ Some a → place_of w seats ≡ Some b → v ≢ w → (a + slice_index sizes v ≤ b) ⊎ (b + slice_index sizes w ≤ a)
seats-apart sizes room v w [] a b sound at_v at_w differ = absurd cc
seats-apart sizes room v w (s ∷ seats) a b sound at_v at_w differ = by (s.overlay == v) refl (s.overlay == w) refl (seats-apart sizes room v w seats a b sound.2)
  where
    by : (here : Bool) → (s.overlay == v) ≡ here → (there : Bool) → (s.overlay == w) ≡ there → (place_of v seats ≡ Some a → place_of w seats ≡ Some b → v ≢ w → (a + slice_index sizes v ≤ b) ⊎ (b + slice_index sizes w ≤ a)) → (a + slice_index sizes v ≤ b) ⊎ (b + slice_index sizes w ≤ a)
    by true here true there again = absurd (differ (sym (eqb-true s.overlay v here) ∙ eqb-true s.overlay w there))
    by true here false there again =
        let is : s.overlay ≡ v = eqb-true s.overlay v here in
        let place : Some s.at ≡ Some a = rw here at at_v in
        let at_is : s.at ≡ a = cc in
        let later : place_of w seats ≡ Some b = rw there at at_w in
        subst (λ (v : ℕ). (a + slice_index sizes v ≤ b) ⊎ (b + slice_index sizes w ≤ a)) is (subst (λ (a : ℕ). (a + slice_index sizes s.overlay ≤ b) ⊎ (b + slice_index sizes w ≤ a)) at_is (apart-later sizes (entry_of s) w seats b sound.1 later))
    by false here true there again =
        let is : s.overlay ≡ w = eqb-true s.overlay w there in
        let place : Some s.at ≡ Some b = rw there at at_w in
        let at_is : s.at ≡ b = cc in
        let later : place_of v seats ≡ Some a = rw here at at_v in
        subst (λ (w : ℕ). (a + slice_index sizes v ≤ b) ⊎ (b + slice_index sizes w ≤ a)) is
        (subst (λ (b : ℕ). (a + slice_index sizes v ≤ b) ⊎ (b + slice_index sizes s.overlay ≤ a)) at_is (other-way (s.at + slice_index sizes s.overlay) a (a + slice_index sizes v) s.at (apart-later sizes (entry_of s) v seats a sound.1 later)))
    by false here false there again =
        let later_v : place_of v seats ≡ Some a = rw here at at_v in
        let later_w : place_of w seats ≡ Some b = rw there at at_w in
        again later_v later_w differ

-- where the code of an overlay stands, by its seat
record Placed (room : ℕ) (entries : List OvrEntry) (seats : List Seat) (load : ℕ) (v : ℕ) (entry : OvrEntry) : Type 0 where
  at : ℕ
  place : place_of v seats ≡ Some at
  load_is : load ≡ buffer_segment room + at
  inside : at + (entry.size + 15) / 16 ≤ room
  size : slice_index (map paragraphs_of entries) v ≡ (entry.size + 15) / 16

placed : (room : ℕ) (entries : List OvrEntry) (stubs : List ℕ) (seats : List Seat) (v : ℕ) (entry : OvrEntry) → room ≤ 40848 → length entries ≡ length stubs → IsTable (map paragraphs_of entries) room (table_of seats) → slice_get entries v ≡ Some entry → (overlay_at (table_from room seats 0 stubs) v).load ≢ 0
    → Placed room entries seats (overlay_at (table_from room seats 0 stubs) v).load v entry
placed room entries stubs seats v entry small same sound found some =
    let there = slice_get_within entries v entry found in
    let number : 0 + v ≡ v = omega arith in
    let load_is = overlay-at room seats 0 stubs v (omega (arith, there, same)) ∙ ap (load_segment room seats) number in
    by load_is (place_of v seats) refl
  where
    by : (overlay_at (table_from room seats 0 stubs) v).load ≡ load_segment room seats v → (at : Option ℕ) → place_of v seats ≡ at → Placed room entries seats (overlay_at (table_from room seats 0 stubs) v).load v entry
    by load_is None none = absurd (some (load_is ∙ segment-of room seats v None none))
    by load_is (Some at) is =
        let segment = load_is ∙ segment-of room seats v (Some at) is in
        let size : slice_index (map paragraphs_of entries) v ≡ (entry.size + 15) / 16 = size_of_entry entries v entry found in
        let inside = seat-inside (map paragraphs_of entries) room v seats at sound is in
        record { at = at; place = is; load_is = omega (arith, segment, inside); inside = omega (arith, inside, size); size = size }

-- the overlays of a legal table stand apart
loads-of : (room : ℕ) (bytes : List ℕ) (entries : List OvrEntry) (stubs : List ℕ) (seats : List Seat) → room ≤ 40848 → length entries ≡ length stubs → IsTable (map paragraphs_of entries) room (table_of seats) → HaveSizes entries → Loads bytes entries (table_from room seats 0 stubs)
loads-of room bytes entries stubs seats small same sound sizes = record {
  inside = λ w other found some. let it = placed room entries stubs seats w other small same sound found some in omega (arith, it.load_is, it.inside);
  small = sizes;
}

stand-apart : (room : ℕ) (entries : List OvrEntry) (stubs : List ℕ) (seats : List Seat) (v : ℕ) (entry : OvrEntry) → room ≤ 40848 → length entries ≡ length stubs → IsTable (map paragraphs_of entries) room (table_of seats) → slice_get entries v ≡ Some entry → (overlay_at (table_from room seats 0 stubs) v).load ≢ 0
    → StandApart entries (table_from room seats 0 stubs) v entry
stand-apart room entries stubs seats v entry small same sound found some = λ w other found_other some_other differ.
    let it = placed room entries stubs seats v entry small same sound found some in
    let that = placed room entries stubs seats w other small same sound found_other some_other in
    by w other it that (seats-apart (map paragraphs_of entries) room w v seats that.at it.at sound that.place it.place differ)
  where
    by : (w : ℕ) (other : OvrEntry) (it : Placed room entries seats (overlay_at (table_from room seats 0 stubs) v).load v entry) (that : Placed room entries seats (overlay_at (table_from room seats 0 stubs) w).load w other) → (that.at + slice_index (map paragraphs_of entries) w ≤ it.at) ⊎ (it.at + slice_index (map paragraphs_of entries) v ≤ that.at)
        → (16 * (overlay_at (table_from room seats 0 stubs) w).load + other.size ≤ 16 * (overlay_at (table_from room seats 0 stubs) v).load) ⊎ (16 * (overlay_at (table_from room seats 0 stubs) v).load + entry.size ≤ 16 * (overlay_at (table_from room seats 0 stubs) w).load)
    by w other it that (inl before) = inl (omega (arith, it.load_is, that.load_is, that.size, before))
    by w other it that (inr after) = inr (omega (arith, it.load_is, that.load_is, it.size, after))

-- an address in the buffer
abbrev IsInBuffer : ℕ → ℕ → Type 0
IsInBuffer room at = (16 * buffer_segment room ≤ at) × (at < 0xA0000)

not-both : (room at other : ℕ) → IsInBuffer room at → IsOffBuffer room other → at ≢ other
not-both room at other inside (inl below) same = omega arith
not-both room at other inside (inr above) same = omega arith

-- once it is loaded the buffer stays as it is
buffer-kept : (m : Manager) (s : State) (pending : Bool) (seats : List Seat) (loaded : List ℕ) → Steps m s pending seats loaded → (at : ℕ) → IsInBuffer m.ring.room at → slice_index (written_of m s pending seats loaded) at ≡ slice_index loaded at
buffer-kept m s pending seats loaded steps at inside =
    let off_written = each-then (StubOffBuffer m.ring.room s.memory) (λ stub. IsOffWritten s.memory stub at) m.stubs (λ stub off_it k above below. not-both m.ring.room at (address stub k) inside (off_it k below)) steps.orderly.stubs_off_buffer in
    let off_saved = each-then (StubOffBuffer m.ring.room s.memory) (λ stub. IsElsewhere at (word_bytes stub 2)) m.stubs
    (λ stub off_it. (not-both m.ring.room at (address stub 2) inside (off_it 2 (omega arith)), (not-both m.ring.room at (address stub 3) inside (off_it 3 (omega arith)), tt))) steps.orderly.stubs_off_buffer in
    let off_pairs : IsOffPairs s.registers.ss (places_of m.marked s pending) at =
    each-then (λ place. AllByRecursion (IsOffBuffer m.ring.room) (pair_bytes s.registers.ss place)) (λ place. IsElsewhere at (pair_bytes s.registers.ss place)) (places_of m.marked s pending)
    (λ place bytes. each-then (IsOffBuffer m.ring.room) (λ byte. at ≢ byte) (pair_bytes s.registers.ss place) (λ byte off_it. not-both m.ring.room at byte inside off_it) bytes) steps.orderly.pairs_off_buffer in
    written-elsewhere m s pending seats loaded steps at off_written
    ∙ (only-pairs m s pending seats loaded steps).others at off_pairs (each-overlay (λ stub. IsElsewhere at (word_bytes stub 2)) (table_by m seats) (tabled (λ stub. IsElsewhere at (word_bytes stub 2)) m seats off_saved))

kept-place : (was now : Loaded) → is_moved was now ≡ false → now.load ≢ 0 → was.load ≡ now.load
kept-place was now kept some = grind (arith, nat_tests)

pub length-table : (room : ℕ) (seats : List Seat) (u : ℕ) (stubs : List ℕ) → length (table_from room seats u stubs) ≡ length stubs
length-table room seats u [] = refl
length-table room seats u (stub ∷ stubs) = ap suc (length-table room seats (u + 1) stubs)

-- The code of each overlay that is loaded stands, where it stood before.
pub code-written : (m : Manager) (bytes : List ℕ) (s : State) (pending : Bool) (seats : List Seat) → m.ring.room ≤ 40848 → length m.entries ≡ length m.stubs → IsTable (map paragraphs_of m.entries) m.ring.room (table_of seats) → IsStanding m bytes s.memory
    → Steps m s pending seats (with_loads bytes m.entries (table_before m) (table_by m seats) s.memory)
    → CodeStands bytes m.entries (table_by m seats) (written_of m s pending seats (with_loads bytes m.entries (table_before m) (table_by m seats) s.memory))
code-written m bytes s pending seats small same sound standing steps = λ v entry found some.
    let old = table_before m in
    let new = table_by m seats in
    let loaded : List ℕ = with_loads bytes m.entries old new s.memory in
    let it = placed m.ring.room m.entries m.stubs seats v entry small same sound found some in
    let sizes = standing.sizes v entry found in
    let whole = standing.whole v entry found in
    let there = slice_get_within m.entries v entry found in
    let length_is : length s.memory ≡ 1048576 = steps.orderly.state.apart.size in
    let load = (overlay_at new v).load in
    let stands = loads-stand bytes m.entries old new s.memory v entry length_is (loads-of m.ring.room bytes m.entries m.stubs seats small same sound standing.sizes)
    (omega (arith, there, same, length-table m.ring.room m.ring.seats 0 m.stubs)) (omega (arith, there, same, length-table m.ring.room seats 0 m.stubs)) found some
    (stand-apart m.ring.room m.entries m.stubs seats v entry small same sound found some) whole
    (λ kept.
    let place : (overlay_at old v).load ≡ load = kept-place (overlay_at old v) (overlay_at new v) kept some in
    subst (λ (load : ℕ). Stands s.memory load (code_of bytes entry)) place (standing.code v entry found (λ none. some (sym place ∙ none)))) in
    stands-from (written_of m s pending seats loaded) loaded load (code_of bytes entry)
    (λ k below.
    let length_code = length-code_of bytes entry sizes.0 whole in
    let at : address load k ≡ 16 * load + k = omega (arith, below, length_code, it.load_is, it.inside) in
    buffer-kept m s pending seats loaded steps (address load k) (omega (arith, at, it.load_is), omega (arith, at, below, length_code, it.load_is, it.inside))) stands
