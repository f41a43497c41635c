-- Loading the overlays that come or move, one after another; and where their code lies.
use Rattle.std.proofs.Common.{◌≡◌, ◌≢◌, ℕ, zero, suc, ◌+◌, ◌*◌, ◌/◌, ◌%◌, ◌<◌, ◌≤◌, Bool, true, false, eq-eqb, List, [], ◌∷◌, length, get_or, map, drop, Option, Some, None, IfSome, refl, sym, ap, ap₂, subst, ◌∙◌, arith}
use Rattle.std.specs.Prelude.{slice_get, slice_index, IsTrue, ◌==◌, ◌&&◌, not}
use Rattle.std.specs.Option.{option_map_or}
use Rattle.std.proofs.Math.Seq.{drop-cons}
use Rattle.std.proofs.lemmas.Option.{slice_get_read, slice_get_within, get_or_from_slice_get}
use Rattle.std.proofs.lemmas.Bool.{eqb-true}
use Rattle.std.proofs.lemmas.Bool.Decides.{nat_tests}
use Rattle.cpu_8086.specs.State.{State}
use Rattle.tp_outside.specs.Folder.{Folder, bytes_of}
use Rattle.overlay_file.specs.declared.overlay.OvrEntry.{OvrEntry}
use Rattle.overlay_ring.specs.declared.seat.Seat.{Seat}
use Rattle.overlay_ring.specs.Table.{IsTable}
use Rattle.overlay_ring.specs.Seats.{table_of, place_of}
use Rattle.return_repair.specs.declared.table.Loaded.{Loaded}
use Rattle.return_repair.specs.Repair.{no_overlay}
use Rattle.return_repair.specs.Follows.{overlay_at}
use Rattle.overlay_manager.specs.Loading.{is_moved, with_load, with_loads, IsWhole, LiesWithin}
use Rattle.overlay_manager.specs.Manager.{paragraphs_of, buffer_segment, load_segment, table_from}
use Rattle.overlay_manager.specs.Stops.{LieWithin}

-- the first of what is left, and the rest
left : {X : Type 0} (xs : List X) (k : ℕ) (x : X) → k < length xs → x ≡ get_or xs k x → drop k xs ≡ x ∷ drop (k + 1) xs
left xs k x there is =
    let next : suc k ≡ k + 1 = omega arith in
    drop-cons xs k x there ∙ ap₂ (λ first others. first ∷ others) (sym is) (ap (λ (n : ℕ). drop n xs) next)

pub with_loads-step : (bytes : List ℕ) (entries : List OvrEntry) (old new : List Loaded) (k : ℕ) (memory : List ℕ) (entry : OvrEntry) (was now : Loaded)
    → k < length entries → k < length old → k < length new → entry ≡ get_or entries k entry → was ≡ get_or old k was → now ≡ get_or new k now
    → with_loads bytes (drop k entries) (drop k old) (drop k new) memory ≡ with_loads bytes (drop (k + 1) entries) (drop (k + 1) old) (drop (k + 1) new) (with_load bytes entry was now memory)
with_loads-step bytes entries old new k memory entry was now in_entries in_old in_new entry_is was_is now_is =
    ap (λ (entries : List OvrEntry). with_loads bytes entries (drop k old) (drop k new) memory) (left entries k entry in_entries entry_is)
    ∙ ap (λ (old : List Loaded). with_loads bytes (entry ∷ drop (k + 1) entries) old (drop k new) memory) (left old k was in_old was_is)
    ∙ ap (λ (new : List Loaded). with_loads bytes (entry ∷ drop (k + 1) entries) (was ∷ drop (k + 1) old) new memory) (left new k now in_new now_is)

-- one overlay more, of those that the file has
pub loads-next : (known now_known : Option Folder) (name : List ℕ) (entries : List OvrEntry) (old new : List Loaded) (k : ℕ) (entry : OvrEntry) (was now : Loaded) (first before after : State) → now_known ≡ known
    → k < length entries → k < length old → k < length new → entry ≡ get_or entries k entry → was ≡ get_or old k was → now ≡ get_or new k now
    → IfSome known (λ held. record before { memory = with_loads (bytes_of held name) (drop k entries) (drop k old) (drop k new) before.memory } ≡ record first { memory = with_loads (bytes_of held name) entries old new first.memory })
    → IfSome now_known (λ held. after ≡ record before { memory = with_load (bytes_of held name) entry was now before.memory })
    → IfSome known (λ held. record after { memory = with_loads (bytes_of held name) (drop (k + 1) entries) (drop (k + 1) old) (drop (k + 1) new) after.memory } ≡ record first { memory = with_loads (bytes_of held name) entries old new first.memory })
loads-next None now_known name entries old new k entry was now first before after same in_entries in_old in_new entry_is was_is now_is so_far told = tt
loads-next (Some held) now_known name entries old new k entry was now first before after same in_entries in_old in_new entry_is was_is now_is so_far told =
    let bytes = bytes_of held name in
    let P : Option Folder → Type 0 = λ known. IfSome known (λ held. after ≡ record before { memory = with_load (bytes_of held name) entry was now before.memory }) in
    let done = subst P same told in
    let step = with_loads-step bytes entries old new k before.memory entry was now in_entries in_old in_new entry_is was_is now_is in
    ap (λ (s : State). let t : State = record s { memory = with_loads bytes (drop (k + 1) entries) (drop (k + 1) old) (drop (k + 1) new) s.memory } in t) done
    ∙ ap (λ memory. let t : State = record before { memory = memory } in t) (sym step)
    ∙ so_far

ne : (v k : ℕ) → (v == k) ≡ false → v ≢ k
ne v k differ same = grind (arith, nat_tests)

-- the same of the overlays that the file has whole
pub whole-next : (known now_known : Option Folder) (name : List ℕ) (entries : List OvrEntry) (old new : List Loaded) (k : ℕ) (entry : OvrEntry) (was now : Loaded) → now_known ≡ known
    → k < length entries → entry ≡ get_or entries k entry → was ≡ overlay_at old k → now ≡ overlay_at new k
    → IfSome known (λ held. (v : ℕ) → v < k → IsTrue (is_moved (overlay_at old v) (overlay_at new v)) → IfSome (slice_get entries v) (λ entry. 0 < entry.size → IsWhole (bytes_of held name) entry))
    → IfSome now_known (λ held. IsTrue (is_moved was now) → 0 < entry.size → IsWhole (bytes_of held name) entry)
    → IfSome known (λ held. (v : ℕ) → v < k + 1 → IsTrue (is_moved (overlay_at old v) (overlay_at new v)) → IfSome (slice_get entries v) (λ entry. 0 < entry.size → IsWhole (bytes_of held name) entry))
whole-next None now_known name entries old new k entry was now same there entry_is was_is now_is before this = tt
whole-next (Some held) now_known name entries old new k entry was now same there entry_is was_is now_is before this = λ v below. by v (v == k) refl below
  where
    W : OvrEntry → Type 0
    W entry = 0 < entry.size → IsWhole (bytes_of held name) entry

    by : (v : ℕ) (here : Bool) → (v == k) ≡ here → v < k + 1 → IsTrue (is_moved (overlay_at old v) (overlay_at new v)) → IfSome (slice_get entries v) W
    by v true here below moved =
        let is : v ≡ k = eqb-true v k here in
        let found : slice_get entries k ≡ Some entry = slice_get_read entries (length entries) k entry refl there entry_is in
        let told = subst (λ (known : Option Folder). IfSome known (λ held. IsTrue (is_moved was now) → 0 < entry.size → IsWhole (bytes_of held name) entry)) same this in
        let moved_here : IsTrue (is_moved was now) = ap₂ is_moved (was_is ∙ ap (overlay_at old) (sym is)) (now_is ∙ ap (overlay_at new) (sym is)) ∙ moved in
        subst (λ (entry : Option OvrEntry). IfSome entry W) (sym (ap (slice_get entries) is ∙ found)) (told moved_here)
    by v false here below moved = before v (omega (arith, ne v k here)) moved

-- the entry of a table that seats make
pub overlay-at : (room : ℕ) (seats : List Seat) (u : ℕ) (stubs : List ℕ) (v : ℕ) → v < length stubs → (overlay_at (table_from room seats u stubs) v).load ≡ load_segment room seats (u + v)
overlay-at room seats u [] v there = absurd (omega arith)
overlay-at room seats u (stub ∷ stubs) zero there = let same : u ≡ u + 0 = omega arith in ap (load_segment room seats) same
overlay-at room seats u (stub ∷ stubs) (suc v) there =
    let same : u + 1 + v ≡ u + suc v = omega arith in
    overlay-at room seats (u + 1) stubs v (omega arith) ∙ ap (load_segment room seats) same

-- a seat lies inside the buffer
pub seat-inside : (sizes : List ℕ) (room v : ℕ) (seats : List Seat) (at : ℕ) → IsTable sizes room (table_of seats) → place_of v seats ≡ Some at → at + slice_index sizes v ≤ room
seat-inside sizes room v [] at sound there = absurd cc
seat-inside sizes room v (s ∷ seats) at sound there = by (s.overlay == v) refl (seat-inside sizes room v seats at sound.2)
  where
    by : (here : Bool) → (s.overlay == v) ≡ here → (place_of v seats ≡ Some at → at + slice_index sizes v ≤ room) → at + slice_index sizes v ≤ room
    by true here again =
        let is : s.overlay ≡ v = eqb-true s.overlay v here in
        let place : Some s.at ≡ Some at = rw here at there in
        let at_is : s.at ≡ at = cc in
        let inside : s.at + slice_index sizes s.overlay ≤ room = sound.0.inside in
        subst (λ (v : ℕ). at + slice_index sizes v ≤ room) is (subst (λ (at : ℕ). at + slice_index sizes s.overlay ≤ room) at_is inside)
    by false here again = let later : place_of v seats ≡ Some at = rw here at there in again later

both_of : (a b : Bool) → IsTrue (a && b) → IsTrue a × IsTrue b
both_of true true is = (refl, refl)
both_of true false is = absurd cc
both_of false b is = absurd cc

-- the segment of an overlay, by its place
pub segment-of : (room : ℕ) (seats : List Seat) (v : ℕ) (at : Option ℕ) → place_of v seats ≡ at → load_segment room seats v ≡ option_map_or (λ at. (buffer_segment room + at) % 65536) at 0
segment-of room seats v at there = ap (λ place. option_map_or (λ at. (buffer_segment room + at) % 65536) place 0) there

pub moved_some : (was now : Loaded) → IsTrue (is_moved was now) → now.load ≢ 0
moved_some was now moved none =
    let parts = both_of (not (now.load == 0)) (not (now.load == was.load)) moved in
    let here : (now.load == 0) ≡ true = eq-eqb now.load 0 none in
    let never : not true ≡ true = ap not (sym here) ∙ parts.0 in
    absurd cc

pub size_of_entry : (entries : List OvrEntry) (v : ℕ) (entry : OvrEntry) → slice_get entries v ≡ Some entry → slice_index (map paragraphs_of entries) v ≡ paragraphs_of entry
size_of_entry [] v entry found = absurd cc
size_of_entry (first ∷ entries) zero entry found = let is : first ≡ entry = cc in ap paragraphs_of is
size_of_entry (first ∷ entries) (suc v) entry found = size_of_entry entries v entry found

-- Code that is loaded lies in the buffer.
pub lie-within : (room : ℕ) (entries : List OvrEntry) (stubs : List ℕ) (seats : List Seat) (old : List Loaded) → room ≤ 40848 → length entries ≡ length stubs → IsTable (map paragraphs_of entries) room (table_of seats)
    → LieWithin (16 * buffer_segment room) 0xA0000 entries old (table_from room seats 0 stubs)
lie-within room entries stubs seats old small same sound v moved = by (slice_get entries v) refl
  where
    new : List Loaded
    new = table_from room seats 0 stubs

    by : (entry : Option OvrEntry) → slice_get entries v ≡ entry → IfSome entry (λ entry. LiesWithin (16 * buffer_segment room) 0xA0000 (overlay_at new v).load entry.size)
    by None none = tt
    by (Some entry) found = placed (place_of v seats) refl
      where
        there : v < length entries
        there = slice_get_within entries v entry found

        load_is : (overlay_at new v).load ≡ load_segment room seats v
        load_is = let number : 0 + v ≡ v = omega arith in overlay-at room seats 0 stubs v (omega (arith, there, same)) ∙ ap (load_segment room seats) number

        placed : (at : Option ℕ) → place_of v seats ≡ at → LiesWithin (16 * buffer_segment room) 0xA0000 (overlay_at new v).load entry.size
        placed None none = absurd (moved_some (overlay_at old v) (overlay_at new v) moved (load_is ∙ segment-of room seats v None none))
        placed (Some at) is_there =
            let seat : (overlay_at new v).load ≡ (buffer_segment room + at) % 65536 = load_is ∙ segment-of room seats v (Some at) is_there in
            let inside = seat-inside (map paragraphs_of entries) room v seats at sound is_there in
            let size : slice_index (map paragraphs_of entries) v ≡ (entry.size + 15) / 16 = size_of_entry entries v entry found in
            let low : buffer_segment room + at < 65536 = omega arith in
            let load : (overlay_at new v).load ≡ buffer_segment room + at = omega (arith, seat) in
            record {
              above = omega (arith, load);
              below = omega (arith, load, inside, size);
              inside = omega arith;
            }

-- an overlay that was read from a table
pub read-at : (table : List Loaded) (k : ℕ) (overlay : Loaded) → k < length table → overlay ≡ get_or table k overlay → overlay ≡ overlay_at table k
read-at table k overlay there is = sym (get_or_from_slice_get table k overlay no_overlay (slice_get_read table (length table) k overlay refl there is))

-- where one overlay is loaded, of those that lie within
pub lies-at : (low high : ℕ) (entries : List OvrEntry) (old new : List Loaded) (k : ℕ) (entry : OvrEntry) (was now : Loaded) → k < length entries → entry ≡ get_or entries k entry → was ≡ overlay_at old k → now ≡ overlay_at new k → LieWithin low high entries old new
    → IsTrue (is_moved was now) → LiesWithin low high now.load entry.size
lies-at low high entries old new k entry was now there entry_is was_is now_is lies moved =
    let found : slice_get entries k ≡ Some entry = slice_get_read entries (length entries) k entry refl there entry_is in
    let moved_here : IsTrue (is_moved (overlay_at old k) (overlay_at new k)) = sym (ap₂ is_moved was_is now_is) ∙ moved in
    let it = subst (λ (entry : Option OvrEntry). IfSome entry (λ entry. LiesWithin low high (overlay_at new k).load entry.size)) found (lies k moved_here) in
    subst (λ (now : Loaded). LiesWithin low high now.load entry.size) (sym now_is) it
