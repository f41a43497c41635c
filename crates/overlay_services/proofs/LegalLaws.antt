-- A table that is legal for an overlay: its seats, and that the overlay is loaded by it.
use Rattle.std.proofs.Common.{◌≡◌, ℕ, suc, ◌+◌, ◌-◌, ◌*◌, ◌%◌, ◌<◌, ◌≤◌, ◌&&◌, Bool, true, false, List, [], ◌∷◌, length, Option, None, Some, refl, sym, ap, ◌∙◌, subst, arith, ne_eqb}
use Rattle.std.specs.Prelude.{if◌then◌else◌, is_some, nat_lt, slice_index, slice_get}
use Rattle.std.proofs.lemmas.Bool.Decides.{nat_tests}
use Rattle.overlay_file.specs.declared.overlay.OvrEntry.{OvrEntry}
use Rattle.overlay_ring.specs.Seats.{table_of, place_of}
use Rattle.overlay_ring.specs.Table.{Table, IsTable, is_loaded, is_legal_table}
use Rattle.overlay_ring.proofs.Decided.{is_legal_table-decides}
use Rattle.overlay_ring.proofs.Newest.{is_some-place_of}
use Rattle.overlay_manager.specs.Code.{fixups_at}
use Rattle.overlay_manager.specs.Loading.{is_moved, IsWhole}
use Rattle.overlay_manager.specs.Manager.{Manager, buffer_segment, load_segment, table_by}
use Rattle.overlay_manager.proofs.LoadLaws.{overlay-at, seat-inside, segment-of}
use Rattle.return_repair.specs.declared.table.Loaded.{Loaded}
use Rattle.return_repair.specs.Follows.{overlay_at}
use Rattle.return_repair.specs.Pairs.{is_out}
use Rattle.tabled_runs.specs.Tables.{seats_of, short_from}

pub table_of_seats : (sizes : List ℕ) (table : Table) → table_of (seats_of sizes table) ≡ table
table_of_seats sizes [] = refl
table_of_seats sizes (e ∷ table) = ap (λ (others : Table). e ∷ others) (table_of_seats sizes table)

pub legal_sound : (sizes : List ℕ) (room wanted : ℕ) (table : Table) → is_legal_table sizes room wanted table ≡ true → IsTable sizes room (table_of (seats_of sizes table))
legal_sound sizes room wanted table legal = subst (IsTable sizes room) (sym (table_of_seats sizes table)) ((is_legal_table-decides sizes room wanted table).0 legal).sound

place_there : (sizes : List ℕ) (room wanted : ℕ) (table : Table) → is_legal_table sizes room wanted table ≡ true → (at : ℕ) × (place_of wanted (seats_of sizes table) ≡ Some at)
place_there sizes room wanted table legal = by (place_of wanted (seats_of sizes table)) refl
  where
    some : is_some (place_of wanted (seats_of sizes table)) ≡ true
    some = is_some-place_of wanted (seats_of sizes table) ∙ ap (λ (t : Table). is_loaded t wanted) (table_of_seats sizes table) ∙ ((is_legal_table-decides sizes room wanted table).0 legal).present

    by : (x : Option ℕ) → place_of wanted (seats_of sizes table) ≡ x → (at : ℕ) × (place_of wanted (seats_of sizes table) ≡ Some at)
    by (Some at) is = (at, is)
    by None is = let e = sym (ap is_some is) ∙ some in absurd (cc)

-- its segment is not 0
pub legal_loaded : (m : Manager) (wanted : ℕ) (table : Table) → m.ring.room ≤ 40848 → 0 < slice_index m.ring.sizes wanted → wanted < length m.stubs → is_legal_table m.ring.sizes m.ring.room wanted table ≡ true
    → (is_out (overlay_at (table_by m (seats_of m.ring.sizes table)) wanted) ≡ false) × ((overlay_at (table_by m (seats_of m.ring.sizes table)) wanted).load ≡ load_segment m.ring.room (seats_of m.ring.sizes table) wanted)
legal_loaded m wanted table small size inside legal =
    let room = m.ring.room in
    let seats = seats_of m.ring.sizes table in
    let there = place_there m.ring.sizes room wanted table legal in
    let number : 0 + wanted ≡ wanted = omega arith in
    let load : (overlay_at (table_by m seats) wanted).load ≡ load_segment room seats wanted = overlay-at room seats 0 m.stubs wanted inside ∙ ap (load_segment room seats) number in
    let is : (overlay_at (table_by m seats) wanted).load ≡ (buffer_segment room + there.0) % 65536 = load ∙ segment-of room seats wanted (Some there.0) there.1 in
    let fits = seat-inside m.ring.sizes room wanted seats there.0 (legal_sound m.ring.sizes room wanted table legal) there.1 in
    (ne_eqb (overlay_at (table_by m seats) wanted).load 0 (λ none. absurd (omega (arith, is, none, fits, size, small))), load)

-- where the file has each overlay whole none is too short
pub none_short : (bytes : List ℕ) (v : ℕ) (entries : List OvrEntry) (old new : List Loaded) → ((w : ℕ) (entry : OvrEntry) → slice_get entries w ≡ Some entry → IsWhole bytes entry) → short_from bytes v entries old new ≡ None
none_short bytes v [] old new whole = refl
none_short bytes v (entry ∷ entries) [] new whole = refl
none_short bytes v (entry ∷ entries) (was ∷ old) [] whole = refl
none_short bytes v (entry ∷ entries) (was ∷ old) (now ∷ new) whole =
    let has = whole 0 entry refl in
    let fits : nat_lt (length bytes) (fixups_at entry + 2 * entry.fixups) ≡ false = grind (arith, nat_tests) in
    both (is_moved was now) (nat_lt (length bytes) (fixups_at entry + 2 * entry.fixups)) fits
    ∙ none_short bytes (v + 1) entries old new (λ w other found. whole (suc w) other found)
  where
    both : (moved short : Bool) → short ≡ false → (if moved && short then Some v else short_from bytes (v + 1) entries old new) ≡ short_from bytes (v + 1) entries old new
    both true true is = absurd (cc)
    both true false is = refl
    both false short is = refl
