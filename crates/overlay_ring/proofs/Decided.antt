-- The tests on tables decide.
use Rattle.std.proofs.Common.{◌≡◌, ℕ, List, [], ◌∷◌, length, true, not, ◌&&◌, ◌||◌, ◌==◌, nat_lt, nat_le, inl, inr, refl}
use Rattle.std.specs.List.{AllByRecursion, list_all}
use Rattle.std.specs.Bool.{Decides}
use Rattle.std.proofs.lemmas.Bool.{and_parts, and_from, or_cases, or_left, or_right, not-true, not_from_false, ltb-true, leb-true, lt-ltb, le-leb, eqb-false, ne_eqb}
use Rattle.overlay_ring.specs.Table.{Entry, Table, end_of, LiesInside, AreApart, IsTable, IsLegalTable, is_loaded, lies_inside, are_apart, is_table, is_legal_table}

inside-true : (sizes : List ℕ) (room : ℕ) (e : Entry) → lies_inside sizes room e ≡ true → LiesInside sizes room e
inside-true sizes room e h =
    let parts = and_parts (nat_lt e.overlay (length sizes)) (nat_le (end_of sizes e) room) h in
    record { known = ltb-true _ _ parts.0; inside = leb-true _ _ parts.1 }

inside-from : (sizes : List ℕ) (room : ℕ) (e : Entry) → LiesInside sizes room e → lies_inside sizes room e ≡ true
inside-from sizes room e h = and_from _ _ (lt-ltb _ _ h.known) (le-leb _ _ h.inside)

apart-true : (sizes : List ℕ) (e f : Entry) → are_apart sizes e f ≡ true → AreApart sizes e f
apart-true sizes e f h =
    let before = nat_le (end_of sizes e) f.at in
    let behind = nat_le (end_of sizes f) e.at in
    let parts = and_parts (not (e.overlay == f.overlay)) (before || behind) h in
    record {
      different = eqb-false _ _ (not-true (e.overlay == f.overlay) parts.0);
      disjoint = elim (or_cases before behind parts.1) [ inl l ↦ inl (leb-true _ _ l) | inr l ↦ inr (leb-true _ _ l) ];
    }

apart-from : (sizes : List ℕ) (e f : Entry) → AreApart sizes e f → are_apart sizes e f ≡ true
apart-from sizes e f h =
    let before = nat_le (end_of sizes e) f.at in
    let behind = nat_le (end_of sizes f) e.at in
    and_from (not (e.overlay == f.overlay)) (before || behind) (not_from_false (e.overlay == f.overlay) (ne_eqb _ _ h.different))
    (elim h.disjoint [ inl l ↦ or_left before behind (le-leb _ _ l) | inr l ↦ or_right before behind (le-leb _ _ l) ])

all_apart-true : (sizes : List ℕ) (e : Entry) (others : Table) → list_all (are_apart sizes e) others ≡ true → AllByRecursion (AreApart sizes e) others
all_apart-true sizes e [] h = tt
all_apart-true sizes e (f ∷ others) h =
    let parts = and_parts (are_apart sizes e f) (list_all (are_apart sizes e) others) h in
    (apart-true sizes e f parts.0, all_apart-true sizes e others parts.1)

all_apart-from : (sizes : List ℕ) (e : Entry) (others : Table) → AllByRecursion (AreApart sizes e) others → list_all (are_apart sizes e) others ≡ true
all_apart-from sizes e [] h = refl
all_apart-from sizes e (f ∷ others) h =
    and_from (are_apart sizes e f) (list_all (are_apart sizes e) others) (apart-from sizes e f h.0) (all_apart-from sizes e others h.1)

table-true : (sizes : List ℕ) (room : ℕ) (table : Table) → is_table sizes room table ≡ true → IsTable sizes room table
table-true sizes room [] h = tt
table-true sizes room (e ∷ others) h =
    let apart = list_all (are_apart sizes e) others in
    let rest = is_table sizes room others in
    let first = and_parts (lies_inside sizes room e) (apart && rest) h in
    let second = and_parts apart rest first.1 in
    (inside-true sizes room e first.0, all_apart-true sizes e others second.0, table-true sizes room others second.1)

table-from : (sizes : List ℕ) (room : ℕ) (table : Table) → IsTable sizes room table → is_table sizes room table ≡ true
table-from sizes room [] h = refl
table-from sizes room (e ∷ others) h =
    let apart = list_all (are_apart sizes e) others in
    let rest = is_table sizes room others in
    and_from (lies_inside sizes room e) (apart && rest) (inside-from sizes room e h.0)
    (and_from apart rest (all_apart-from sizes e others h.1) (table-from sizes room others h.2))

-- the test is true exactly of the legal tables
pub is_legal_table-decides : (sizes : List ℕ) (room wanted : ℕ) (table : Table) → Decides (is_legal_table sizes room wanted table) (IsLegalTable sizes room wanted table)
is_legal_table-decides sizes room wanted table = (
  λ h. let parts = and_parts (is_table sizes room table) (is_loaded table wanted) h in
      record { sound = table-true sizes room table parts.0; present = parts.1 },
  λ h. and_from (is_table sizes room table) (is_loaded table wanted) (table-from sizes room table h.sound) h.present,
)
