-- A table of loaded overlays: which of them the buffer holds, and where. Sizes and places are in paragraphs, and places
-- count from the buffer's begin. An overlay is a number, and `sizes` lists the overlays' sizes by number.
use Rattle.std.specs.Prelude.{◌≢◌, ℕ, ◌+◌, ◌<◌, ◌≤◌, ◌⊎◌, ◌==◌, nat_lt, nat_le, not, ◌&&◌, ◌||◌, Bool, true, IsTrue, List, [], ◌∷◌, length, slice_index}
use Rattle.std.specs.List.{AllByRecursion, list_all, list_any}

-- an overlay, and the place where it begins
pub record Entry : Type 0 where
  pub overlay : ℕ
  pub at : ℕ

abbrev pub Table : Type 0
Table = List Entry

-- the place behind the overlay
abbrev pub end_of : List ℕ → Entry → ℕ
end_of sizes e = e.at + slice_index sizes e.overlay

-- it is one of the overlays, and lies inside the buffer
pub record LiesInside (sizes : List ℕ) (room : ℕ) (e : Entry) : Type 0 where
  pub known : e.overlay < length sizes
  pub inside : end_of sizes e ≤ room

-- two different overlays, that share no paragraph
pub record AreApart (sizes : List ℕ) (e f : Entry) : Type 0 where
  pub different : e.overlay ≢ f.overlay
  pub disjoint : (end_of sizes e ≤ f.at) ⊎ (end_of sizes f ≤ e.at)

-- each overlay stands in it at most once, lies inside the buffer, and overlaps no other
abbrev pub IsTable : List ℕ → ℕ → Table → Type 0
IsTable sizes room [] = Unit {0}
IsTable sizes room (e ∷ others) =
    LiesInside sizes room e × AllByRecursion (AreApart sizes e) others × IsTable sizes room others

-- whether an overlay stands in it
abbrev pub is_loaded : Table → ℕ → Bool
is_loaded table overlay = list_any (λ e. e.overlay == overlay) table

-- a table that serves a wanted overlay
pub record IsLegalTable (sizes : List ℕ) (room wanted : ℕ) (table : Table) : Type 0 where
  pub sound : IsTable sizes room table
  pub present : IsTrue (is_loaded table wanted)

-- the same as tests, for a machine that stops at the first table that is not legal
abbrev pub lies_inside : List ℕ → ℕ → Entry → Bool
lies_inside sizes room e = nat_lt e.overlay (length sizes) && nat_le (end_of sizes e) room

abbrev pub are_apart : List ℕ → Entry → Entry → Bool
are_apart sizes e f = not (e.overlay == f.overlay) && (nat_le (end_of sizes e) f.at || nat_le (end_of sizes f) e.at)

abbrev pub is_table : List ℕ → ℕ → Table → Bool
is_table sizes room [] = true
is_table sizes room (e ∷ others) =
    lies_inside sizes room e && (list_all (are_apart sizes e) others && is_table sizes room others)

abbrev pub is_legal_table : List ℕ → ℕ → ℕ → Table → Bool
is_legal_table sizes room wanted table = is_table sizes room table && is_loaded table wanted
