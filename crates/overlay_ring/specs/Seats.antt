-- A list of seats, oldest first: what the ring keeps of each loaded overlay.
use Rattle.std.specs.Prelude.{◌≡◌, ℕ, ◌+◌, ◌≤◌, ◌<◌, ◌==◌, nat_lt, ◌&&◌, Bool, List, [], ◌∷◌, length, map, slice_index, Option, if◌then◌else◌}
use Rattle.std.specs.List.{All, AllByRecursion, find}
use Rattle.std.specs.Option.{option_map}
use Rattle.overlay_ring.specs.declared.seat.Seat.{Seat}
use Rattle.overlay_ring.specs.Table.{Entry, Table, IsTable, is_loaded}

abbrev pub entry_of : Seat → Entry
entry_of s = record { overlay = s.overlay; at = s.at }

-- where the seats stand, as a table
abbrev pub table_of : List Seat → Table
table_of seats = map entry_of seats

-- whether an overlay has a seat
abbrev pub is_seated : ℕ → List Seat → Bool
is_seated overlay seats = is_loaded (table_of seats) overlay

-- the place of an overlay, if it has a seat
abbrev pub place_of : ℕ → List Seat → Option ℕ
place_of overlay seats = option_map (λ s. s.at) (find (λ s. s.overlay == overlay) seats)

-- the seat has a paragraph in common with `size` paragraphs from `at` on
abbrev pub overlaps : ℕ → ℕ → Seat → Bool
overlaps at size s = nat_lt at (s.at + s.size) && nat_lt s.at (at + size)

-- the seats' sizes together
abbrev pub paragraphs : List Seat → ℕ
paragraphs [] = 0
paragraphs (s ∷ newer) = s.size + paragraphs newer

-- how many of the old list's overlays have no seat in the new one
abbrev pub left_count : List Seat → List Seat → ℕ
left_count [] new = 0
left_count (s ∷ newer) new = (if is_seated s.overlay new then 0 else 1) + left_count newer new

abbrev pub HasItsSize : List ℕ → Seat → Type 0
HasItsSize sizes s = s.size ≡ slice_index sizes s.overlay

-- each seat is as large as its overlay, and where they stand is a table
pub record IsSeating (sizes : List ℕ) (room : ℕ) (seats : List Seat) : Type 0 where
  pub sized : AllByRecursion (HasItsSize sizes) seats
  pub sound : IsTable sizes room (table_of seats)

-- there are at most 256 overlays, none is empty, and each fits the buffer alone
pub record AreOverlays (room : ℕ) (sizes : List ℕ) : Type 0 where
  pub few : length sizes ≤ 256
  pub fit : All (λ size. (0 < size) × (size ≤ room)) sizes
