-- The ring as a function on lists of seats, oldest first.
use Rattle.std.specs.Prelude.{ℕ, suc, ◌+◌, ◌-◌, length, slice_get, nat_le, ◌&&◌, Bool, false, List, [], ◌∷◌, ◌++◌, take, drop, slice_index, slice_index_or, if◌then◌else◌}
use Rattle.std.specs.List.{list_any}
use Rattle.std.specs.Option.{option_map_or}
use Rattle.overlay_ring.specs.declared.seat.Seat.{Seat}
use Rattle.overlay_ring.specs.Seats.{is_seated, overlaps, paragraphs}

-- what a ring is: the overlays' sizes, the buffer's size, and the seats
pub record Buffer : Type 0 where
  pub sizes : List ℕ
  pub room : ℕ
  pub seats : List Seat

-- the place behind the newest seat, or 0
abbrev pub end_of_newest : List Seat → ℕ
end_of_newest seats = option_map_or (λ s. s.at + s.size) (slice_get seats (length seats - 1)) 0

-- behind the newest seat, where `size` paragraphs fit before the buffer's end, else at its begin
abbrev pub next_place : ℕ → ℕ → List Seat → ℕ
next_place room size seats = if nat_le (end_of_newest seats + size) room then end_of_newest seats else 0

-- how many seats are dropped for `size` paragraphs from `at` on: the oldest one goes as long as any overlaps
abbrev pub drop_count : ℕ → ℕ → List Seat → ℕ
drop_count at size [] = 0
drop_count at size (s ∷ newer) = if list_any (overlaps at size) (s ∷ newer) then suc (drop_count at size newer) else 0

-- the place and the size of an overlay that has no seat yet, and how many seats are dropped for it
pub record Load : Type 0 where
  pub at : ℕ
  pub size : ℕ
  pub dropped : ℕ

abbrev pub load_of : List ℕ → ℕ → ℕ → List Seat → Load
load_of sizes room wanted seats =
    let size = slice_index sizes wanted in
    let at = next_place room size seats in
    record { at = at; size = size; dropped = drop_count at size seats }

-- the seat that the overlay gets
abbrev pub new_seat : Load → ℕ → Seat
new_seat load wanted = record { overlay = wanted; at = load.at; size = load.size }

-- the list with that seat as its newest, and without the dropped ones
abbrev pub after_load : Load → ℕ → List Seat → List Seat
after_load load wanted seats =
    drop load.dropped seats ++ new_seat load wanted ∷ []

-- the list after an overlay was wanted
abbrev pub ring_after : List ℕ → ℕ → ℕ → List Seat → List Seat
ring_after sizes room wanted seats =
    if is_seated wanted seats then seats else after_load (load_of sizes room wanted seats) wanted seats

-- whether live returns denote an overlay
abbrev pub is_live : List Bool → ℕ → Bool
is_live live overlay = slice_index_or live overlay false

-- of the dropped seats those that are reprieved, in their old order. The newest is chosen first. `most` bounds their
-- sizes together, and `taken` is what the rest of the list needs of the room
abbrev pub reprieved : List Bool → ℕ → ℕ → ℕ → List Seat → List Seat
reprieved live most taken room [] = []
reprieved live most taken room (s ∷ newer) =
    let chosen = reprieved live most taken room newer in
    let needed = paragraphs chosen + s.size in
    if is_live live s.overlay && (nat_le needed most && nat_le (needed + taken) room) then s ∷ chosen else chosen

-- the seats placed from `from` upward without gaps
abbrev pub packed : ℕ → List Seat → List Seat
packed from [] = []
packed from (s ∷ newer) = record s { at = from } ∷ packed (from + s.size) newer

-- the reprieved seats and then the list, packed; with none reprieved the list stands
abbrev pub with_reprieved : List Seat → List Seat → List Seat
with_reprieved [] list = list
with_reprieved (s ∷ chosen) list = packed 0 (s ∷ chosen ++ list)

abbrev pub reprieved_for : List Bool → ℕ → Load → ℕ → ℕ → List Seat → List Seat
reprieved_for live most load room wanted seats =
    reprieved live most (paragraphs (after_load load wanted seats)) room (take load.dropped seats)

-- the list after an overlay was wanted, with reprieve for the overlays that are live, up to `most` paragraphs
abbrev pub retry_after : List ℕ → ℕ → List Bool → ℕ → ℕ → List Seat → List Seat
retry_after sizes room live most wanted seats =
    if is_seated wanted seats then seats else (let load = load_of sizes room wanted seats in
    with_reprieved (reprieved_for live most load room wanted seats) (after_load load wanted seats))
