-- What the manager knows of a program's overlays, and the tables that its ring makes.
use Rattle.std.specs.Prelude.{ℕ, ◌+◌, ◌-◌, ◌/◌, ◌%◌, ◌^◌, ◌==◌, min, if◌then◌else◌, Bool, true, List, [], ◌∷◌, length, slice_index}
use Rattle.std.specs.Option.{option_map_or}
use Rattle.cpu_8086.specs.State.{State}
use Rattle.cpu_8086.specs.declared.registers.Far.{Far}
use Rattle.overlay_file.specs.declared.overlay.OvrEntry.{OvrEntry}
use Rattle.overlay_ring.specs.declared.seat.Seat.{Seat}
use Rattle.overlay_ring.specs.Ring.{Buffer}
use Rattle.overlay_ring.specs.Seats.{place_of}
use Rattle.return_repair.specs.Chain.{chain_of, links_of}
use Rattle.return_repair.specs.Repair.{repaired_memory, repaired_count}
use Rattle.return_repair.specs.declared.table.Loaded.{Loaded}
use Rattle.mz_file.specs.Load.{loaded_segment}
use Rattle.overlay_manager.specs.Stubbing.{with_stub}
use Rattle.overlay_manager.specs.declared.tally.Tally.{Tally}

-- The overlays by number: where the file has them, and their stubs; the places that the manager looks at; whether
-- frames are marked; the buffer's ring; how many paragraphs a reprieve may keep; and what was done so far.
pub record Manager : Type 0 where
  pub name : List ℕ
  pub entries : List OvrEntry
  pub stubs : List ℕ
  pub error_routine : Far
  pub installed : Far
  pub marked : Bool
  pub ring : Buffer
  pub retry : ℕ
  pub tally : Tally

-- the size of an overlay in paragraphs
abbrev pub paragraphs_of : OvrEntry → ℕ
paragraphs_of entry = (entry.size + 15) / 16

-- a place of the image as it is loaded
abbrev pub loaded_far : Far → Far
loaded_far far = record { offset = far.offset; segment = loaded_segment far.segment }

-- the segment where the buffer begins, whose end is segment A000h
abbrev pub buffer_segment : ℕ → ℕ
buffer_segment room = 0xA000 - room

-- the segment of an overlay's code, or 0 where it has no seat
abbrev pub load_segment : ℕ → List Seat → ℕ → ℕ
load_segment room seats v = option_map_or (λ at. (buffer_segment room + at) % 65536) (place_of v seats) 0

-- the overlays from number `v` on, whose stubs these are, as the seats have them
abbrev pub table_from : ℕ → List Seat → ℕ → List ℕ → List Loaded
table_from room seats v [] = []
table_from room seats v (stub ∷ stubs) =
    record { stub = stub; load = load_segment room seats v } ∷ table_from room seats (v + 1) stubs

-- the stub of the oldest of these seats, or 0
abbrev pub first_stub : List ℕ → List Seat → ℕ
first_stub stubs [] = 0
first_stub stubs (seat ∷ newer) = slice_index stubs seat.overlay

-- the stub of the overlay that is loaded next after this one, or 0
abbrev pub next_stub : List ℕ → List Seat → ℕ → ℕ
next_stub stubs [] v = 0
next_stub stubs (seat ∷ newer) v = if seat.overlay == v then first_stub stubs newer else next_stub stubs newer v

-- The stubs of the overlays from number `v` on, which stood by one table and stand by another; loaded ones are linked in
-- the order of the seats.
abbrev pub with_stubs : List ℕ → List Seat → ℕ → List Loaded → List Loaded → List ℕ → List ℕ
with_stubs stubs seats v [] new memory = memory
with_stubs stubs seats v (was ∷ old) [] memory = memory
with_stubs stubs seats v (was ∷ old) (now ∷ new) memory =
    with_stubs stubs seats (v + 1) old new (with_stub was.load now.load (next_stub stubs seats v) now.stub memory)

-- the manager with other seats in its ring
abbrev pub with_seats : Manager → List Seat → Manager
with_seats m seats = record m { ring = record m.ring { seats = seats } }

-- the overlays as these seats have them
abbrev pub table_by : Manager → List Seat → List Loaded
table_by m seats = table_from m.ring.room seats 0 m.stubs

-- the memory once all overlays are out, with a return pending
abbrev pub sent_out : Manager → State → List ℕ
sent_out m s =
    with_stubs m.stubs [] 0 (table_by m m.ring.seats) (table_by m [])
    (repaired_memory s true (table_by m m.ring.seats) (table_by m []) (links_of (chain_of m.marked s)))

-- how many live returns change as all go out
abbrev pub sent_count : Manager → State → ℕ
sent_count m s = repaired_count s true (table_by m m.ring.seats) (table_by m []) (links_of (chain_of m.marked s))

-- a tally with so many loads and changed returns more; at the greatest u64 it stays
abbrev pub with_more : Tally → ℕ → ℕ → Tally
with_more tally loads patched =
    record { loads = min (tally.loads + loads) (2 ^ 64 - 1); patched = min (tally.patched + patched) (2 ^ 64 - 1) }

-- the manager once all overlays are out
abbrev pub emptied : Manager → State → Manager
emptied m s = record (with_seats m []) {
  tally = with_more m.tally 0 (sent_count m s);
}

-- Sending all out. Without stubs there is nothing to do.
abbrev pub cleared_manager : Manager → State → Manager
cleared_manager m s = if length m.stubs == 0 then with_seats m [] else emptied m s

abbrev pub cleared : Manager → State → List ℕ
cleared m s = if length m.stubs == 0 then s.memory else sent_out m s
