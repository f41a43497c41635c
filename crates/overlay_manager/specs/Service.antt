-- A service in small steps: the ring decides which overlays are loaded and where; those that come or move are loaded, live
-- returns follow, the stubs are written, and control goes on.
use Rattle.std.specs.Prelude.{ℕ, ◌+◌, Bool, if◌then◌else◌, List, [], ◌∷◌, Result, Ok, Err}
use Rattle.cpu_8086.specs.State.{State}
use Rattle.overlay_file.specs.declared.overlay.OvrEntry.{OvrEntry}
use Rattle.overlay_ring.specs.declared.seat.Seat.{Seat}
use Rattle.overlay_ring.specs.Ring.{retry_after}
use Rattle.frame_links.specs.Links.{Link}
use Rattle.return_repair.specs.declared.table.Loaded.{Loaded}
use Rattle.return_repair.specs.Chain.{chain_of}
use Rattle.return_repair.specs.Pairs.{saved_at}
use Rattle.return_repair.specs.Live.{is_live}
use Rattle.return_repair.specs.Repair.{repaired_memory, repaired_count}
use Rattle.overlay_manager.specs.declared.traps.Trap.{Trap}
use Rattle.overlay_manager.specs.Traps.{is_refused, refused, resumed}
use Rattle.overlay_manager.specs.Loading.{with_loads, load_count}
use Rattle.overlay_manager.specs.Manager.{Manager, load_segment, with_stubs, table_by, with_seats, with_more}

-- for the overlays from number `v` on, whose stubs these are, whether live returns denote them
abbrev pub flags_from : Bool → State → Bool → List Loaded → ℕ → List ℕ → List Bool
flags_from marked s pending table v [] = []
flags_from marked s pending table v (stub ∷ stubs) = is_live marked s pending table v ∷ flags_from marked s pending table (v + 1) stubs

-- the seats once the overlay of a trap was wanted
abbrev pub seats_after : Manager → Trap → State → List Seat
seats_after m trap s =
    retry_after m.ring.sizes m.ring.room (flags_from m.marked s trap.call (table_by m m.ring.seats) 0 m.stubs) m.retry trap.overlay m.ring.seats

-- The memory once live returns followed. Where loading wrote over the chain, which no orderly state allows, none do.
abbrev pub followed_by : State → Bool → List Loaded → List Loaded → Result (List Link) ℕ → List ℕ
followed_by s pending old new (Ok links) = repaired_memory s pending old new links
followed_by s pending old new (Err bad) = s.memory

abbrev pub followed : Bool → State → Bool → List Loaded → List Loaded → List ℕ
followed marked s pending old new = followed_by s pending old new (chain_of marked s)

abbrev pub followed_count_by : State → Bool → List Loaded → List Loaded → Result (List Link) ℕ → ℕ
followed_count_by s pending old new (Ok links) = repaired_count s pending old new links
followed_count_by s pending old new (Err bad) = 0

-- how many of them changed
abbrev pub followed_count : Bool → State → Bool → List Loaded → List Loaded → ℕ
followed_count marked s pending old new = followed_count_by s pending old new (chain_of marked s)

-- the machine once overlays are loaded, which stood by one table and stand by another
abbrev pub loaded_state : List ℕ → List OvrEntry → List Loaded → List Loaded → State → State
loaded_state bytes entries old new s = record s { memory = with_loads bytes entries old new s.memory }

-- the memory once the seats became others, with or without a return pending
abbrev pub memory_after : Manager → List ℕ → Bool → List Seat → State → List ℕ
memory_after m bytes pending seats s =
    let old = table_by m m.ring.seats in
    let new = table_by m seats in
    with_stubs m.stubs seats 0 old new (followed m.marked (loaded_state bytes m.entries old new s) pending old new)

-- the machine after a service, by the bytes of the overlay file
abbrev pub served : Manager → List ℕ → Trap → State → State
served m bytes trap s =
    let seats = seats_after m trap s in
    resumed (load_segment m.ring.room seats trap.overlay) (saved_at s.memory s.cs) trap
    (record s { memory = memory_after m bytes trap.call seats s })

-- the manager after it
abbrev pub served_manager : Manager → List ℕ → Trap → State → Manager
served_manager m bytes trap s =
    let seats = seats_after m trap s in
    let old = table_by m m.ring.seats in
    let new = table_by m seats in
    record (with_seats m seats) {
      tally = with_more m.tally (load_count old new) (followed_count m.marked (loaded_state bytes m.entries old new s) trap.call old new);
    }

-- A call while the manager isn't installed changes nothing but where control goes.
abbrev pub serviced : Manager → List ℕ → Trap → State → State
serviced m bytes trap s = if is_refused m.installed s trap then refused m.error_routine s else served m bytes trap s

abbrev pub serviced_manager : Manager → List ℕ → Trap → State → Manager
serviced_manager m bytes trap s = if is_refused m.installed s trap then m else served_manager m bytes trap s
