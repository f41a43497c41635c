-- The steps of a service as they are called, one after another.
use Rattle.std.proofs.Common.{◌≡◌, ℕ, ◌+◌, ◌*◌, ◌≤◌, Bool, false, List, length, map, cond, Option, Some, None, Result, Ok, Err, IfSome, refl, sym, ap, ap₂, subst, ◌∙◌, arith}
use Rattle.std.specs.Prelude.{slice_index_or, IsOk, OnOk, MatchOption}
use Rattle.cpu_8086.specs.Memory.{load_word}
use Rattle.cpu_8086.specs.State.{State}
use Rattle.tp_outside.specs.Folder.{Folder, bytes_of}
use Rattle.overlay_ring.specs.declared.seat.Seat.{Seat}
use Rattle.overlay_ring.specs.Ring.{Buffer, retry_after}
use Rattle.overlay_ring.specs.Seats.{table_of}
use Rattle.overlay_ring.specs.Table.{IsTable}
use Rattle.return_repair.specs.declared.table.Loaded.{Loaded}
use Rattle.return_repair.specs.Chain.{chain_of}
use Rattle.return_repair.specs.Live.{is_live}
use Rattle.return_repair.specs.Pairs.{saved_at}
use Rattle.overlay_manager.specs.declared.serving.ServiceStop.{ServiceStop}
use Rattle.overlay_manager.specs.declared.serving.ServiceStop.TheVariants as stops
use Rattle.overlay_manager.specs.declared.traps.Trap.{Trap}
use Rattle.overlay_manager.specs.Loading.{load_count, OnlyWithin}
use Rattle.overlay_manager.specs.Manager.{Manager, paragraphs_of, buffer_segment, load_segment, table_from, table_by, with_stubs, with_seats, with_more}
use Rattle.overlay_manager.specs.Serves.{table_before, table_after}
use Rattle.overlay_manager.specs.Service.{seats_after, followed, followed_count, loaded_state, served, served_manager, serviced, serviced_manager}
use Rattle.overlay_manager.specs.Stops.{IsLoadStop, StopsLoading, StopsServing, StopsShort, IsCutShort, AreWhole, FileHas, LieWithin}
use Rattle.overlay_manager.specs.Traps.{resumed, is_refused, refused}
use Rattle.overlay_manager.proofs.LoadLaws.{lie-within}
use Rattle.overlay_manager.proofs.ServeLaws.{flags-are, served-told, manager-told}

-- the tables and the ring, as the calls make them
pub record Chosen (m : Manager) (trap : Trap) (s : State) (room : ℕ) (stubs : List ℕ) (seats_old : List Seat) (old old_seen : List Loaded) (live live_seen : List Bool) (ring : Buffer) (seats_new : List Seat) (new : List Loaded) : Type 0 where
  pub entries : length m.entries ≡ length m.stubs
  pub sizes : map paragraphs_of m.entries ≡ m.ring.sizes
  pub room_is : m.ring.room ≡ room
  pub small : room ≤ 40848
  pub stubs_is : stubs ≡ m.stubs
  pub seats_old_is : seats_old ≡ m.ring.seats
  pub old_is : old ≡ table_from room seats_old 0 stubs
  pub old_seen_is : old_seen ≡ old
  pub long : length live ≡ length m.stubs
  pub live_is : (v : ℕ) → slice_index_or live v false ≡ is_live m.marked s trap.call old_seen v
  pub live_seen_is : live_seen ≡ live
  pub ring_is : ring ≡ record m.ring { seats = retry_after m.ring.sizes m.ring.room live_seen m.retry trap.overlay m.ring.seats }
  pub seats_new_is : seats_new ≡ ring.seats
  pub new_is : new ≡ table_from room seats_new 0 stubs
  pub legal : IsTable ring.sizes ring.room (table_of ring.seats)

-- what they are
pub record Made (m : Manager) (trap : Trap) (s : State) (old : List Loaded) (ring : Buffer) (new : List Loaded) : Type 0 where
  pub old_is : old ≡ table_before m
  pub seats_is : ring.seats ≡ seats_after m trap s
  pub new_is : new ≡ table_by m ring.seats
  pub after_is : new ≡ table_after m trap s
  pub later : ◌≡◌ {A = Manager} (record m { ring = ring }) (with_seats m (seats_after m trap s))
  pub legal : IsTable (map paragraphs_of m.entries) m.ring.room (table_of (seats_after m trap s))
  pub small : m.ring.room ≤ 40848
  pub lie : LieWithin (16 * buffer_segment m.ring.room) 0xA0000 m.entries old new

pub made : (m : Manager) (trap : Trap) (s : State) (room : ℕ) (stubs : List ℕ) (seats_old : List Seat) (old old_seen : List Loaded) (live live_seen : List Bool) (ring : Buffer) (seats_new : List Seat) (new : List Loaded)
    → Chosen m trap s room stubs seats_old old old_seen live live_seen ring seats_new new → Made m trap s old ring new
made m trap s room stubs seats_old old old_seen live live_seen ring seats_new new chosen =
    let old_is : old ≡ table_before m =
    chosen.old_is ∙ ap (λ (room : ℕ). table_from room seats_old 0 stubs) (sym chosen.room_is)
    ∙ ap₂ (λ (seats : List Seat) (stubs : List ℕ). table_from m.ring.room seats 0 stubs) chosen.seats_old_is chosen.stubs_is in
    let flags = flags-are m.marked s trap.call (table_before m) 0 m.stubs live chosen.long
    (λ k. let number : k ≡ 0 + k = omega arith in chosen.live_is k ∙ ap (λ (table : List Loaded). is_live m.marked s trap.call table k) (chosen.old_seen_is ∙ old_is) ∙ ap (is_live m.marked s trap.call (table_before m)) number) in
    let seats_is : ring.seats ≡ seats_after m trap s =
    ap (λ (ring : Buffer). ring.seats) chosen.ring_is
    ∙ ap (λ (live : List Bool). retry_after m.ring.sizes m.ring.room live m.retry trap.overlay m.ring.seats) (chosen.live_seen_is ∙ flags) in
    let new_is : new ≡ table_by m ring.seats =
    chosen.new_is ∙ ap (λ (room : ℕ). table_from room seats_new 0 stubs) (sym chosen.room_is)
    ∙ ap₂ (λ (seats : List Seat) (stubs : List ℕ). table_from m.ring.room seats 0 stubs) chosen.seats_new_is chosen.stubs_is in
    let after_is : new ≡ table_after m trap s = new_is ∙ ap (table_by m) seats_is in
    let same_sizes : ring.sizes ≡ map paragraphs_of m.entries = ap (λ (ring : Buffer). ring.sizes) chosen.ring_is ∙ sym chosen.sizes in
    let same_room : ring.room ≡ m.ring.room = ap (λ (ring : Buffer). ring.room) chosen.ring_is in
    let legal : IsTable (map paragraphs_of m.entries) m.ring.room (table_of (seats_after m trap s)) =
    subst (λ (sizes : List ℕ). IsTable sizes m.ring.room (table_of (seats_after m trap s))) same_sizes
    (subst (λ (room : ℕ). IsTable ring.sizes room (table_of (seats_after m trap s))) same_room
    (subst (λ (seats : List Seat). IsTable ring.sizes ring.room (table_of seats)) seats_is chosen.legal)) in
    let small : m.ring.room ≤ 40848 = omega (arith, chosen.room_is, chosen.small) in
    record {
      old_is = old_is;
      seats_is = seats_is;
      new_is = new_is;
      after_is = after_is;
      later = ap (λ (ring : Buffer). let later : Manager = record m { ring = ring } in later) chosen.ring_is
          ∙ ap (λ (live : List Bool). let later : Manager = with_seats m (retry_after m.ring.sizes m.ring.room live m.retry trap.overlay m.ring.seats) in later) (chosen.live_seen_is ∙ flags);
      legal = legal;
      small = small;
      lie = subst (λ (new : List Loaded). LieWithin (16 * buffer_segment m.ring.room) 0xA0000 m.entries old new) (sym after_is)
          (lie-within m.ring.room m.entries m.stubs (seats_after m trap s) old small chosen.entries legal);
    }

-- what is brought in, and where control goes on
pub record Brought (known : Option Folder) (m : Manager) (trap : Trap) (s t u : State) (room : ℕ) (old new : List Loaded) (ring : Buffer) (seats_brought seats_resumed : List Seat) (cs load saved : ℕ) : Type 0 where
  pub seats_brought_is : seats_brought ≡ ring.seats
  pub told : IfSome known (λ held. t ≡ record s { memory = with_stubs m.stubs seats_brought 0 old new (followed m.marked (loaded_state (bytes_of held m.name) m.entries old new s) trap.call old new) })
  pub seats_resumed_is : seats_resumed ≡ ring.seats
  pub cs_is : cs ≡ s.cs
  pub saved_is : saved ≡ load_word s.memory cs 2
  pub load_is : load ≡ load_segment room seats_resumed trap.overlay
  pub room_is : m.ring.room ≡ room
  pub resumed_is : u ≡ resumed load saved trap t

pub machine-joined : (known : Option Folder) (m : Manager) (trap : Trap) (s t u : State) (room : ℕ) (old new : List Loaded) (ring : Buffer) (seats_brought seats_resumed : List Seat) (cs load saved : ℕ)
    → Made m trap s old ring new → Brought known m trap s t u room old new ring seats_brought seats_resumed cs load saved → IfSome known (λ held. u ≡ served m (bytes_of held m.name) trap s)
machine-joined known m trap s t u room old new ring seats_brought seats_resumed cs load saved it there =
    let load_is : load ≡ load_segment m.ring.room ring.seats trap.overlay =
    there.load_is ∙ ap₂ (λ (room : ℕ) (seats : List Seat). load_segment room seats trap.overlay) (sym there.room_is) there.seats_resumed_is in
    let saved_is : saved ≡ saved_at s.memory s.cs = there.saved_is ∙ ap (λ (cs : ℕ). load_word s.memory cs 2) there.cs_is in
    let told = subst (λ (seats : List Seat). IfSome known (λ held. t ≡ record s { memory = with_stubs m.stubs seats 0 old new (followed m.marked (loaded_state (bytes_of held m.name) m.entries old new s) trap.call old new) })) there.seats_brought_is there.told in
    served-told known m.name m trap s t u ring.seats old new load saved it.old_is it.new_is it.seats_is load_is saved_is told there.resumed_is

pub manager-joined : (known : Option Folder) (m : Manager) (trap : Trap) (s : State) (old new : List Loaded) (ring : Buffer) (loads changed : ℕ) (later : Manager)
    → Made m trap s old ring new → loads ≡ load_count old new → IfSome known (λ held. changed ≡ followed_count m.marked (loaded_state (bytes_of held m.name) m.entries old new s) trap.call old new)
    → later ≡ record (record m { ring = ring }) { tally = with_more m.tally loads changed } → IfSome known (λ held. later ≡ served_manager m (bytes_of held m.name) trap s)
manager-joined known m trap s old new ring loads changed later it loads_is changed_is later_is =
    let seats : later ≡ record (with_seats m (seats_after m trap s)) { tally = with_more m.tally loads changed } =
    later_is ∙ ap (λ (n : Manager). let later : Manager = record n { tally = with_more m.tally loads changed } in later) it.later in
    manager-told known m.name m trap s (seats_after m trap s) old new loads changed later it.old_is it.after_is refl loads_is changed_is seats

pub whole-joined : (known : Option Folder) (m : Manager) (trap : Trap) (s : State) (old new : List Loaded) (ring : Buffer) → Made m trap s old ring new
    → IfSome known (λ held. AreWhole (bytes_of held m.name) m.entries old new) → IfSome known (λ held. FileHas m (bytes_of held m.name) trap s)
whole-joined None m trap s old new ring it whole = tt
whole-joined (Some held) m trap s old new ring it whole =
    subst (λ (new : List Loaded). AreWhole (bytes_of held m.name) m.entries (table_before m) new) it.after_is
    (subst (λ (old : List Loaded). AreWhole (bytes_of held m.name) m.entries old new) it.old_is whole)

-- loading writes only to the buffer
pub within-joined : (known : Option Folder) (m : Manager) (trap : Trap) (s : State) (old new : List Loaded) (ring : Buffer) → Made m trap s old ring new
    → IfSome known (λ held. (low high : ℕ) → LieWithin low high m.entries old new → OnlyWithin low high s.memory (loaded_state (bytes_of held m.name) m.entries old new s).memory)
    → IfSome known (λ held. OnlyWithin (16 * buffer_segment m.ring.room) 0xA0000 s.memory (loaded_state (bytes_of held m.name) m.entries (table_before m) (table_after m trap s) s).memory)
within-joined None m trap s old new ring it within = tt
within-joined (Some held) m trap s old new ring it within =
    let here = within (16 * buffer_segment m.ring.room) 0xA0000 it.lie in
    subst (λ (new : List Loaded). OnlyWithin (16 * buffer_segment m.ring.room) 0xA0000 s.memory (loaded_state (bytes_of held m.name) m.entries (table_before m) new s).memory) it.after_is
    (subst (λ (old : List Loaded). OnlyWithin (16 * buffer_segment m.ring.room) 0xA0000 s.memory (loaded_state (bytes_of held m.name) m.entries old new s).memory) it.old_is here)

-- how it stops
pub stop-joined : (m : Manager) (trap : Trap) (s t : State) (old new : List Loaded) (ring : Buffer) (later : Manager) (stop : ServiceStop) → Made m trap s old ring new → IsOk (chain_of m.marked s) → t ≡ record s { memory = t.memory }
    → ((low high : ℕ) → LieWithin low high m.entries old new → OnlyWithin low high s.memory t.memory) → later ≡ record m { ring = ring } → IsLoadStop stop → StopsServing m trap s t later stop
stop-joined m trap s t old new ring later stop it sound others within later_is either = by stop either
  where
    cut : IsCutShort m trap s t later
    cut = record { sound = sound; machine = others; buffer = within (16 * buffer_segment m.ring.room) 0xA0000 it.lie; seats = later_is ∙ it.later }

    by : (stop : ServiceStop) → IsLoadStop stop → StopsServing m trap s t later stop
    by (stops.NoStub cs ip) either = either
    by (stops.BadChain bp) either = absurd either
    by (stops.ShortOverlay v) either = cut
    by stops.FilesFault either = cut

pub short-joined : (known : Option Folder) (m : Manager) (trap : Trap) (s : State) (old new : List Loaded) (ring : Buffer) (stop : ServiceStop) → Made m trap s old ring new
    → IfSome known (λ held. StopsLoading (bytes_of held m.name) m.entries old new stop) → IfSome known (λ held. StopsShort m (bytes_of held m.name) trap s stop)
short-joined None m trap s old new ring stop it short = tt
short-joined (Some held) m trap s old new ring stop it short = by stop (subst (λ (new : List Loaded). StopsLoading (bytes_of held m.name) m.entries (table_before m) new stop) it.after_is
    (subst (λ (old : List Loaded). StopsLoading (bytes_of held m.name) m.entries old new stop) it.old_is short))
  where
    by : (stop : ServiceStop) → StopsLoading (bytes_of held m.name) m.entries (table_before m) (table_after m trap s) stop → StopsShort m (bytes_of held m.name) trap s stop
    by (stops.NoStub cs ip) short = tt
    by (stops.BadChain bp) short = tt
    by (stops.ShortOverlay v) short = short
    by stops.FilesFault short = tt

-- what holds where a service was right holds at the trap that was found
pub at-trap : (known : Option Folder) (result : Result (Unit {0}) ServiceStop) (found : Option Trap) (trap : Trap) (P : Folder → Type 0) (Q : Folder → Trap → Type 0) → found ≡ Some trap → ((held : Folder) → P held → Q held trap)
    → IfSome known (λ held. OnOk result (P held)) → IfSome known (λ held. OnOk result (MatchOption found ⊥ (Q held)))
at-trap None result found trap P Q is implies there = tt
at-trap (Some held) (Ok done) found trap P Q is implies there = subst (λ (found : Option Trap). MatchOption found ⊥ (Q held)) (sym is) (implies held there)
at-trap (Some held) (Err stop) found trap P Q is implies there = tt

pub if-trap : (known : Option Folder) (result : Result (Unit {0}) ServiceStop) (found : Option Trap) (trap : Trap) (P : Folder → Type 0) (Q : Folder → Trap → Type 0) → found ≡ Some trap → ((held : Folder) → P held → Q held trap)
    → IfSome known (λ held. OnOk result (P held)) → IfSome known (λ held. OnOk result (IfSome found (Q held)))
if-trap None result found trap P Q is implies there = tt
if-trap (Some held) (Ok done) found trap P Q is implies there = subst (λ (found : Option Trap). IfSome found (Q held)) (sym is) (implies held there)
if-trap (Some held) (Err stop) found trap P Q is implies there = tt

-- a trap that is not refused is served
pub serviced-is : (m : Manager) (bytes : List ℕ) (trap : Trap) (s : State) → is_refused m.installed s trap ≡ false → served m bytes trap s ≡ serviced m bytes trap s
serviced-is m bytes trap s not_refused = sym (ap (λ (refuses : Bool). cond refuses (refused m.error_routine s) (served m bytes trap s)) not_refused)

pub serviced-manager-is : (m : Manager) (bytes : List ℕ) (trap : Trap) (s : State) → is_refused m.installed s trap ≡ false → served_manager m bytes trap s ≡ serviced_manager m bytes trap s
serviced-manager-is m bytes trap s not_refused = sym (ap (λ (refuses : Bool). cond refuses m (served_manager m bytes trap s)) not_refused)
