-- Why a service stops: each cause, and what it leaves.
use Rattle.std.specs.Prelude.{◌≡◌, ℕ, ◌*◌, ◌<◌, false, IsTrue, IsOk, List, slice_get, IfSome, MatchOption, Err}
use Rattle.cpu_8086.specs.State.{State}
use Rattle.overlay_file.specs.declared.overlay.OvrEntry.{OvrEntry}
use Rattle.return_repair.specs.declared.table.Loaded.{Loaded}
use Rattle.return_repair.specs.Chain.{chain_of}
use Rattle.return_repair.specs.Follows.{overlay_at}
use Rattle.overlay_manager.specs.declared.serving.ServiceStop.{ServiceStop}
use Rattle.overlay_manager.specs.declared.serving.ServiceStop.TheVariants as stops
use Rattle.overlay_manager.specs.declared.traps.Trap.{Trap}
use Rattle.overlay_manager.specs.Loading.{is_moved, IsShort, IsWhole, LiesWithin, OnlyWithin}
use Rattle.overlay_manager.specs.Manager.{Manager, buffer_segment, table_by, with_seats}
use Rattle.overlay_manager.specs.Service.{seats_after}
use Rattle.overlay_manager.specs.Traps.{trap_place, trap_of, is_refused}

-- one overlay, by its number
abbrev pub IsShortAt : List ℕ → List OvrEntry → ℕ → Type 0
IsShortAt bytes entries v = IfSome (slice_get entries v) (λ entry. IsShort bytes entry)

-- Of each overlay that is loaded before this one the file has all.
abbrev pub AreWholeBefore : List ℕ → List OvrEntry → List Loaded → List Loaded → ℕ → Type 0
AreWholeBefore bytes entries old new k =
    (v : ℕ) → v < k → IsTrue (is_moved (overlay_at old v) (overlay_at new v)) → IfSome (slice_get entries v) (λ entry. 0 < entry.size → IsWhole bytes entry)

-- Loading stops at the first overlay that was to be loaded where the file ends before it does, or at a read that failed.
abbrev pub StopsLoading : List ℕ → List OvrEntry → List Loaded → List Loaded → ServiceStop → Type 0
StopsLoading bytes entries old new (stops.NoStub cs ip) = ⊥
StopsLoading bytes entries old new (stops.BadChain bp) = ⊥
StopsLoading bytes entries old new (stops.ShortOverlay v) =
    IsTrue (is_moved (overlay_at old v) (overlay_at new v)) × IsShortAt bytes entries v × AreWholeBefore bytes entries old new v
StopsLoading bytes entries old new stops.FilesFault = Unit {0}

-- Loading stops in one of these two ways.
abbrev pub IsLoadStop : ServiceStop → Type 0
IsLoadStop (stops.NoStub cs ip) = ⊥
IsLoadStop (stops.BadChain bp) = ⊥
IsLoadStop (stops.ShortOverlay v) = Unit {0}
IsLoadStop stops.FilesFault = Unit {0}

-- Of each overlay that is loaded the file has all.
abbrev pub AreWhole : List ℕ → List OvrEntry → List Loaded → List Loaded → Type 0
AreWhole bytes entries old new =
    (v : ℕ) → IsTrue (is_moved (overlay_at old v) (overlay_at new v)) → IfSome (slice_get entries v) (λ entry. 0 < entry.size → IsWhole bytes entry)

-- The code of each overlay that is loaded lies within these addresses.
abbrev pub LieWithin : ℕ → ℕ → List OvrEntry → List Loaded → List Loaded → Type 0
LieWithin low high entries old new =
    (v : ℕ) → IsTrue (is_moved (overlay_at old v) (overlay_at new v)) → IfSome (slice_get entries v) (λ entry. LiesWithin low high (overlay_at new v).load entry.size)

-- What a service leaves that stopped as it loaded: only the bytes of the buffer differ, and the seats.
pub record IsCutShort (m : Manager) (trap : Trap) (s after : State) (later : Manager) : Type 0 where
  pub sound : IsOk (chain_of m.marked s)
  pub machine : after ≡ record s { memory = after.memory }
  pub buffer : OnlyWithin (16 * buffer_segment m.ring.room) 0xA0000 s.memory after.memory
  pub seats : later ≡ with_seats m (seats_after m trap s)

abbrev pub IsUntouched : Manager → State → State → Manager → Type 0
IsUntouched m s after later = (after ≡ s) × (later ≡ m)

-- The service of a trap stops with this cause, and leaves this.
abbrev pub StopsServing : Manager → Trap → State → State → Manager → ServiceStop → Type 0
StopsServing m trap s after later (stops.NoStub cs ip) = ⊥
StopsServing m trap s after later (stops.BadChain bp) = (chain_of m.marked s ≡ Err bp) × IsUntouched m s after later
StopsServing m trap s after later (stops.ShortOverlay v) = IsCutShort m trap s after later
StopsServing m trap s after later stops.FilesFault = IsCutShort m trap s after later

-- The same of a machine that stands past an INT 3Fh, which may stand in no stub.
abbrev pub Stops : Manager → State → State → Manager → ServiceStop → Type 0
Stops m s after later stop =
    MatchOption (trap_of m.stubs s) ((stop ≡ stops.NoStub s.cs (trap_place s)) × IsUntouched m s after later)
    (λ trap. (is_refused m.installed s trap ≡ false) × StopsServing m trap s after later stop)

-- An overlay for which the file is too short is the first such one that was to be loaded.
abbrev pub StopsShort : Manager → List ℕ → Trap → State → ServiceStop → Type 0
StopsShort m bytes trap s (stops.NoStub cs ip) = Unit {0}
StopsShort m bytes trap s (stops.BadChain bp) = Unit {0}
StopsShort m bytes trap s (stops.ShortOverlay v) =
    IsTrue (is_moved (overlay_at (table_by m m.ring.seats) v) (overlay_at (table_by m (seats_after m trap s)) v)) × IsShortAt bytes m.entries v
    × AreWholeBefore bytes m.entries (table_by m m.ring.seats) (table_by m (seats_after m trap s)) v
StopsShort m bytes trap s stops.FilesFault = Unit {0}

-- of each overlay that a service loads the file has all
abbrev pub FileHas : Manager → List ℕ → Trap → State → Type 0
FileHas m bytes trap s = AreWhole bytes m.entries (table_by m m.ring.seats) (table_by m (seats_after m trap s))
