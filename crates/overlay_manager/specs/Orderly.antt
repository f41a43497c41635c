-- The states in which a service leaves all but its own as it was: live returns, links, stubs and the buffer lie apart.
use Rattle.std.specs.Prelude.{◌≢◌, ℕ, ◌*◌, ◌<◌, ◌≤◌, ◌⊎◌, Bool, List, [], ◌∷◌}
use Rattle.std.specs.List.{AllByRecursion}
use Rattle.cpu_8086.specs.Memory.{address, load_word}
use Rattle.cpu_8086.specs.State.{State}
use Rattle.overlay_file.specs.Stubs.{entry_offset}
use Rattle.frame_links.specs.Links.{Link}
use Rattle.return_repair.specs.Chain.{chain_of, links_of, live_places}
use Rattle.return_repair.specs.Follows.{IsOrderlyState, IsElsewhere, word_bytes, pair_bytes}
use Rattle.overlay_manager.specs.Manager.{Manager, buffer_segment, table_by}

-- how many bytes a stub has: its fields, and its entries behind them
abbrev pub stub_size : List ℕ → ℕ → ℕ
stub_size memory stub = entry_offset (load_word memory stub 12)

-- an address that is none of a stub's, and one that isn't in the buffer
abbrev pub IsOffStub : List ℕ → ℕ → ℕ → Type 0
IsOffStub memory stub at = (k : ℕ) → k < stub_size memory stub → at ≢ address stub k

abbrev pub IsOffBuffer : ℕ → ℕ → Type 0
IsOffBuffer room at = (at < 16 * buffer_segment room) ⊎ (0xA0000 ≤ at)

-- an address that is none of a live pair's
abbrev pub IsOffPairs : ℕ → List ℕ → ℕ → Type 0
IsOffPairs ss places at = AllByRecursion (λ place. IsElsewhere at (pair_bytes ss place)) places

-- two stubs share no byte
abbrev pub AreApartStubs : List ℕ → ℕ → ℕ → Type 0
AreApartStubs memory stub other = (i j : ℕ) → i < stub_size memory stub → j < stub_size memory other → address other j ≢ address stub i

abbrev pub StubsApart : List ℕ → List ℕ → Type 0
StubsApart memory [] = Unit {0}
StubsApart memory (stub ∷ stubs) = AllByRecursion (AreApartStubs memory stub) stubs × StubsApart memory stubs

-- the live pairs of a state, by whether frames are marked
abbrev pub places_of : Bool → State → Bool → List ℕ
places_of marked s pending = live_places s.registers pending (links_of (chain_of marked s))

-- each stub lies within its segment
abbrev pub FitsSegment : List ℕ → ℕ → Type 0
FitsSegment memory stub = stub_size memory stub ≤ 65536

-- an address that is none of any of these stubs'
abbrev pub IsOffStubs : List ℕ → List ℕ → ℕ → Type 0
IsOffStubs memory stubs at = AllByRecursion (λ stub. IsOffStub memory stub at) stubs

-- each byte of the live pairs at these places, and of the words of these links
abbrev pub EachPairByte : (ℕ → Type 0) → ℕ → List ℕ → Type 0
EachPairByte P ss places = AllByRecursion (λ place. AllByRecursion P (pair_bytes ss place)) places

abbrev pub EachLinkByte : (ℕ → Type 0) → ℕ → List Link → Type 0
EachLinkByte P ss links = AllByRecursion (λ (link : Link). AllByRecursion P (word_bytes ss link.at)) links

-- no byte of a stub is in the buffer
abbrev pub StubOffBuffer : ℕ → List ℕ → ℕ → Type 0
StubOffBuffer room memory stub = (k : ℕ) → k < stub_size memory stub → IsOffBuffer room (address stub k)

-- Live pairs, links, stubs and the buffer share no byte. BP is a word.
pub record IsOrderlyFor (m : Manager) (s : State) (pending : Bool) : Type 0 where
  pub state : IsOrderlyState m.marked s pending (table_by m m.ring.seats)
  pub stubs_fit : AllByRecursion (FitsSegment s.memory) m.stubs
  pub stubs_apart : StubsApart s.memory m.stubs
  pub pairs_off_stubs : EachPairByte (IsOffStubs s.memory m.stubs) s.registers.ss (places_of m.marked s pending)
  pub stubs_off_buffer : AllByRecursion (StubOffBuffer m.ring.room s.memory) m.stubs
  pub pairs_off_buffer : EachPairByte (IsOffBuffer m.ring.room) s.registers.ss (places_of m.marked s pending)
  pub links_off_buffer : EachLinkByte (IsOffBuffer m.ring.room) s.registers.ss (links_of (chain_of m.marked s))
  pub word : s.registers.bp < 65536
