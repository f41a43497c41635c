-- What live pairs denote by a table, and how they follow as it becomes another.
use Rattle.std.specs.Prelude.{◌≡◌, ◌≢◌, ℕ, ◌+◌, ◌%◌, ◌<◌, ◌≤◌, ◌⊎◌, ◌==◌, Bool, true, false, if◌then◌else◌, IsTrue, List, [], ◌∷◌, ◌++◌, length, map, slice_index, slice_index_or, Option, Some, None, is_some, unwrap_or}
use Rattle.std.specs.List.{AllByRecursion}
use Rattle.cpu_8086.specs.Memory.{address, next_offset}
use Rattle.cpu_8086.specs.State.{State}
use Rattle.cpu_8086.specs.declared.registers.Far.{Far}
use Rattle.return_repair.specs.declared.table.Loaded.{Loaded}
use Rattle.return_repair.specs.Chain.{chain_of, links_of, live_places, are_clear}
use Rattle.return_repair.specs.Pairs.{pair_at, owner, is_out, denoted_offset, shown_pair, same_pair, saved_at}
use Rattle.return_repair.specs.Repair.{no_overlay}

-- A pair denotes an offset in an overlay, known by its number in the table, or nothing, and then stays.
pub data Denoted : Type 0 where
  Stays : (pair : Far) → Denoted
  Into : (overlay offset : ℕ) → Denoted

abbrev pub overlay_at : List Loaded → ℕ → Loaded
overlay_at table v = slice_index_or table v no_overlay

abbrev pub denoted_by : List ℕ → List Loaded → Far → Option ℕ → Denoted
denoted_by memory table pair None = Stays pair
denoted_by memory table pair (Some v) = Into v (denoted_offset memory (overlay_at table v) pair)

abbrev pub denoted : List ℕ → List Loaded → Far → Denoted
denoted memory table pair = denoted_by memory table pair (owner table pair.segment)

-- the pairs at these places, and what they denote
abbrev pub pairs_at : List ℕ → ℕ → List ℕ → List Far
pairs_at memory ss places = map (λ place. pair_at memory ss place) places

abbrev pub denotations : List ℕ → ℕ → List Loaded → List ℕ → List Denoted
denotations memory ss table places = map (λ place. denoted memory table (pair_at memory ss place)) places

-- the overlay of a stub was met too
abbrev pub met_too : ℕ → (ℕ → Bool) → ℕ → Bool
met_too stub met other = if other == stub then true else met other

-- How denotations stand by a table, topmost first. Of an overlay that is out the first, which was not met, is stub:0.
abbrev pub shown : List Loaded → (ℕ → Bool) → List Denoted → List Far
shown table met [] = []
shown table met (Stays pair ∷ others) = pair ∷ shown table met others
shown table met (Into v offset ∷ others) =
    shown_pair (overlay_at table v) (met (overlay_at table v).stub) offset ∷ shown table (met_too (overlay_at table v).stub met) others

abbrev pub none_met : ℕ → Bool
none_met stub = false

-- the offset of the topmost return into the overlay of a stub
abbrev pub topmost_into : List Loaded → ℕ → List Denoted → Option ℕ
topmost_into table stub [] = None
topmost_into table stub (Stays pair ∷ others) = topmost_into table stub others
topmost_into table stub (Into v offset ∷ others) =
    if stub == (overlay_at table v).stub then Some offset else topmost_into table stub others

-- how many of the pairs differ
abbrev pub differing : List Far → List Far → ℕ
differing [] new = 0
differing (pair ∷ pairs) [] = 0
differing (pair ∷ pairs) (other ∷ others) = (if same_pair pair other then 0 else 1) + differing pairs others

-- The pairs at these places don't wrap, and share no byte.
abbrev pub AreApart : ℕ → ℕ → Type 0
AreApart place other = (place + 4 ≤ other) ⊎ (other + 4 ≤ place)

abbrev pub ArePlaces : List ℕ → Type 0
ArePlaces [] = Unit {0}
ArePlaces (place ∷ places) = (place + 4 ≤ 65536) × AllByRecursion (AreApart place) places × ArePlaces places

-- The word of a stub that saves an offset shares no byte with the pair at a place, nor with that of another stub.
abbrev pub MissesPair : ℕ → Loaded → ℕ → Type 0
MissesPair ss overlay place = (i j : ℕ) → i < 2 → j < 4 → address ss (place + j) ≢ address overlay.stub (2 + i)

abbrev pub MissesStub : Loaded → Loaded → Type 0
MissesStub overlay other = (i j : ℕ) → i < 2 → j < 2 → address other.stub (2 + j) ≢ address overlay.stub (2 + i)

abbrev pub AreStubs : ℕ → List ℕ → List Loaded → Type 0
AreStubs ss places [] = Unit {0}
AreStubs ss places (overlay ∷ table) =
    AllByRecursion (MissesPair ss overlay) places × AllByRecursion (MissesStub overlay) table × AreStubs ss places table

-- live pairs and the words of stubs that save offsets overlap nowhere
pub record IsOrderly (memory : List ℕ) (ss : ℕ) (places : List ℕ) (table : List Loaded) : Type 0 where
  pub size : length memory ≡ 1048576
  pub places_apart : ArePlaces places
  pub stubs_apart : AreStubs ss places table

-- the offset that a stub saves afterwards
abbrev pub saved_after : List ℕ → List Denoted → List Loaded → Loaded → ℕ
saved_after memory items table overlay =
    if is_out overlay then unwrap_or (topmost_into table overlay.stub items) (saved_at memory overlay.stub) else saved_at memory overlay.stub

-- From one memory to the other the live pairs at these places follow, from the old table to the new one.
pub record Follow (memory after : List ℕ) (ss : ℕ) (places : List ℕ) (old new : List Loaded) (changed : ℕ) : Type 0 where
  pub pairs : pairs_at after ss places ≡ shown new none_met (denotations memory ss old places)
  pub saved : AllByRecursion (λ overlay. saved_at after overlay.stub ≡ saved_after memory (denotations memory ss old places) new overlay) new
  pub count : changed ≡ differing (pairs_at memory ss places) (shown new none_met (denotations memory ss old places))

-- no live pair touches the word of a link, and all lie apart
pub record IsOrderlyState (marked : Bool) (s : State) (pending : Bool) (table : List Loaded) : Type 0 where
  pub clear : IsTrue (are_clear s.registers pending (links_of (chain_of marked s)))
  pub apart : IsOrderly s.memory s.registers.ss (live_places s.registers pending (links_of (chain_of marked s))) table

-- the bytes of a word, of a pair, and of the word of a stub that saves an offset
abbrev pub word_bytes : ℕ → ℕ → List ℕ
word_bytes segment offset = address segment offset ∷ address segment (next_offset offset) ∷ []

abbrev pub pair_bytes : ℕ → ℕ → List ℕ
pair_bytes ss place = word_bytes ss place ++ word_bytes ss ((place + 2) % 65536)

abbrev pub IsElsewhere : ℕ → List ℕ → Type 0
IsElsewhere at bytes = AllByRecursion (λ byte. at ≢ byte) bytes

-- Only bytes of the pairs at these places, and of the words of stubs that save offsets, differ.
pub record OnlyPairsDiffer (memory after : List ℕ) (ss : ℕ) (places : List ℕ) (table : List Loaded) : Type 0 where
  pub size : length after ≡ length memory
  pub others : (at : ℕ) → AllByRecursion (λ place. IsElsewhere at (pair_bytes ss place)) places
      → AllByRecursion (λ overlay. IsElsewhere at (word_bytes overlay.stub 2)) table → slice_index after at ≡ slice_index memory at
