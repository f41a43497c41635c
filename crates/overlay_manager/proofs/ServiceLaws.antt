-- A service in an orderly state: live pairs follow, and all else but the buffer and the stubs is as it was.
use Rattle.std.proofs.Common.{◌≡◌, ℕ, ◌+◌, ◌*◌, ◌<◌, Bool, List, [], ◌∷◌, Ok, refl, sym, ap, subst, ◌∙◌, arith}
use Rattle.std.specs.Prelude.{slice_index, IsOk, IsTrue}
use Rattle.std.specs.List.{AllByRecursion}
use Rattle.cpu_8086.specs.Memory.{address, next_offset, load_word}
use Rattle.cpu_8086.specs.State.{State}
use Rattle.overlay_ring.specs.declared.seat.Seat.{Seat}
use Rattle.frame_links.specs.Links.{Link}
use Rattle.return_repair.specs.declared.table.Loaded.{Loaded}
use Rattle.return_repair.specs.Chain.{chain_of, links_of, live_places, are_clear}
use Rattle.return_repair.specs.Pairs.{pair_at, HaveSameStubs}
use Rattle.return_repair.specs.Repair.{repaired_memory, repaired_count}
use Rattle.return_repair.specs.Follows.{IsOrderly, IsOrderlyState, Follow, OnlyPairsDiffer, IsElsewhere, word_bytes, pair_bytes}
use Rattle.return_repair.proofs.ChainLaws.{chain-kept, ok_links}
use Rattle.return_repair.proofs.FollowLaws.{follow_state}
use Rattle.return_repair.proofs.SafeLaws.{safe}
use Rattle.overlay_manager.specs.Loading.{OnlyWithin}
use Rattle.overlay_manager.specs.Kept.{stubs_of, SamePairs}
use Rattle.overlay_manager.specs.Manager.{Manager, buffer_segment, table_from, table_by}
use Rattle.overlay_manager.specs.Orderly.{IsOffBuffer, AreApartStubs, StubsApart, FitsSegment, StubOffBuffer, EachPairByte, EachLinkByte, places_of, IsOrderlyFor}
use Rattle.overlay_manager.specs.Service.{followed, followed_by, followed_count, followed_count_by}
use Rattle.overlay_manager.proofs.CarriedLaws.{each-then, SameBytes, pair-same}
use Rattle.overlay_manager.proofs.StubLaws.{word-same, IsOffWritten}
use Rattle.overlay_manager.proofs.TableLaws.{stubs-table_from}

-- the stubs of a table that seats make
pub stubs-of_table : (room : ℕ) (seats : List Seat) (v : ℕ) (stubs : List ℕ) → stubs_of (table_from room seats v stubs) ≡ stubs
stubs-of_table room seats v [] = refl
stubs-of_table room seats v (stub ∷ stubs) = ap (λ (others : List ℕ). stub ∷ others) (stubs-of_table room seats (v + 1) stubs)

-- what holds of each stub holds of each overlay of a table
pub each-overlay : (P : ℕ → Type 0) (table : List Loaded) → AllByRecursion P (stubs_of table) → AllByRecursion (λ overlay. P overlay.stub) table
each-overlay P [] all = tt
each-overlay P (overlay ∷ table) all = (all.0, each-overlay P table all.1)

-- two things that hold of each
pub both-each : (P Q : ℕ → Type 0) (xs : List ℕ) → AllByRecursion P xs → AllByRecursion Q xs → AllByRecursion (λ x. P x × Q x) xs
both-each P Q [] first second = tt
both-each P Q (x ∷ xs) first second = ((first.0, second.0), both-each P Q xs first.1 second.1)

-- what holds of each two stubs, and of a stub with itself
pub each-two : (P : ℕ → ℕ → Type 0) (memory stubs : List ℕ) → ((stub : ℕ) → FitsSegment memory stub → P stub stub) → ((stub other : ℕ) → AreApartStubs memory stub other → P stub other) → ((stub other : ℕ) → AreApartStubs memory stub other → P other stub)
    → AllByRecursion (FitsSegment memory) stubs → StubsApart memory stubs → AllByRecursion (λ stub. AllByRecursion (P stub) stubs) stubs
each-two P memory [] own one two fits apart = tt
each-two P memory (stub ∷ stubs) own one two fits apart =
    let others = each-two P memory stubs own one two fits.1 apart.1 in (
      (own stub fits.0, each-then (AreApartStubs memory stub) (P stub) stubs (one stub) apart.0),
      both-each (λ other. P other stub) (λ other. AllByRecursion (P other) stubs) stubs (each-then (AreApartStubs memory stub) (λ other. P other stub) stubs (two stub) apart.0) others,
    )

-- the words of a stub's fields at 12 are none of the words that save offsets
abbrev pub CountOffSaved : ℕ → ℕ → Type 0
CountOffSaved stub other = IsElsewhere (address stub 12) (word_bytes other 2) × IsElsewhere (address stub (next_offset 12)) (word_bytes other 2)

-- and the word that saves an offset is off what is written
abbrev pub SavedOffWritten : List ℕ → ℕ → ℕ → Type 0
SavedOffWritten memory stub other = IsOffWritten memory other (address stub 2) × IsOffWritten memory other (address stub (next_offset 2))

pub count-own : (memory : List ℕ) (stub : ℕ) → FitsSegment memory stub → CountOffSaved stub stub
count-own memory stub fits = ((λ same. omega arith, (λ same. omega arith, tt)), (λ same. omega arith, (λ same. omega arith, tt)))

pub count-one : (memory : List ℕ) (stub other : ℕ) → AreApartStubs memory stub other → CountOffSaved stub other
count-one memory stub other apart = (
  (λ same. apart 12 2 (omega arith) (omega arith) (sym same), (λ same. apart 12 3 (omega arith) (omega arith) (sym same), tt)),
  (λ same. apart 13 2 (omega arith) (omega arith) (sym same), (λ same. apart 13 3 (omega arith) (omega arith) (sym same), tt)),
)

pub count-two : (memory : List ℕ) (stub other : ℕ) → AreApartStubs memory stub other → CountOffSaved other stub
count-two memory stub other apart = (
  (λ same. apart 2 12 (omega arith) (omega arith) same, (λ same. apart 3 12 (omega arith) (omega arith) same, tt)),
  (λ same. apart 2 13 (omega arith) (omega arith) same, (λ same. apart 3 13 (omega arith) (omega arith) same, tt)),
)

pub saved-own : (memory : List ℕ) (stub : ℕ) → FitsSegment memory stub → SavedOffWritten memory stub stub
saved-own memory stub fits = (λ k above below same. omega arith, λ k above below same. omega arith)

pub saved-one : (memory : List ℕ) (stub other : ℕ) → AreApartStubs memory stub other → SavedOffWritten memory stub other
saved-one memory stub other apart = (λ k above below same. apart 2 k (omega arith) below (sym same), λ k above below same. apart 3 k (omega arith) below (sym same))

pub saved-two : (memory : List ℕ) (stub other : ℕ) → AreApartStubs memory stub other → SavedOffWritten memory other stub
saved-two memory stub other apart = (λ k above below same. apart k 2 below (omega arith) same, λ k above below same. apart k 3 below (omega arith) same)

-- the bytes of live pairs and links are the same, where they are off what was written
bytes-same : (P : ℕ → Type 0) (memory other bytes : List ℕ) → ((at : ℕ) → P at → slice_index memory at ≡ slice_index other at) → AllByRecursion P bytes → SameBytes memory other bytes
bytes-same P memory other bytes same off_it = each-then P (λ at. slice_index memory at ≡ slice_index other at) bytes same off_it

pub pairs-kept : (P : ℕ → Type 0) (memory other : List ℕ) (ss : ℕ) (places : List ℕ) → ((at : ℕ) → P at → slice_index memory at ≡ slice_index other at) → EachPairByte P ss places → SamePairs memory other ss places
pairs-kept P memory other ss places same off_it =
    each-then (λ place. AllByRecursion P (pair_bytes ss place)) (λ place. pair_at memory ss place ≡ pair_at other ss place) places
    (λ place bytes. pair-same memory other ss place (bytes-same P memory other (pair_bytes ss place) same bytes)) off_it

links-kept : (P : ℕ → Type 0) (memory other : List ℕ) (ss : ℕ) (links : List Link) → ((at : ℕ) → P at → slice_index memory at ≡ slice_index other at) → EachLinkByte P ss links → AllByRecursion (λ (link : Link). load_word memory ss link.at ≡ load_word other ss link.at) links
links-kept P memory other ss [] same off_it = tt
links-kept P memory other ss (link ∷ links) same off_it = (
  word-same memory other ss link.at (same (address ss link.at) off_it.0.0) (same (address ss (next_offset link.at)) off_it.0.1.0),
  links-kept P memory other ss links same off_it.1,
)

-- words of stubs, where the stubs are off what was written
pub stub-word-kept : (room : ℕ) (first memory other : List ℕ) (offset : ℕ) (stubs : List ℕ) → offset < 31 → ((at : ℕ) → IsOffBuffer room at → slice_index memory at ≡ slice_index other at) → AllByRecursion (StubOffBuffer room first) stubs
    → AllByRecursion (λ stub. load_word memory stub offset ≡ load_word other stub offset) stubs
stub-word-kept room first memory other offset stubs small same off_it =
    each-then (StubOffBuffer room first) (λ stub. load_word memory stub offset ≡ load_word other stub offset) stubs
    (λ stub bytes.
    let next : next_offset offset ≡ offset + 1 = omega arith in
    let high : IsOffBuffer room (address stub (next_offset offset)) = subst (λ (at : ℕ). IsOffBuffer room (address stub at)) (sym next) (bytes (offset + 1) (omega arith)) in
    word-same memory other stub offset (same (address stub offset) (bytes offset (omega arith))) (same (address stub (next_offset offset)) high)) off_it

-- the memory as live pairs followed, where the chain is sound
pub followed-is : (marked : Bool) (s : State) (pending : Bool) (old new : List Loaded) (links : List Link) → chain_of marked s ≡ Ok links → followed marked s pending old new ≡ repaired_memory s pending old new links
followed-is marked s pending old new links is = ap (followed_by s pending old new) is

pub followed-count-is : (marked : Bool) (s : State) (pending : Bool) (old new : List Loaded) (links : List Link) → chain_of marked s ≡ Ok links → followed_count marked s pending old new ≡ repaired_count s pending old new links
followed-count-is marked s pending old new links is = ap (followed_count_by s pending old new) is

-- a service in steps: the memory as it was, loaded, followed, and with its stubs written
pub record Steps (m : Manager) (s : State) (pending : Bool) (seats : List Seat) (loaded : List ℕ) : Type 0 where
  pub orderly : IsOrderlyFor m s pending
  pub sound : IsOk (chain_of m.marked s)
  pub within : OnlyWithin (16 * buffer_segment m.ring.room) 0xA0000 s.memory loaded

abbrev pub loaded_of : State → List ℕ → State
loaded_of s loaded = record s { memory = loaded }

-- loading leaves what is off the buffer
pub off-buffer : (m : Manager) (s : State) (pending : Bool) (seats : List Seat) (loaded : List ℕ) → Steps m s pending seats loaded → (at : ℕ) → IsOffBuffer m.ring.room at → slice_index loaded at ≡ slice_index s.memory at
off-buffer m s pending seats loaded steps at off_it = steps.within.others at off_it

-- so it leaves the chain
pub chain-loaded : (m : Manager) (s : State) (pending : Bool) (seats : List Seat) (loaded : List ℕ) → Steps m s pending seats loaded → chain_of m.marked (loaded_of s loaded) ≡ Ok (links_of (chain_of m.marked s))
chain-loaded m s pending seats loaded steps =
    let links = links_of (chain_of m.marked s) in
    chain-kept m.marked loaded s.memory s.registers.ss s.registers.bp links steps.orderly.word (ok_links (chain_of m.marked s) steps.sound)
    (links-kept (IsOffBuffer m.ring.room) loaded s.memory s.registers.ss links (off-buffer m s pending seats loaded steps) steps.orderly.links_off_buffer)

orderly-loaded : (m : Manager) (s : State) (pending : Bool) (seats : List Seat) (loaded : List ℕ) → Steps m s pending seats loaded → IsOrderlyState m.marked (loaded_of s loaded) pending (table_by m m.ring.seats)
orderly-loaded m s pending seats loaded steps =
    let links = links_of (chain_of m.marked s) in
    let table = table_by m m.ring.seats in
    let same : links ≡ links_of (chain_of m.marked (loaded_of s loaded)) = sym (ap links_of (chain-loaded m s pending seats loaded steps)) in
    let before = steps.orderly.state.apart in
    let apart : IsOrderly loaded s.registers.ss (live_places s.registers pending links) table =
    record { size = steps.within.size ∙ before.size; places_apart = before.places_apart; stubs_apart = before.stubs_apart } in
    record {
      clear = subst (λ (links : List Link). IsTrue (are_clear s.registers pending links)) same steps.orderly.state.clear;
      apart = subst (λ (links : List Link). IsOrderly loaded s.registers.ss (live_places s.registers pending links) table) same apart;
    }

same-tables : (m : Manager) (seats others : List Seat) → HaveSameStubs (table_by m seats) (table_by m others)
same-tables m seats others = stubs-table_from m.ring.room seats 0 m.stubs ∙ sym (stubs-table_from m.ring.room others 0 m.stubs)

-- live pairs follow from the memory as it was loaded
pub follow-loaded : (m : Manager) (s : State) (pending : Bool) (seats : List Seat) (loaded : List ℕ) → Steps m s pending seats loaded
    → Follow loaded (followed m.marked (loaded_of s loaded) pending (table_by m m.ring.seats) (table_by m seats)) s.registers.ss (places_of m.marked s pending) (table_by m m.ring.seats) (table_by m seats) (followed_count m.marked (loaded_of s loaded) pending (table_by m m.ring.seats) (table_by m seats))
follow-loaded m s pending seats loaded steps =
    let old = table_by m m.ring.seats in
    let new = table_by m seats in
    let t : State = loaded_of s loaded in
    let links = links_of (chain_of m.marked s) in
    let chain_is = chain-loaded m s pending seats loaded steps in
    let same : links_of (chain_of m.marked t) ≡ links = ap links_of chain_is in
    let memory : followed m.marked t pending old new ≡ repaired_memory t pending old new (links_of (chain_of m.marked t)) = followed-is m.marked t pending old new links chain_is ∙ ap (repaired_memory t pending old new) (sym same) in
    let count : followed_count m.marked t pending old new ≡ repaired_count t pending old new (links_of (chain_of m.marked t)) = followed-count-is m.marked t pending old new links chain_is ∙ ap (repaired_count t pending old new) (sym same) in
    subst (λ (links : List Link). Follow loaded (followed m.marked t pending old new) s.registers.ss (live_places s.registers pending links) old new (followed_count m.marked t pending old new)) same
    (follow_state m.marked t (followed m.marked t pending old new) pending old new (followed_count m.marked t pending old new) (same-tables m m.ring.seats seats) memory count (orderly-loaded m s pending seats loaded steps))

-- and nothing else differs then
pub only-pairs : (m : Manager) (s : State) (pending : Bool) (seats : List Seat) (loaded : List ℕ) → Steps m s pending seats loaded
    → OnlyPairsDiffer loaded (followed m.marked (loaded_of s loaded) pending (table_by m m.ring.seats) (table_by m seats)) s.registers.ss (places_of m.marked s pending) (table_by m seats)
only-pairs m s pending seats loaded steps =
    let old = table_by m m.ring.seats in
    let new = table_by m seats in
    let t : State = loaded_of s loaded in
    let links = links_of (chain_of m.marked s) in
    let chain_is = chain-loaded m s pending seats loaded steps in
    let same : links_of (chain_of m.marked t) ≡ links = ap links_of chain_is in
    let memory : repaired_memory t pending old new (links_of (chain_of m.marked t)) ≡ followed m.marked t pending old new = ap (repaired_memory t pending old new) same ∙ sym (followed-is m.marked t pending old new links chain_is) in
    let there = safe m.marked t pending old new in
    let moved = subst (λ (after : List ℕ). OnlyPairsDiffer loaded after s.registers.ss (live_places s.registers pending (links_of (chain_of m.marked t))) new) memory there in
    subst (λ (links : List Link). OnlyPairsDiffer loaded (followed m.marked t pending old new) s.registers.ss (live_places s.registers pending links) new) same moved
