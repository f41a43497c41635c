-- A whole service in an orderly state.
use Rattle.std.proofs.Common.{◌≡◌, ◌≢◌, ℕ, ◌<◌, Bool, List, [], ◌∷◌, sym, subst, ◌∙◌, arith}
use Rattle.std.specs.Prelude.{slice_index}
use Rattle.std.specs.List.{AllByRecursion}
use Rattle.cpu_8086.specs.Memory.{address, load_word}
use Rattle.cpu_8086.specs.State.{State}
use Rattle.overlay_ring.specs.declared.seat.Seat.{Seat}
use Rattle.return_repair.specs.Pairs.{saved_at}
use Rattle.return_repair.specs.Follows.{Follow, IsElsewhere, word_bytes, pair_bytes}
use Rattle.overlay_manager.specs.Kept.{stubs_of}
use Rattle.overlay_manager.specs.Manager.{Manager, table_by, with_stubs}
use Rattle.overlay_manager.specs.Orderly.{stub_size, IsOffStub, IsOffStubs, IsOffBuffer, IsOffPairs, StubsApart, FitsSegment, EachPairByte, places_of}
use Rattle.overlay_manager.specs.Service.{followed, followed_count}
use Rattle.overlay_manager.proofs.CarriedLaws.{each-then, follow-carried}
use Rattle.overlay_manager.proofs.StubLaws.{word-same, IsOffWritten, SameEntries, stubs-elsewhere}
use Rattle.overlay_manager.proofs.ServiceLaws.{stubs-of_table, each-overlay, both-each, each-two, CountOffSaved, SavedOffWritten, count-own, count-one, count-two, saved-own, saved-one, saved-two, pairs-kept, stub-word-kept, Steps, loaded_of, off-buffer, follow-loaded, only-pairs}

-- the bytes of each stub are off the pairs, as those are off the stubs
pub pairs-off-each : (memory : List ℕ) (ss : ℕ) (places stubs : List ℕ) → EachPairByte (IsOffStubs memory stubs) ss places → AllByRecursion (λ stub. (k : ℕ) → k < stub_size memory stub → IsOffPairs ss places (address stub k)) stubs
pairs-off-each memory ss places [] off_it = tt
pairs-off-each memory ss places (stub ∷ stubs) off_it = (
  λ k inside. each-then (λ place. AllByRecursion (IsOffStubs memory (stub ∷ stubs)) (pair_bytes ss place)) (λ place. IsElsewhere (address stub k) (pair_bytes ss place)) places
      (λ place bytes. each-then (IsOffStubs memory (stub ∷ stubs)) (λ byte. address stub k ≢ byte) (pair_bytes ss place) (λ byte is_off same. is_off.0 k inside (sym same)) bytes) off_it,
  pairs-off-each memory ss places stubs
      (each-then (λ place. AllByRecursion (IsOffStubs memory (stub ∷ stubs)) (pair_bytes ss place)) (λ place. AllByRecursion (IsOffStubs memory stubs) (pair_bytes ss place)) places
      (λ place bytes. each-then (IsOffStubs memory (stub ∷ stubs)) (IsOffStubs memory stubs) (pair_bytes ss place) (λ byte is_off. is_off.1) bytes) off_it),
)

abbrev pub followed_of : Manager → State → Bool → List Seat → List ℕ → List ℕ
followed_of m s pending seats loaded = followed m.marked (loaded_of s loaded) pending (table_by m m.ring.seats) (table_by m seats)

abbrev pub written_of : Manager → State → Bool → List Seat → List ℕ → List ℕ
written_of m s pending seats loaded = with_stubs m.stubs seats 0 (table_by m m.ring.seats) (table_by m seats) (followed_of m s pending seats loaded)

-- what holds of each stub holds of the stubs of a table
abbrev pub tabled : (P : ℕ → Type 0) (m : Manager) (seats : List Seat) → AllByRecursion P m.stubs → AllByRecursion P (stubs_of (table_by m seats))
tabled P m seats all = subst (λ stubs. AllByRecursion P stubs) (sym (stubs-of_table m.ring.room seats 0 m.stubs)) all

-- the stubs have as many entries once live pairs followed
pub entries-followed : (m : Manager) (s : State) (pending : Bool) (seats : List Seat) (loaded : List ℕ) → Steps m s pending seats loaded → AllByRecursion (SameEntries (followed_of m s pending seats loaded) s.memory) m.stubs
entries-followed m s pending seats loaded steps =
    let ss = s.registers.ss in
    let places = places_of m.marked s pending in
    let final : List ℕ = followed_of m s pending seats loaded in
    let differ = only-pairs m s pending seats loaded steps in
    let counts = each-two CountOffSaved s.memory m.stubs (count-own s.memory) (count-one s.memory) (count-two s.memory) steps.orderly.stubs_fit steps.orderly.stubs_apart in
    let off_pairs = pairs-off-each s.memory ss places m.stubs steps.orderly.pairs_off_stubs in
    let loaded_same = stub-word-kept m.ring.room s.memory loaded s.memory 12 m.stubs (omega arith) (off-buffer m s pending seats loaded steps) steps.orderly.stubs_off_buffer in
    let OffPairs : ℕ → Type 0 = λ stub. (k : ℕ) → k < stub_size s.memory stub → IsOffPairs ss places (address stub k) in
    let Counts : ℕ → Type 0 = λ stub. AllByRecursion (CountOffSaved stub) m.stubs in
    let Loads : ℕ → Type 0 = λ stub. load_word loaded stub 12 ≡ load_word s.memory stub 12 in
    let byte : (at : ℕ) → IsOffPairs ss places at → AllByRecursion (λ other. IsElsewhere at (word_bytes other 2)) m.stubs → slice_index final at ≡ slice_index loaded at =
    λ at pairs saved. differ.others at pairs (each-overlay (λ other. IsElsewhere at (word_bytes other 2)) (table_by m seats) (tabled (λ other. IsElsewhere at (word_bytes other 2)) m seats saved)) in
    each-then (λ stub. (OffPairs stub × Counts stub) × Loads stub) (SameEntries final s.memory) m.stubs
    (λ stub known.
    word-same final loaded stub 12
    (byte (address stub 12) (known.0.0 12 (omega arith)) (each-then (CountOffSaved stub) (λ other. IsElsewhere (address stub 12) (word_bytes other 2)) m.stubs (λ other it. it.0) known.0.1))
    (byte (address stub 13) (known.0.0 13 (omega arith)) (each-then (CountOffSaved stub) (λ other. IsElsewhere (address stub 13) (word_bytes other 2)) m.stubs (λ other it. it.1) known.0.1))
    ∙ known.1)
    (both-each (λ stub. OffPairs stub × Counts stub) Loads m.stubs (both-each OffPairs Counts m.stubs off_pairs counts) loaded_same)

-- writing the stubs leaves what is off what is written
pub written-elsewhere : (m : Manager) (s : State) (pending : Bool) (seats : List Seat) (loaded : List ℕ) → Steps m s pending seats loaded → (at : ℕ) → AllByRecursion (λ stub. IsOffWritten s.memory stub at) m.stubs
    → slice_index (written_of m s pending seats loaded) at ≡ slice_index (followed_of m s pending seats loaded) at
written-elsewhere m s pending seats loaded steps at off_it =
    let fits = tabled (FitsSegment s.memory) m seats steps.orderly.stubs_fit in
    let entries = tabled (SameEntries (followed_of m s pending seats loaded) s.memory) m seats (entries-followed m s pending seats loaded steps) in
    let apart = subst (λ (stubs : List ℕ). StubsApart s.memory stubs) (sym (stubs-of_table m.ring.room seats 0 m.stubs)) steps.orderly.stubs_apart in
    stubs-elsewhere m.stubs seats 0 (table_by m m.ring.seats) (table_by m seats) s.memory (followed_of m s pending seats loaded) at entries fits apart (tabled (λ stub. IsOffWritten s.memory stub at) m seats off_it)

off-stubs-written : (memory stubs : List ℕ) (at : ℕ) → IsOffStubs memory stubs at → AllByRecursion (λ stub. IsOffWritten memory stub at) stubs
off-stubs-written memory stubs at off_it = each-then (λ stub. IsOffStub memory stub at) (λ stub. IsOffWritten memory stub at) stubs (λ stub is_off k above below. is_off k below) off_it

-- In an orderly state live pairs follow from the old table to the new one.
pub follow-written : (m : Manager) (s : State) (pending : Bool) (seats : List Seat) (loaded : List ℕ) → Steps m s pending seats loaded
    → Follow s.memory (written_of m s pending seats loaded) s.registers.ss (places_of m.marked s pending) (table_by m m.ring.seats) (table_by m seats) (followed_count m.marked (loaded_of s loaded) pending (table_by m m.ring.seats) (table_by m seats))
follow-written m s pending seats loaded steps =
    let ss = s.registers.ss in
    let places = places_of m.marked s pending in
    let old = table_by m m.ring.seats in
    let new = table_by m seats in
    let between : List ℕ = followed_of m s pending seats loaded in
    let final : List ℕ = written_of m s pending seats loaded in
    let pairs_loaded = pairs-kept (IsOffBuffer m.ring.room) s.memory loaded ss places (λ at is_off. sym (off-buffer m s pending seats loaded steps at is_off)) steps.orderly.pairs_off_buffer in
    let saved_loaded = stub-word-kept m.ring.room s.memory s.memory loaded 2 m.stubs (omega arith) (λ at is_off. sym (off-buffer m s pending seats loaded steps at is_off)) steps.orderly.stubs_off_buffer in
    let pairs_written = pairs-kept (IsOffStubs s.memory m.stubs) final between ss places (λ at is_off. written-elsewhere m s pending seats loaded steps at (off-stubs-written s.memory m.stubs at is_off)) steps.orderly.pairs_off_stubs in
    let saves = each-two (SavedOffWritten s.memory) s.memory m.stubs (saved-own s.memory) (saved-one s.memory) (saved-two s.memory) steps.orderly.stubs_fit steps.orderly.stubs_apart in
    let saved_written = each-then (λ stub. AllByRecursion (SavedOffWritten s.memory stub) m.stubs) (λ stub. saved_at final stub ≡ saved_at between stub) m.stubs
    (λ stub off_it. word-same final between stub 2
    (written-elsewhere m s pending seats loaded steps (address stub 2) (each-then (SavedOffWritten s.memory stub) (λ other. IsOffWritten s.memory other (address stub 2)) m.stubs (λ other it. it.0) off_it))
    (written-elsewhere m s pending seats loaded steps (address stub 3) (each-then (SavedOffWritten s.memory stub) (λ other. IsOffWritten s.memory other (address stub 3)) m.stubs (λ other it. it.1) off_it))) saves in
    follow-carried s.memory loaded between final ss places old new (followed_count m.marked (loaded_of s loaded) pending old new)
    pairs_loaded (tabled (λ stub. saved_at s.memory stub ≡ saved_at loaded stub) m m.ring.seats saved_loaded) (tabled (λ stub. saved_at s.memory stub ≡ saved_at loaded stub) m seats saved_loaded)
    (follow-loaded m s pending seats loaded steps) pairs_written (tabled (λ stub. saved_at final stub ≡ saved_at between stub) m seats saved_written)

-- And bytes off the live pairs and the stubs are as they were once overlays were loaded.
pub followed-off : (m : Manager) (s : State) (pending : Bool) (seats : List Seat) (loaded : List ℕ) → Steps m s pending seats loaded → (at : ℕ) → IsOffPairs s.registers.ss (places_of m.marked s pending) at → IsOffStubs s.memory m.stubs at
    → slice_index (written_of m s pending seats loaded) at ≡ slice_index loaded at
followed-off m s pending seats loaded steps at off_pairs off_stubs =
    let saved = each-then (λ stub. IsOffStub s.memory stub at) (λ stub. IsElsewhere at (word_bytes stub 2)) m.stubs (λ stub is_off. (is_off 2 (omega arith), (is_off 3 (omega arith), tt))) off_stubs in
    let differ = only-pairs m s pending seats loaded steps in
    written-elsewhere m s pending seats loaded steps at (off-stubs-written s.memory m.stubs at off_stubs)
    ∙ differ.others at off_pairs (each-overlay (λ stub. IsElsewhere at (word_bytes stub 2)) (table_by m seats) (tabled (λ stub. IsElsewhere at (word_bytes stub 2)) m seats saved))
