-- How a stub reads that was written.
use Rattle.std.proofs.Common.{◌≡◌, ◌≢◌, ℕ, zero, suc, ◌+◌, ◌*◌, ◌<◌, ◌≤◌, List, [], ◌∷◌, length, sym, ap, subst, ◌∙◌, arith}
use Rattle.std.specs.Prelude.{slice_index}
use Rattle.std.specs.List.{AllByRecursion}
use Rattle.cpu_8086.specs.Memory.{address, next_offset, load_word, store_word}
use Rattle.cpu_8086.proofs.MemoryLaws.{length-store_word, load_word-store_word_same}
use Rattle.overlay_file.specs.Stubs.{IsStub, IsEntry, entry_offset}
use Rattle.overlay_ring.specs.declared.seat.Seat.{Seat}
use Rattle.return_repair.specs.declared.table.Loaded.{Loaded}
use Rattle.return_repair.specs.Follows.{overlay_at}
use Rattle.overlay_manager.specs.Kept.{stubs_of}
use Rattle.overlay_manager.specs.Manager.{next_stub, with_stubs}
use Rattle.overlay_manager.specs.Orderly.{stub_size, FitsSegment, AreApartStubs, StubsApart}
use Rattle.overlay_manager.specs.Reads.{StubReads}
use Rattle.overlay_manager.specs.Stubbing.{routine_at, with_entries, with_stub}
use Rattle.overlay_manager.proofs.CarriedLaws.{each-then}
use Rattle.overlay_manager.proofs.EntryLaws.{byte-is, IsWritten, entries-written, written-kept, entry-same, routine-same, SameEntry, length-entries}
use Rattle.overlay_manager.proofs.StubLaws.{word-same, word-elsewhere, entries-elsewhere, stub-elsewhere, stubs-elsewhere, SameEntries, entries-kept, IsOffWritten}

-- the bytes of a stub but those that save an offset are the same in both
abbrev pub Agree : ℕ → ℕ → List ℕ → List ℕ → Type 0
Agree stub size memory other = (k : ℕ) → k < size → k ≢ 2 → k ≢ 3 → slice_index memory (address stub k) ≡ slice_index other (address stub k)

field-same : (stub size : ℕ) (memory other : List ℕ) (offset : ℕ) → Agree stub size memory other → offset + 2 ≤ size → size ≤ 65536 → offset ≢ 1 → offset ≢ 2 → offset ≢ 3 → load_word memory stub offset ≡ load_word other stub offset
field-same stub size memory other offset agree inside fits one two three =
    let next : next_offset offset ≡ offset + 1 = omega arith in
    let high : slice_index memory (address stub (offset + 1)) ≡ slice_index other (address stub (offset + 1)) = agree (offset + 1) (omega arith) (λ same. one (omega arith)) (λ same. two (omega arith)) in
    word-same memory other stub offset (agree offset (omega arith) two three) (subst (λ (at : ℕ). slice_index memory (address stub at) ≡ slice_index other (address stub at)) (sym next) high)

entry-agrees : (stub size : ℕ) (memory other : List ℕ) (at : ℕ) → Agree stub size memory other → 4 ≤ at → at + 5 ≤ size → SameEntry memory other stub at
entry-agrees stub size memory other at agree above inside = λ j small. agree (at + j) (omega arith) (λ same. omega arith) (λ same. omega arith)

-- a stub in memory that agrees is one
pub stub-agrees : (stub : ℕ) (memory other : List ℕ) → Agree stub (stub_size other stub) memory other → FitsSegment other stub → IsStub other stub → IsStub memory stub
stub-agrees stub memory other agree fits is =
    let size = stub_size other stub in
    let count : load_word memory stub 12 ≡ load_word other stub 12 = field-same stub size memory other 12 agree (omega arith) fits (λ same. omega arith) (λ same. omega arith) (λ same. omega arith) in
    let load : load_word memory stub 14 ≡ load_word other stub 14 = field-same stub size memory other 14 agree (omega arith) fits (λ same. omega arith) (λ same. omega arith) (λ same. omega arith) in
    record {
      interrupt = field-same stub size memory other 0 agree (omega arith) fits (λ same. omega arith) (λ same. omega arith) (λ same. omega arith) ∙ is.interrupt;
      zeros = λ k below. byte-is memory stub (18 + k) ∙ agree (18 + k) (omega arith) (λ same. omega arith) (λ same. omega arith) ∙ sym (byte-is other stub (18 + k)) ∙ is.zeros k below;
      room = subst (λ (count : ℕ). entry_offset count ≤ 65536) (sym count) is.room;
      each = λ e below. subst (λ (load : ℕ). IsEntry memory stub load (entry_offset e)) (sym load)
          (entry-same memory other stub (load_word other stub 14) (entry_offset e) (omega (arith, below, count, fits)) (entry-agrees stub size memory other (entry_offset e) agree (omega arith) (omega (arith, below, count)))
          (is.each e (omega (arith, below, count))));
    }

-- two offsets of a segment
apart-offsets : (stub k j : ℕ) → k < 65536 → j < 65536 → k ≢ j → address stub k ≢ address stub j
apart-offsets stub k j small_k small_j differ same = differ (omega arith)

-- one stub as it is written
pub stub-reads : (was now next stub : ℕ) (memory : List ℕ) → length memory ≡ 1048576 → FitsSegment memory stub → IsStub memory stub → StubReads memory (with_stub was now next stub memory) stub was now next
unfolding with_stub
stub-reads was now next stub memory size fits is =
    let count = load_word memory stub 12 in
    let first : List ℕ = with_entries was now stub memory 32 count in
    let second : List ℕ = store_word first stub 14 now in
    let third : List ℕ = store_word second stub 16 next in
    let sized_first : length first ≡ 1048576 = length-entries was now stub memory 32 count ∙ size in
    let sized : length second ≡ 1048576 = length-store_word first stub 14 now ∙ sized_first in
    let words : (k : ℕ) → k < 65536 → k ≢ 14 → k ≢ 15 → k ≢ 16 → k ≢ 17 → slice_index third (address stub k) ≡ slice_index first (address stub k) =
    λ k small a b c d.
    word-elsewhere second stub 16 next (address stub k) (apart-offsets stub k 16 small (omega arith) c) (apart-offsets stub k 17 small (omega arith) d)
    ∙ word-elsewhere first stub 14 now (address stub k) (apart-offsets stub k 14 small (omega arith) a) (apart-offsets stub k 15 small (omega arith) b) in
    let front : (k : ℕ) → k < 32 → slice_index first (address stub k) ≡ slice_index memory (address stub k) =
    λ k small. entries-elsewhere was now stub memory 32 count (address stub k) (omega arith) (λ j above below same. omega arith) in
    let fields : (offset : ℕ) → offset ≤ 12 → load_word third stub offset ≡ load_word memory stub offset =
    λ offset small.
    let next_is : next_offset offset ≡ offset + 1 = omega arith in
    let high : slice_index third (address stub (offset + 1)) ≡ slice_index memory (address stub (offset + 1)) = words (offset + 1) (omega arith) (λ same. omega arith) (λ same. omega arith) (λ same. omega arith) (λ same. omega arith) ∙ front (offset + 1) (omega arith) in
    word-same third memory stub offset
    (words offset (omega arith) (λ same. omega arith) (λ same. omega arith) (λ same. omega arith) (λ same. omega arith) ∙ front offset (omega arith))
    (subst (λ (at : ℕ). slice_index third (address stub at) ≡ slice_index memory (address stub at)) (sym next_is) high) in
    let load : load_word third stub 14 ≡ now =
    word-same third second stub 14
    (word-elsewhere second stub 16 next (address stub 14) (apart-offsets stub 14 16 (omega arith) (omega arith) (λ same. omega arith)) (apart-offsets stub 14 17 (omega arith) (omega arith) (λ same. omega arith)))
    (word-elsewhere second stub 16 next (address stub 15) (apart-offsets stub 15 16 (omega arith) (omega arith) (λ same. omega arith)) (apart-offsets stub 15 17 (omega arith) (omega arith) (λ same. omega arith)))
    ∙ load_word-store_word_same first stub 14 now sized_first (omega arith) in
    let written : (e : ℕ) → e < count → IsWritten third stub now (entry_offset e) (routine_at memory stub was (entry_offset e)) =
    λ e below.
    written-kept third first stub now (32 + 5 * e) (routine_at memory stub was (32 + 5 * e)) (omega arith)
    (λ j small. words (32 + 5 * e + j) (omega arith) (λ same. omega arith) (λ same. omega arith) (λ same. omega arith) (λ same. omega arith))
    (entries-written was now stub memory 32 count e size (omega arith) below) in
    record {
      stub_is = record {
        interrupt = fields 0 (omega arith) ∙ is.interrupt;
        zeros = λ k below. byte-is third stub (18 + k)
            ∙ (words (18 + k) (omega arith) (λ same. omega arith) (λ same. omega arith) (λ same. omega arith) (λ same. omega arith) ∙ front (18 + k) (omega arith))
            ∙ sym (byte-is memory stub (18 + k)) ∙ is.zeros k below;
        room = subst (λ (count : ℕ). entry_offset count ≤ 65536) (sym (fields 12 (omega arith))) is.room;
        each = λ e below. subst (λ (load : ℕ). IsEntry third stub load (entry_offset e)) (sym load) (written e (omega (arith, below, fields 12 (omega arith)))).entry;
      };
      load = load;
      next_is = load_word-store_word_same second stub 16 next sized (omega arith);
      fields = λ offset above small. fields offset small;
      routines = λ e below. (written e below).leads;
    }

-- what was read is read in memory that agrees
pub reads-after : (memory after other : List ℕ) (stub was now next : ℕ) → FitsSegment memory stub → Agree stub (stub_size memory stub) other after → StubReads memory after stub was now next → StubReads memory other stub was now next
reads-after memory after other stub was now next fits agree reads =
    let size = stub_size memory stub in
    let same_size : stub_size after stub ≡ size = ap entry_offset (reads.fields 12 (omega arith) (omega arith)) in
    let agrees : Agree stub (stub_size after stub) other after = subst (λ (size : ℕ). Agree stub size other after) (sym same_size) agree in
    let fits_after : FitsSegment after stub = omega (arith, same_size) in
    record {
      stub_is = stub-agrees stub other after agrees fits_after reads.stub_is;
      load = field-same stub size other after 14 agree (omega arith) fits (λ same. omega arith) (λ same. omega arith) (λ same. omega arith) ∙ reads.load;
      next_is = field-same stub size other after 16 agree (omega arith) fits (λ same. omega arith) (λ same. omega arith) (λ same. omega arith) ∙ reads.next_is;
      fields = λ offset above small. field-same stub size other after offset agree (omega arith) fits (λ same. omega arith) (λ same. omega arith) (λ same. omega arith) ∙ reads.fields offset above small;
      routines = λ e below. routine-same other after stub now (entry_offset e) (omega arith) (entry-agrees stub size other after (entry_offset e) agree (omega arith) (omega arith)) ∙ reads.routines e below;
    }

-- and from memory that agrees
pub reads-from : (memory other after : List ℕ) (stub was now next : ℕ) → FitsSegment other stub → Agree stub (stub_size other stub) memory other → StubReads memory after stub was now next → StubReads other after stub was now next
reads-from memory other after stub was now next fits agree reads =
    let size = stub_size other stub in
    let count : load_word memory stub 12 ≡ load_word other stub 12 = field-same stub size memory other 12 agree (omega arith) fits (λ same. omega arith) (λ same. omega arith) (λ same. omega arith) in
    record {
      stub_is = reads.stub_is;
      load = reads.load;
      next_is = reads.next_is;
      fields = λ offset above small. reads.fields offset above small ∙ field-same stub size memory other offset agree (omega arith) fits (λ same. omega arith) (λ same. omega arith) (λ same. omega arith);
      routines = λ e below. reads.routines e (omega (arith, count, below)) ∙ routine-same memory other stub was (entry_offset e) (omega arith) (entry-agrees stub size memory other (entry_offset e) agree (omega arith) (omega arith));
    }

-- what holds of each stub of a table holds of one
pub all-at : (P : ℕ → Type 0) (table : List Loaded) (v : ℕ) → v < length table → AllByRecursion P (stubs_of table) → P (overlay_at table v).stub
all-at P [] v there all = absurd (omega arith)
all-at P (overlay ∷ table) zero there all = all.0
all-at P (overlay ∷ table) (suc v) there all = all-at P table v (omega arith) all.1

length-stub : (was now next stub : ℕ) (memory : List ℕ) → length (with_stub was now next stub memory) ≡ length memory
unfolding with_stub
length-stub was now next stub memory =
    let first : List ℕ = with_entries was now stub memory 32 (load_word memory stub 12) in
    length-store_word (store_word first stub 14 now) stub 16 next ∙ length-store_word first stub 14 now ∙ length-entries was now stub memory 32 (load_word memory stub 12)

-- the bytes of a stub are off what is written of another
off-other : (first : List ℕ) (stub other k : ℕ) → AreApartStubs first stub other → k < stub_size first stub → IsOffWritten first other (address stub k)
off-other first stub other k apart inside = λ j above below same. apart k j inside below (sym same)

off-this : (first : List ℕ) (stub other k : ℕ) → AreApartStubs first stub other → k < stub_size first other → IsOffWritten first stub (address other k)
off-this first stub other k apart inside = λ j above below same. apart j k below inside same

-- Each stub reads so once all are written.
pub stubs-read : (numbers : List ℕ) (seats : List Seat) (u : ℕ) (old new : List Loaded) (first memory : List ℕ) (v : ℕ) → length memory ≡ 1048576
    → AllByRecursion (SameEntries memory first) (stubs_of new) → AllByRecursion (FitsSegment first) (stubs_of new) → StubsApart first (stubs_of new) → v < length old → v < length new → IsStub memory (overlay_at new v).stub
    → StubReads memory (with_stubs numbers seats u old new memory) (overlay_at new v).stub (overlay_at old v).load (overlay_at new v).load (next_stub numbers seats (u + v))
stubs-read numbers seats u [] new first memory v size same fits apart in_old in_new is = absurd (omega arith)
stubs-read numbers seats u (was ∷ old) [] first memory v size same fits apart in_old in_new is = absurd (omega arith)
stubs-read numbers seats u (was ∷ old) (now ∷ new) first memory zero size same fits apart in_old in_new is =
    let number : u + 0 ≡ u = omega arith in
    let next = next_stub numbers seats u in
    let written : List ℕ = with_stub was.load now.load next now.stub memory in
    let final : List ℕ = with_stubs numbers seats (u + 1) old new written in
    let same_size : stub_size memory now.stub ≡ stub_size first now.stub = ap entry_offset same.0 in
    let fits_now : FitsSegment memory now.stub = omega (arith, same_size, fits.0) in
    let agree : Agree now.stub (stub_size memory now.stub) final written =
    λ k inside two three. stubs-elsewhere numbers seats (u + 1) old new first written (address now.stub k) (entries-kept was.load now.load next now.stub first memory (stubs_of new) same.0 fits.0 apart.0 same.1) fits.1 apart.1
    (each-then (AreApartStubs first now.stub) (λ other. IsOffWritten first other (address now.stub k)) (stubs_of new) (λ other it. off-other first now.stub other k it (omega (arith, inside, same_size))) apart.0) in
    subst (λ (n : ℕ). StubReads memory (with_stubs numbers seats (u + 1) old new (with_stub was.load now.load next now.stub memory)) now.stub was.load now.load (next_stub numbers seats n)) (sym number)
    (reads-after memory written final now.stub was.load now.load next fits_now agree (stub-reads was.load now.load next now.stub memory size fits_now is))
stubs-read numbers seats u (was ∷ old) (now ∷ new) first memory (suc v) size same fits apart in_old in_new is =
    let number : u + suc v ≡ u + 1 + v = omega arith in
    let next = next_stub numbers seats u in
    let written : List ℕ = with_stub was.load now.load next now.stub memory in
    let stub = (overlay_at new v).stub in
    let there : v < length new = omega arith in
    let kept = entries-kept was.load now.load next now.stub first memory (stubs_of new) same.0 fits.0 apart.0 same.1 in
    let same_size : stub_size memory now.stub ≡ stub_size first now.stub = ap entry_offset same.0 in
    let same_here : stub_size memory stub ≡ stub_size first stub = ap entry_offset (all-at (SameEntries memory first) new v there same.1) in
    let fits_now : FitsSegment memory now.stub = omega (arith, same_size, fits.0) in
    let fits_here : FitsSegment memory stub = omega (arith, same_here, all-at (FitsSegment first) new v there fits.1) in
    let apart_here = all-at (AreApartStubs first now.stub) new v there apart.0 in
    let agree : Agree stub (stub_size memory stub) written memory =
    λ k inside two three. stub-elsewhere was.load now.load next now.stub memory (address stub k) fits_now
    (λ j above below. off-this first now.stub stub k apart_here (omega (arith, inside, same_here)) j above (omega (arith, below, same_size))) in
    let is_written = stub-agrees stub written memory agree fits_here is in
    let later = stubs-read numbers seats (u + 1) old new first written v (length-stub was.load now.load next now.stub memory ∙ size) kept fits.1 apart.1 (omega arith) there is_written in
    subst (λ (n : ℕ). StubReads memory (with_stubs numbers seats (u + 1) old new written) stub (overlay_at old v).load (overlay_at new v).load (next_stub numbers seats n)) (sym number)
    (reads-from written memory (with_stubs numbers seats (u + 1) old new written) stub (overlay_at old v).load (overlay_at new v).load (next_stub numbers seats (u + 1 + v)) fits_here agree later)
