-- Where writing stubs leaves memory as it was.
use Rattle.std.proofs.Common.{◌≡◌, ◌≢◌, ℕ, zero, suc, ◌+◌, ◌*◌, ◌%◌, ◌<◌, ◌≤◌, Bool, true, false, cond, List, [], ◌∷◌, refl, sym, ap, ap₂, ◌∙◌, arith}
use Rattle.std.specs.Prelude.{slice_index, ◌==◌}
use Rattle.std.specs.List.{AllByRecursion}
use Rattle.std.proofs.lemmas.List.{get_or-set_other}
use Rattle.cpu_8086.specs.Memory.{address, next_offset, load_byte, load_word, store_byte, store_word, low_byte, high_byte}
use Rattle.overlay_file.specs.Stubs.{entry_offset}
use Rattle.overlay_ring.specs.declared.seat.Seat.{Seat}
use Rattle.return_repair.specs.declared.table.Loaded.{Loaded}
use Rattle.overlay_manager.specs.Kept.{stubs_of}
use Rattle.overlay_manager.specs.Stubbing.{routine_at, with_trap, with_jump, with_entry, with_entries, with_stub}
use Rattle.overlay_manager.specs.Manager.{next_stub, with_stubs}
use Rattle.overlay_manager.specs.Orderly.{stub_size, AreApartStubs, StubsApart, FitsSegment}

-- a byte that was not stored
pub byte-elsewhere : (memory : List ℕ) (segment offset v at : ℕ) → at ≢ address segment offset → slice_index (store_byte memory segment offset v) at ≡ slice_index memory at
unfolding store_byte
byte-elsewhere memory segment offset v at apart = get_or-set_other memory (address segment offset) at v 0 apart

pub word-elsewhere : (memory : List ℕ) (segment offset v at : ℕ) → at ≢ address segment offset → at ≢ address segment (next_offset offset) → slice_index (store_word memory segment offset v) at ≡ slice_index memory at
unfolding store_word
word-elsewhere memory segment offset v at low high =
    byte-elsewhere (store_byte memory segment offset (low_byte v)) segment (next_offset offset) (high_byte v) at high
    ∙ byte-elsewhere memory segment offset (low_byte v) at low

-- bytes of a segment from one offset on and below another
abbrev pub IsOff : ℕ → ℕ → ℕ → ℕ → Type 0
IsOff stub low high at = (k : ℕ) → low ≤ k → k < high → at ≢ address stub k

-- an offset in that range, however it is written
pub off : (stub low high at offset k : ℕ) → IsOff stub low high at → offset ≡ k → low ≤ k → k < high → at ≢ address stub offset
off stub low high at offset k is_off same above below is_it = is_off k above below (is_it ∙ ap (address stub) same)

trap-elsewhere : (memory : List ℕ) (stub at routine x : ℕ) → at + 5 ≤ 65536 → IsOff stub at (at + 5) x → slice_index (with_trap memory stub at routine) x ≡ slice_index memory x
trap-elsewhere memory stub at routine x fits is_off =
    let first : List ℕ = store_word memory stub at 0x3FCD in
    let second : List ℕ = store_word first stub ((at + 2) % 65536) routine in
    byte-elsewhere second stub ((at + 4) % 65536) 0 x (off stub at (at + 5) x _ (at + 4) is_off (omega arith) (omega arith) (omega arith))
    ∙ word-elsewhere first stub ((at + 2) % 65536) routine x (off stub at (at + 5) x _ (at + 2) is_off (omega arith) (omega arith) (omega arith)) (off stub at (at + 5) x _ (at + 3) is_off (omega arith) (omega arith) (omega arith))
    ∙ word-elsewhere memory stub at 0x3FCD x (off stub at (at + 5) x _ at is_off refl (omega arith) (omega arith)) (off stub at (at + 5) x _ (at + 1) is_off (omega arith) (omega arith) (omega arith))

jump-elsewhere : (memory : List ℕ) (stub at routine load x : ℕ) → at + 5 ≤ 65536 → IsOff stub at (at + 5) x → slice_index (with_jump memory stub at routine load) x ≡ slice_index memory x
jump-elsewhere memory stub at routine load x fits is_off =
    let first : List ℕ = store_byte memory stub at 0xEA in
    let second : List ℕ = store_word first stub ((at + 1) % 65536) routine in
    word-elsewhere second stub ((at + 3) % 65536) load x (off stub at (at + 5) x _ (at + 3) is_off (omega arith) (omega arith) (omega arith)) (off stub at (at + 5) x _ (at + 4) is_off (omega arith) (omega arith) (omega arith))
    ∙ word-elsewhere first stub ((at + 1) % 65536) routine x (off stub at (at + 5) x _ (at + 1) is_off (omega arith) (omega arith) (omega arith)) (off stub at (at + 5) x _ (at + 2) is_off (omega arith) (omega arith) (omega arith))
    ∙ byte-elsewhere memory stub at 0xEA x (off stub at (at + 5) x _ at is_off refl (omega arith) (omega arith))

pub entry-elsewhere : (was now stub : ℕ) (memory : List ℕ) (at x : ℕ) → at + 5 ≤ 65536 → IsOff stub at (at + 5) x → slice_index (with_entry was now stub memory at) x ≡ slice_index memory x
unfolding with_entry
entry-elsewhere was now stub memory at x fits is_off = by (now == 0)
  where
    by : (out : Bool) → slice_index (cond out (with_trap memory stub at (routine_at memory stub was at)) (with_jump memory stub at (routine_at memory stub was at) now)) x ≡ slice_index memory x
    by true = trap-elsewhere memory stub at (routine_at memory stub was at) x fits is_off
    by false = jump-elsewhere memory stub at (routine_at memory stub was at) now x fits is_off

pub entries-elsewhere : (was now stub : ℕ) (memory : List ℕ) (at entries x : ℕ) → at + 5 * entries ≤ 65536 → IsOff stub at (at + 5 * entries) x → slice_index (with_entries was now stub memory at entries) x ≡ slice_index memory x
entries-elsewhere was now stub memory at zero x fits is_off = refl
entries-elsewhere was now stub memory at (suc zero) x fits is_off = entry-elsewhere was now stub memory at x (omega arith) (λ k above below. is_off k above (omega arith))
entries-elsewhere was now stub memory at (suc (suc entries)) x fits is_off =
    let next : (at + 5) % 65536 ≡ at + 5 = omega arith in
    let written : List ℕ = with_entry was now stub memory at in
    ap (λ (at : ℕ). slice_index (with_entries was now stub written at (suc entries)) x) next
    ∙ entries-elsewhere was now stub written (at + 5) (suc entries) x (omega arith) (λ k above below. is_off k (omega arith) (omega arith))
    ∙ entry-elsewhere was now stub memory at x (omega arith) (λ k above below. is_off k above (omega arith))

-- what is written of a stub stands from offset 14 on
pub stub-elsewhere : (was now next stub : ℕ) (memory : List ℕ) (x : ℕ) → FitsSegment memory stub → IsOff stub 14 (stub_size memory stub) x → slice_index (with_stub was now next stub memory) x ≡ slice_index memory x
unfolding with_stub
stub-elsewhere was now next stub memory x fits is_off =
    let entries = load_word memory stub 12 in
    let first : List ℕ = with_entries was now stub memory 32 entries in
    let second : List ℕ = store_word first stub 14 now in
    word-elsewhere second stub 16 next x (is_off 16 (omega arith) (omega arith)) (off stub 14 (stub_size memory stub) x _ 17 is_off refl (omega arith) (omega arith))
    ∙ word-elsewhere first stub 14 now x (is_off 14 (omega arith) (omega arith)) (off stub 14 (stub_size memory stub) x _ 15 is_off refl (omega arith) (omega arith))
    ∙ entries-elsewhere was now stub memory 32 entries x (omega arith) (λ k above below. is_off k (omega arith) (omega arith))

-- words and pairs whose bytes are the same
pub word-same : (memory other : List ℕ) (segment offset : ℕ) → slice_index memory (address segment offset) ≡ slice_index other (address segment offset) → slice_index memory (address segment (next_offset offset)) ≡ slice_index other (address segment (next_offset offset)) → load_word memory segment offset ≡ load_word other segment offset
unfolding load_word load_byte
word-same memory other segment offset low high = ap₂ (λ (low high : ℕ). low + 256 * high) low high

-- an address of a stub that isn't written
abbrev pub IsOffWritten : List ℕ → ℕ → ℕ → Type 0
IsOffWritten memory stub at = IsOff stub 14 (stub_size memory stub) at

-- the bytes of a word of a stub's fields are off what is written of another stub
other-word : (memory : List ℕ) (stub other offset : ℕ) → AreApartStubs memory stub other → offset < 31 → (address other offset ≢ address stub offset) × IsOffWritten memory stub (address other offset) × IsOffWritten memory stub (address other (next_offset offset))
other-word memory stub other offset apart small =
    let next : next_offset offset ≡ offset + 1 = omega arith in (
      apart offset offset (omega arith) (omega arith),
      λ k above below same. apart k offset below (omega arith) same,
      λ k above below same. apart k (offset + 1) below (omega arith) (ap (address other) (sym next) ∙ same),
    )

pub other-word-kept : (was now next stub : ℕ) (first memory : List ℕ) (other offset : ℕ) → load_word memory stub 12 ≡ load_word first stub 12 → FitsSegment first stub → AreApartStubs first stub other → offset < 31
    → load_word (with_stub was now next stub memory) other offset ≡ load_word memory other offset
other-word-kept was now next stub first memory other offset same fits apart small =
    let size : stub_size memory stub ≡ stub_size first stub = ap entry_offset same in
    let fits_now : FitsSegment memory stub = omega (arith, size) in
    let off_it = other-word first stub other offset apart small in
    word-same (with_stub was now next stub memory) memory other offset
    (stub-elsewhere was now next stub memory (address other offset) fits_now (λ k above below. off_it.1 k above (omega (arith, size))))
    (stub-elsewhere was now next stub memory (address other (next_offset offset)) fits_now (λ k above below. off_it.2 k above (omega (arith, size))))

-- stubs have as many entries in one memory as in another
abbrev pub SameEntries : List ℕ → List ℕ → ℕ → Type 0
SameEntries memory first stub = load_word memory stub 12 ≡ load_word first stub 12

pub entries-kept : (was now next stub : ℕ) (first memory stubs : List ℕ) → SameEntries memory first stub → FitsSegment first stub → AllByRecursion (AreApartStubs first stub) stubs
    → AllByRecursion (SameEntries memory first) stubs → AllByRecursion (SameEntries (with_stub was now next stub memory) first) stubs
entries-kept was now next stub first memory [] same fits apart others = tt
entries-kept was now next stub first memory (other ∷ stubs) same fits apart others = (
  other-word-kept was now next stub first memory other 12 same fits apart.0 (omega arith) ∙ others.0,
  entries-kept was now next stub first memory stubs same fits apart.1 others.1,
)

-- a byte that is none of those written, of any stub
pub stubs-elsewhere : (numbers : List ℕ) (seats : List Seat) (v : ℕ) (old new : List Loaded) (first memory : List ℕ) (x : ℕ)
    → AllByRecursion (SameEntries memory first) (stubs_of new) → AllByRecursion (FitsSegment first) (stubs_of new) → StubsApart first (stubs_of new) → AllByRecursion (λ stub. IsOffWritten first stub x) (stubs_of new)
    → slice_index (with_stubs numbers seats v old new memory) x ≡ slice_index memory x
stubs-elsewhere numbers seats v [] new first memory x same fits apart is_off = refl
stubs-elsewhere numbers seats v (was ∷ old) [] first memory x same fits apart is_off = refl
stubs-elsewhere numbers seats v (was ∷ old) (now ∷ new) first memory x same fits apart is_off =
    let next = next_stub numbers seats v in
    let written : List ℕ = with_stub was.load now.load next now.stub memory in
    let size : stub_size memory now.stub ≡ stub_size first now.stub = ap entry_offset same.0 in
    stubs-elsewhere numbers seats (v + 1) old new first written x (entries-kept was.load now.load next now.stub first memory (stubs_of new) same.0 fits.0 apart.0 same.1) fits.1 apart.1 is_off.1
    ∙ stub-elsewhere was.load now.load next now.stub memory x (omega (arith, size, fits.0)) (λ k above below. is_off.0 k above (omega (arith, size)))
