-- Writing stubs leaves bytes: where the entries of stubs are bytes and segments are words, only bytes are written.
use Rattle.std.proofs.Common.{◌≡◌, ◌⊎◌, inl, inr, ℕ, zero, suc, ◌+◌, ◌*◌, ◌%◌, ◌<◌, ◌≤◌, ◌==◌, Bool, true, false, cond, List, [], ◌∷◌, length, refl, sym, ap, subst, arith, eqb-true, eq-eqb}
use Rattle.std.specs.Prelude.{slice_index, if◌then◌else◌}
use Rattle.std.specs.List.{AllByRecursion}
use Rattle.std.proofs.lemmas.Bool.{cases_lt}
use Rattle.std.proofs.lemmas.List.{get_or-set_same, get_or-set_other, set_past}
use Rattle.cpu_8086.specs.Memory.{address, next_offset, load_byte, load_word, store_byte, store_word, low_byte, high_byte}
use Rattle.overlay_file.specs.Stubs.{entry_offset}
use Rattle.overlay_ring.specs.declared.seat.Seat.{Seat}
use Rattle.return_repair.specs.declared.table.Loaded.{Loaded}
use Rattle.overlay_manager.specs.Kept.{stubs_of}
use Rattle.overlay_manager.specs.Manager.{next_stub, with_stubs}
use Rattle.overlay_manager.specs.Orderly.{stub_size, StubsApart, FitsSegment}
use Rattle.overlay_manager.specs.Stubbing.{routine_at, with_trap, with_jump, with_entry, with_entries, with_stub}
use Rattle.overlay_manager.proofs.CarriedLaws.{each-then}
use Rattle.overlay_manager.proofs.StubLaws.{SameEntries, entries-kept}

-- the byte at an address is one
abbrev pub IsSmall : List ℕ → ℕ → Type 0
IsSmall memory at = slice_index memory at < 256

-- ## Bytes and words

byte_small : (memory : List ℕ) (segment offset v at : ℕ) → v < 256 → IsSmall memory at → IsSmall (store_byte memory segment offset v) at
unfolding store_byte
byte_small memory segment offset v at small before = by (at == there) refl
  where
    there : ℕ
    there = address segment offset

    inside : at ≡ there → (there < length memory) ⊎ (length memory ≤ there) → IsSmall (store_byte memory segment offset v) at
    inside same (inl lt) =
        subst (λ (k : ℕ). IsSmall (store_byte memory segment offset v) k) (sym same) (subst (λ (x : ℕ). x < 256) (sym (get_or-set_same memory there v 0 lt)) small)
    inside same (inr past) = subst (λ (xs : List ℕ). IsSmall xs at) (sym (set_past memory there v past)) before

    by : (is : Bool) → (at == there) ≡ is → IsSmall (store_byte memory segment offset v) at
    by true is = inside (eqb-true at there is) (cases_lt there (length memory))
    by false is = subst (λ (x : ℕ). x < 256) (sym (get_or-set_other memory there at v 0 (λ same. (let e = sym (eq-eqb at there same) in absurd (cc))))) before

word_small : (memory : List ℕ) (segment offset v at : ℕ) → v < 65536 → IsSmall memory at → IsSmall (store_word memory segment offset v) at
unfolding store_word
word_small memory segment offset v at small before =
    let low : low_byte v < 256 = omega arith in
    let high : high_byte v < 256 = omega arith in
    byte_small (store_byte memory segment offset (low_byte v)) segment (next_offset offset) (high_byte v) at high (byte_small memory segment offset (low_byte v) at low before)

read_small : (memory : List ℕ) (segment offset : ℕ) → IsSmall memory (address segment offset) → IsSmall memory (address segment (next_offset offset)) → load_word memory segment offset < 65536
unfolding load_word load_byte
read_small memory segment offset low high = omega arith

-- ## Entries

-- bytes of a segment from one offset on and below another are such
abbrev AreSmall : List ℕ → ℕ → ℕ → ℕ → Type 0
AreSmall memory stub low high = (k : ℕ) → low ≤ k → k < high → IsSmall memory (address stub k)

at_offset_small : (memory : List ℕ) (stub low high offset k : ℕ) → AreSmall memory stub low high → offset ≡ k → low ≤ k → k < high → IsSmall memory (address stub offset)
at_offset_small memory stub low high offset k all same above below = subst (λ (n : ℕ). IsSmall memory (address stub n)) (sym same) (all k above below)

routine_small : (memory : List ℕ) (stub was at : ℕ) → at + 5 ≤ 65536 → AreSmall memory stub at (at + 5) → routine_at memory stub was at < 65536
routine_small memory stub was at fits all = by (was == 0)
  where
    word : (k : ℕ) → k < 4 → load_word memory stub ((at + k) % 65536) < 65536
    word k lt = read_small memory stub ((at + k) % 65536) (at_offset_small memory stub at (at + 5) _ (at + k) all (omega arith) (omega arith) (omega arith)) (at_offset_small memory stub at (at + 5) _ (at + k + 1) all (omega arith) (omega arith) (omega arith))

    by : (out : Bool) → load_word memory stub ((at + (if out then 2 else 1)) % 65536) < 65536
    by true = word 2 (omega arith)
    by false = word 1 (omega arith)

entry_small : (was now stub : ℕ) (memory : List ℕ) (at x : ℕ) → at + 5 ≤ 65536 → now < 65536 → AreSmall memory stub at (at + 5) → IsSmall memory x → IsSmall (with_entry was now stub memory at) x
unfolding with_entry
entry_small was now stub memory at x fits word all before = by (now == 0)
  where
    routine : ℕ
    routine = routine_at memory stub was at

    small : routine < 65536
    small = routine_small memory stub was at fits all

    trap : List ℕ
    trap = store_word memory stub at 0x3FCD

    jump : List ℕ
    jump = store_byte memory stub at 0xEA

    by : (out : Bool) → IsSmall (cond out (with_trap memory stub at routine) (with_jump memory stub at routine now)) x
    by true = byte_small (store_word trap stub ((at + 2) % 65536) routine) stub ((at + 4) % 65536) 0 x (omega arith) (word_small trap stub ((at + 2) % 65536) routine x small (word_small memory stub at 0x3FCD x (omega arith) before))
    by false = word_small (store_word jump stub ((at + 1) % 65536) routine) stub ((at + 3) % 65536) now x word (word_small jump stub ((at + 1) % 65536) routine x small (byte_small memory stub at 0xEA x (omega arith) before))

entries_small : (was now stub : ℕ) (memory : List ℕ) (at entries x : ℕ) → at + 5 * entries ≤ 65536 → now < 65536 → AreSmall memory stub at (at + 5 * entries) → IsSmall memory x → IsSmall (with_entries was now stub memory at entries) x
entries_small was now stub memory at zero x fits word all before = before
entries_small was now stub memory at (suc zero) x fits word all before = entry_small was now stub memory at x (omega arith) word (λ k above below. all k above (omega arith)) before
entries_small was now stub memory at (suc (suc entries)) x fits word all before =
    let next : (at + 5) % 65536 ≡ at + 5 = omega arith in
    let written : List ℕ = with_entry was now stub memory at in
    let one : (y : ℕ) → IsSmall memory y → IsSmall written y = λ y small. entry_small was now stub memory at y (omega arith) word (λ k above below. all k above (omega arith)) small in
    subst (λ (n : ℕ). IsSmall (with_entries was now stub written n (suc entries)) x) (sym next)
    (entries_small was now stub written (at + 5) (suc entries) x (omega arith) word (λ k above below. one (address stub k) (all k (omega arith) (omega arith))) (one x before))

-- ## Stubs

-- the entries of a stub, as many as it had at first
abbrev pub HasSmallEntries : List ℕ → List ℕ → ℕ → Type 0
HasSmallEntries first memory stub = AreSmall memory stub 32 (stub_size first stub)

stub_small : (was now next stub : ℕ) (first memory : List ℕ) (x : ℕ) → SameEntries memory first stub → FitsSegment first stub → now < 65536 → next < 65536 → HasSmallEntries first memory stub → IsSmall memory x → IsSmall (with_stub was now next stub memory) x
unfolding with_stub
stub_small was now next stub first memory x same fits word linked all before =
    let entries = load_word memory stub 12 in
    let size : stub_size memory stub ≡ stub_size first stub = ap entry_offset same in
    let written : List ℕ = with_entries was now stub memory 32 entries in
    word_small (store_word written stub 14 now) stub 16 next x linked
    (word_small written stub 14 now x word (entries_small was now stub memory 32 entries x (omega (arith, size, fits)) word (λ k above below. all k above (omega (arith, size))) before))

-- the load segments of a table are words
abbrev pub AreWords : List Loaded → Type 0
AreWords table = AllByRecursion (λ (l : Loaded). l.load < 65536) table

pub stubs_small : (numbers : List ℕ) (seats : List Seat) (v : ℕ) (old new : List Loaded) (first memory : List ℕ) (x : ℕ)
    → AllByRecursion (SameEntries memory first) (stubs_of new) → AllByRecursion (FitsSegment first) (stubs_of new) → StubsApart first (stubs_of new) → AreWords new → ((w : ℕ) → next_stub numbers seats w < 65536)
    → AllByRecursion (HasSmallEntries first memory) (stubs_of new) → IsSmall memory x → IsSmall (with_stubs numbers seats v old new memory) x
stubs_small numbers seats v [] new first memory x same fits apart words linked all before = before
stubs_small numbers seats v (was ∷ old) [] first memory x same fits apart words linked all before = before
stubs_small numbers seats v (was ∷ old) (now ∷ new) first memory x same fits apart words linked all before =
    let next = next_stub numbers seats v in
    let written : List ℕ = with_stub was.load now.load next now.stub memory in
    let one : (y : ℕ) → IsSmall memory y → IsSmall written y = λ y small. stub_small was.load now.load next now.stub first memory y same.0 fits.0 words.0 (linked v) all.0 small in
    stubs_small numbers seats (v + 1) old new first written x (entries-kept was.load now.load next now.stub first memory (stubs_of new) same.0 fits.0 apart.0 same.1) fits.1 apart.1 words.1 linked
    (each-then (HasSmallEntries first memory) (HasSmallEntries first written) (stubs_of new) (λ stub small k above below. one (address stub k) (small k above below)) all.1) (one x before)
