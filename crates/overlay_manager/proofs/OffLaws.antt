-- Loading writes only where the code comes to stand.
use Rattle.std.proofs.Common.{◌≡◌, ◌≢◌, ℕ, suc, ◌+◌, ◌%◌, ◌<◌, ◌≤◌, Bool, true, false, cond, List, [], ◌∷◌, length, drop, length-take, refl, ap, ◌∙◌, arith}
use Rattle.std.specs.Prelude.{nat_le, slice_index}
use Rattle.std.proofs.lemmas.Bool.Decides.{nat_tests}
use Rattle.cpu_8086.specs.Memory.{address, next_offset, load_word, store_byte, store_word}
use Rattle.cpu_8086.specs.Process.{with_bytes}
use Rattle.mz_file.specs.Load.{loaded_segment}
use Rattle.mz_file.specs.Words.{words_at}
use Rattle.overlay_file.specs.declared.overlay.OvrEntry.{OvrEntry}
use Rattle.return_repair.specs.declared.table.Loaded.{Loaded}
use Rattle.overlay_manager.specs.Code.{part_of, fixups_at, with_fixup, with_fixups, with_code}
use Rattle.overlay_manager.specs.Loading.{is_moved, with_load, with_loads, IsOffCode, IsOffLoads}
use Rattle.overlay_manager.proofs.StubLaws.{byte-elsewhere, word-elsewhere}

-- bytes put from an offset on, which wraps
bytes-off : (memory : List ℕ) (segment offset : ℕ) (xs : List ℕ) (at : ℕ) → offset < 65536 → ((k : ℕ) → k < length xs → at ≢ address segment ((offset + k) % 65536))
    → slice_index (with_bytes memory segment offset xs) at ≡ slice_index memory at
bytes-off memory segment offset [] at small off_it = refl
bytes-off memory segment offset (x ∷ xs) at small off_it =
    let here : offset ≡ (offset + 0) % 65536 = omega arith in
    bytes-off (store_byte memory segment offset x) segment (next_offset offset) xs at (omega arith)
    (λ k below same. let there : (next_offset offset + k) % 65536 ≡ (offset + suc k) % 65536 = omega arith in off_it (suc k) (omega arith) (same ∙ ap (address segment) there))
    ∙ byte-elsewhere memory segment offset x at (λ same. off_it 0 (omega arith) (same ∙ ap (address segment) here))

fixup-off : (size segment : ℕ) (memory : List ℕ) (fixup at : ℕ) → IsOffCode segment size at → slice_index (with_fixup size segment memory fixup) at ≡ slice_index memory at
fixup-off size segment memory fixup at off_it = by (nat_le (fixup + 2) size) refl
  where
    by : (fits : Bool) → nat_le (fixup + 2) size ≡ fits → slice_index (cond fits (store_word memory segment fixup (loaded_segment (load_word memory segment fixup))) memory) at ≡ slice_index memory at
    by true fits =
        let is : fixup + 2 ≤ size = grind (arith, nat_tests) in
        word-elsewhere memory segment fixup (loaded_segment (load_word memory segment fixup)) at (off_it fixup (omega arith)) (off_it (next_offset fixup) (omega arith))
    by false fits = refl

fixups-off : (size segment : ℕ) (memory fixups : List ℕ) (at : ℕ) → IsOffCode segment size at → slice_index (with_fixups size segment memory fixups) at ≡ slice_index memory at
fixups-off size segment memory [] at off_it = refl
fixups-off size segment memory (fixup ∷ fixups) at off_it =
    fixups-off size segment (with_fixup size segment memory fixup) fixups at off_it ∙ fixup-off size segment memory fixup at off_it

code-off : (memory : List ℕ) (segment : ℕ) (entry : OvrEntry) (bytes : List ℕ) (at : ℕ) → IsOffCode segment entry.size at → slice_index (with_code memory segment entry bytes) at ≡ slice_index memory at
code-off memory segment entry bytes at off_it =
    let part = part_of bytes entry.place entry.size in
    let short : length part ≤ entry.size = omega (arith, length-take entry.size (drop entry.place bytes)) in
    fixups-off entry.size segment (with_bytes memory segment 0 part) (words_at bytes (fixups_at entry) entry.fixups) at off_it
    ∙ bytes-off memory segment 0 part at (omega arith) (λ k below. off_it ((0 + k) % 65536) (omega (arith, short)))

load-off : (bytes : List ℕ) (entry : OvrEntry) (was now : Loaded) (memory : List ℕ) (at : ℕ) → (is_moved was now ≡ true → IsOffCode now.load entry.size at) → slice_index (with_load bytes entry was now memory) at ≡ slice_index memory at
load-off bytes entry was now memory at off_it = by (is_moved was now) refl
  where
    by : (moved : Bool) → is_moved was now ≡ moved → slice_index (cond moved (with_code memory now.load entry bytes) memory) at ≡ slice_index memory at
    by true moved = code-off memory now.load entry bytes at (off_it moved)
    by false moved = refl

-- An address at which no code comes to stand keeps its byte.
pub loads-off : (bytes : List ℕ) (entries : List OvrEntry) (old new : List Loaded) (memory : List ℕ) (at : ℕ) → IsOffLoads entries old new at → slice_index (with_loads bytes entries old new memory) at ≡ slice_index memory at
loads-off bytes [] old new memory at off_it = refl
loads-off bytes (entry ∷ entries) [] new memory at off_it = refl
loads-off bytes (entry ∷ entries) (was ∷ old) [] memory at off_it = refl
loads-off bytes (entry ∷ entries) (was ∷ old) (now ∷ new) memory at off_it =
    loads-off bytes entries old new (with_load bytes entry was now memory) at (λ v other found moved. off_it (suc v) other found moved)
    ∙ load-off bytes entry was now memory at (λ moved. off_it 0 entry refl moved)
