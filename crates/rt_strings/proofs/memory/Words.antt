-- Words and bytes that a pointer leads to, as straight code reads them.
use Rattle.std.proofs.Common.{◌≡◌, ℕ, ◌+◌, ◌<◌, List, [], ◌∷◌, length, Ok, subst, ap, ◌∙◌, arith}
use Rattle.common_values.specs.integers.Words.{low_byte, high_byte, word_from_bytes}
use Rattle.flat_code.specs.declared.memory.Place.{Place}
use Rattle.flat_code.specs.declared.memory.Cell.TheVariants.{Known}
use Rattle.flat_code.specs.Memory.{Cells, Found, ◌>>=◌, address_of, place_after, word_bytes}
use Rattle.flat_code.specs.Program.{Choice}
use Rattle.runtime_proofs.specs.routine_proofs.Straight.{byte_seen, word_seen}
use Rattle.runtime_proofs.specs.routine_proofs.Entry.{memory_without}
use Rattle.runtime_proofs.specs.strings_in_memory.Strings.{HasBytes, IsOffStack, place}
use Rattle.runtime_proofs.proofs.strings_in_memory.Cells.{byte-read, bytes-kept}
use Rattle.runtime_proofs.proofs.string_loops.Entry.{kept}

-- so many bytes further
pub plus-some : (segment o n i : ℕ) → address_of (place_after (place segment o) n) i ≡ address_of (place segment o) (n + i)
plus-some segment o n i = omega arith

pub bytes-plus : (m : Cells) (segment o n i : ℕ) (bytes : List ℕ) → HasBytes m (place segment o) (n + i) bytes → HasBytes m (place_after (place segment o) n) i bytes
bytes-plus m segment o n i [] has = tt
bytes-plus m segment o n i (b ∷ bytes) has =
    let e : n + i + 1 ≡ n + (i + 1) = omega arith in
    (ap m (plus-some segment o n i) ∙ has.0, has.1, bytes-plus m segment o n (i + 1) bytes (subst (λ j. HasBytes m (place segment o) j bytes) e has.2))

-- what a routine sees of bytes outside of the stack below SP
pub bytes-inside : (choice : Choice) (sp : ℕ) (c : Cells) (p : Place) (bytes : List ℕ) → IsOffStack choice sp p (length bytes) → HasBytes c p 0 bytes → HasBytes (memory_without choice sp c) p 0 bytes
bytes-inside choice sp c p bytes off has = bytes-kept c (memory_without choice sp c) p 0 bytes (λ k h. kept choice sp c (address_of p (0 + k)) (off (0 + k) (omega (arith, h)))) has

-- two bytes are a word
pub pair-read : (m : Cells) (p : Place) (low high : ℕ) → m (address_of p 0) ≡ Known low → low < 256 → m (address_of p 1) ≡ Known high → high < 256 → word_seen m p ≡ Ok (word_from_bytes low high)
pair-read m p low high l a h b =
    ap (λ (x : Found ℕ). x >>= λ low. byte_seen m p 1 >>= λ high. Ok (word_from_bytes low high)) (byte-read m p 0 low l a)
    ∙ ap (λ (x : Found ℕ). x >>= λ high. Ok (word_from_bytes low high)) (byte-read m p 1 high h b)

pub word-read : (m : Cells) (p : Place) (value : ℕ) → value < 65536 → HasBytes m p 0 (word_bytes value) → word_seen m p ≡ Ok value
word-read m p value small has =
    let whole : word_from_bytes (low_byte value) (high_byte value) ≡ value = omega (arith, small) in
    pair-read m p (low_byte value) (high_byte value) has.0 has.1 has.2.0 has.2.1 ∙ ap (λ n. let r : Found ℕ = Ok n in r) whole
