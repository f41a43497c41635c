-- A stub stands where its bytes stand.
use Rattle.std.proofs.Common.{◌≡◌, ℕ, zero, suc, ◌+◌, ◌<◌, ◌≤◌, List, [], ◌∷◌, length, refl, sym, ap, ◌∙◌, subst, arith}
use Rattle.std.specs.Prelude.{slice_index}
use Rattle.cpu_8086.specs.Memory.{address, next_offset, word_of, load_byte, load_word}
use Rattle.overlay_file.specs.Stubs.{entry_offset}
use Rattle.overlay_manager.proofs.EntryLaws.{byte-is, routine-same}
use Rattle.overlay_manager.proofs.ReadLaws.{stub-agrees}
use Rattle.resident_machine.specs.Cells.{Kept, Cells}
use Rattle.resident_machine.specs.Program.{OverlayCode}
use Rattle.resident_machine.specs.Standing.{HoldsCode}
use Rattle.overlay_simulation.specs.Matching.{size_of, StubStands}

-- so many bytes of a segment, from an offset on
abbrev pub bytes_from : List ℕ → ℕ → ℕ → ℕ → List ℕ
bytes_from memory segment offset zero = []
bytes_from memory segment offset (suc n) = load_byte memory segment offset ∷ bytes_from memory segment (offset + 1) n

pub length-bytes_from : (memory : List ℕ) (segment offset n : ℕ) → length (bytes_from memory segment offset n) ≡ n
length-bytes_from memory segment offset zero = refl
length-bytes_from memory segment offset (suc n) = ap suc (length-bytes_from memory segment (offset + 1) n)

pub bytes_from-at : (memory : List ℕ) (segment offset n k : ℕ) → k < n → slice_index (bytes_from memory segment offset n) k ≡ load_byte memory segment (offset + k)
bytes_from-at memory segment offset zero k lt = absurd (omega arith)
bytes_from-at memory segment offset (suc n) zero lt = let e : offset ≡ offset + 0 = omega arith in ap (load_byte memory segment) e
bytes_from-at memory segment offset (suc n) (suc k) lt =
    let e : offset + 1 + k ≡ offset + suc k = omega arith in
    bytes_from-at memory segment (offset + 1) n k (omega arith) ∙ ap (load_byte memory segment) e

-- what is kept stands as code does
pub stands_kept : (cells : Cells) (memory : List ℕ) (segment n : ℕ) → n ≤ 65536 → ((k : ℕ) → k < n → cells (address segment k) ≡ Kept) → HoldsCode cells memory segment (bytes_from memory segment 0 n)
stands_kept cells memory segment n room kept =
    let size = length-bytes_from memory segment 0 n in
    record {
      size = omega arith;
      bytes = λ offset lt. (let below : offset < n = omega arith in let e : 0 + offset ≡ offset = omega arith in record {
        value = sym (bytes_from-at memory segment 0 n offset below ∙ ap (load_byte memory segment) e);
        kept = kept offset below;
      });
    }

-- ## The same bytes

-- so many bytes of a segment are the same
abbrev pub SameBytes : List ℕ → List ℕ → ℕ → ℕ → Type 0
SameBytes memory after segment n = (k : ℕ) → k < n → load_byte after segment k ≡ load_byte memory segment k

pub same_bytes : (cells : Cells) (memory after : List ℕ) (segment n : ℕ) → HoldsCode cells after segment (bytes_from memory segment 0 n) → SameBytes memory after segment n
same_bytes cells memory after segment n held k lt =
    let size = length-bytes_from memory segment 0 n in
    let e : 0 + k ≡ k = omega arith in
    (held.bytes k (omega arith)).value ∙ bytes_from-at memory segment 0 n k lt ∙ ap (load_byte memory segment) e

pub still_kept : (cells : Cells) (memory after : List ℕ) (segment n : ℕ) → HoldsCode cells after segment (bytes_from memory segment 0 n) → (k : ℕ) → k < n → cells (address segment k) ≡ Kept
still_kept cells memory after segment n held k lt =
    let size = length-bytes_from memory segment 0 n in (held.bytes k (omega arith)).kept

pub same_word : (memory after : List ℕ) (segment n k : ℕ) → SameBytes memory after segment n → k + 2 ≤ n → n ≤ 65536 → load_word after segment k ≡ load_word memory segment k
unfolding load_word
same_word memory after segment n k same fits room =
    let next : next_offset k ≡ k + 1 = omega arith in
    let high : load_byte after segment (next_offset k) ≡ load_byte memory segment (next_offset k) = ap (load_byte after segment) next ∙ same (k + 1) (omega arith) ∙ ap (load_byte memory segment) (sym next) in
    ap (λ (low : ℕ). word_of low (load_byte after segment (next_offset k))) (same k (omega arith)) ∙ ap (λ (high : ℕ). word_of (load_byte memory segment k) high) high

-- so the bytes at its addresses are
byte_same : (memory after : List ℕ) (segment n k : ℕ) → SameBytes memory after segment n → k < n → slice_index after (address segment k) ≡ slice_index memory (address segment k)
byte_same memory after segment n k same lt = sym (byte-is after segment k) ∙ same k lt ∙ byte-is memory segment k

pub stub_room : (cells : Cells) (memory : List ℕ) (o : OverlayCode) (load next : ℕ) → StubStands cells memory o load next → size_of o ≤ 65536
stub_room cells memory o load next h = subst (λ (entries : ℕ). entry_offset entries ≤ 65536) h.count h.is_stub.room

-- a stub stands as long as its bytes do
pub stub_stands : (cells later : Cells) (memory after : List ℕ) (o : OverlayCode) (load next : ℕ) → StubStands cells memory o load next → HoldsCode later after o.stub (bytes_from memory o.stub 0 (size_of o)) → StubStands later after o load next
stub_stands cells later memory after o load next h held =
    let n : ℕ = size_of o in
    let room = stub_room cells memory o load next h in
    let same = same_bytes later memory after o.stub n held in
    let size : n ≡ entry_offset (load_word memory o.stub 12) = ap entry_offset (sym h.count) in
    record {
      kept = still_kept later memory after o.stub n held;
      small = λ k lt two three. subst (λ (byte : ℕ). byte < 256) (sym (same k lt)) (h.small k lt two three);
      is_stub = stub-agrees o.stub after memory (λ k lt two three. byte_same memory after o.stub n k same (subst (λ (z : ℕ). k < z) (sym size) lt)) h.is_stub.room h.is_stub;
      count = same_word memory after o.stub n 12 same (omega arith) room ∙ h.count;
      loaded = same_word memory after o.stub n 14 same (omega arith) room ∙ h.loaded;
      linked = same_word memory after o.stub n 16 same (omega arith) room ∙ h.linked;
      routines = λ e lt. routine-same after memory o.stub load (entry_offset e) (omega arith) (λ j small. byte_same memory after o.stub n (entry_offset e + j) same (omega arith)) ∙ h.routines e lt;
    }
