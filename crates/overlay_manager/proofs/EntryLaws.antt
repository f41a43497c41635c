-- Entries as they are written: an entry traps or jumps, and leads to the routine that it led to.
use Rattle.std.proofs.Common.{◌≡◌, ◌≢◌, ℕ, zero, suc, ◌+◌, ◌*◌, ◌%◌, ◌<◌, ◌≤◌, Bool, true, false, cond, List, length, refl, sym, ap, subst, ◌∙◌, arith}
use Rattle.std.specs.Prelude.{slice_index, MatchBool, ◌==◌}
use Rattle.cpu_8086.specs.Memory.{address, next_offset, load_byte, load_word, store_byte, store_word}
use Rattle.cpu_8086.proofs.MemoryLaws.{length-store_byte, length-store_word, load_byte-store_byte_same, load_byte-store_byte_other, load_byte-store_word_other, load_word-store_word_same, load_word-store_word_other}
use Rattle.overlay_file.specs.Stubs.{IsTrap, IsJump, IsEntry}
use Rattle.overlay_manager.specs.Stubbing.{routine_at, with_trap, with_jump, with_entry, with_entries}
use Rattle.overlay_manager.proofs.StubLaws.{word-same, entry-elsewhere, entries-elsewhere}

pub byte-is : (memory : List ℕ) (segment offset : ℕ) → load_byte memory segment offset ≡ slice_index memory (address segment offset)
unfolding load_byte
byte-is memory segment offset = refl

-- a word, where a byte was stored elsewhere in the segment
word-off : (memory : List ℕ) (stub offset v at : ℕ) → address stub at ≢ address stub offset → address stub (next_offset at) ≢ address stub offset → load_word (store_byte memory stub offset v) stub at ≡ load_word memory stub at
word-off memory stub offset v at low high =
    word-same (store_byte memory stub offset v) memory stub at
    (sym (byte-is (store_byte memory stub offset v) stub at) ∙ load_byte-store_byte_other memory stub offset stub at v low ∙ byte-is memory stub at)
    (sym (byte-is (store_byte memory stub offset v) stub (next_offset at)) ∙ load_byte-store_byte_other memory stub offset stub (next_offset at) v high ∙ byte-is memory stub (next_offset at))

-- a trap that was written
trap-written : (memory : List ℕ) (stub at routine : ℕ) → length memory ≡ 1048576 → at + 5 ≤ 65536
    → IsTrap (with_trap memory stub at routine) stub at × (load_word (with_trap memory stub at routine) stub ((at + 2) % 65536) ≡ routine)
trap-written memory stub at routine size fits =
    let two : (at + 2) % 65536 ≡ at + 2 = omega arith in
    let four : (at + 4) % 65536 ≡ at + 4 = omega arith in
    let first : List ℕ = store_word memory stub at 0x3FCD in
    let second : List ℕ = store_word first stub ((at + 2) % 65536) routine in
    let sized_first : length first ≡ 1048576 = length-store_word memory stub at 0x3FCD ∙ size in
    let sized : length second ≡ 1048576 = length-store_word first stub ((at + 2) % 65536) routine ∙ sized_first in
    let filled : load_byte (store_byte second stub ((at + 4) % 65536) 0) stub (at + 4) ≡ 0 = ap (load_byte (store_byte second stub ((at + 4) % 65536) 0) stub) (sym four) ∙ load_byte-store_byte_same second stub ((at + 4) % 65536) 0 sized in
    let interrupt : load_word (store_byte second stub ((at + 4) % 65536) 0) stub at ≡ 0x3FCD =
    word-off second stub ((at + 4) % 65536) 0 at (λ same. omega (arith, four)) (λ same. omega (arith, four))
    ∙ load_word-store_word_other first stub ((at + 2) % 65536) stub at routine
    (record { low_low = λ same. omega (arith, two); low_high = λ same. omega (arith, two); high_low = λ same. omega (arith, two); high_high = λ same. omega (arith, two) })
    ∙ load_word-store_word_same memory stub at 0x3FCD size (omega arith) in
    let leads : load_word (store_byte second stub ((at + 4) % 65536) 0) stub ((at + 2) % 65536) ≡ routine =
    word-off second stub ((at + 4) % 65536) 0 ((at + 2) % 65536) (λ same. omega (arith, four, two)) (λ same. omega (arith, four, two))
    ∙ load_word-store_word_same first stub ((at + 2) % 65536) routine sized_first (omega arith) in
    (record { interrupt = interrupt; filled = filled }, leads)

-- a jump that was written
jump-written : (memory : List ℕ) (stub at routine load : ℕ) → length memory ≡ 1048576 → at + 5 ≤ 65536
    → IsJump (with_jump memory stub at routine load) stub load at × (load_word (with_jump memory stub at routine load) stub ((at + 1) % 65536) ≡ routine)
jump-written memory stub at routine load size fits =
    let one : (at + 1) % 65536 ≡ at + 1 = omega arith in
    let three : (at + 3) % 65536 ≡ at + 3 = omega arith in
    let first : List ℕ = store_byte memory stub at 0xEA in
    let second : List ℕ = store_word first stub ((at + 1) % 65536) routine in
    let sized_first : length first ≡ 1048576 = length-store_byte memory stub at 0xEA ∙ size in
    let sized : length second ≡ 1048576 = length-store_word first stub ((at + 1) % 65536) routine ∙ sized_first in
    let jump : load_byte (store_word second stub ((at + 3) % 65536) load) stub at ≡ 0xEA =
    load_byte-store_word_other second stub ((at + 3) % 65536) stub at load (λ same. omega (arith, three)) (λ same. omega (arith, three))
    ∙ load_byte-store_word_other first stub ((at + 1) % 65536) stub at routine (λ same. omega (arith, one)) (λ same. omega (arith, one))
    ∙ load_byte-store_byte_same memory stub at 0xEA size in
    let target : load_word (store_word second stub ((at + 3) % 65536) load) stub (at + 3) ≡ load =
    ap (load_word (store_word second stub ((at + 3) % 65536) load) stub) (sym three) ∙ load_word-store_word_same second stub ((at + 3) % 65536) load sized (omega arith) in
    let leads : load_word (store_word second stub ((at + 3) % 65536) load) stub ((at + 1) % 65536) ≡ routine =
    load_word-store_word_other second stub ((at + 3) % 65536) stub ((at + 1) % 65536) load
    (record { low_low = λ same. omega (arith, one, three); low_high = λ same. omega (arith, one, three); high_low = λ same. omega (arith, one, three); high_high = λ same. omega (arith, one, three) })
    ∙ load_word-store_word_same first stub ((at + 1) % 65536) routine sized_first (omega arith) in
    (record { jump = jump; target = target }, leads)

-- An entry stands as its overlay does, and leads to this routine.
pub record IsWritten (memory : List ℕ) (stub load at routine : ℕ) : Type 0 where
  pub entry : IsEntry memory stub load at
  pub leads : routine_at memory stub load at ≡ routine

entry-written : (was now stub : ℕ) (memory : List ℕ) (at : ℕ) → length memory ≡ 1048576 → at + 5 ≤ 65536 → IsWritten (with_entry was now stub memory at) stub now at (routine_at memory stub was at)
unfolding with_entry
entry-written was now stub memory at size fits = by (now == 0) refl
  where
    routine : ℕ
    routine = routine_at memory stub was at

    by : (out : Bool) → (now == 0) ≡ out → IsWritten (cond out (with_trap memory stub at routine) (with_jump memory stub at routine now)) stub now at routine
    by true out =
        let written = trap-written memory stub at routine size fits in
        let after : List ℕ = with_trap memory stub at routine in
        record {
          entry = subst (λ (test : Bool). MatchBool test (IsTrap after stub at) (IsJump after stub now at)) (sym out) written.0;
          leads = ap (λ (test : Bool). load_word after stub ((at + (cond test 2 1)) % 65536)) out ∙ written.1;
        }
    by false out =
        let written = jump-written memory stub at routine now size fits in
        let after : List ℕ = with_jump memory stub at routine now in
        record {
          entry = subst (λ (test : Bool). MatchBool test (IsTrap after stub at) (IsJump after stub now at)) (sym out) written.0;
          leads = ap (λ (test : Bool). load_word after stub ((at + (cond test 2 1)) % 65536)) out ∙ written.1;
        }

length-entry : (was now stub : ℕ) (memory : List ℕ) (at : ℕ) → length (with_entry was now stub memory at) ≡ length memory
unfolding with_entry
length-entry was now stub memory at = by (now == 0)
  where
    routine : ℕ
    routine = routine_at memory stub was at

    by : (out : Bool) → length (cond out (with_trap memory stub at routine) (with_jump memory stub at routine now)) ≡ length memory
    by true =
        length-store_byte (store_word (store_word memory stub at 0x3FCD) stub ((at + 2) % 65536) routine) stub ((at + 4) % 65536) 0
        ∙ length-store_word (store_word memory stub at 0x3FCD) stub ((at + 2) % 65536) routine ∙ length-store_word memory stub at 0x3FCD
    by false =
        length-store_word (store_word (store_byte memory stub at 0xEA) stub ((at + 1) % 65536) routine) stub ((at + 3) % 65536) now
        ∙ length-store_word (store_byte memory stub at 0xEA) stub ((at + 1) % 65536) routine ∙ length-store_byte memory stub at 0xEA

pub length-entries : (was now stub : ℕ) (memory : List ℕ) (at entries : ℕ) → length (with_entries was now stub memory at entries) ≡ length memory
length-entries was now stub memory at zero = refl
length-entries was now stub memory at (suc entries) = length-entries was now stub (with_entry was now stub memory at) ((at + 5) % 65536) entries ∙ length-entry was now stub memory at

-- the bytes of an entry are the same in both
abbrev pub SameEntry : List ℕ → List ℕ → ℕ → ℕ → Type 0
SameEntry memory other stub at = (j : ℕ) → j < 5 → slice_index memory (address stub (at + j)) ≡ slice_index other (address stub (at + j))

word-in : (memory other : List ℕ) (stub at d offset : ℕ) → at + 5 ≤ 65536 → d < 4 → offset ≡ at + d → SameEntry memory other stub at → load_word memory stub offset ≡ load_word other stub offset
word-in memory other stub at d offset fits small is same =
    let low : slice_index memory (address stub offset) ≡ slice_index other (address stub offset) = subst (λ (at : ℕ). slice_index memory (address stub at) ≡ slice_index other (address stub at)) (sym is) (same d (omega arith)) in
    let next : next_offset offset ≡ at + (d + 1) = omega (arith, is) in
    let high : slice_index memory (address stub (next_offset offset)) ≡ slice_index other (address stub (next_offset offset)) = subst (λ (at : ℕ). slice_index memory (address stub at) ≡ slice_index other (address stub at)) (sym next) (same (d + 1) (omega arith)) in
    word-same memory other stub offset low high

byte-in : (memory other : List ℕ) (stub at d offset : ℕ) → d < 5 → offset ≡ at + d → SameEntry memory other stub at → load_byte memory stub offset ≡ load_byte other stub offset
byte-in memory other stub at d offset small is same =
    byte-is memory stub offset
    ∙ subst (λ (at : ℕ). slice_index memory (address stub at) ≡ slice_index other (address stub at)) (sym is) (same d small)
    ∙ sym (byte-is other stub offset)

pub routine-same : (memory other : List ℕ) (stub load at : ℕ) → at + 5 ≤ 65536 → SameEntry memory other stub at → routine_at memory stub load at ≡ routine_at other stub load at
routine-same memory other stub load at fits same = by (load == 0)
  where
    by : (out : Bool) → load_word memory stub ((at + (cond out 2 1)) % 65536) ≡ load_word other stub ((at + (cond out 2 1)) % 65536)
    by true = word-in memory other stub at 2 ((at + 2) % 65536) fits (omega arith) (omega arith) same
    by false = word-in memory other stub at 1 ((at + 1) % 65536) fits (omega arith) (omega arith) same

pub entry-same : (memory other : List ℕ) (stub load at : ℕ) → at + 5 ≤ 65536 → SameEntry memory other stub at → IsEntry other stub load at → IsEntry memory stub load at
entry-same memory other stub load at fits same entry = by (load == 0) entry
  where
    by : (out : Bool) → MatchBool out (IsTrap other stub at) (IsJump other stub load at) → MatchBool out (IsTrap memory stub at) (IsJump memory stub load at)
    by true entry =
        let here : at ≡ at + 0 = omega arith in
        record { interrupt = word-in memory other stub at 0 at fits (omega arith) here same ∙ entry.interrupt; filled = byte-in memory other stub at 4 (at + 4) (omega arith) refl same ∙ entry.filled }
    by false entry =
        let here : at ≡ at + 0 = omega arith in
        record { jump = byte-in memory other stub at 0 at (omega arith) here same ∙ entry.jump; target = word-in memory other stub at 3 (at + 3) fits (omega arith) refl same ∙ entry.target }

pub written-kept : (memory other : List ℕ) (stub load at routine : ℕ) → at + 5 ≤ 65536 → SameEntry memory other stub at → IsWritten other stub load at routine → IsWritten memory stub load at routine
written-kept memory other stub load at routine fits same written = record {
  entry = entry-same memory other stub load at fits same written.entry;
  leads = routine-same memory other stub load at fits same ∙ written.leads;
}

-- each of so many entries
pub entries-written : (was now stub : ℕ) (memory : List ℕ) (at entries e : ℕ) → length memory ≡ 1048576 → at + 5 * entries ≤ 65536 → e < entries
    → IsWritten (with_entries was now stub memory at entries) stub now (at + 5 * e) (routine_at memory stub was (at + 5 * e))
entries-written was now stub memory at zero e size fits below = absurd (omega arith)
entries-written was now stub memory at (suc zero) e size fits below =
    let here : at + 5 * e ≡ at = omega arith in
    subst (λ (place : ℕ). IsWritten (with_entry was now stub memory at) stub now place (routine_at memory stub was place)) (sym here) (entry-written was now stub memory at size (omega arith))
entries-written was now stub memory at (suc (suc entries)) zero size fits below =
    let next : (at + 5) % 65536 ≡ at + 5 = omega arith in
    let here : at + 5 * 0 ≡ at = omega arith in
    let written : List ℕ = with_entry was now stub memory at in
    let rest : List ℕ = with_entries was now stub written (at + 5) (suc entries) in
    let same : SameEntry rest written stub at = λ j small. entries-elsewhere was now stub written (at + 5) (suc entries) (address stub (at + j)) (omega arith) (λ k above inside same. omega arith) in
    let kept = written-kept rest written stub now at (routine_at memory stub was at) (omega arith) same (entry-written was now stub memory at size (omega arith)) in
    let there = subst (λ (at_next : ℕ). IsWritten (with_entries was now stub written at_next (suc entries)) stub now at (routine_at memory stub was at)) (sym next) kept in
    subst (λ (place : ℕ). IsWritten (with_entries was now stub written ((at + 5) % 65536) (suc entries)) stub now place (routine_at memory stub was place)) (sym here) there
entries-written was now stub memory at (suc (suc entries)) (suc e) size fits below =
    let next : (at + 5) % 65536 ≡ at + 5 = omega arith in
    let here : at + 5 * suc e ≡ at + 5 + 5 * e = omega arith in
    let written : List ℕ = with_entry was now stub memory at in
    let sized : length written ≡ 1048576 = length-entry was now stub memory at ∙ size in
    let same : SameEntry written memory stub (at + 5 + 5 * e) = λ j small. entry-elsewhere was now stub memory at (address stub (at + 5 + 5 * e + j)) (omega arith) (λ k above inside same. omega arith) in
    let later = entries-written was now stub written (at + 5) (suc entries) e sized (omega arith) (omega arith) in
    let routine = routine-same written memory stub was (at + 5 + 5 * e) (omega arith) same in
    let there = subst (λ (routine : ℕ). IsWritten (with_entries was now stub written (at + 5) (suc entries)) stub now (at + 5 + 5 * e) routine) routine later in
    let moved = subst (λ (at_next : ℕ). IsWritten (with_entries was now stub written at_next (suc entries)) stub now (at + 5 + 5 * e) (routine_at memory stub was (at + 5 + 5 * e))) (sym next) there in
    subst (λ (place : ℕ). IsWritten (with_entries was now stub written ((at + 5) % 65536) (suc entries)) stub now place (routine_at memory stub was place)) (sym here) moved
