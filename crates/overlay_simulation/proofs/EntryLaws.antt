-- The instruction that stands at an entry of a stub.
use Rattle.std.proofs.Common.{◌≡◌, ℕ, zero, suc, ◌+◌, ◌-◌, ◌*◌, ◌/◌, ◌%◌, ◌<◌, ◌≤◌, ◌==◌, Bool, true, false, List, ◌∷◌, ◌++◌, length, drop, refl, sym, ap, ◌∙◌, subst, arith, MatchBool}
use Rattle.std.specs.Prelude.{slice_index}
use Rattle.x86_table.specs.declared.instr.Instr.TheVariants as instr
use Rattle.x86_table.specs.Spelling.{spelling, word_bytes}
use Rattle.cpu_8086.specs.Memory.{next_offset, load_byte, load_word}
use Rattle.overlay_file.specs.Stubs.{IsTrap, IsJump, IsEntry, entry_offset}
use Rattle.overlay_manager.specs.Stubbing.{routine_at}
use Rattle.resident_machine.specs.Cells.{Cells}
use Rattle.resident_machine.specs.Program.{OverlayCode}
use Rattle.overlay_simulation.specs.Matching.{size_of, StubStands}
use Rattle.overlay_simulation.proofs.StubLaws.{bytes_from, stub_room}

drop_from : (memory : List ℕ) (segment offset n k : ℕ) → drop k (bytes_from memory segment offset (k + n)) ≡ bytes_from memory segment (offset + k) n
drop_from memory segment offset n zero =
    let none : 0 + n ≡ n = omega arith in
    let same : offset ≡ offset + 0 = omega arith in
    ap (λ (z : ℕ). drop zero (bytes_from memory segment offset z)) none ∙ ap (λ (z : ℕ). bytes_from memory segment z n) same
drop_from memory segment offset n (suc k) =
    let more : suc k + n ≡ suc (k + n) = omega arith in
    let same : offset + 1 + k ≡ offset + suc k = omega arith in
    ap (λ (z : ℕ). drop (suc k) (bytes_from memory segment offset z)) more ∙ drop_from memory segment (offset + 1) n k ∙ ap (λ (z : ℕ). bytes_from memory segment z n) same

-- the bytes of a word
word_parts : (memory : List ℕ) (segment k w : ℕ) → load_word memory segment k ≡ w → load_byte memory segment k < 256 → k + 1 < 65536 → (load_byte memory segment k ≡ w % 256) × (load_byte memory segment (k + 1) ≡ w / 256)
unfolding load_word
word_parts memory segment k w e small fits =
    let next : next_offset k ≡ k + 1 = omega arith in
    let sum : load_byte memory segment k + 256 * load_byte memory segment (k + 1) ≡ w = sym (ap (λ (z : ℕ). load_byte memory segment k + 256 * load_byte memory segment z) next) ∙ e in
    (omega arith, omega arith)

two_bytes : (a a' b b' : ℕ) (rest : List ℕ) → a ≡ a' → b ≡ b' → a ∷ b ∷ rest ≡ a' ∷ b' ∷ rest
two_bytes a a' b b' rest p q = cc

-- a stub begins with an INT 3Fh
pub begins_so : (cells : Cells) (memory : List ℕ) (o : OverlayCode) (load next : ℕ) → StubStands cells memory o load next → (rest : List ℕ) × (bytes_from memory o.stub 0 (size_of o) ≡ spelling (instr.Int 63) ++ rest)
begins_so cells memory o load next h =
    let first = word_parts memory o.stub 0 0x3FCD h.is_stub.interrupt (h.small 0 (omega arith) (λ same. absurd (omega arith)) (λ same. absurd (omega arith))) (omega arith) in
    let left : ℕ = size_of o - 2 in
    let size : size_of o ≡ suc (suc left) = omega arith in
    let rest : List ℕ = bytes_from memory o.stub (0 + 1 + 1) left in
    (rest, ap (bytes_from memory o.stub 0) size ∙ two_bytes (load_byte memory o.stub 0) 0xCD (load_byte memory o.stub (0 + 1)) 63 rest first.0 first.1)

module _ (cells : Cells) (memory : List ℕ) (o : OverlayCode) (load next : ℕ) (h : StubStands cells memory o load next) (e : ℕ) (lt : e < length o.entries) where
  abbrev at : ℕ
  at = entry_offset e

  abbrev bytes : List ℕ
  bytes = bytes_from memory o.stub 0 (size_of o)

  -- so many bytes are left behind an entry
  abbrev left : ℕ
  left = size_of o - (at + 5)

  from_entry : drop at bytes ≡ bytes_from memory o.stub at (suc (suc (suc (suc (suc left)))))
  from_entry =
      let size : size_of o ≡ at + suc (suc (suc (suc (suc left)))) = omega arith in
      let start : 0 + at ≡ at = omega arith in
      ap (λ (n : ℕ). drop at (bytes_from memory o.stub 0 n)) size ∙ drop_from memory o.stub 0 (suc (suc (suc (suc (suc left))))) at ∙ ap (λ (k : ℕ). bytes_from memory o.stub k (suc (suc (suc (suc (suc left)))))) start

  entry_is : IsEntry memory o.stub load at
  entry_is =
      let counted : e < load_word memory o.stub 12 = subst (λ (n : ℕ). e < n) (sym h.count) lt in
      subst (λ (l : ℕ). IsEntry memory o.stub l at) h.loaded (h.is_stub.each e counted)

  abbrev word_at : ℕ → ℕ → Type 0
  word_at k w = load_word memory o.stub k ≡ w

  parts : (k w : ℕ) → 32 ≤ k → k + 2 ≤ at + 5 → word_at k w → (load_byte memory o.stub k ≡ w % 256) × (load_byte memory o.stub (k + 1) ≡ w / 256)
  parts k w above fits is =
      let room = stub_room cells memory o load next h in
      word_parts memory o.stub k w is (h.small k (omega arith) (λ same. absurd (omega arith)) (λ same. absurd (omega arith))) (omega arith)

  -- the offset of the routine, where the overlay is loaded
  routine_word : (load == 0) ≡ false → word_at (at + 1) (slice_index o.entries e)
  routine_word loaded =
      let room = stub_room cells memory o load next h in
      let straight : (at + 1) % 65536 ≡ at + 1 = omega arith in
      let read : load_word memory o.stub ((at + 1) % 65536) ≡ routine_at memory o.stub load at = rw loaded refl in
      sym (ap (load_word memory o.stub) straight) ∙ read ∙ h.routines e lt

  -- the entry of an overlay that is loaded jumps to the routine
  pub jumps : (load == 0) ≡ false → (rest : List ℕ) × (drop at bytes ≡ spelling (instr.JumpFar (slice_index o.entries e) load) ++ rest)
  unfolding word_bytes
  jumps loaded =
      let routine : ℕ = slice_index o.entries e in
      let is : IsJump memory o.stub load at = subst (λ (b : Bool). MatchBool b (IsTrap memory o.stub at) (IsJump memory o.stub load at)) loaded entry_is in
      let first = parts (at + 1) routine (omega arith) (omega arith) (routine_word loaded) in
      let second = parts (at + 3) load (omega arith) (omega arith) is.target in
      let a : at + 1 + 1 ≡ at + 2 = omega arith in
      let b : at + 1 + 1 + 1 ≡ at + 3 = omega arith in
      let c : at + 1 + 1 + 1 + 1 ≡ at + 3 + 1 = omega arith in
      let byte1 : load_byte memory o.stub (at + 1) ≡ routine % 256 = first.0 in
      let byte2 : load_byte memory o.stub (at + 1 + 1) ≡ routine / 256 = first.1 in
      let byte3 : load_byte memory o.stub (at + 1 + 1 + 1) ≡ load % 256 = ap (load_byte memory o.stub) b ∙ second.0 in
      let byte4 : load_byte memory o.stub (at + 1 + 1 + 1 + 1) ≡ load / 256 = ap (load_byte memory o.stub) c ∙ second.1 in
      let rest : List ℕ = bytes_from memory o.stub (at + 1 + 1 + 1 + 1 + 1) left in
      (rest, from_entry ∙ five (load_byte memory o.stub at) 0xEA (load_byte memory o.stub (at + 1)) (routine % 256) (load_byte memory o.stub (at + 1 + 1)) (routine / 256) (load_byte memory o.stub (at + 1 + 1 + 1)) (load % 256) (load_byte memory o.stub (at + 1 + 1 + 1 + 1)) (load / 256) rest is.jump byte1 byte2 byte3 byte4)
    where
      five : (a a' b b' c c' d d' e e' : ℕ) (rest : List ℕ) → a ≡ a' → b ≡ b' → c ≡ c' → d ≡ d' → e ≡ e' → a ∷ b ∷ c ∷ d ∷ e ∷ rest ≡ a' ∷ b' ∷ c' ∷ d' ∷ e' ∷ rest
      five a a' b b' c c' d d' e e' rest p q r s t = cc

  -- that of an overlay that is out is an INT 3Fh
  pub traps : (load == 0) ≡ true → (rest : List ℕ) × (drop at bytes ≡ spelling (instr.Int 63) ++ rest)
  traps out =
      let is : IsTrap memory o.stub at = subst (λ (b : Bool). MatchBool b (IsTrap memory o.stub at) (IsJump memory o.stub load at)) out entry_is in
      let first = parts at 0x3FCD (omega arith) (omega arith) is.interrupt in
      let rest : List ℕ = bytes_from memory o.stub (at + 1 + 1) (suc (suc (suc left))) in
      (rest, from_entry ∙ two_bytes (load_byte memory o.stub at) 0xCD (load_byte memory o.stub (at + 1)) 63 rest first.0 first.1)
