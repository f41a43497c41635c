-- Words on the stack: each offset of a segment has an address of its own, what was pushed is there, and what lies above SP may be read.
use Rattle.std.proofs.Common.{◌≡◌, ◌≢◌, ℕ, ◌+◌, ◌-◌, ◌*◌, ◌/◌, ◌%◌, ◌<◌, ◌≤◌, arith, refl, ap, ◌∙◌}
use Rattle.std.specs.Prelude.{if◌then◌else◌}
use Rattle.std.proofs.lemmas.Bool.{eq-eqb, ne_eqb}
use Rattle.cpu_8086.specs.Memory.{address, next_offset, word_of}
use Rattle.resident_machine.specs.Cells.{Cell, Known, Cells, with_cell, below}
use Rattle.resident_machine.specs.machine_lines.Steps.{number_in, IsAbove}
use Rattle.resident_machine.specs.machine_lines.Straight.{IsKnown}
use Rattle.resident_machine.specs.machine_lines.Words.{HoldsWord, word_there, stored}

pub addresses_differ : (s a b : ℕ) → a < 65536 → b < 65536 → a ≢ b → address s a ≢ address s b
addresses_differ s a b x y ne e = omega arith

pub same_cell : (c : Cells) (place : ℕ) (cell : Cell) → with_cell c place cell place ≡ cell
same_cell c place cell = ap (λ b. if b then cell else c place) (eq-eqb place place refl)

pub other_cell : (c : Cells) (place : ℕ) (cell : Cell) (other : ℕ) → other ≢ place → with_cell c place cell other ≡ c other
other_cell c place cell other ne = ap (λ b. if b then cell else c other) (ne_eqb other place ne)

-- a word that is known is what the machine reads
pub word_read : (c : Cells) (s o v : ℕ) → HoldsWord c s o v → word_there c s o ≡ v
word_read c s o v h =
    let whole : v % 256 + 256 * (v / 256) ≡ v = omega arith in
    ap (λ x. word_of (number_in x) (number_in (c (address s (next_offset o))))) h.low ∙ ap (λ x. word_of (v % 256) (number_in x)) h.high ∙ whole

pub low_known : (c : Cells) (s o v : ℕ) → HoldsWord c s o v → IsKnown (c (address s o))
low_known c s o v h = (v % 256, h.low)

pub high_known : (c : Cells) (s o v : ℕ) → HoldsWord c s o v → IsKnown (c (address s (next_offset o)))
high_known c s o v h = (v / 256, h.high)

pub stored_holds : (c : Cells) (s o v : ℕ) → o < 65536 → HoldsWord (stored c s o v) s o v
stored_holds c s o v lt =
    let ne : address s o ≢ address s (next_offset o) = addresses_differ s o (next_offset o) lt (omega arith) (omega arith) in
    record {
      low = other_cell (with_cell c (address s o) (Known (v % 256))) (address s (next_offset o)) (Known (v / 256)) (address s o) ne ∙ same_cell c (address s o) (Known (v % 256));
      high = same_cell (with_cell c (address s o) (Known (v % 256))) (address s (next_offset o)) (Known (v / 256));
    }

pub stored_other : (c : Cells) (s o v place : ℕ) → place ≢ address s o → place ≢ address s (next_offset o) → stored c s o v place ≡ c place
stored_other c s o v place low high =
    other_cell (with_cell c (address s o) (Known (v % 256))) (address s (next_offset o)) (Known (v / 256)) place high ∙ other_cell c (address s o) (Known (v % 256)) place low

-- an offset from SP on, not so high that what lies below SP wraps to it
pub offset_above : (s sp o : ℕ) → sp ≤ o → o < 65536 → 64 ≤ sp → IsAbove s sp (address s o)
offset_above s sp o le lt room = record { apart = λ k small e. apart k small e }
  where
    apart : (k : ℕ) → k < 64 → address s o ≢ below s sp k
    apart k small = addresses_differ s o ((sp + 65535 - k) % 65536) lt (omega arith) (omega arith)

-- an address outside the first bytes of a segment, which do not wrap in memory
pub address_above : (s sp place : ℕ) → 64 ≤ sp → sp ≤ 65536 → 16 * s + sp ≤ 1048576 → (16 * s ≤ place → 16 * s + sp ≤ place) → IsAbove s sp place
address_above s sp place room fits whole out = record { apart = λ k small e. apart k small e }
  where
    apart : (k : ℕ) → k < 64 → place ≢ below s sp k
    apart k small e =
        let low : (sp + 65535 - k) % 65536 ≡ sp - 1 - k = omega arith in
        let there : below s sp k ≡ 16 * s + (sp - 1 - k) = ap (λ n. (16 * s + n) % 1048576) low ∙ (omega arith) in
        let at : place ≡ 16 * s + (sp - 1 - k) = e ∙ there in
        let more = out (omega arith) in
        absurd (omega arith)
