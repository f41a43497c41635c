-- Whatever the state, only live pairs and saved offsets are written.
use Rattle.std.proofs.Common.{◌≡◌, ◌≢◌, ℕ, ◌+◌, ◌%◌, ◌/◌, Bool, true, false, cond, List, [], ◌∷◌, length, get_or, Option, Some, None, refl, sym, ap, subst, ◌∙◌, arith}
use Rattle.std.specs.Prelude.{slice_index}
use Rattle.std.specs.List.{AllByRecursion}
use Rattle.std.proofs.lemmas.List.{get_or-set_other}
use Rattle.cpu_8086.specs.Memory.{address, next_offset, store_byte, store_word}
use Rattle.cpu_8086.specs.State.{State}
use Rattle.cpu_8086.specs.declared.registers.Far.{Far}
use Rattle.cpu_8086.proofs.MemoryLaws.{length-store_word}
use Rattle.return_repair.specs.declared.table.Loaded.{Loaded}
use Rattle.return_repair.specs.Chain.{chain_of, links_of, live_places, are_clear}
use Rattle.return_repair.specs.Pairs.{with_pair, is_out}
use Rattle.return_repair.specs.Repair.{Work, at_start, repaired_place, repaired_places, saved_by, with_saved, repaired_at, repaired_memory}
use Rattle.return_repair.specs.Follows.{word_bytes, pair_bytes, IsElsewhere, OnlyPairsDiffer}
use Rattle.return_repair.proofs.LinkLaws.{Outcome, Stays, Becomes, outcome}
use Rattle.return_repair.proofs.PairLaws.{length-with_pair}

byte-store_word : (memory : List ℕ) (segment offset word at : ℕ) → at ≢ address segment offset → at ≢ address segment (next_offset offset) → get_or (store_word memory segment offset word) at 0 ≡ get_or memory at 0
unfolding store_word store_byte
byte-store_word memory segment offset word at low high =
    get_or-set_other _ (address segment (next_offset offset)) at (word / 256) 0 high ∙ get_or-set_other memory (address segment offset) at (word % 256) 0 low

byte-with_pair : (memory : List ℕ) (ss place : ℕ) (pair : Far) (at : ℕ) → IsElsewhere at (pair_bytes ss place) → get_or (with_pair memory ss place pair) at 0 ≡ get_or memory at 0
byte-with_pair memory ss place pair at elsewhere =
    byte-store_word (store_word memory ss place pair.offset) ss ((place + 2) % 65536) pair.segment at elsewhere.1.1.0 elsewhere.1.1.1.0
    ∙ byte-store_word memory ss place pair.offset at elsewhere.0 elsewhere.1.0

length-place : (ss : ℕ) (old new : List Loaded) (w : Work) (place : ℕ) → length (repaired_place ss old new w place).memory ≡ length w.memory
length-place ss old new w place =
    elim (outcome ss old new w place) [
      | Stays same ↦ ap (λ (w : Work). length w.memory) same
      | Becomes pair memory ↦ ap length memory ∙ length-with_pair w.memory ss place pair
    ]

byte-place : (ss : ℕ) (old new : List Loaded) (w : Work) (place at : ℕ) → IsElsewhere at (pair_bytes ss place) → get_or (repaired_place ss old new w place).memory at 0 ≡ get_or w.memory at 0
byte-place ss old new w place at elsewhere =
    elim (outcome ss old new w place) [
      | Stays same ↦ ap (λ (w : Work). get_or w.memory at 0) same
      | Becomes pair memory ↦ ap (λ memory. get_or memory at 0) memory ∙ byte-with_pair w.memory ss place pair at elsewhere
    ]

length-places : (ss : ℕ) (old new : List Loaded) (w : Work) (places : List ℕ) → length (repaired_places ss old new w places).memory ≡ length w.memory
length-places ss old new w [] = refl
length-places ss old new w (place ∷ places) = length-places ss old new (repaired_place ss old new w place) places ∙ length-place ss old new w place

byte-places : (ss : ℕ) (old new : List Loaded) (w : Work) (places : List ℕ) (at : ℕ) → AllByRecursion (λ place. IsElsewhere at (pair_bytes ss place)) places → get_or (repaired_places ss old new w places).memory at 0 ≡ get_or w.memory at 0
byte-places ss old new w [] at elsewhere = refl
byte-places ss old new w (place ∷ places) at elsewhere = byte-places ss old new (repaired_place ss old new w place) places at elsewhere.1 ∙ byte-place ss old new w place at elsewhere.0

length-saved : (topmost : ℕ → Option ℕ) (table : List Loaded) (memory : List ℕ) → length (with_saved topmost table memory) ≡ length memory
length-saved topmost [] memory = refl
length-saved topmost (overlay ∷ table) memory = length-saved topmost table (cond (is_out overlay) (saved_by (topmost overlay.stub) memory overlay.stub) memory) ∙ one (is_out overlay) (topmost overlay.stub)
  where
    one : (out : Bool) (offset : Option ℕ) → length (cond out (saved_by offset memory overlay.stub) memory) ≡ length memory
    one false offset = refl
    one true None = refl
    one true (Some offset) = length-store_word memory overlay.stub 2 offset

byte-saved : (topmost : ℕ → Option ℕ) (table : List Loaded) (memory : List ℕ) (at : ℕ) → AllByRecursion (λ overlay. IsElsewhere at (word_bytes overlay.stub 2)) table → get_or (with_saved topmost table memory) at 0 ≡ get_or memory at 0
byte-saved topmost [] memory at elsewhere = refl
byte-saved topmost (overlay ∷ table) memory at elsewhere = byte-saved topmost table (cond (is_out overlay) (saved_by (topmost overlay.stub) memory overlay.stub) memory) at elsewhere.1 ∙ one (is_out overlay) (topmost overlay.stub)
  where
    one : (out : Bool) (offset : Option ℕ) → get_or (cond out (saved_by offset memory overlay.stub) memory) at 0 ≡ get_or memory at 0
    one false offset = refl
    one true None = refl
    one true (Some offset) = byte-store_word memory overlay.stub 2 offset at elsewhere.0.0 elsewhere.0.1.0

pub safe : (marked : Bool) (s : State) (pending : Bool) (old new : List Loaded) → OnlyPairsDiffer s.memory (repaired_memory s pending old new (links_of (chain_of marked s))) s.registers.ss (live_places s.registers pending (links_of (chain_of marked s))) new
safe marked s pending old new = by (are_clear s.registers pending (links_of (chain_of marked s)))
  where
    by : (clear : Bool) → OnlyPairsDiffer s.memory (let w = repaired_at s pending old new (links_of (chain_of marked s)) in cond clear (with_saved w.topmost new w.memory) s.memory) s.registers.ss (live_places s.registers pending (links_of (chain_of marked s))) new
    by false = record { size = refl; others = λ at pairs stubs. refl }
    by true =
        let ss = s.registers.ss in
        let places = live_places s.registers pending (links_of (chain_of marked s)) in
        let w = repaired_places ss old new (at_start s.memory) places in
        record {
          size = length-saved w.topmost new w.memory ∙ length-places ss old new (at_start s.memory) places;
          others = λ at pairs stubs. byte-saved w.topmost new w.memory at stubs ∙ byte-places ss old new (at_start s.memory) places at pairs;
        }
