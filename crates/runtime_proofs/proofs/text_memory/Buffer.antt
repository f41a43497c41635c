-- The item buffer where memory changes elsewhere, and as routines find it.
use Rattle.std.proofs.Common.{◌≡◌, ℕ, ◌+◌, ◌≤◌, ◌<◌, List, [], ◌∷◌, sym, ◌∙◌, arith}
use Rattle.std.proofs.lemmas.List.{length-replicate}
use Rattle.flat_code.specs.declared.memory.Place.{Place}
use Rattle.flat_code.specs.declared.memory.Cell.TheVariants.{Known, Outside}
use Rattle.flat_code.specs.Memory.{Cells, address_of, put, laid}
use Rattle.flat_code.specs.Program.{Choice}
use Rattle.flat_code.specs.Gives.{IsBelow}
use Rattle.runtime_proofs.specs.routine_proofs.Entry.{memory_without}
use Rattle.runtime_proofs.specs.strings_in_memory.Strings.{IsOffStack}
use Rattle.runtime_proofs.proofs.strings_in_memory.Cells.{bytes-kept}
use Rattle.runtime_proofs.proofs.string_loops.BackwardLoop.{reached-still}
use Rattle.runtime_proofs.proofs.string_loops.Entry.{kept}
use Rattle.runtime_proofs.specs.text_memory.Data.{HasItem, blank_bytes, item_place}

-- what could be reached is reached where bytes are laid
pub laid-reached : (m : Cells) (p : Place) (i : ℕ) (bytes : List ℕ) (x : ℕ) → (m x ≡ Outside → ⊥) → laid m p i bytes x ≡ Outside → ⊥
laid-reached m p i [] x h = h
laid-reached m p i (b ∷ bytes) x h = laid-reached (put m (address_of p i) (Known b)) p (i + 1) bytes x (reached-still m (address_of p i) b x h)

-- below a smaller offset of the stack
pub off-lower : (choice : Choice) (sp top : ℕ) (p : Place) (n : ℕ) → sp ≤ top → IsOffStack choice top p n → IsOffStack choice sp p n
off-lower choice sp top p n le off i h below = off i h (below.0, omega (arith, below.1, le))

pub item-kept : (choice : Choice) (item : ℕ) (m n : Cells) → ((i : ℕ) → i < 512 → n (address_of (item_place choice item) i) ≡ m (address_of (item_place choice item) i)) → HasItem choice item m → HasItem choice item n
item-kept choice item m n same has = record {
  blanks = bytes-kept m n (item_place choice item) 0 blank_bytes (λ k h. same (0 + k) (omega (arith, h, length-replicate {A = ℕ} 256 32))) has.blanks;
  room = λ i h out. has.room i h (sym (same i h) ∙ out);
}

module _ (choice : Choice) (item sp top : ℕ) (low : sp ≤ top) (off : IsOffStack choice top (item_place choice item) 512) where
  pub item-inside : (c : Cells) → HasItem choice item c → HasItem choice item (memory_without choice sp c)
  item-inside c has = item-kept choice item c (memory_without choice sp c) (λ i h. kept choice sp c (address_of (item_place choice item) i) (off-lower choice sp top (item_place choice item) 512 low off i h)) has

  pub item-left : (m after : Cells) → ((x : ℕ) → (IsBelow choice sp x → ⊥) → after x ≡ m x) → HasItem choice item m → HasItem choice item after
  item-left m after same has = item-kept choice item m after (λ i h. same (address_of (item_place choice item) i) (off-lower choice sp top (item_place choice item) 512 low off i h)) has
