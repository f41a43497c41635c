-- What stands at places that a routine is handed: as it begins, in memory without the stack below SP, and again as it ends.
use Rattle.std.proofs.Common.{◌≡◌, ℕ, ◌+◌, ◌*◌, ◌≤◌, ◌<◌, ◌⊎◌, inl, inr, List, length, sym, ◌∙◌, arith}
use Rattle.flat_code.specs.declared.memory.Place.{Place}
use Rattle.flat_code.specs.declared.memory.Cell.TheVariants.{Outside}
use Rattle.flat_code.specs.Memory.{Cells, address_of}
use Rattle.flat_code.specs.Program.{Choice}
use Rattle.flat_code.specs.Gives.{IsBelow}
use Rattle.flat_code.proofs.Shut.{region_below, region_above}
use Rattle.flat_code.proofs.Stack.{not_below}
use Rattle.runtime_proofs.specs.routine_proofs.Entry.{memory_without}
use Rattle.runtime_proofs.specs.strings_in_memory.Strings.{HasString, IsReached, IsOffStack}
use Rattle.runtime_proofs.proofs.strings_in_memory.Cells.{bytes-kept}

-- a string where memory is the same at its bytes
pub string-kept : (m n : Cells) (p : Place) (text : List ℕ) → ((i : ℕ) → i < 1 + length text → n (address_of p i) ≡ m (address_of p i)) → HasString m p text → HasString n p text
string-kept m n p text same has = record {
  size = same 0 (omega arith) ∙ has.size;
  short = has.short;
  bytes = bytes-kept m n p 1 text (λ k h. same (1 + k) (omega (arith, h))) has.bytes;
}

module _ (choice : Choice) (sp : ℕ) (c : Cells) where
  pub kept : (x : ℕ) → (IsBelow choice sp x → ⊥) → memory_without choice sp c x ≡ c x
  kept x free = by (not_below choice sp x free)
    where
      by : (x < 16 * choice.stack_segment) ⊎ (16 * choice.stack_segment + sp ≤ x) → memory_without choice sp c x ≡ c x
      by (inl h) = region_below c choice.stack_segment 0 sp Outside x (omega (arith, h))
      by (inr h) = region_above c choice.stack_segment 0 sp Outside x (omega (arith, h))

  pub string-inside : (p : Place) (text : List ℕ) → IsOffStack choice sp p (1 + length text) → HasString c p text → HasString (memory_without choice sp c) p text
  string-inside p text off has = string-kept c (memory_without choice sp c) p text (λ i h. kept (address_of p i) (off i h)) has

  pub reached-inside : (p : Place) (n : ℕ) → IsOffStack choice sp p n → IsReached c p n → IsReached (memory_without choice sp c) p n
  reached-inside p n off reached i h out = reached i h (sym (kept (address_of p i) (off i h)) ∙ out)

pub string-left : (choice : Choice) (sp : ℕ) (m after : Cells) (p : Place) (text : List ℕ) → ((x : ℕ) → (IsBelow choice sp x → ⊥) → after x ≡ m x) → IsOffStack choice sp p (1 + length text) → HasString m p text → HasString after p text
string-left choice sp m after p text same off has = string-kept m after p text (λ i h. same (address_of p i) (off i h)) has
