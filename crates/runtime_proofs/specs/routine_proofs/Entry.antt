-- An activation as its routine finds it, and the bytes of the result as it leaves them.
use Rattle.std.specs.Prelude.{◌≡◌, ℕ, zero, suc, ◌/◌, if◌then◌else◌, List, [], ◌∷◌, ◌++◌, map, replicate, Option, Some, None, Ok, Err}
use Rattle.common_values.specs.integers.Words.{low_byte, high_byte}
use Rattle.flat_code.specs.declared.tree.Address.{Address}
use Rattle.flat_code.specs.declared.tree.Address.TheVariants.{Local}
use Rattle.flat_code.specs.declared.tree.FlatResult.{FlatResult}
use Rattle.flat_code.specs.declared.memory.Cell.TheVariants.{Outside}
use Rattle.flat_code.specs.declared.memory.Trap.TheVariants.{Bad}
use Rattle.flat_code.specs.Memory.{Cells, Found, ◌>>=◌, word_bytes, region}
use Rattle.flat_code.specs.Program.{Choice}
use Rattle.flat_code.specs.Meaning.{State}
use Rattle.flat_code.specs.Gives.{IsBelow}
use Rattle.runtime_proofs.specs.routine_proofs.Activation.{Slot, Shut, Free, Holds, Activation, slot_no, index_of, is_index}
use Rattle.runtime_proofs.specs.routine_proofs.Straight.{held}

-- the arguments, three words of links, and the locals
abbrev pub entered_words : ℕ → List ℕ → List Slot
entered_words locals args = map Holds args ++ Shut ∷ Shut ∷ Shut ∷ replicate (locals / 2) Free

-- memory without the stack below an offset
abbrev pub memory_without : Choice → ℕ → Cells → Cells
memory_without choice sp m = region m choice.stack_segment 0 sp Outside

-- called with these words in a state, where SP is so
abbrev pub entered : Choice → ℕ → ℕ → List ℕ → State → Activation
entered choice sp locals args s = record {
  words = entered_words locals args;
  memory = memory_without choice sp s.cells;
  flag = s.flag;
  input = s.input;
  out = s.out;
  err = s.err;
}

-- ---- the result

-- two words from the i-th on, the second of which stands above
abbrev pub two_words : Activation → ℕ → Found (List ℕ)
two_words a zero = Err (Bad 2)
two_words a (suc i) = held (slot_no a (suc i)) >>= λ v. held (slot_no a i) >>= λ w. Ok (low_byte v ∷ high_byte v ∷ low_byte w ∷ high_byte w ∷ [])

abbrev pub bytes_from : Activation → ℕ → ℕ → Found (List ℕ)
bytes_from a i (suc (suc zero)) = held (slot_no a i) >>= λ v. Ok (word_bytes v)
bytes_from a i (suc (suc (suc (suc zero)))) = two_words a i
bytes_from a i other = Err (Bad 1)

abbrev pub result_at : ℕ → Activation → Address → ℕ → Found (List ℕ)
result_at above a (Local d) bytes = if is_index above d then bytes_from a (index_of above d) bytes else Err (Bad 2)
result_at above a at bytes = Err (Bad 2)

abbrev pub result_seen : ℕ → Activation → Option FlatResult → Found (List ℕ)
result_seen above a None = Ok []
result_seen above a (Some result) = result_at above a result.at result.bytes

-- what a caller finds of an activation that ended
pub record IsLeft (choice : Choice) (sp : ℕ) (b : Activation) (after : State) : Type 0 where
  pub cells : (x : ℕ) → (IsBelow choice sp x → ⊥) → after.cells x ≡ b.memory x
  pub flag : after.flag ≡ b.flag
  pub input : after.input ≡ b.input
  pub out : after.out ≡ b.out
  pub err : after.err ≡ b.err
