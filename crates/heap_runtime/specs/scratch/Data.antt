-- A datum for what a routine of the runtime gives before it is stored where it belongs.
use Rattle.std.specs.Prelude.{◌≡◌, ℕ, ◌+◌, ◌≤◌, [], Some}
use Rattle.flat_code.specs.Program.{Key, Datum, FlatProgram, Choice, overlay_unit}
use Rattle.flat_code.specs.Meaning.{stack_top}
use Rattle.flat_code.specs.Memory.{Cells}
use Rattle.runtime_proofs.specs.strings_in_memory.Strings.{IsReached, IsOffStack, place}

abbrev pub scratch_key : Key
scratch_key = record { unit = overlay_unit; number = 5 }

abbrev pub scratch_datum : Datum
scratch_datum = record { size = 8; first = [] }

-- it lies at this offset of the data segment, apart from the stack
pub record HasScratch (program : FlatProgram) (choice : Choice) (scratch : ℕ) : Type 0 where
  pub scratch_is : choice.datum scratch_key ≡ Some scratch
  pub scratch_small : scratch + 8 ≤ 65520
  pub scratch_off : IsOffStack choice (stack_top program) (place choice.data_segment scratch) 8

-- its bytes can be reached
abbrev pub ScratchReached : Choice → ℕ → Cells → Type 0
ScratchReached choice scratch m = IsReached m (place choice.data_segment scratch) 8
