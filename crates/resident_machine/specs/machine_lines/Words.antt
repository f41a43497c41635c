-- Words in known memory.
use Rattle.std.specs.Prelude.{◌≡◌, ℕ, ◌/◌, ◌%◌}
use Rattle.cpu_8086.specs.Memory.{address, next_offset, word_of}
use Rattle.resident_machine.specs.Cells.{Known, Cells, with_cell}
use Rattle.resident_machine.specs.machine_lines.Steps.{number_in}

-- The word at an offset is known to be this number.
pub record HoldsWord (c : Cells) (segment offset v : ℕ) : Type 0 where
  pub low : c (address segment offset) ≡ Known (v % 256)
  pub high : c (address segment (next_offset offset)) ≡ Known (v / 256)

-- what the word at an offset holds, where that is known
abbrev pub word_there : Cells → ℕ → ℕ → ℕ
word_there c segment offset = word_of (number_in (c (address segment offset))) (number_in (c (address segment (next_offset offset))))

-- a word is stored
abbrev pub stored : Cells → ℕ → ℕ → ℕ → Cells
stored c segment offset v = with_cell (with_cell c (address segment offset) (Known (v % 256))) (address segment (next_offset offset)) (Known (v / 256))
