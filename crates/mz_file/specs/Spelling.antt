-- The bytes that are written for a value: the relocations come right behind the block, and the header is filled
-- with zeros to a paragraph.
use Rattle.std.specs.Prelude.{ℕ, ◌+◌, ◌-◌, ◌*◌, ◌/◌, ◌%◌, ◌≤◌, List, [], ◌∷◌, ◌++◌, length, replicate, All}
use Rattle.mz_file.specs.declared.executable.Exe.{Exe}
use Rattle.mz_file.specs.Format.{IsWithin, letters_X}
use Rattle.mz_file.specs.Words.{bytes_of_words, words_of_fars}

-- where the relocations stand, and where the last of them ends
abbrev pub relocation_place : Exe → ℕ
relocation_place exe = 0x36 + 2 * length exe.block.stubs

abbrev pub relocation_end : Exe → ℕ
relocation_end exe = relocation_place exe + 4 * length exe.relocations

-- the header in paragraphs, and the file in bytes
abbrev pub header_paragraphs : Exe → ℕ
header_paragraphs exe = (relocation_end exe + 15) / 16

abbrev pub file_size : Exe → ℕ
file_size exe = 16 * header_paragraphs exe + length exe.image

-- the words of the header up to the stub segments; the least and the most extra paragraphs are equal
abbrev pub header_words : Exe → List ℕ
header_words exe =
    0x5A4D ∷ file_size exe % 512 ∷ (file_size exe + 511) / 512 ∷ length exe.relocations
    ∷ header_paragraphs exe ∷ exe.extra ∷ exe.extra ∷ exe.stack.segment
    ∷ exe.stack.offset ∷ 0 ∷ exe.entry.offset ∷ exe.entry.segment
    ∷ relocation_place exe ∷ 0 ∷ 0x5054 ∷ letters_X exe.block.marked
    ∷ length exe.block.stubs ∷ exe.block.largest ∷ exe.block.error_routine.offset ∷ exe.block.error_routine.segment
    ∷ exe.block.installed.offset ∷ exe.block.installed.segment ∷ exe.block.stack ∷ exe.block.heap % 65536
    ∷ exe.block.heap / 65536 ∷ exe.block.data_segment ∷ exe.block.data_bytes ∷ []

-- all words of the header, and its bytes with the zeros behind them
abbrev pub all_words : Exe → List ℕ
all_words exe = header_words exe ++ (exe.block.stubs ++ words_of_fars exe.relocations)

abbrev pub padding : Exe → List ℕ
padding exe = replicate (16 * header_paragraphs exe - relocation_end exe) 0

unfoldable pub spelling : Exe → List ℕ
spelling exe = bytes_of_words (all_words exe) ++ (padding exe ++ exe.image)

-- The values that can be written: the counts fit their words, the relocations lie in the image, and the file has
-- at most 65,535 pages.
pub record IsWritable (exe : Exe) : Type 0 where
  pub stubs : length exe.block.stubs ≤ 256
  pub relocations : length exe.relocations ≤ 65535
  pub inside : All (IsWithin (length exe.image)) exe.relocations
  pub pages : file_size exe ≤ 512 * 65535
