-- The format of an executable file: which bytes are one, and the value that they stand for.
use Rattle.std.specs.Prelude.{◌≡◌, ◌≢◌, ℕ, ◌+◌, ◌-◌, ◌*◌, ◌≤◌, ◌==◌, ◌⊎◌, Bool, true, false, if◌then◌else◌, List, length, take, drop, All}
use Rattle.cpu_8086.specs.declared.registers.Far.{Far}
use Rattle.mz_file.specs.declared.executable.Block.{Block}
use Rattle.mz_file.specs.declared.executable.Exe.{Exe}
use Rattle.mz_file.specs.Words.{word_at, long_at, far_at, words_at, fars_at}

-- How many bytes the header says that the file has, by its pages of 512 bytes and the bytes in the last one.
abbrev pub said_size : List ℕ → ℕ
said_size bytes =
    if word_at bytes 0x04 == 0 then 0
    else 512 * (word_at bytes 0x04 - 1) + (if word_at bytes 0x02 == 0 then 512 else word_at bytes 0x02)

-- The header is said in paragraphs of 16 bytes; the image follows it.
abbrev pub header_size : List ℕ → ℕ
header_size bytes = 16 * word_at bytes 0x08

abbrev pub image_of : List ℕ → List ℕ
image_of bytes = take (said_size bytes - header_size bytes) (drop (header_size bytes) bytes)

-- The relocations stand where the word at 18h says.
abbrev pub relocations_of : List ℕ → List Far
relocations_of bytes = fars_at bytes (word_at bytes 0x18) (word_at bytes 0x06)

-- Where the block ends, whose stub segments come last.
abbrev pub block_end : List ℕ → ℕ
block_end bytes = 0x36 + 2 * word_at bytes 0x20

-- Its letters are TP, and X2 where frames are marked, X1 where they aren't.
abbrev pub letters_X : Bool → ℕ
letters_X true = 0x3258
letters_X false = 0x3158

abbrev pub block_of : List ℕ → Block
block_of bytes = record {
  stubs = words_at bytes 0x36 (word_at bytes 0x20);
  largest = word_at bytes 0x22;
  error_routine = far_at bytes 0x24;
  installed = far_at bytes 0x28;
  stack = word_at bytes 0x2C;
  heap = long_at bytes 0x2E;
  data_segment = word_at bytes 0x32;
  data_bytes = word_at bytes 0x34;
  marked = word_at bytes 0x1E == 0x3258;
}

-- The value that bytes stand for where they are an executable.
abbrev pub exe_of : List ℕ → Exe
exe_of bytes = record {
  image = image_of bytes;
  relocations = relocations_of bytes;
  entry = far_at bytes 0x14;
  stack = record { offset = word_at bytes 0x10; segment = word_at bytes 0x0E };
  extra = word_at bytes 0x0A;
  block = block_of bytes;
}

-- The word that a far pointer names lies within so many bytes of image.
abbrev pub IsWithin : ℕ → Far → Type 0
IsWithin size far = 16 * far.segment + far.offset + 2 ≤ size

-- The header is there, and the file has all that its pages say.
pub record IsLong (bytes : List ℕ) : Type 0 where
  pub header : 28 ≤ length bytes
  pub pages : said_size bytes ≤ length bytes

-- The pages can be, and hold the header and the relocations.
pub record HasPages (bytes : List ℕ) : Type 0 where
  pub last : word_at bytes 0x02 ≤ 511
  pub count : word_at bytes 0x04 ≢ 0
  pub header : header_size bytes ≤ said_size bytes
  pub relocations : word_at bytes 0x18 + 4 * word_at bytes 0x06 ≤ said_size bytes

-- The block is there: its four letters, TPX1 or TPX2, and its stub segments, before the relocations and within the header.
pub record HasBlock (bytes : List ℕ) : Type 0 where
  pub letters_TP : word_at bytes 0x1C ≡ 0x5054
  pub letters_X : (word_at bytes 0x1E ≡ 0x3158) ⊎ (word_at bytes 0x1E ≡ 0x3258)
  pub stubs : word_at bytes 0x20 ≤ 256
  pub header : block_end bytes ≤ header_size bytes
  pub relocations : block_end bytes ≤ word_at bytes 0x18

-- The bytes are an executable file. What lies past the size that the pages say is not looked at.
pub record IsExecutable (bytes : List ℕ) : Type 0 where
  pub long : IsLong bytes
  pub letters_MZ : word_at bytes 0x00 ≡ 0x5A4D
  pub pages : HasPages bytes
  pub relocations : All (IsWithin (length (image_of bytes))) (relocations_of bytes)
  pub block : HasBlock bytes

-- The bytes are an executable that stands for this value. They determine it.
pub record Denotes (bytes : List ℕ) (exe : Exe) : Type 0 where
  pub executable : IsExecutable bytes
  pub value : exe ≡ exe_of bytes
