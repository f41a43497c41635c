-- When a process of the plain machine stands for a resident state, there being no overlays.
use Rattle.std.specs.Prelude.{◌≡◌, ℕ, ◌+◌, ◌%◌, ◌<◌, ◌≤◌, Bool, true, false, List, [], ◌∷◌, length, slice_index, Some}
use Rattle.cpu_8086.specs.Memory.{address, next_offset, load_byte, load_word}
use Rattle.cpu_8086.specs.Process as process
use Rattle.cpu_8086.specs.Process.{Process}
use Rattle.resident_machine.specs.Program.{Segment, Image, Overlay, Program}
use Rattle.resident_machine.specs.Cells.{Known, Kept, Paired, Cells}
use Rattle.resident_machine.specs.State.{Record, ResidentStatus, Running, Ended, Stopped, ResidentState}
use Rattle.resident_machine.specs.Framed.{MissesWord}

-- what CS holds in code of the image
abbrev pub number_of : Segment → ℕ
number_of (Image number) = number
number_of (Overlay number) = 0

-- A word of a return pair: its offset in SS, and what it holds.
pub record PairWord : Type 0 where
  pub offset : ℕ
  pub value : ℕ

abbrev pub low_of : Record → PairWord
low_of x = record { offset = x.place; value = x.offset }

abbrev pub high_of : Record → PairWord
high_of x = record { offset = (x.place + 2) % 65536; value = number_of x.segment }

abbrev pub words_of : List Record → List PairWord
words_of [] = []
words_of (x ∷ others) = low_of x ∷ high_of x ∷ words_of others

-- half a record is the word at SP
abbrev pub with_half : Bool → ℕ → ℕ → List PairWord → List PairWord
with_half true sp cs words = record { offset = sp; value = cs } ∷ words
with_half false sp cs words = words

abbrev pub pair_words : ResidentState → List PairWord
pair_words r = with_half r.half r.registers.sp (number_of r.cs) (words_of r.records)

-- The word stands in memory, and its bytes are known to be a return pair's.
pub record HoldsWord (ss : ℕ) (cells : Cells) (memory : List ℕ) (w : PairWord) : Type 0 where
  pub fits : w.offset < 65536
  pub value : load_word memory ss w.offset ≡ w.value
  pub low : cells (address ss w.offset) ≡ Paired
  pub high : cells (address ss (next_offset w.offset)) ≡ Paired

-- two words of SS share no byte
pub record AreApart (ss : ℕ) (v w : PairWord) : Type 0 where
  pub low : MissesWord (address ss w.offset) ss v.offset
  pub high : MissesWord (address ss (next_offset w.offset)) ss v.offset

abbrev pub IsApart : ℕ → PairWord → List PairWord → Type 0
IsApart ss v [] = Unit {0}
IsApart ss v (w ∷ others) = AreApart ss v w × IsApart ss v others

abbrev pub HoldsWords : ℕ → Cells → List ℕ → List PairWord → Type 0
HoldsWords ss cells memory [] = Unit {0}
HoldsWords ss cells memory (w ∷ others) = HoldsWord ss cells memory w × IsApart ss w others × HoldsWords ss cells memory others

-- The bytes of code stand at a segment, and are kept.
pub record HoldsByte (cells : Cells) (memory : List ℕ) (segment : ℕ) (code : List ℕ) (offset : ℕ) : Type 0 where
  pub value : load_byte memory segment offset ≡ slice_index code offset
  pub kept : cells (address segment offset) ≡ Kept

pub record HoldsCode (cells : Cells) (memory : List ℕ) (segment : ℕ) (code : List ℕ) : Type 0 where
  pub size : length code ≤ 65536
  pub bytes : (offset : ℕ) → offset < length code → HoldsByte cells memory segment code offset

-- A megabyte of memory holds what is known, the program's code, and return pairs.
pub record HoldsMemory (p : Program) (ss : ℕ) (cells : Cells) (memory : List ℕ) (pairs : List PairWord) : Type 0 where
  pub size : length memory ≡ 1048576
  pub outside : (place : ℕ) → 1048576 ≤ place → cells place ≡ Kept
  pub known : (place value : ℕ) → cells place ≡ Known value → slice_index memory place ≡ value
  pub code : (segment : ℕ) (bytes : List ℕ) → p.image segment ≡ Some bytes → HoldsCode cells memory segment bytes
  pub words : HoldsWords ss cells memory pairs

abbrev pub status_of : ResidentStatus → process.Status
status_of Running = process.Running
status_of (Ended code) = process.Ended code
status_of (Stopped segment offset why) = process.Stopped (number_of segment) offset why

-- Registers, what was read and written and how it ended are equal; memory holds the rest.
pub record StandsFor (p : Program) (r : ResidentState) (q : Process) : Type 0 where
  pub registers : q.machine.registers ≡ r.registers
  pub cs : q.machine.cs ≡ number_of r.cs
  pub memory : HoldsMemory p r.registers.ss r.cells q.machine.memory (pair_words r)
  pub input : q.input ≡ r.input
  pub taken : q.taken ≡ r.taken
  pub out : q.out ≡ r.out
  pub err : q.err ≡ r.err
  pub status : q.status ≡ status_of r.status
