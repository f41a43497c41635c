-- The resident state from which a program starts, made of the process of the plain machine that starts it.
use Rattle.std.specs.Prelude.{◌≡◌, ℕ, ◌<◌, ◌≤◌, Bool, false, IsTrue, if◌then◌else◌, List, [], length, slice_index, Some}
use Rattle.cpu_8086.specs.Memory.{address, load_byte}
use Rattle.cpu_8086.specs.Process.{Process}
use Rattle.resident_machine.specs.Program.{Segment, Program}
use Rattle.resident_machine.specs.Cells.{Known, Kept, Cells}
use Rattle.resident_machine.specs.State.{ResidentState, Running}

-- What is not kept is known.
abbrev pub cells_of : (ℕ → Bool) → List ℕ → Cells
cells_of kept memory place = if kept place then Kept else Known (slice_index memory place)

-- No far return pair is there yet.
abbrev pub resident_start : (ℕ → Bool) → Segment → Process → ResidentState
resident_start kept cs q = record {
  registers = q.machine.registers;
  cs = cs;
  cells = cells_of kept q.machine.memory;
  records = [];
  half = false;
  input = q.input;
  taken = q.taken;
  out = q.out;
  err = q.err;
  status = Running;
}

-- A byte of code stands in memory, and is kept.
pub record KeepsByte (kept : ℕ → Bool) (memory : List ℕ) (segment : ℕ) (code : List ℕ) (offset : ℕ) : Type 0 where
  pub value : load_byte memory segment offset ≡ slice_index code offset
  pub kept_there : IsTrue (kept (address segment offset))

pub record KeepsCode (kept : ℕ → Bool) (memory : List ℕ) (segment : ℕ) (code : List ℕ) : Type 0 where
  pub size : length code ≤ 65536
  pub bytes : (offset : ℕ) → offset < length code → KeepsByte kept memory segment code offset

-- The code of the image stands in a megabyte of memory, and is kept, as is all that lies outside.
pub record KeepsProgram (p : Program) (kept : ℕ → Bool) (memory : List ℕ) : Type 0 where
  pub size : length memory ≡ 1048576
  pub outside : (place : ℕ) → 1048576 ≤ place → IsTrue (kept place)
  pub code : (segment : ℕ) (bytes : List ℕ) → p.image segment ≡ Some bytes → KeepsCode kept memory segment bytes
