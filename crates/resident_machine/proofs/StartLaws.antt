-- A process stands for the resident state that it starts.
use Rattle.std.proofs.Common.{◌≡◌, ℕ, Bool, true, false, List, refl}
use Rattle.std.specs.Prelude.{IsTrue, if◌then◌else◌, slice_index}
use Rattle.cpu_8086.specs.Memory.{address}
use Rattle.cpu_8086.specs.Process as process
use Rattle.cpu_8086.specs.Process.{Process}
use Rattle.resident_machine.specs.Program.{Image, Program}
use Rattle.resident_machine.specs.Cells.{Known, Kept}
use Rattle.resident_machine.specs.Standing.{HoldsCode, StandsFor}
use Rattle.resident_machine.specs.Start.{cells_of, resident_start, KeepsCode, KeepsProgram}

pub kept_cell : (b : Bool) (v : ℕ) → IsTrue b → (if b then Kept else Known v) ≡ Kept
kept_cell true v e = refl
kept_cell false v e = absurd (cc)

known_cell : (b : Bool) (v w : ℕ) → (if b then Kept else Known v) ≡ Known w → v ≡ w
known_cell true v w e = absurd (cc)
known_cell false v w e = cc

code_holds : (kept : ℕ → Bool) (memory : List ℕ) (segment : ℕ) (code : List ℕ) → KeepsCode kept memory segment code → HoldsCode (cells_of kept memory) memory segment code
code_holds kept memory segment code h = record {
  size = h.size;
  bytes = λ offset lt. record {
    value = (h.bytes offset lt).value;
    kept = kept_cell (kept (address segment offset)) (slice_index memory (address segment offset)) ((h.bytes offset lt).kept_there);
  };
}

pub start_stands : (p : Program) (kept : ℕ → Bool) (q : Process) → q.status ≡ process.Running → KeepsProgram p kept q.machine.memory → StandsFor p (resident_start kept (Image q.machine.cs) q) q
start_stands p kept q running h = record {
  registers = refl;
  cs = refl;
  memory = record {
    size = h.size;
    outside = λ place le. kept_cell (kept place) (slice_index q.machine.memory place) (h.outside place le);
    known = λ place value e. known_cell (kept place) (slice_index q.machine.memory place) value e;
    code = λ segment bytes named. code_holds kept q.machine.memory segment bytes (h.code segment bytes named);
    words = tt;
  };
  input = refl;
  taken = refl;
  out = refl;
  err = refl;
  status = running;
}
