-- Runs of the resident machine as proofs about code follow them: event by event, with what must hold after each event, and with what no event reads.
use Rattle.std.specs.Prelude.{◌≡◌, ◌≢◌, ℕ, zero, suc, ◌+◌, ◌/◌, ◌%◌, ◌<◌, Bool, true, false}
use Rattle.cpu_8086.specs.declared.registers.Registers.{Registers}
use Rattle.cpu_8086.specs.Access.{Act, Done, Read, Write, Copy, ReadCodeSegment, FarCall, FarReturn, FarJump, PushCodeSegment, Interrupt, DivideFault}
use Rattle.cpu_8086.specs.Effect.{act}
use Rattle.cpu_8086.specs.Memory.{address}
use Rattle.cpu_8086.specs.Step.{past}
use Rattle.resident_machine.specs.Program.{Program}
use Rattle.resident_machine.specs.Cells.{Cell, Known, Unknown, Kept, Paired, Cells, with_cell, below}
use Rattle.resident_machine.specs.State.{ResidentState, Service}
use Rattle.resident_machine.specs.Framed.{FramedAfter}
use Rattle.resident_machine.specs.Run.{Goes}

-- What a byte holds, where that is known.
abbrev pub number_in : Cell → ℕ
number_in (Known v) = v
number_in Unknown = 0
number_in Kept = 0
number_in Paired = 0

-- The place is none of the 64 bytes below an offset.
pub record IsAbove (segment offset place : ℕ) : Type 0 where
  pub apart : (k : ℕ) → k < 64 → place ≢ below segment offset k

-- The bytes that a DOS call writes to a handle lie so too.
abbrev pub SaysAbove : ℕ → ℕ → Registers → ℕ → Type 0
SaysAbove segment offset g number = number ≡ 33 → g.ax / 256 ≡ 64 → (k : ℕ) → k < g.cx → IsAbove segment offset (address g.ds ((g.dx + k) % 65536))

-- None of the bytes that an instruction's tree reads or moves from is one of the 64 bytes below an offset.
abbrev pub ReadsAbove : ℕ → ℕ → Act → Cells → Type 0
ReadsAbove segment offset (Done g) c = Unit {0}
ReadsAbove segment offset (Read place next) c = IsAbove segment offset place × ReadsAbove segment offset (next (number_in (c place))) c
ReadsAbove segment offset (Write place value next) c = ReadsAbove segment offset next (with_cell c place (Known value))
ReadsAbove segment offset (Copy from to next) c = IsAbove segment offset from × ReadsAbove segment offset next (with_cell c to (c from))
ReadsAbove segment offset (ReadCodeSegment next) c = ⊥
ReadsAbove segment offset (FarCall g to at) c = Unit {0}
ReadsAbove segment offset (FarReturn g dropped) c = Unit {0}
ReadsAbove segment offset (FarJump g to at) c = Unit {0}
ReadsAbove segment offset (PushCodeSegment g) c = Unit {0}
ReadsAbove segment offset (Interrupt g number) c = SaysAbove segment offset g number
ReadsAbove segment offset DivideFault c = Unit {0}

-- What is owed after an event where a service of overlays may follow: a framed state, if that is asked for.
abbrev pub Owed : Bool → Program → Service → ResidentState → Type 0
Owed true p service t = FramedAfter p service t
Owed false p _ t = Unit {0}

-- One event takes r to t, is not astray, and reads nothing of the 64 bytes below SP.
pub record Moves (p : Program) (framed : Bool) (r t : ResidentState) : Type 0 where
  pub service : Service
  pub goes : Goes p r t service
  pub owed : Owed framed p service t
  pub above : ReadsAbove r.registers.ss r.registers.sp (act (past goes.instruction r.registers) goes.instruction) r.cells

-- So many such events take r to t.
abbrev pub Leads : Program → Bool → ℕ → ResidentState → ResidentState → Type 0
Leads p framed zero r t = r ≡ t
Leads p framed (suc n) r t = (middle : ResidentState) × Moves p framed r middle × Leads p framed n middle t
