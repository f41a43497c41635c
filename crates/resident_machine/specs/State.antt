-- A state of the resident machine.
use Rattle.std.specs.Prelude.{ℕ, Bool, List}
use Rattle.cpu_8086.specs.declared.process.Why.{Why}
use Rattle.cpu_8086.specs.declared.registers.Registers.{Registers}
use Rattle.resident_machine.specs.Program.{Segment}
use Rattle.resident_machine.specs.Cells.{Cells}

-- A far return pair: its place in SS, and where the return leads.
pub record Record : Type 0 where
  pub place : ℕ
  pub segment : Segment
  pub offset : ℕ

pub data ResidentStatus : Type 0 where
  Running : ResidentStatus
  Ended : (code : ℕ) → ResidentStatus
  Stopped : (segment : Segment) (offset : ℕ) (why : Why) → ResidentStatus

-- The records stand topmost first. After PUSH CS the word at SS:SP is half a record. `taken` counts the bytes of the
-- input that were read.
pub record ResidentState : Type 0 where
  pub registers : Registers
  pub cs : Segment
  pub cells : Cells
  pub records : List Record
  pub half : Bool
  pub input : List ℕ
  pub taken : ℕ
  pub out : List ℕ
  pub err : List ℕ
  pub status : ResidentStatus

-- Where a step leaves room for a service of overlays: it went through the entry of a stub, returned into an overlay, or
-- cleared the buffer.
pub data Service : Type 0 where
  NoService : Service
  AtCall : Service
  AtReturn : Service
  AtClear : Service
