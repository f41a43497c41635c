-- The machine: registers with flags, CS, and 2^20 bytes of memory.
use Rattle.std.specs.Prelude.{ℕ, List}
use Rattle.cpu_8086.specs.declared.registers.Registers.{Registers}

pub record State : Type 0 where
  pub registers : Registers
  pub cs : ℕ
  pub memory : List ℕ
