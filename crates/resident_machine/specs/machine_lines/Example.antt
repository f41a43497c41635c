-- A small piece of straight code: two registers change places by way of the stack.
use Rattle.std.specs.Prelude.{◌≡◌, ℕ, ◌-◌, ◌<◌, ◌≤◌, List, [], ◌∷◌}
use Rattle.x86_table.specs.declared.instr.Instr.{Instr}
use Rattle.x86_table.specs.declared.instr.Instr.TheVariants as instr
use Rattle.x86_table.specs.declared.instr.Pair.TheVariants as pair
use Rattle.x86_table.specs.declared.operand.WordOperand.TheVariants as word_rm
use Rattle.x86_table.specs.declared.operand.WordReg.TheVariants as word
use Rattle.cpu_8086.specs.Memory.{address}
use Rattle.resident_machine.specs.Program.{Program}
use Rattle.resident_machine.specs.State.{ResidentState}
use Rattle.resident_machine.specs.machine_lines.Straight.{MayWrite}

-- PUSH AX; MOV AX,CX; POP CX
abbrev pub swap : List Instr
swap = instr.Push word.Ax ∷ instr.Mov (pair.WordRm word.Ax (word_rm.Reg word.Cx)) ∷ instr.Pop word.Cx ∷ []

-- There is room for a word below SP, and for the 64 bytes below that.
pub record IsSpare (p : Program) (r : ResidentState) : Type 0 where
  pub room : 66 ≤ r.registers.sp
  pub top : r.registers.sp < 65536
  pub low : MayWrite r.cells p.installed (address r.registers.ss (r.registers.sp - 2))
  pub high : MayWrite r.cells p.installed (address r.registers.ss (r.registers.sp - 1))

pub record Swapped (ip : ℕ) (r t : ResidentState) : Type 0 where
  pub ax : t.registers.ax ≡ r.registers.cx
  pub cx : t.registers.cx ≡ r.registers.ax
  pub sp : t.registers.sp ≡ r.registers.sp
  pub offset : t.registers.ip ≡ ip
