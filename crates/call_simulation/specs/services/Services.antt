-- The routines of two effects of the machine: each has one instruction that does the act, and a far return.
use Rattle.std.specs.Prelude.{◌≡◌, ◌⊎◌, ℕ, List, [], ◌∷◌}
use Rattle.x86_table.specs.declared.instr.Immediate.TheVariants as immediate
use Rattle.x86_table.specs.declared.instr.Instr.{Instr}
use Rattle.x86_table.specs.declared.instr.Instr.TheVariants as instr
use Rattle.x86_table.specs.declared.operand.ByteOperand.TheVariants as byte_rm
use Rattle.x86_table.specs.declared.operand.Place.TheVariants.{Direct}
use Rattle.x86_table.specs.Standing.{IsSpelledAt, Stands}
use Rattle.flat_code.specs.declared.memory.Place.{Place}
use Rattle.cpu_8086.specs.Memory.{address}
use Rattle.resident_machine.specs.Program.{Image}
use Rattle.resident_machine.specs.machine_lines.Straight.{ones, Placed}
use Rattle.code_templates.specs.code_lines.Operands.{memory_at}
use Rattle.statement_simulation.specs.flow.Sites.{World}
use Rattle.call_simulation.specs.calls.Enters.{EntersAt}

-- INT 60h sends all overlays out
abbrev pub clear_code : List Instr
clear_code = instr.Int 0x60 ∷ instr.RetFar ∷ []

-- where nothing is overlaid it only returns
abbrev pub idle_code : List Instr
idle_code = instr.RetFar ∷ []

-- MOV BYTE [flag],1: the overlays are installed
abbrev pub flag_code : ℕ → List Instr
flag_code offset = instr.MovImmediate (immediate.Byte (byte_rm.Mem (memory_at (Direct offset))) 1) ∷ instr.RetFar ∷ []

-- The instructions stand in the image where a far pointer leads.
pub record HasService (w : World) (to : Place) (is : List Instr) : Type 0 where
  pub segment : ℕ
  pub code : List ℕ
  pub at : ℕ → ℕ
  pub labels : ℕ → ℕ
  pub placed : Placed w.machine (Image segment) code at
  pub stands : Stands (IsSpelledAt code) at labels 0 (ones is)
  pub enters : EntersAt w.machine to (Image segment) (at 0)

-- What a call that clears the overlay buffer leads to, with overlays or without.
abbrev pub HasClear : World → Place → Type 0
HasClear w to = HasService w to clear_code ⊎ HasService w to idle_code

-- The installed flag lies at this offset of the data segment.
pub record HasFlag (w : World) (offset : ℕ) : Type 0 where
  pub there : address w.choice.data_segment offset ≡ w.machine.installed
