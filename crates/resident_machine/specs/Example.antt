-- A small program: two segments of the image, and an overlay that is called through its stub. It calls a near routine of its
-- own, which calls a far routine of the image, and a far one of its own. Frames are marked.
use Rattle.std.specs.Prelude.{ℕ, ◌==◌, true, false, nat_lt, if◌then◌else◌, List, [], ◌∷◌, Option, Some, None}
use Rattle.x86_table.specs.declared.instr.Instr.{Instr}
use Rattle.x86_table.specs.declared.instr.Instr.TheVariants as instr
use Rattle.x86_table.specs.declared.instr.Pair.TheVariants as pair
use Rattle.x86_table.specs.declared.operand.ByteOperand.{ByteOperand}
use Rattle.x86_table.specs.declared.operand.ByteOperand.TheVariants as byte_rm
use Rattle.x86_table.specs.declared.operand.ByteReg.TheVariants as byte
use Rattle.x86_table.specs.declared.operand.Place.TheVariants.{Direct}
use Rattle.cpu_8086.specs.declared.registers.Registers.{Registers}
use Rattle.cpu_8086.specs.Accessors.{zero_registers}
use Rattle.resident_machine.specs.Program.{Image, Program}
use Rattle.resident_machine.specs.Cells.{Known, Kept, Cells}
use Rattle.resident_machine.specs.State.{ResidentState, Running}

-- CALL FAR 0100:0020; MOV AX,4C00; INT 21h
abbrev pub main_code : List ℕ
main_code = 0x9A ∷ 0x20 ∷ 0 ∷ 0 ∷ 1 ∷ 0xB8 ∷ 0 ∷ 0x4C ∷ 0xCD ∷ 0x21 ∷ []

-- INC BP; PUSH BP; MOV BP,SP; POP BP; DEC BP; RETF
abbrev pub routine_code : List ℕ
routine_code = 0x45 ∷ 0x55 ∷ 0x8B ∷ 0xEC ∷ 0x5D ∷ 0x4D ∷ 0xCB ∷ []

-- INC BP; PUSH BP; MOV BP,SP; CALL NEAR the next routine; PUSH CS; CALL NEAR the last one; POP BP; DEC BP; RETF; a near
-- routine: PUSH BP; MOV BP,SP; CALL FAR 0080:0000; POP BP; RET; and a far one as above
abbrev pub overlay_code : List ℕ
overlay_code =
    0x45 ∷ 0x55 ∷ 0x8B ∷ 0xEC ∷ 0xE8 ∷ 7 ∷ 0 ∷ 0x0E ∷ 0xE8 ∷ 13 ∷ 0 ∷ 0x5D ∷ 0x4D ∷ 0xCB
    ∷ 0x55 ∷ 0x8B ∷ 0xEC ∷ 0x9A ∷ 0 ∷ 0 ∷ 0x80 ∷ 0 ∷ 0x5D ∷ 0xC3
    ∷ 0x45 ∷ 0x55 ∷ 0x8B ∷ 0xEC ∷ 0x5D ∷ 0x4D ∷ 0xCB ∷ []

abbrev pub example_image : ℕ → Option (List ℕ)
example_image segment = if segment == 0x70 then Some main_code else (if segment == 0x80 then Some routine_code else None)

abbrev pub example : Program
example = record {
  image = example_image;
  overlays = record { stub = 0x100; entries = 0 ∷ []; code = overlay_code } ∷ [];
  installed = 0x3000;
  error_routine = record { offset = 0; segment = 0x80 };
  marked = true;
}

-- Below 2000h stand code and the stub, at 3000h the installed flag, from 4000h on the stack.
abbrev pub example_cells : ℕ → Cells
example_cells flag place =
    if nat_lt place 0x2000 then Kept
    else (if place == 0x3000 then Known flag else (if nat_lt place 0x5000 then Known 0 else Kept))

abbrev pub example_registers : Registers
example_registers = record zero_registers { sp = 0x200; ss = 0x400; ds = 0x300 }

abbrev pub example_start : ℕ → ResidentState
example_start flag = record {
  registers = example_registers;
  cs = Image 0x70;
  cells = example_cells flag;
  records = [];
  half = false;
  input = [];
  taken = 0;
  out = [];
  err = [];
  status = Running;
}

-- the byte at an offset of the data segment, and MOV AL from it
abbrev pub byte_at : ℕ → ByteOperand
byte_at offset = byte_rm.Mem (record { segment = None; place = Direct offset })

abbrev pub load_al : ℕ → Instr
load_al offset = instr.Mov (pair.ByteRm byte.Al (byte_at offset))
