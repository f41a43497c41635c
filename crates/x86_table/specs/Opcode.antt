-- The opcode of each row.
use Rattle.std.specs.Prelude.{ℕ, ◌+◌, ◌*◌}
use Rattle.x86_table.specs.declared.row.Row.{Row}
use Rattle.x86_table.specs.declared.row.Row.TheVariants as row
use Rattle.x86_table.specs.Codes.{word_reg_code, byte_reg_code, seg_reg_code, data_seg_code, form_code, alu_op_code, count_code, width_code, cond_opcode}

-- the opcode, in the order of the table
abbrev pub opcode : Row → ℕ
opcode (row.Mov f) = 0x88 + form_code f
opcode (row.MovImmediate w) = 0xc6 + width_code w
opcode (row.MovByte r) = 0xb0 + byte_reg_code r
opcode (row.MovWord r) = 0xb8 + word_reg_code r
opcode row.MovFromSeg = 0x8c
opcode row.MovToSeg = 0x8e
opcode (row.Push r) = 0x50 + word_reg_code r
opcode (row.Pop r) = 0x58 + word_reg_code r
opcode (row.PushSeg s) = 0x06 + 8 * seg_reg_code s
opcode (row.PopSeg s) = 0x07 + 8 * data_seg_code s
opcode (row.Alu op f) = 8 * alu_op_code op + form_code f
opcode (row.AluImmediate w) = 0x80 + width_code w
opcode row.AluShort = 0x83
opcode (row.Unary w) = 0xf6 + width_code w
opcode (row.Inc r) = 0x40 + word_reg_code r
opcode (row.Dec r) = 0x48 + word_reg_code r
opcode (row.Shift c w) = 0xd0 + (2 * count_code c + width_code w)
opcode row.Cbw = 0x98
opcode row.Cwd = 0x99
opcode row.Lea = 0x8d
opcode row.Les = 0xc4
opcode row.Lds = 0xc5
opcode row.Xchg = 0x87
opcode (row.JumpShort c) = cond_opcode c
opcode row.JumpNear = 0xe9
opcode row.JumpFar = 0xea
opcode row.CallNear = 0xe8
opcode row.CallFar = 0x9a
opcode row.IndirectCall = 0xff
opcode row.Ret = 0xc3
opcode row.RetDrop = 0xc2
opcode row.RetFar = 0xcb
opcode row.RetFarDrop = 0xca
opcode row.Int = 0xcd
opcode row.Cld = 0xfc
opcode row.Movsb = 0xa4
opcode row.RepPrefix = 0xf3
