-- The numbers by which a byte of an instruction names registers, address forms, operators and conditions.
use Rattle.std.specs.Prelude.{ℕ}
use Rattle.x86_table.specs.declared.operand.WordReg.{WordReg}
use Rattle.x86_table.specs.declared.operand.WordReg.TheVariants as word
use Rattle.x86_table.specs.declared.operand.ByteReg.{ByteReg}
use Rattle.x86_table.specs.declared.operand.ByteReg.TheVariants as byte
use Rattle.x86_table.specs.declared.operand.SegReg.{SegReg}
use Rattle.x86_table.specs.declared.operand.SegReg.TheVariants as seg
use Rattle.x86_table.specs.declared.operand.DataSeg.{DataSeg}
use Rattle.x86_table.specs.declared.operand.DataSeg.TheVariants as data_seg
use Rattle.x86_table.specs.declared.operand.Base.{Base}
use Rattle.x86_table.specs.declared.operand.Base.TheVariants as base
use Rattle.x86_table.specs.declared.operand.IndirectBase.{IndirectBase}
use Rattle.x86_table.specs.declared.operand.IndirectBase.TheVariants as indirect
use Rattle.x86_table.specs.declared.instr.Form.{Form}
use Rattle.x86_table.specs.declared.instr.Form.TheVariants as form
use Rattle.x86_table.specs.declared.instr.AluOp.{AluOp}
use Rattle.x86_table.specs.declared.instr.AluOp.TheVariants as alu
use Rattle.x86_table.specs.declared.instr.ShortOp.{ShortOp}
use Rattle.x86_table.specs.declared.instr.ShortOp.TheVariants as short
use Rattle.x86_table.specs.declared.instr.UnaryOp.{UnaryOp}
use Rattle.x86_table.specs.declared.instr.UnaryOp.TheVariants as unary
use Rattle.x86_table.specs.declared.instr.ShiftOp.{ShiftOp}
use Rattle.x86_table.specs.declared.instr.ShiftOp.TheVariants as shift
use Rattle.x86_table.specs.declared.instr.Count.{Count}
use Rattle.x86_table.specs.declared.instr.Count.TheVariants as count
use Rattle.x86_table.specs.declared.instr.Width.{Width}
use Rattle.x86_table.specs.declared.instr.Width.TheVariants as width
use Rattle.x86_table.specs.declared.instr.Cond.{Cond}
use Rattle.x86_table.specs.declared.instr.Cond.TheVariants as cond

-- the reg field, or the r/m field under mod 3, of a word register
abbrev pub word_reg_code : WordReg → ℕ
word_reg_code word.Ax = 0
word_reg_code word.Cx = 1
word_reg_code word.Dx = 2
word_reg_code word.Bx = 3
word_reg_code word.Sp = 4
word_reg_code word.Bp = 5
word_reg_code word.Si = 6
word_reg_code word.Di = 7

-- the reg field, or the r/m field under mod 3, of a byte register
abbrev pub byte_reg_code : ByteReg → ℕ
byte_reg_code byte.Al = 0
byte_reg_code byte.Cl = 1
byte_reg_code byte.Dl = 2
byte_reg_code byte.Bl = 3
byte_reg_code byte.Ah = 4
byte_reg_code byte.Ch = 5
byte_reg_code byte.Dh = 6
byte_reg_code byte.Bh = 7

-- the number of a segment register
abbrev pub seg_reg_code : SegReg → ℕ
seg_reg_code seg.Es = 0
seg_reg_code seg.Cs = 1
seg_reg_code seg.Ss = 2
seg_reg_code seg.Ds = 3

-- the number of a segment register that may be loaded: there is no 1, CS
abbrev pub data_seg_code : DataSeg → ℕ
data_seg_code data_seg.Es = 0
data_seg_code data_seg.Ss = 2
data_seg_code data_seg.Ds = 3

-- the r/m field of an address with a displacement, under mod 1 and 2
abbrev pub base_code : Base → ℕ
base_code base.BxSi = 0
base_code base.BxDi = 1
base_code base.BpSi = 2
base_code base.BpDi = 3
base_code base.Si = 4
base_code base.Di = 5
base_code base.Bp = 6
base_code base.Bx = 7

-- the r/m field of an address without one, under mod 0: 6 is taken by the direct offset
abbrev pub indirect_base_code : IndirectBase → ℕ
indirect_base_code indirect.BxSi = 0
indirect_base_code indirect.BxDi = 1
indirect_base_code indirect.BpSi = 2
indirect_base_code indirect.BpDi = 3
indirect_base_code indirect.Si = 4
indirect_base_code indirect.Di = 5
indirect_base_code indirect.Bx = 7

-- the two low bits of the opcode: bit 0 set for words, bit 1 where the register is the destination
abbrev pub form_code : Form → ℕ
form_code form.RmByte = 0
form_code form.RmWord = 1
form_code form.ByteRm = 2
form_code form.WordRm = 3

-- the number n of an operator in the opcodes 8n to 8n+3, and in the reg field under 80 and 81
abbrev pub alu_op_code : AluOp → ℕ
alu_op_code alu.Add = 0
alu_op_code alu.Or = 1
alu_op_code alu.Adc = 2
alu_op_code alu.Sbb = 3
alu_op_code alu.And = 4
alu_op_code alu.Sub = 5
alu_op_code alu.Xor = 6
alu_op_code alu.Cmp = 7

-- the reg field of an operator with a sign-extended immediate byte, under 83
abbrev pub short_op_code : ShortOp → ℕ
short_op_code short.Add = 0
short_op_code short.Adc = 2
short_op_code short.Sbb = 3
short_op_code short.Sub = 5
short_op_code short.Cmp = 7

-- the reg field of an operator on one operand, under F6 and F7
abbrev pub unary_op_code : UnaryOp → ℕ
unary_op_code unary.Not = 2
unary_op_code unary.Neg = 3
unary_op_code unary.Mul = 4
unary_op_code unary.Imul = 5
unary_op_code unary.Div = 6

-- the reg field of a shift or rotate, under D0 to D3
abbrev pub shift_op_code : ShiftOp → ℕ
shift_op_code shift.Rcl = 2
shift_op_code shift.Rcr = 3
shift_op_code shift.Shl = 4
shift_op_code shift.Shr = 5
shift_op_code shift.Sar = 7

-- bit 1 of the opcodes D0 to D3
abbrev pub count_code : Count → ℕ
count_code count.One = 0
count_code count.Cl = 1

-- the low bit of an opcode with a byte and a word form
abbrev pub width_code : Width → ℕ
width_code width.Byte = 0
width_code width.Word = 1

-- the opcode of a short jump
abbrev pub cond_opcode : Cond → ℕ
cond_opcode cond.Overflow = 0x70
cond_opcode cond.NoOverflow = 0x71
cond_opcode cond.Below = 0x72
cond_opcode cond.AboveOrEqual = 0x73
cond_opcode cond.Equal = 0x74
cond_opcode cond.NotEqual = 0x75
cond_opcode cond.BelowOrEqual = 0x76
cond_opcode cond.Above = 0x77
cond_opcode cond.Sign = 0x78
cond_opcode cond.NoSign = 0x79
cond_opcode cond.Less = 0x7c
cond_opcode cond.GreaterOrEqual = 0x7d
cond_opcode cond.LessOrEqual = 0x7e
cond_opcode cond.Greater = 0x7f
cond_opcode cond.Always = 0xeb
