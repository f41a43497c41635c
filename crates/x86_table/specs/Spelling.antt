-- The bytes of each instruction, its spelling: a segment override where it has one, the opcode of its row, and what follows.
use Rattle.std.specs.Prelude.{Bool, true, false, ℕ, ◌+◌, ◌*◌, ◌/◌, ◌%◌, List, [], ◌∷◌, ◌++◌, Option, Some, None}
use Rattle.x86_table.specs.declared.operand.SegReg.{SegReg}
use Rattle.x86_table.specs.declared.operand.SegReg.TheVariants as seg
use Rattle.x86_table.specs.declared.operand.Place.{Place}
use Rattle.x86_table.specs.declared.operand.Place.TheVariants.{Direct, Indirect, ByteDisplacement, WordDisplacement}
use Rattle.x86_table.specs.declared.operand.Memory.{Memory}
use Rattle.x86_table.specs.declared.operand.ByteOperand.{ByteOperand}
use Rattle.x86_table.specs.declared.operand.ByteOperand.TheVariants as byte
use Rattle.x86_table.specs.declared.operand.WordOperand.{WordOperand}
use Rattle.x86_table.specs.declared.operand.WordOperand.TheVariants as word
use Rattle.x86_table.specs.declared.instr.Pair.{Pair}
use Rattle.x86_table.specs.declared.instr.Pair.TheVariants as pair
use Rattle.x86_table.specs.declared.instr.Form.{Form}
use Rattle.x86_table.specs.declared.instr.Form.TheVariants as form
use Rattle.x86_table.specs.declared.instr.Width.{Width}
use Rattle.x86_table.specs.declared.instr.Width.TheVariants as width
use Rattle.x86_table.specs.declared.instr.Immediate.{Immediate}
use Rattle.x86_table.specs.declared.instr.Immediate.TheVariants as immediate
use Rattle.x86_table.specs.declared.instr.Target.{Target}
use Rattle.x86_table.specs.declared.instr.Target.TheVariants as target
use Rattle.x86_table.specs.declared.instr.Instr.{Instr}
use Rattle.x86_table.specs.declared.instr.Instr.TheVariants as instr
use Rattle.x86_table.specs.declared.row.Row.{Row}
use Rattle.x86_table.specs.declared.row.Row.TheVariants as row
use Rattle.x86_table.specs.Codes.{word_reg_code, byte_reg_code, seg_reg_code, data_seg_code, base_code, indirect_base_code, alu_op_code, short_op_code, unary_op_code, shift_op_code}
use Rattle.x86_table.specs.Opcode.{opcode}

-- a word, its low byte first
unfoldable pub word_bytes : ℕ → List ℕ
word_bytes w = (w % 256) ∷ (w / 256) ∷ []

-- the prefix byte of a segment override: 26, 2E, 36 or 3E
abbrev pub prefix : Option SegReg → List ℕ
prefix None = []
prefix (Some s) = (0x26 + 8 * seg_reg_code s) ∷ []

-- mod and r/m of an address, where they stand in the ModR/M byte: mod in its two high bits, r/m in its three low ones
abbrev pub place_code : Place → ℕ
place_code (Direct o) = 6
place_code (Indirect b) = indirect_base_code b
place_code (ByteDisplacement b d) = 64 + base_code b
place_code (WordDisplacement b d) = 128 + base_code b

-- what follows the ModR/M byte: the direct offset, or the displacement
abbrev pub displacement : Place → List ℕ
displacement (Direct o) = word_bytes o
displacement (Indirect b) = []
displacement (ByteDisplacement b d) = d ∷ []
displacement (WordDisplacement b d) = word_bytes d

-- the ModR/M byte of a memory operand, with a number in its reg field, and the displacement
unfoldable pub memory_modrm : ℕ → Memory → List ℕ
memory_modrm field m = (place_code m.place + 8 * field) ∷ displacement m.place

-- the same for r/m8: mod 3 names a register
unfoldable pub byte_modrm : ℕ → ByteOperand → List ℕ
byte_modrm field (byte.Reg r) = (192 + byte_reg_code r + 8 * field) ∷ []
byte_modrm field (byte.Mem m) = memory_modrm field m

-- the same for r/m16
unfoldable pub word_modrm : ℕ → WordOperand → List ℕ
word_modrm field (word.Reg r) = (192 + word_reg_code r + 8 * field) ∷ []
word_modrm field (word.Mem m) = memory_modrm field m

-- the segment override of an operand: a register has none
abbrev pub byte_override : ByteOperand → Option SegReg
byte_override (byte.Reg r) = None
byte_override (byte.Mem m) = m.segment

abbrev pub word_override : WordOperand → Option SegReg
word_override (word.Reg r) = None
word_override (word.Mem m) = m.segment

-- a register and r/m: the form, what follows the opcode, and the override
unfoldable pub pair_form : Pair → Form
pair_form (pair.RmByte o r) = form.RmByte
pair_form (pair.RmWord o r) = form.RmWord
pair_form (pair.ByteRm r o) = form.ByteRm
pair_form (pair.WordRm r o) = form.WordRm

unfoldable pub pair_body : Pair → List ℕ
pair_body (pair.RmByte o r) = byte_modrm (byte_reg_code r) o
pair_body (pair.RmWord o r) = word_modrm (word_reg_code r) o
pair_body (pair.ByteRm r o) = byte_modrm (byte_reg_code r) o
pair_body (pair.WordRm r o) = word_modrm (word_reg_code r) o

unfoldable pub pair_override : Pair → Option SegReg
pair_override (pair.RmByte o r) = byte_override o
pair_override (pair.RmWord o r) = word_override o
pair_override (pair.ByteRm r o) = byte_override o
pair_override (pair.WordRm r o) = word_override o

-- r/m and an immediate
unfoldable pub immediate_width : Immediate → Width
immediate_width (immediate.Byte o n) = width.Byte
immediate_width (immediate.Word o n) = width.Word

unfoldable pub immediate_body : ℕ → Immediate → List ℕ
immediate_body field (immediate.Byte o n) = byte_modrm field o ++ n ∷ []
immediate_body field (immediate.Word o n) = word_modrm field o ++ word_bytes n

unfoldable pub immediate_override : Immediate → Option SegReg
immediate_override (immediate.Byte o n) = byte_override o
immediate_override (immediate.Word o n) = word_override o

-- r/m alone
unfoldable pub target_width : Target → Width
target_width (target.Byte o) = width.Byte
target_width (target.Word o) = width.Word

unfoldable pub target_body : ℕ → Target → List ℕ
target_body field (target.Byte o) = byte_modrm field o
target_body field (target.Word o) = word_modrm field o

unfoldable pub target_override : Target → Option SegReg
target_override (target.Byte o) = byte_override o
target_override (target.Word o) = word_override o

-- the row of the table that an instruction is of: what its opcode says
abbrev pub row_of_instr : Instr → Row
row_of_instr (instr.Mov p) = row.Mov (pair_form p)
row_of_instr (instr.MovImmediate i) = row.MovImmediate (immediate_width i)
row_of_instr (instr.MovByte r n) = row.MovByte r
row_of_instr (instr.MovWord r n) = row.MovWord r
row_of_instr (instr.MovFromSeg o s) = row.MovFromSeg
row_of_instr (instr.MovToSeg s o) = row.MovToSeg
row_of_instr (instr.Push r) = row.Push r
row_of_instr (instr.Pop r) = row.Pop r
row_of_instr (instr.PushSeg s) = row.PushSeg s
row_of_instr (instr.PopSeg s) = row.PopSeg s
row_of_instr (instr.Alu op p) = row.Alu op (pair_form p)
row_of_instr (instr.AluImmediate op i) = row.AluImmediate (immediate_width i)
row_of_instr (instr.AluShort op o n) = row.AluShort
row_of_instr (instr.Unary op t) = row.Unary (target_width t)
row_of_instr (instr.Inc r) = row.Inc r
row_of_instr (instr.Dec r) = row.Dec r
row_of_instr (instr.Shift op c t) = row.Shift c (target_width t)
row_of_instr instr.Cbw = row.Cbw
row_of_instr instr.Cwd = row.Cwd
row_of_instr (instr.Lea r m) = row.Lea
row_of_instr (instr.Les r m) = row.Les
row_of_instr (instr.Lds r m) = row.Lds
row_of_instr (instr.Xchg o r) = row.Xchg
row_of_instr (instr.JumpShort c d) = row.JumpShort c
row_of_instr (instr.JumpNear d) = row.JumpNear
row_of_instr (instr.JumpFar o s) = row.JumpFar
row_of_instr (instr.CallNear d) = row.CallNear
row_of_instr (instr.CallFar o s) = row.CallFar
row_of_instr (instr.CallIndirect o) = row.IndirectCall
row_of_instr (instr.CallFarIndirect m) = row.IndirectCall
row_of_instr instr.Ret = row.Ret
row_of_instr (instr.RetDrop n) = row.RetDrop
row_of_instr instr.RetFar = row.RetFar
row_of_instr (instr.RetFarDrop n) = row.RetFarDrop
row_of_instr (instr.Int n) = row.Int
row_of_instr instr.Cld = row.Cld
row_of_instr (instr.Movsb s) = row.Movsb
row_of_instr (instr.RepMovsb s) = row.RepPrefix

-- a row whose instructions have no memory operand, so no override
abbrev pub has_no_override : Row → Bool
has_no_override (row.MovByte x) = true
has_no_override (row.MovWord x) = true
has_no_override (row.Push x) = true
has_no_override (row.Pop x) = true
has_no_override (row.PushSeg x) = true
has_no_override (row.PopSeg x) = true
has_no_override (row.Inc x) = true
has_no_override (row.Dec x) = true
has_no_override row.Cbw = true
has_no_override row.Cwd = true
has_no_override (row.JumpShort x) = true
has_no_override row.JumpNear = true
has_no_override row.JumpFar = true
has_no_override row.CallNear = true
has_no_override row.CallFar = true
has_no_override row.Ret = true
has_no_override row.RetDrop = true
has_no_override row.RetFar = true
has_no_override row.RetFarDrop = true
has_no_override row.Int = true
has_no_override row.Cld = true
has_no_override _ = false

-- the segment override of an instruction
abbrev pub segment_override : Instr → Option SegReg
segment_override (instr.Mov p) = pair_override p
segment_override (instr.MovImmediate i) = immediate_override i
segment_override (instr.MovFromSeg o s) = word_override o
segment_override (instr.MovToSeg s o) = word_override o
segment_override (instr.Alu op p) = pair_override p
segment_override (instr.AluImmediate op i) = immediate_override i
segment_override (instr.AluShort op o n) = word_override o
segment_override (instr.Unary op t) = target_override t
segment_override (instr.Shift op c t) = target_override t
segment_override (instr.Lea r m) = m.segment
segment_override (instr.Les r m) = m.segment
segment_override (instr.Lds r m) = m.segment
segment_override (instr.Xchg o r) = word_override o
segment_override (instr.CallIndirect o) = word_override o
segment_override (instr.CallFarIndirect m) = m.segment
segment_override (instr.Movsb s) = s
segment_override (instr.RepMovsb s) = s
segment_override _ = None

-- what follows the opcode: the ModR/M byte with its displacement, then immediates, low bytes first
abbrev pub body : Instr → List ℕ
body (instr.Mov p) = pair_body p
body (instr.MovImmediate i) = immediate_body 0 i
body (instr.MovByte r n) = n ∷ []
body (instr.MovWord r n) = word_bytes n
body (instr.MovFromSeg o s) = word_modrm (seg_reg_code s) o
body (instr.MovToSeg s o) = word_modrm (data_seg_code s) o
body (instr.Alu op p) = pair_body p
body (instr.AluImmediate op i) = immediate_body (alu_op_code op) i
body (instr.AluShort op o n) = word_modrm (short_op_code op) o ++ n ∷ []
body (instr.Unary op t) = target_body (unary_op_code op) t
body (instr.Shift op c t) = target_body (shift_op_code op) t
body (instr.Lea r m) = memory_modrm (word_reg_code r) m
body (instr.Les r m) = memory_modrm (word_reg_code r) m
body (instr.Lds r m) = memory_modrm (word_reg_code r) m
body (instr.Xchg o r) = word_modrm (word_reg_code r) o
body (instr.JumpShort c d) = d ∷ []
body (instr.JumpNear d) = word_bytes d
body (instr.JumpFar o s) = word_bytes o ++ word_bytes s
body (instr.CallNear d) = word_bytes d
body (instr.CallFar o s) = word_bytes o ++ word_bytes s
body (instr.CallIndirect o) = word_modrm 2 o
body (instr.CallFarIndirect m) = word_modrm 3 (word.Mem m)
body (instr.RetDrop n) = word_bytes n
body (instr.RetFarDrop n) = word_bytes n
body (instr.Int n) = n ∷ []
body (instr.RepMovsb s) = 0xa4 ∷ []
body _ = []

-- the bytes of an instruction
abbrev pub spelling : Instr → List ℕ
spelling i = prefix (segment_override i) ++ (opcode (row_of_instr i) ∷ body i)
